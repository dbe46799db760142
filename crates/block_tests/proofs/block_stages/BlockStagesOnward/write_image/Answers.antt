use Rattle.std.proofs.Common.{◌∙◌, ◌*◌, arith, length, replicate}
use Rattle.std.specs.Prelude.{ℤ, pos}
use Rattle.std.proofs.lemmas.List.{length-replicate, length-take}
use Rattle.block_tests.proofs.block_stages.BlockStagesOnward.write_image.Goals as goal

pub write_unassigned-requires-clause-few : goal.write_unassigned-requires-clause-few
write_unassigned-requires-clause-few c = (let sums = rw c.in-Assigned.is at c.requires.key in omega (arith, sums.few, sums.long))

pub write_unassigned-requires-clause-room : goal.write_unassigned-requires-clause-room
write_unassigned-requires-clause-room c =
    let sums = rw c.in-Assigned.is at c.requires.key in
    length-take (2 * length c.args.key.now) (replicate 16 (pos 0)) ∙ omega (arith, sums.few, sums.long, length-replicate {A = ℤ} 16 (pos 0))

pub write_image-requires-clause-key : goal.write_image-requires-clause-key
write_image-requires-clause-key c = (let sums = rw c.in-Assigned.is at c.requires.key in rw (c.write_unassigned.ensures, sums.long) sums.holds)

pub returns-in-Assigned : goal.returns-in-Assigned
returns-in-Assigned c = (let sums = rw c.in-Assigned.is at c.requires.key in rw c.in-Assigned.is (rw (c.write_unassigned.ensures, sums.long) at c.write_image.ensures))
