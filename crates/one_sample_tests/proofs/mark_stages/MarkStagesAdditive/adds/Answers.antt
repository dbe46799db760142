use Rattle.std.proofs.Common.{◌≡◌, ◌∙◌, get_or, ap, set, FitsSigned, rules}
use Rattle.std.specs.Prelude.{pos, ◌*ℤ◌}
use mir.Syntax.{w128}
use Rattle.std.proofs.lemmas.Int.{to_z-of_z}
use Rattle.one_sample_tests.specs.SignNetwork.{group_at}
use Rattle.one_sample_tests.proofs.MarkNetwork.{added-small, choice-within, ways-small}
use Rattle.weights.proofs.Items.{one_item}
use Rattle.one_sample_tests.proofs.mark_stages.MarkStagesAdditive.adds.Goals as goal

pub times-requires : goal.times-requires
times-requires c =
    let v : FitsSigned w128 (group_at c.as_slice.result.now c.args.stage).value = search rules in
    let within = choice-within c.args.self.now.groups c.args.self.now.judge c.args.stage c.args.choice.now c.requires.allowed in
    rw (to_z-of_z w128 (group_at c.as_slice.result.now c.args.stage).value v, c.as_slice.ensures)
    (added-small c.args.self.now.groups c.args.self.now.judge c.args.self.now.sound c.args.stage (get_or c.args.choice.now 0 0) within)

pub ways-requires : goal.ways-requires
ways-requires c = rw c.as_slice.ensures (ways-small c.args.self.now.groups c.args.self.now.judge c.args.self.now.sound c.args.stage (get_or c.args.choice.now 0 0))

pub returns-clause-added : goal.returns-clause-added
returns-clause-added c =
    let v : FitsSigned w128 (group_at c.as_slice.result.now c.args.stage).value = search rules in
    let fits : FitsSigned w128 c.times.result = search rules in
    let product : c.times.result ≡ pos (get_or c.args.choice.now 0 0) *ℤ (group_at c.args.self.now.groups c.args.stage).value = rw (to_z-of_z w128 (group_at c.as_slice.result.now c.args.stage).value v, c.as_slice.ensures) at c.times.ensures in
    ap (λ z. set c.args.added.now 0 z) (to_z-of_z w128 c.times.result fits ∙ product) ∙ one_item c.args.added.now _ c.requires.room
