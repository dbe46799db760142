use Rattle.std.proofs.Common.{◌≡◌, ◌<◌, ℕ, List, length}
use Rattle.std.proofs.lemmas.List.Elements.{All-contains, All-from_recursion}
use Rattle.weights.specs.Labellings.{sign_lists}
use Rattle.weights.proofs.Members.{IsOver, lists_over-each}
use Rattle.enumerate.proofs.Walking.{StepsThrough-written}
use Rattle.one_sample_tests.specs.SignedSamples.{used_scores}
use Rattle.one_sample_tests.proofs.mark_sum.MarkSumUnweightedTest.next.Goals as goal

pub next_signs-requires : goal.next_signs-requires
next_signs-requires c =
    let m : ℕ = length (used_scores c.args.self.now) in
    let is : IsOver m 2 c.args.labels.now = All-contains (IsOver m 2) (sign_lists m) c.args.labels.now (All-from_recursion (IsOver m 2) (sign_lists m) (lists_over-each m 2)) c.requires in
    rw c.as_mut_slice.ensures.items (All-from_recursion (λ sign. sign < 2) c.args.labels.now is.below)

pub returns : goal.returns
returns c =
    let m : ℕ = length (used_scores c.args.self.now) in
    let is : IsOver m 2 c.args.labels.now = All-contains (IsOver m 2) (sign_lists m) c.args.labels.now (All-from_recursion (IsOver m 2) (sign_lists m) (lists_over-each m 2)) c.requires in
    let slice : List ℕ = c.as_mut_slice.result.now in
    let long : length slice ≡ m = rw c.as_mut_slice.ensures.items is.long in
    StepsThrough-written (sign_lists m) c.args.labels.now slice c.next_signs.new.signs c.next_signs.result c.as_mut_slice.ensures.items c.next_signs.auto.signs (rw long at c.next_signs.ensures)
