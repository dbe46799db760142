use Rattle.std.proofs.Common.{◌≡◌, ◌+◌, ◌≤◌, drop, nat_eq}
use Rattle.std.specs.List.{count_by}
use Rattle.ordered_samples.proofs.subjects.count_label.Given as goal

abbrev pub invariant-loop-i : goal.invariant-loop-i
invariant-loop-i l = record {
  few : l.count ≤ l.i;
  counted : l.count + count_by (λ x. nat_eq x l.label) (drop l.i l.labels) ≡ count_by (λ x. nat_eq x l.label) l.labels;
}
