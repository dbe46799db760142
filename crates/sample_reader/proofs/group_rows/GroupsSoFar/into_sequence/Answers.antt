use Rattle.std.proofs.Common.{◌≡◌, length, sym, ap, ◌∙◌}
use Rattle.std.proofs.lemmas.List.{length-map}
use Rattle.weights.specs.Labellings.{counts_of}
use Rattle.sample_reader.specs.GroupLayout.{different}
use Rattle.sample_reader.proofs.Sizes.{none_empty-counts}
use Rattle.sample_reader.proofs.group_rows.GroupsSoFar.into_sequence.Goals as goal

pub invariant_of-result : goal.invariant_of-result
invariant_of-result c =
    let kept = c.self.inside in
    let numbered = c.self.invariant.numbered in
    let labels_are : c.in_ok-into_labels.field-0 ≡ kept.labels = c.in_ok-into_labels.ensures in
    let different_are : kept.labels ≡ different c.args.self.labels = numbered.in_order ∙ ap (λ s. different s.labels) c.self.view_is in
    let many : length kept.members ≡ length c.args.self.labels = sym (length-map kept.members _) ∙ ap (λ s. length s.labels) c.self.view_is in
    let sizes_are : c.in_ok-sizes.sizes ≡ counts_of (length kept.labels) kept.members = c.in_ok-sizes.ensures ∙ rw (c.len.ensures, c.as_slice.ensures) in
    record {
      two = rw (labels_are, different_are) c.requires.two;
      distinct = rw labels_are numbered.distinct;
      few_enough = rw many c.requires.few_enough;
      labels_exist = rw labels_are numbered.below;
      counted = rw labels_are sizes_are;
      none_empty = rw sizes_are (none_empty-counts (length kept.labels) kept.members numbered.none_empty);
    }
