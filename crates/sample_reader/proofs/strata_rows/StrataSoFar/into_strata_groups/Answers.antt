use Rattle.std.proofs.Common.{◌≡◌, length, sym, ap, ◌∙◌}
use Rattle.std.proofs.lemmas.List.{length-map}
use Rattle.sample_reader.specs.GroupLayout.{different}
use Rattle.sample_reader.proofs.Sizes.{none_empty-counts}
use Rattle.sample_reader.proofs.strata_rows.StrataSoFar.into_strata_groups.Goals as goal

pub invariant_of-result : goal.invariant_of-result
invariant_of-result c =
    let kept = c.self.inside in
    let numbered = c.self.invariant in
    let groups = c.in_ok-groups.groups in
    let two : length groups.labels ≡ 2 = ap (λ g. length g.labels) c.in_ok-groups.ensures ∙ ap (λ s. length (different s.subjects.labels)) c.self.view_is ∙ c.requires.two in
    let values_are : length groups.values ≡ length c.args.self.subjects.values = ap (λ g. length g.values) c.in_ok-groups.ensures ∙ ap (λ s. length s.subjects.values) c.self.view_is in
    let places : length kept.places ≡ length c.args.self.strata = sym (length-map kept.places _) ∙ ap (λ s. length s.strata) c.self.view_is in
    record {
      two = two;
      distinct = groups.distinct;
      strata_distinct = rw c.in_ok-into_labels.ensures numbered.distinct;
      few_enough = groups.few_enough;
      in_range = groups.in_range;
      one_group_each = groups.one_group_each;
      groups_exist = groups.groups_exist;
      counted = groups.counted;
      none_empty = groups.none_empty;
      one_stratum_each = places ∙ c.requires.one_stratum_each ∙ sym values_are;
      strata_exist = rw c.in_ok-into_labels.ensures numbered.below;
      no_stratum_empty = rw c.in_ok-into_labels.ensures (none_empty-counts (length kept.strata) kept.places numbered.none_empty);
    }
