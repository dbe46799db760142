use Rattle.std.proofs.Common.{◌≡◌, length, ◌∙◌}
use Rattle.weights.specs.Labellings.{counts_of}
use Rattle.sample_reader.specs.Orders.{renumbered}
use Rattle.sample_reader.proofs.OrderLemmas.{are_reordered}
use Rattle.sample_reader.proofs.order.reorder_strata.Goals as goal

pub invariant_of-result : goal.invariant_of-result
invariant_of-result c =
    let samples = c.args.samples.now in
    let order = c.args.order.now in
    let new = are_reordered samples.labels order samples.members samples.sizes samples.distinct c.in_ok-members.ensures.fit samples.groups_exist samples.counted samples.none_empty in
    let strata_are : c.in_ok-copy.field-0 ≡ samples.strata = c.in_ok-copy.ensures in
    let labels_are : c.in_ok-copy-2.field-0 ≡ order = c.in_ok-copy-2.ensures in
    let places_are : c.in_ok-copy-3.field-0 ≡ samples.places = c.in_ok-copy-3.ensures in
    let members_are : c.in_ok-members.members ≡ renumbered order samples.labels samples.members = c.in_ok-members.ensures.members ∙ rw c.as_slice.ensures in
    let new_members = c.members.view_is ∙ members_are in
    let values_are : c.in_ok-copy-4.field-0 ≡ samples.values = c.in_ok-copy-4.ensures in
    let sizes_are : c.in_ok-sizes.sizes ≡ counts_of (length order) (renumbered order samples.labels samples.members) = c.in_ok-sizes.ensures ∙ rw (c.len.ensures, c.as_slice-2.ensures, members_are) in
    let new_sizes = c.sizes.view_is ∙ sizes_are in
    record {
      two = rw (labels_are, new.many) samples.two;
      distinct = rw labels_are new.distinct;
      strata_distinct = rw strata_are samples.strata_distinct;
      few_enough = rw values_are samples.few_enough;
      in_range = rw values_are samples.in_range;
      one_group_each = rw (new_members, values_are) (new.one_each ∙ samples.one_group_each);
      groups_exist = rw (new_members, labels_are) new.groups_exist;
      counted = rw (new_sizes, labels_are, new_members);
      none_empty = rw new_sizes new.none_empty;
      one_stratum_each = rw (places_are, values_are) samples.one_stratum_each;
      strata_exist = rw (places_are, strata_are) samples.strata_exist;
      no_stratum_empty = rw (places_are, strata_are) samples.no_stratum_empty;
    }

pub returns-clause-ok : goal.returns-clause-ok
returns-clause-ok c =
    let samples = c.args.samples.now in
    let order = c.args.order.now in
    let members_are : c.in_ok-members.members ≡ renumbered order samples.labels samples.members = c.in_ok-members.ensures.members ∙ rw c.as_slice.ensures in
    rw (c.in_ok-copy.ensures, c.in_ok-copy-2.ensures, c.in_ok-copy-3.ensures, c.members.view_is ∙ members_are, c.in_ok-copy-4.ensures)
