use Rattle.std.proofs.Common.{◌≡◌, length, ◌∙◌}
use Rattle.weights.specs.Labellings.{counts_of}
use Rattle.sample_reader.specs.Orders.{renumbered}
use Rattle.sample_reader.proofs.OrderLemmas.{are_reordered}
use Rattle.sample_reader.proofs.order.reorder.Goals as goal

pub invariant_of-result : goal.invariant_of-result
invariant_of-result c =
    let groups = c.args.groups.now in
    let order = c.args.order.now in
    let new = are_reordered groups.labels order groups.members groups.sizes groups.distinct c.in_ok-members.ensures.fit groups.groups_exist groups.counted groups.none_empty in
    let labels_are : c.in_ok-copy.field-0 ≡ order = c.in_ok-copy.ensures in
    let members_are : c.in_ok-members.members ≡ renumbered order groups.labels groups.members = c.in_ok-members.ensures.members ∙ rw c.as_slice.ensures in
    let new_members = c.members.view_is ∙ members_are in
    let values_are : c.in_ok-copy-2.field-0 ≡ groups.values = c.in_ok-copy-2.ensures in
    let sizes_are : c.in_ok-sizes.sizes ≡ counts_of (length order) (renumbered order groups.labels groups.members) = c.in_ok-sizes.ensures ∙ rw (c.len.ensures, c.as_slice-2.ensures, members_are) in
    let new_sizes = c.sizes.view_is ∙ sizes_are in
    record {
      at_least_two = rw (labels_are, new.many) groups.at_least_two;
      at_most_eight = rw (labels_are, new.many) groups.at_most_eight;
      distinct = rw labels_are new.distinct;
      few_enough = rw values_are groups.few_enough;
      in_range = rw values_are groups.in_range;
      one_group_each = rw (new_members, values_are) (new.one_each ∙ groups.one_group_each);
      groups_exist = rw (new_members, labels_are) new.groups_exist;
      counted = rw (new_sizes, labels_are, new_members);
      none_empty = rw new_sizes new.none_empty;
    }

pub returns-clause-ok : goal.returns-clause-ok
returns-clause-ok c =
    let groups = c.args.groups.now in
    let order = c.args.order.now in
    let members_are : c.in_ok-members.members ≡ renumbered order groups.labels groups.members = c.in_ok-members.ensures.members ∙ rw c.as_slice.ensures in
    rw (c.in_ok-copy.ensures, c.members.view_is ∙ members_are, c.in_ok-copy-2.ensures)
