use Rattle.std.proofs.Common.{◌≡◌, ◌∙◌, ap, length, pos}
use Rattle.std.proofs.lemmas.List.FromFn.{length-map-range_with_len}
use Rattle.shift_limits.proofs.lines.untied.Goals as goal

pub invariant_of-result : goal.invariant_of-result
invariant_of-result c =
    let groups = c.args.groups.now in
    let labels = c.in_ok-copy.ensures in
    let sizes = c.in_ok-copy-2.ensures in
    let members = c.in_ok-copy-3.ensures in
    let many : length c.in_ok-counted_values.field-0 ≡ length groups.values = ap length c.in_ok-counted_values.ensures.values ∙ length-map-range_with_len pos 0 c.len.result ∙ c.len.ensures in
    record {
      at_least_two = rw labels groups.at_least_two;
      at_most_eight = rw labels groups.at_most_eight;
      distinct = rw labels groups.distinct;
      few_enough = rw many groups.few_enough;
      in_range = c.in_ok-counted_values.ensures.in_range;
      one_group_each = rw (members, many) groups.one_group_each;
      groups_exist = rw (labels, members) groups.groups_exist;
      counted = rw (labels, sizes, members) groups.counted;
      none_empty = rw sizes groups.none_empty;
    }
