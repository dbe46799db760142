use Rattle.std.proofs.Common.{◌∙◌}
use Rattle.std.proofs.lemmas.List.{length-map}
use Rattle.sample_reader.proofs.OrderLemmas.{number, renumber-is}
use Rattle.sample_reader.proofs.order.members_in_order.Goals as goal

pub by_numbers-requires : goal.by_numbers-requires
by_numbers-requires c =
    let many = length-map c.args.labels.now (number c.args.order.now) in
    rw (c.as_slice.ensures, c.in_ok-numbers.ensures.numbers, many) c.requires.groups_exist

pub returns-clause-members : goal.returns-clause-members
returns-clause-members c =
    c.in_ok-by_numbers.ensures
    ∙ rw (c.as_slice.ensures, c.in_ok-numbers.ensures.numbers) (renumber-is c.args.labels.now c.args.order.now c.args.members.now c.requires.groups_exist)
