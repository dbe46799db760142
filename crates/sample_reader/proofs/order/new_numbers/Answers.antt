use Rattle.std.proofs.Common.{refl, ◌∙◌}
use Rattle.sample_reader.proofs.OrderLemmas.{AllThere, all_there, permutation}
use Rattle.sample_reader.proofs.order.new_numbers.Goals as goal

pub returns-then-not-is_whole-clause-unfit : goal.returns-then-not-is_whole-clause-unfit
returns-then-not-is_whole-clause-unfit c = λ _ same.
    let numbers = c.as_slice.ensures ∙ c.in_ok-numbers.ensures in
    let there = all_there c.args.labels.now c.args.order.now same in
    let whole = c.if-not-is_whole.ensures.1 (rw (numbers, c.len.ensures) there) in
    cc

pub returns-clause-fit : goal.returns-clause-fit
returns-clause-fit c =
    let numbers = c.as_slice.ensures ∙ c.in_ok-numbers.ensures in
    let whole = c.if-not-is_whole.ensures.0 refl in
    let there : AllThere c.args.labels.now c.args.order.now = rw (numbers, c.len.ensures) at whole in
    permutation c.args.labels.now c.args.order.now c.requires there
