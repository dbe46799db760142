use Rattle.std.proofs.Common.{◌==◌, ◌∷◌, ◌++◌, [], rules, tests, ap, sym, zero-add, ◌∙◌}
use Rattle.std.specs.List.{count_by}
use Rattle.std.proofs.lemmas.Iterator.{YieldsList-from_slice}
use Rattle.std.proofs.lemmas.Iterator.Consumers.{YieldsList-from_filter, count_from_yields_List}
use Rattle.std.proofs.lemmas.List.FromFn.{map-range_with_len_more}
use Rattle.std.proofs.lemmas.List.Sums.{length-filter}
use Rattle.block_tests.proofs.block.counts_of.Goals as goal

pub loop-number-preserved : goal.loop-number-preserved
loop-number-preserved c =
    let number = c.loop-number.number-counter in
    let cells = c.args.cells.now in
    let count = count_from_yields_List _ c.count-count.result c.count-count.ensures.ran (YieldsList-from_filter _ (λ cell. cell == number) (YieldsList-from_slice cells cc) c.filter.ensures.closure (λ x b q k. search (rules, tests))) in
    c.in_ok-push.ensures.ok ∙ ap (λ n. c.loop-number.counts ++ n ∷ []) (count ∙ length-filter (λ cell. cell == number) cells)
    ∙ ap (λ counts. counts ++ count_by (λ cell. cell == number) cells ∷ []) c.loop-number.invariant
    ∙ sym (map-range_with_len_more (λ i. count_by (λ cell. cell == i) cells) 0 number number (zero-add number))
