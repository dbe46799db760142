use Rattle.std.proofs.Common.{rules, ◌≡◌, ℤ, sym, ◌∙◌, ap, arith}
use Rattle.std.specs.Prelude.{pos, ◌-ℤ◌}
use mir.Syntax.{w128}
use Rattle.std.proofs.lemmas.Int.{to_z-of_z}
use Rattle.std.proofs.lemmas.Result.{IfOk-weaker}
use Rattle.weights.specs.declared.tails.Tail.{Tail}
use Rattle.networks.specs.Follows.{AreNumerators}
use Rattle.networks.specs.Judged.{judge_of, rule_in}
use Rattle.networks.specs.EachTail.{sum_for}
use Rattle.pooled_columns.specs.PooledColumns.{column_sizes}
use Rattle.concordant_pairs.specs.ConcordantPairs.{pairs_across}
use Rattle.concordant_pairs.specs.ConcordantTails.{passing_labellings}
use Rattle.kendall_test.specs.Kendall.{kendall_test}
use Rattle.kendall_test.proofs.KendallFitting.{firsts-few, rows-sum}
use Rattle.kendall_test.proofs.ConcordantOrder.{fit-concordant, numerator-rises}
use Rattle.kendall_test.proofs.concordant_order.concordant_numerators.Goals as goal

pub lowest_order-lowest-requires : goal.lowest_order-lowest-requires
lowest_order-lowest-requires c =
    let made = c.made.ensures in
    rw (c.as_slice-rows.ensures ∙ made.rows) (omega (arith, rows-sum c.args.order.now made.long made.few, firsts-few c.args.order.now made.long made.few))

pub concordant_sums-requires-clause-few : goal.concordant_sums-requires-clause-few
concordant_sums-requires-clause-few c =
    let made = c.made.ensures in
    rw (c.as_slice-rows.ensures ∙ made.rows) (omega (arith, rows-sum c.args.order.now made.long made.few, firsts-few c.args.order.now made.long made.few))

pub concordant_sums-requires-clause-total : goal.concordant_sums-requires-clause-total
concordant_sums-requires-clause-total c =
    let made = c.made.ensures in
    rw (c.as_slice-rows.ensures ∙ made.rows) made.total_fits

pub concordant_sums-requires-clause-fits : goal.concordant_sums-requires-clause-fits
concordant_sums-requires-clause-fits c =
    let made = c.made.ensures in
    let rows : c.as_slice-rows.result.now ≡ column_sizes c.args.order.now.second = c.as_slice-rows.ensures ∙ made.rows in
    rw (to_z-of_z w128 c.lowest_order-lowest.result (search rules) ∙ (c.lowest_order-lowest.ensures.is ∙ ap (λ ns. pos 0 -ℤ pos (pairs_across ns)) rows), rows) (fit-concordant c.args.order.now made.long made.few made.total_fits c.requires.distinct c.args.judge c.requires.judge)

pub returns : goal.returns
returns c =
    let made = c.made.ensures in
    let rows : c.as_slice-rows.result.now ≡ column_sizes c.args.order.now.second = c.as_slice-rows.ensures ∙ made.rows in
    let base : ℤ = pos 0 -ℤ pos (pairs_across (column_sizes c.args.order.now.second)) in
    IfOk-weaker c.concordant_sums.result
    (λ sums. (t : Tail) → (sum_for sums t).sum ≡ passing_labellings (rule_in (judge_of (kendall_test c.args.order.now)) t) base 2 (column_sizes c.args.order.now.second))
    (AreNumerators (kendall_test c.args.order.now) c.args._tails)
    (λ sums each t asked. each t ∙ sym (numerator-rises c.args.order.now made.long made.few made.total_fits c.requires.distinct t)) (rw (to_z-of_z w128 c.lowest_order-lowest.result (search rules) ∙ (c.lowest_order-lowest.ensures.is ∙ ap (λ ns. pos 0 -ℤ pos (pairs_across ns)) rows), rows, c.requires.judge) at c.concordant_sums.ensures)
