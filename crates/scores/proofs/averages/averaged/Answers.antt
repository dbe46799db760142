use Rattle.std.proofs.Common.{◌<◌, ◌*◌, ◌∙◌, length, map, pos, sym, ap, refl, arith}
use Rattle.std.proofs.lemmas.List.{length-map}
use Rattle.std.proofs.lemmas.List.Elements.{All-from_recursion}
use Rattle.midranks.specs.Ties.{tie_groups}
use Rattle.midranks.specs.declared.ties.Tie.{Tie}
use Rattle.midranks.proofs.Places.{values_in-groups}
use Rattle.midranks.proofs.TieLemmas.{groups-counts}
use Rattle.weights.specs.declared.TheConstants.{MAX}
use Rattle.scores.specs.PlaceScores.{common_multiple}
use Rattle.scores.specs.Scores.{averaged}
use Rattle.scores.proofs.Answering.{fault-where_wide}
use Rattle.scores.proofs.AverageLemmas.{averaged-sum, common_size-some, multiple-is, scale-most, scores-are, wide-multiple, wide-product, wide-total}
use Rattle.scores.proofs.averages.averaged.Goals as goal

pub multiple_of_sizes-requires : goal.multiple_of_sizes-requires
multiple_of_sizes-requires c = rw (c.as_slice-ties.ensures, c.in_ok-groups.ensures.groups) (All-from_recursion (λ t. 0 < t.count) (tie_groups c.args.values.now) (groups-counts c.args.values.now))

pub returns-in_err-multiple : goal.returns-in_err-multiple
returns-in_err-multiple c =
    let ties = c.as_slice-ties.ensures ∙ c.in_ok-groups.ensures.groups in
    let none = rw c.in_err-multiple.ensures.ok_part at c.multiple_of_sizes.ensures in
    let multiple = multiple-is c.args.values.now c.as_slice-ties.result.now (common_multiple (map (λ (t : Tie). t.count) c.as_slice-ties.result.now)) ties refl in
    fault-where_wide _ _ _ _ c.from_residual-in_err-multiple.ensures.0
    (wide-multiple MAX c.args.unit c.args.places.now c.args.values.now c.requires.as_many (omega arith) c.requires.some c.requires.small (λ fits. none (rw multiple fits)))

pub returns-in_err-total : goal.returns-in_err-total
returns-in_err-total c =
    let none = rw c.in_err-total.ensures.ok_part at c.total.ensures in
    fault-where_wide _ _ _ _ c.from_residual-in_err-total.ensures.0 (wide-total _ c.args.places.now c.args.values.now c.requires.as_many none)

pub returns-in_err-sum : goal.returns-in_err-sum
returns-in_err-sum c =
    let ties = c.as_slice-ties.ensures ∙ c.in_ok-groups.ensures.groups in
    let some = rw c.in_ok-multiple.ensures.ok_part at c.multiple_of_sizes.ensures in
    let total = rw c.in_ok-total.ensures.ok_part at c.total.ensures in
    let multiple = multiple-is c.args.values.now c.as_slice-ties.result.now c.in_ok-multiple.multiple ties some.1 in
    let none = rw c.in_err-sum.ensures.ok_part at c.bounded_product.ensures in
    fault-where_wide _ _ _ _ c.from_residual-in_err-sum.ensures.0 (wide-product _ c.args.places.now c.args.values.now c.requires.as_many (rw (← multiple, ← total.1) none))

pub means-requires-clause-some : goal.means-requires-clause-some
means-requires-clause-some c = rw (c.as_slice-ties.ensures, c.in_ok-groups.ensures.groups) (All-from_recursion (λ t. 0 < t.count) (tie_groups c.args.values.now) (groups-counts c.args.values.now))

pub means-requires-clause-as_many : goal.means-requires-clause-as_many
means-requires-clause-as_many c = rw (c.as_slice-ties.ensures, c.in_ok-groups.ensures.groups) (values_in-groups c.args.values.now ∙ sym c.requires.as_many)

pub means-requires-clause-above : goal.means-requires-clause-above
means-requires-clause-above c =
    let ties = c.as_slice-ties.ensures ∙ c.in_ok-groups.ensures.groups in
    let some = rw c.in_ok-multiple.ensures.ok_part at c.multiple_of_sizes.ensures in
    rw (multiple-is c.args.values.now c.as_slice-ties.result.now c.in_ok-multiple.multiple ties some.1) (common_size-some c.args.values.now)

pub spread-requires-clause-as_many : goal.spread-requires-clause-as_many
spread-requires-clause-as_many c =
    let ties = c.as_slice-ties.ensures ∙ c.in_ok-groups.ensures.groups in
    let some = rw c.in_ok-multiple.ensures.ok_part at c.multiple_of_sizes.ensures in
    let multiple = multiple-is c.args.values.now c.as_slice-ties.result.now c.in_ok-multiple.multiple ties some.1 in
    ap length (c.as_slice.ensures ∙ c.in_ok-scores.ensures ∙ scores-are c.args.places.now c.args.values.now c.as_slice-ties.result.now c.in_ok-multiple.multiple ties multiple)
    ∙ length-map c.as_slice-ties.result.now (λ (t : Tie). pos (averaged c.args.places.now c.args.values.now t.value))

pub overflow_mul-scale : goal.overflow_mul-scale
overflow_mul-scale c =
    let ties = c.as_slice-ties.ensures ∙ c.in_ok-groups.ensures.groups in
    let some = rw c.in_ok-multiple.ensures.ok_part at c.multiple_of_sizes.ensures in
    let total = rw c.in_ok-total.ensures.ok_part at c.total.ensures in
    let product = rw c.in_ok-sum.ensures.ok_part at c.bounded_product.ensures in
    let multiple = multiple-is c.args.values.now c.as_slice-ties.result.now c.in_ok-multiple.multiple ties some.1 in
    let fits = rw (multiple, total.1) at product.0 in
    rw multiple (omega (arith, scale-most _ c.args.unit c.args.places.now c.args.values.now c.requires.most c.requires.small fits))

pub returns : goal.returns
returns c =
    let ties = c.as_slice-ties.ensures ∙ c.in_ok-groups.ensures.groups in
    let some = rw c.in_ok-multiple.ensures.ok_part at c.multiple_of_sizes.ensures in
    let total = rw c.in_ok-total.ensures.ok_part at c.total.ensures in
    let product = rw c.in_ok-sum.ensures.ok_part at c.bounded_product.ensures in
    let multiple = multiple-is c.args.values.now c.as_slice-ties.result.now c.in_ok-multiple.multiple ties some.1 in
    let scores = c.as_slice.ensures ∙ c.in_ok-scores.ensures ∙ scores-are c.args.places.now c.args.values.now c.as_slice-ties.result.now c.in_ok-multiple.multiple ties multiple in
    let list = c.in_ok-list.ensures (λ v. pos (averaged c.args.places.now c.args.values.now v)) scores in
    let whole = averaged-sum c.args.places.now c.args.values.now c.requires.as_many in
    let sum = rw (multiple, total.1) at product.1 in
    let fits = rw (multiple, total.1) at product.0 in
    (c.in_ok-groups.ensures.groups, sym c.as_slice.ensures ∙ scores ∙ ap (map (λ (t : Tie). pos (averaged c.args.places.now c.args.values.now t.value))) ties, (list, ap (λ m. m * c.args.unit) multiple, sum ∙ sym whole, rw whole fits))
