use Rattle.std.proofs.Common.{◌≡◌, ℕ, List, ◌∙◌, sym, ap, refl, subst}
use Rattle.std.proofs.lemmas.Result.{IfOk-weaker}
use Rattle.weights.specs.declared.tails.Tail.{Tail}
use Rattle.weights.specs.declared.tails.Tail.TheVariants.{Less, Greater, Two}
use Rattle.weights.specs.Conditional.{numerator}
use Rattle.networks.specs.Completions.{extreme_weight}
use Rattle.networks.specs.declared.verdicts.Judge.{Judge}
use Rattle.networks.specs.Judged.{judge_of}
use Rattle.room_network.specs.Numbers.{scalar_meaning}
use Rattle.label_network.specs.LabelNetwork.{over_sizes}
use Rattle.label_network.specs.LabelRooms.{label_floor}
use Rattle.label_network.specs.Measures.{Measured, by_intervals, extreme_labellings, measured_network}
use Rattle.worked_networks.specs.declared.label_ranks.LabelRanks.{LabelRanks}
use Rattle.worked_networks.specs.LabelRanks.{rank_numbers, rank_test, samples, six}
use Rattle.worked_networks.proofs.label_ranks.tail_by_measure.Goals as goal

abbrev ranks : Judge → Measured
ranks judge = by_intervals six samples (scalar_meaning (label_floor six samples) (over_sizes (rank_numbers judge)))

-- of the 20 labellings as many are extreme as the test says
numerators : (t : Tail) → extreme_labellings (ranks (judge_of rank_test)) t ≡ numerator rank_test t
numerators Less = refl
numerators Greater = refl
numerators Two = refl

-- so it is of a measure that is known to be this one
counted : (m : Measured) (t : Tail) (sum : ℕ) → m ≡ ranks (judge_of rank_test) → sum ≡ extreme_weight (measured_network m) t 0 (measured_network m).first → extreme_weight (measured_network m) t 0 (measured_network m).first ≡ extreme_labellings m t → sum ≡ numerator rank_test t
counted m t sum e a b = a ∙ b ∙ subst (λ n. extreme_labellings n t ≡ numerator rank_test t) (sym e) (numerators t)

abbrev measure_of : List ℕ × List ℕ × LabelRanks → Measured
measure_of v = by_intervals v.0 v.1 (scalar_meaning (label_floor six samples) (over_sizes (rank_numbers v.2.judge)))

same : (v : List ℕ × List ℕ × LabelRanks) → v.0 ≡ six → v.1 ≡ samples → v.2.judge ≡ judge_of rank_test → measure_of v ≡ ranks (judge_of rank_test)
same v a b e = rw (a, b, e) refl

pub returns : goal.returns
returns c =
    let v : List ℕ × List ℕ × LabelRanks = c.in_ok-stages.stages in
    let own : v ≡ c.new-measure.result = c.in_ok-stages.ensures.measure in
    let is : measure_of v ≡ ranks (judge_of rank_test) = same v (ap (λ w. w.0) (own ∙ c.new-measure.ensures) ∙ c.in_ok-columns.ensures.items) (ap (λ w. w.1) (own ∙ c.new-measure.ensures) ∙ c.in_ok-rows.ensures.items) (ap (λ w. w.2.judge) (own ∙ c.new-measure.ensures) ∙ c.rank_measure.ensures) in
    IfOk-weaker c.tail_sum.result (λ found. found.sum ≡ extreme_weight (measured_network (measure_of v)) c.args.tail 0 (measured_network (measure_of v)).first) (λ found. found.sum ≡ numerator rank_test c.args.tail)
    (λ found e. counted (measure_of v) c.args.tail found.sum is e (c.in_ok-stages.ensures.tails c.args.tail)) c.tail_sum.ensures.sum
