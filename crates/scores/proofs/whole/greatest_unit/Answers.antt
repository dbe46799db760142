use Rattle.std.proofs.Common.{◌≡◌, ◌<◌, ◌≤◌, ◌-◌, ◌^◌, ℕ, inl, inr, true, false, sym, ap, ◌∙◌, arith}
use Rattle.std.specs.List.{list_all}
use Rattle.std.proofs.lemmas.Bool.{cases_eq}
use Rattle.scores.specs.RawScores.{is_whole}
use Rattle.scores.specs.ScoreSteps.{is_multiple_of}
use Rattle.scores.proofs.RawLemmas.{all-at-18, all-whole, decimals-are, next-power, power-some}
use Rattle.scores.proofs.whole.greatest_unit.Goals as goal

pub are_multiples-requires : goal.are_multiples-requires
are_multiples-requires c = rw c.loop-decimals.invariant.unit (power-some (18 - c.loop-decimals._decimals))

pub returns-then-are_multiples : goal.returns-then-are_multiples
returns-then-are_multiples c =
    let d = c.loop-decimals._decimals in
    let within : d ≤ 18 = omega (arith, c.loop-decimals-test.true) in
    let tested = ap (λ u. list_all (is_multiple_of u) c.args.values.now) c.loop-decimals.invariant.unit in
    let whole : list_all (is_whole d) c.args.values.now ≡ true = all-whole d c.args.values.now within ∙ sym tested ∙ sym c.are_multiples.ensures ∙ c.if-are_multiples.true in
    c.loop-decimals.invariant.unit ∙ ap (λ d. 10 ^ (18 - d)) (sym (decimals-are c.args.values.now d within c.loop-decimals.invariant.none whole))

pub loop-decimals-preserved : goal.loop-decimals-preserved
loop-decimals-preserved c =
    let d = c.loop-decimals._decimals in
    let below = c.loop-decimals-test.true in
    let within : d ≤ 18 = omega (arith, below) in
    let tested = ap (λ u. list_all (is_multiple_of u) c.args.values.now) c.loop-decimals.invariant.unit in
    let not_whole : list_all (is_whole d) c.args.values.now ≡ false = all-whole d c.args.values.now within ∙ sym tested ∙ sym c.are_multiples.ensures ∙ c.if-are_multiples.false in
    record {
      unit = rw c.loop-decimals.invariant.unit (next-power d below);
      none = λ e h. elim (cases_eq e d) [
        | inl same ↦ (rw same not_whole)
        | inr other ↦ (c.loop-decimals.invariant.none e (omega (arith, other)))
      ];
    }

pub returns : goal.returns
returns c =
    let end : c.loop-decimals._decimals ≡ 18 = omega (arith, c.loop-decimals-test.false) in
    let none : (d : ℕ) → d < 18 → list_all (is_whole d) c.args.values.now ≡ false = λ d h. c.loop-decimals.invariant.none d (omega (arith, end)) in
    c.loop-decimals.invariant.unit ∙ ap (λ d. 10 ^ (18 - d)) (end ∙ sym (decimals-are c.args.values.now 18 (omega arith) none (all-at-18 c.args.values.now)))
