use Rattle.std.proofs.Common.{◌≡◌, ℕ, zero, suc, ◌+◌, ◌-◌, ◌<◌, ◌≤◌, List, get_or, cond, nat_le, Bool, true, false, ◌∙◌, ap, arith, inl, inr}
use Rattle.std.proofs.lemmas.Bool.{cases_lt}
use Rattle.std.proofs.lemmas.Bool.Decides.{nat_tests}
use Rattle.weights.specs.declared.TheConstants.{MAX}
use Rattle.concordant_pairs.specs.ConcordantSteps.{AreMixed, before, mixed_count, mixed_total}
use Rattle.concordant_pairs.proofs.Counting.{count_before, fewer-mixed, mixed-within, next-count}
use Rattle.concordant_pairs.proofs.counts.next_count.Goals as goal

-- what stands before a place, where the counts there are known
new-before : (rest counts : List ℕ) (n m place places : ℕ) → 1 ≤ places → ((u : ℕ) → u < place → get_or counts u 0 ≡ mixed_count rest n m u) → before counts place places ≡ count_before rest n m place places
new-before rest counts n m place places some each = elim (cases_lt place places) [
  | inl less ↦ grind (arith, nat_tests, less)
  | inr more ↦ ap (λ c. cond (nat_le places place) c 0) (each (place - places) (omega (arith, some, more)))
]

-- the counts of a place and before it, with a subject more and without it
record AreNext (rest old new : List ℕ) (group other place : ℕ) : Type 0 where
  whole : mixed_count rest group other place + before old place (group + other) ≡ before new place group + get_or old place 0
  more : before new place group ≤ MAX
  here : get_or old place 0 ≤ MAX

next : (rest old new : List ℕ) (group other place : ℕ) → 1 ≤ group → AreMixed rest (group - 1) other old → ((u : ℕ) → u < place → get_or new u 0 ≡ mixed_count rest group other u) → mixed_total rest group other ≤ MAX → AreNext rest old new group other place
next rest old new zero other place some are known fits = absurd (omega (arith, some))
next rest old new (suc c) other place some are known fits =
    let fewer : mixed_total rest c other ≤ MAX = fewer-mixed rest c (suc c) other MAX (omega arith) fits in
    let same : suc c - 1 ≡ c = omega arith in
    let without : (u : ℕ) → get_or old u 0 ≡ mixed_count rest c other u = λ u. are.each u ∙ ap (λ k. mixed_count rest k other u) same in
    let behind : before old place (suc c + other) ≡ count_before rest c other place (suc c + other) = ap (λ n. cond (nat_le (suc c + other) place) n 0) (without (place - (suc c + other))) in
    let ahead : before new place (suc c) ≡ count_before rest (suc c) other place (suc c) = new-before rest new (suc c) other place (suc c) some known in
    record {
      whole = omega (arith, next-count rest c other place, behind, ahead, without place);
      more = omega (arith, ahead, before-within rest (suc c) other place (suc c), fits);
      here = omega (arith, without place, mixed-within rest c other place, fewer);
    }
  where
    before-within : (rest : List ℕ) (n m place places : ℕ) → count_before rest n m place places ≤ mixed_total rest n m
    before-within rest n m place places = by (nat_le places place) (mixed-within rest n m (place - places))
      where
        by : (b : Bool) → mixed_count rest n m (place - places) ≤ mixed_total rest n m → cond b (mixed_count rest n m (place - places)) 0 ≤ mixed_total rest n m
        by true h = h
        by false h = omega arith

pub overflow_add-result : goal.overflow_add-result
overflow_add-result c =
    let are = next c.args.rest.now c.args.old.now c.args.new.now c.args.group c.args.other c.args.place c.requires.group c.requires.old c.requires.new c.requires.fits in
    omega (arith, are.more, are.here, c.before-2.ensures, c.at.ensures)

pub overflow_sub-result : goal.overflow_sub-result
overflow_sub-result c =
    let are = next c.args.rest.now c.args.old.now c.args.new.now c.args.group c.args.other c.args.place c.requires.group c.requires.old c.requires.new c.requires.fits in
    omega (arith, are.whole, c.before-2.ensures, c.at.ensures, c.before-3.ensures)

pub returns : goal.returns
returns c =
    let are = next c.args.rest.now c.args.old.now c.args.new.now c.args.group c.args.other c.args.place c.requires.group c.requires.old c.requires.new c.requires.fits in
    omega (arith, are.whole, c.before-2.ensures, c.at.ensures, c.before-3.ensures)
