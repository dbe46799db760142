-- After which assignments sums may be reflected.
use Rattle.std.proofs.Common.{◌≡◌, ℕ, ◌+◌, ◌-◌, ◌*◌, ◌<◌, ◌≤◌, List, map, length, drop, get_or, Bool, true, false, cond, ◌&&◌, nat_eq, nat_le, refl, sym, ◌∙◌, ap, subst, arith}
use Rattle.std.specs.Prelude.{ℤ, All, nat_abs, pos, slice_index_or}
use Rattle.std.specs.List.{range_with_len}
use Rattle.std.proofs.Math.Nat.{mul-le-mul}
use Rattle.std.proofs.lemmas.Bool.{and_parts, eqb-true, leb-true}
use Rattle.std.proofs.lemmas.List.{length-map}
use Rattle.std.proofs.lemmas.List.FromFn.{get_or-map-range_with_len, length-range_with_len}
use Rattle.std.proofs.lemmas.List.Sums.{sum_by-cons}
use Rattle.label_network.specs.Meanings.{sizes_in}
use Rattle.label_network.proofs.LabelPlans.{sizes-back}
use Rattle.label_network.proofs.Rows.{abs-at, length-abs, length-pos, pos-at}
use Rattle.rank_assignments.specs.BoundSteps.{AreGained}
use Rattle.rank_assignments.specs.Reflections.{AreReflections, IsReflection, reflection_of, reflections_of, number_after}
use Rattle.rank_assignments.specs.Assignments.{AreAhead, AreSums, ahead_at, gained, given, assignment_at}
use Rattle.rank_assignments.specs.Upright.{reflection_at}
use Rattle.rank_assignments.specs.declared.assignment.Assignment.{Assignment}
use Rattle.rank_assignments.specs.declared.assignment.Ahead.{Ahead}
use Rattle.rank_assignments.proofs.SumEnds.{length-gained}
use Rattle.rank_assignments.proofs.AssignmentRooms.{at-assignment}
use Rattle.rank_assignments.proofs.AssignmentSteps.{gained-at, held-at}

-- ---- the numbers at which sums are reflected

module _ (may_be : Bool) (k : ℕ) (vs : List Assignment) (g : ℕ) where
  abbrev number : ℕ
  number = number_after k vs g

  abbrev is_mean : Bool
  is_mean = nat_eq (k * number + 2 * given (drop (g + 1) vs)) (2 * given vs)

  -- one that is not 0 may be used
  pub reflection-told : 0 < reflection_of may_be k vs g → (may_be ≡ true) × IsReflection k vs g (reflection_of may_be k vs g)
  reflection-told = by (may_be && (assignment_at vs g).closes && nat_le number (16 * (g + 1)) && is_mean) refl
    where
      by : (b : Bool) → (may_be && (assignment_at vs g).closes && nat_le number (16 * (g + 1)) && is_mean) ≡ b → 0 < cond b number 0 → (may_be ≡ true) × IsReflection k vs g (cond b number 0)
      by false t some = absurd (omega (arith, some))
      by true t some =
          let last = and_parts (may_be && (assignment_at vs g).closes && nat_le number (16 * (g + 1))) is_mean t in
          let next = and_parts (may_be && (assignment_at vs g).closes) (nat_le number (16 * (g + 1))) last.0 in
          let first = and_parts may_be (assignment_at vs g).closes next.0 in (
            first.0,
            record {
              closes = first.1;
              small = leb-true number (16 * (g + 1)) next.1;
              half = eqb-true (k * number + 2 * given (drop (g + 1) vs)) (2 * given vs) last.1;
              amid = omega (arith, some);
            },
          )

  -- it is found of what is left to be given
  pub reflection-found : (found left all : ℕ) → found ≡ number_after k vs g → left ≡ given (drop (g + 1) vs) → all ≡ given vs
      → cond (may_be && (assignment_at vs g).closes && nat_le found (16 * (g + 1)) && nat_eq (k * found + 2 * left) (2 * all)) found 0 ≡ reflection_of may_be k vs g
  reflection-found found left all n l a = rw (n, l, a) refl

module _ (from k : ℕ) (vs : List Assignment) where
  reflection-here : (g : ℕ) → g < length vs → reflection_at (reflections_of from k vs) g ≡ reflection_of (nat_le from g) k vs g
  reflection-here g h = get_or-map-range_with_len (λ i. reflection_of (nat_le from i) k vs i) 0 (length vs) g g 0 h (omega arith)

  told-here : (g : ℕ) → g < length vs → 0 < reflection_at (reflections_of from k vs) g → (nat_le from g ≡ true) × IsReflection k vs g (reflection_of (nat_le from g) k vs g)
  told-here g h some = reflection-told (nat_le from g) k vs g (omega (arith, some, reflection-here g h))

  pub are-reflections : AreReflections k vs (reflections_of from k vs)
  are-reflections = record {
    long = length-map (range_with_len 0 (length vs)) (λ g. reflection_of (nat_le from g) k vs g) ∙ length-range_with_len 0 (length vs);
    each = λ g h some. subst (IsReflection k vs g) (sym (reflection-here g h)) (told-here g h some).1;
  }

  -- none before that one
  pub reflections-from : (g : ℕ) → g < length vs → 0 < reflection_at (reflections_of from k vs) g → from ≤ g
  reflections-from g h some = leb-true from g (told-here g h some).0

-- what is ahead after a stage
pub next-ahead : (k : ℕ) (vs : List Assignment) (table : List Ahead) → AreAhead k vs (length vs) table → (g : ℕ) (d : Ahead) → g < length vs → slice_index_or table (length vs - g - 1) d ≡ ahead_at k vs (g + 1)
next-ahead k vs table t g d h =
    let there : length vs - (length vs - g - 1) ≡ g + 1 = omega (arith, h) in
    t.each (length vs - g - 1) d (omega arith) ∙ ap (ahead_at k vs) there

-- what is given from a stage on, and after it
pub given-left : (k : ℕ) (vs : List Assignment) (g : ℕ) → g < length vs → given (drop g vs) ≡ (assignment_at vs g).value * (assignment_at vs g).count + given (drop (g + 1) vs)
given-left k vs g h = ap given (at-assignment k vs g h) ∙ sum_by-cons (λ (u : Assignment). u.value * u.count) (assignment_at vs g) (drop (g + 1) vs)

-- ---- sums after a number more

pub gained-sums : (v : ℕ) (choice : List ℕ) (partial next : List ℤ) → AreSums partial → v ≤ 16 → All (λ c. c ≤ 1) choice → length choice ≡ length partial → next ≡ map pos (gained v choice (sizes_in partial)) → AreGained next
gained-sums v choice partial next a small ones level e =
    let sums : List ℕ = gained v choice (sizes_in partial) in
    let held : next ≡ map pos (sizes_in next) = e ∙ sym (ap (λ z. map pos (sizes_in z)) e ∙ ap (map pos) (sizes-back sums)) in
    let long : length next ≡ length partial = ap length e ∙ length-pos sums ∙ length-gained v choice (sizes_in partial) ∙ length-abs partial in
    record {
      each = λ i h. held-at next i held h;
      small = λ i h. (let here : i < length partial = omega (arith, h, long) in
          let there : i < length (sizes_in partial) = omega (arith, here, length-abs partial) in
          let value : get_or next i (pos 0) ≡ pos (get_or sums i 0) = ap (λ zs. get_or zs i (pos 0)) e ∙ pos-at sums i (omega (arith, there, length-gained v choice (sizes_in partial))) in
          let parts = gained-at v i choice (sizes_in partial) there (level ∙ sym (length-abs partial)) in
          let one : get_or choice i 0 ≤ 1 = ones i 0 (omega (arith, here, level)) in
          let more : v * get_or choice i 0 ≤ 16 * 1 = mul-le-mul small one in
          omega (arith, ap nat_abs value, parts, more, abs-at partial i here, a.small i here));
    }
