-- Slots behind a home, and why one is empty.
use Rattle.std.proofs.Common.{◌≡◌, ◌≢◌, ℕ, zero, suc, ◌+◌, ◌-◌, ◌<◌, ◌≤◌, List, [], ◌∷◌, length, get_or, set, true, cond, eqb, ltb, refl, ap, ◌∙◌, subst, sym, inl, inr, ◌⊎◌, below_more, arith}
use Rattle.std.specs.List.{count_by}
use Rattle.std.proofs.lemmas.Bool.Decides.{nat_tests}
use Rattle.std.proofs.lemmas.List.Sums.{sum_by-cons, sum_by-set}
use Rattle.node_pool.specs.TableSteps.{IsWalk, spot, is_full}

pub spot-here : (size home : ℕ) → home < size → spot size home 0 ≡ home
unfolding spot
spot-here size home h = grind (arith, nat_tests)

pub spot-next : (size home d : ℕ) → home < size → d < size → cond (eqb (spot size home d + 1) size) 0 (spot size home d + 1) ≡ spot size home (d + 1)
unfolding spot
spot-next size home d h l = grind (arith, nat_tests)

-- each slot stands at some distance
pub distance : ℕ → ℕ → ℕ → ℕ
distance size home slot = cond (ltb slot home) ((slot + size) - home) (slot - home)

pub spot-reaches : (size home slot : ℕ) → home < size → slot < size → (distance size home slot < size) × (spot size home (distance size home slot) ≡ slot)
unfolding spot distance
spot-reaches size home slot h s = (grind (arith, nat_tests), grind (arith, nat_tests))

full_one : (b : ℕ) → is_full (suc b) ≡ true
full_one b = grind (arith, nat_tests)

-- fewer full slots than slots: one is empty
pub some_empty : (bs : List ℕ) → count_by is_full bs < length bs → (s : ℕ) × (s < length bs) × (get_or bs s 0 ≡ 0)
some_empty [] h = absurd (omega arith)
some_empty (zero ∷ bs) h = (0, omega arith, refl)
some_empty (suc b ∷ bs) h =
    let counted : count_by is_full (suc b ∷ bs) ≡ 1 + count_by is_full bs = sum_by-cons (λ x. cond (is_full x) 1 0) (suc b) bs ∙ ap (λ t. cond t 1 0 + count_by is_full bs) (full_one b) in
    let rest = some_empty bs (omega (arith, h, counted)) in
    (suc rest.0, omega (arith, rest.1), rest.2)

-- a slot that is filled counts one more
pub count-filled : (bs : List ℕ) (s b : ℕ) → s < length bs → get_or bs s 0 ≡ 0 → count_by is_full (set bs s (b + 1)) ≡ count_by is_full bs + 1
count-filled bs s b h e = grind (arith, nat_tests, sum_by-set (λ x. cond (is_full x) 1 0) bs s (b + 1) 0 h)

pub count-empty : (bs : List ℕ) → ((s : ℕ) → get_or bs s 0 ≡ 0) → count_by is_full bs ≡ 0
count-empty [] e = refl
count-empty (b ∷ bs) e =
    let here : b ≡ 0 = e 0 in
    rw (sum_by-cons (λ x. cond (is_full x) 1 0) b bs, here, count-empty bs (λ s. e (suc s))) refl

-- while every slot passed was full, the distance is below the number of slots
pub stays_near : (buckets : List ℕ) (home d : ℕ) → home < length buckets → count_by is_full buckets < length buckets → ((e : ℕ) → e < d → 0 < get_or buckets (spot (length buckets) home e) 0) → d < length buckets
stays_near buckets home d h room full =
    let free = some_empty buckets room in
    let at : ℕ = distance (length buckets) home free.0 in
    let reach = spot-reaches (length buckets) home free.0 h free.1 in
    let none : get_or buckets (spot (length buckets) home at) 0 ≡ 0 = ap (λ s. get_or buckets s 0) reach.1 ∙ free.2 in
    elim (cases_lt at d) [
      | inl below ↦ absurd (omega (arith, full at below, none))
      | inr above ↦ omega (arith, reach.0, above)
    ]
  where
    cases_lt : (a b : ℕ) → (a < b) ⊎ (b ≤ a)
    cases_lt a b = grind arith

-- a search from a home to a slot, that has passed full slots alone
pub record IsAlong (buckets : List ℕ) (home slot steps : ℕ) : Type 0 where
  pub here : slot ≡ spot (length buckets) home steps
  pub within : slot < length buckets
  pub near : steps < length buckets
  pub full : (e : ℕ) → e < steps → 0 < get_or buckets (spot (length buckets) home e) 0

pub along-start : (buckets : List ℕ) (home : ℕ) → home < length buckets → IsAlong buckets home home 0
along-start buckets home h = record {
  here = sym (spot-here (length buckets) home h);
  within = h;
  near = omega arith;
  full = λ e l. absurd (omega arith);
}

pub along-next : {buckets : List ℕ} {home slot steps : ℕ} → IsAlong buckets home slot steps → home < length buckets → count_by is_full buckets < length buckets → get_or buckets slot 0 ≢ 0 → (next : ℕ) → next ≡ cond (eqb (slot + 1) (length buckets)) 0 (slot + 1) → next < length buckets → IsAlong buckets home next (steps + 1)
along-next {buckets} {home} {slot} {steps} a h room some next e within =
    let full : (e : ℕ) → e < steps + 1 → 0 < get_or buckets (spot (length buckets) home e) 0 = below_more _ _ a.full (subst (λ s. 0 < get_or buckets s 0) a.here (above (get_or buckets slot 0) some)) in
    record {
      here = e ∙ rw (a.here) (spot-next (length buckets) home steps h a.near);
      within = within;
      near = stays_near buckets home (steps + 1) h room full;
      full = full;
    }
  where
    above : (b : ℕ) → b ≢ 0 → 0 < b
    above b ne = omega arith

pub along-walk : {buckets : List ℕ} {home slot steps : ℕ} → IsAlong buckets home slot steps → IsWalk buckets home slot
along-walk {buckets} {home} {slot} {steps} a = record { far = steps; near = a.near; ends = a.here; full = a.full }
