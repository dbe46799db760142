-- The choices that stand for others one after another: the next one, and that none lies between.
use Rattle.std.proofs.Common.{◌≡◌, ℕ, suc, ◌+◌, ◌-◌, ◌*◌, ◌<◌, ◌≤◌, List, [], ◌∷◌, ◌++◌, length, filter, map, min, max, Option, Some, None, Bool, true, false, cond, not, ◌&&◌, refl, sym, ◌∙◌, ap, subst, arith, zero-add, nat_eq, nat_le, nat_lt, eq-eqb, le-ltb, lt-ltb, ◌⊎◌, inl, inr}
use Rattle.std.specs.List.{AllByRecursion, flat_map, range_with_len, sum}
use Rattle.std.proofs.lemmas.Bool.{and_left, and_parts, cases_Bool, cases_lt, both_ways, eqb-true, le-leb, leb-true, ltb-true}
use Rattle.std.proofs.lemmas.Bool.Decides.{eqb_tells, leb_tells}
use Rattle.std.proofs.lemmas.List.Elements.{filter-append}
use Rattle.std.proofs.lemmas.Grind.{flat_map-append}
use Rattle.std.proofs.lemmas.List.Sums.{sum_by-cons}
use Rattle.std.proofs.Math.Nat.{mul-le-mul_right}
use Rattle.weights.specs.Grouped.{choices, fits}
use Rattle.weights.proofs.ChoiceLists.{IsChoice, choices-each}
use Rattle.weights.proofs.Filters.{all_weaker, filter-flat_map, filter-map, flat_map-same, range-from, filter-same_where}
use Rattle.weights.proofs.Members.{range-below}
use Rattle.weights.proofs.Sized.{first_and, sum-minus}
use Rattle.label_network.specs.ChoiceOrder.{later_choices}
use Rattle.label_network.proofs.LaterChoices.{choices-none}
use Rattle.sorted_tables.specs.GatheredChoices.{gets_less, is_gathered}
use Rattle.sorted_tables.specs.SortedSteps.{fits_behind, kept, raised, run}
use Rattle.sorted_tables.proofs.GatheredChoices.{later-each}
use Rattle.sorted_tables.proofs.GatheredForms.{Rise, gathered-risen, less-here, less-not, less-parts, risen-gathered}
use Rattle.weights.proofs.Ranges.{range-split}

filter-cut : {X : Type 0} (t : Bool) (p : X → Bool) (xs : List X) → filter (λ x. not t && p x) xs ≡ cond t [] (filter p xs)
filter-cut true p [] = refl
filter-cut true p (x ∷ xs) = filter-cut true p xs
filter-cut false p xs = refl

pub flat_map-none : {X Y : Type 0} (P : X → Type 0) (f : X → List Y) → ((x : X) → P x → f x ≡ []) → (xs : List X) → AllByRecursion P xs → flat_map f xs ≡ []
flat_map-none P f e [] a = refl
flat_map-none P f e (x ∷ xs) a = rw (e x a.0, flat_map-none P f e xs a.1) refl

pub one-more : (q a r b : ℕ) (rs y : List ℕ) → length y ≡ length rs → fits_behind q a (r ∷ rs) (b ∷ y) ≡ (not (gets_less r b q a) && fits_behind r b rs y)
one-more q a r b rs y l = elim (cases_Bool (gets_less r b q a)) [
  | inl e ↦ rw e (elim (cases_Bool (fits_behind q a (r ∷ rs) (b ∷ y))) [
    | inl f ↦ absurd (both_ways (gets_less r b q a) (risen-gathered (q ∷ r ∷ rs) (a ∷ b ∷ y) (omega (arith, l)) f).0 e)
    | inr f ↦ f
  ])
  | inr e ↦ rw e (elim (cases_Bool (fits_behind r b rs y)) [
    | inl f ↦ gathered-risen (q ∷ r ∷ rs) (a ∷ b ∷ y) (omega (arith, l)) (e, risen-gathered (r ∷ rs) (b ∷ y) (omega (arith, l)) f) ∙ sym f
    | inr f ↦ elim (cases_Bool (fits_behind q a (r ∷ rs) (b ∷ y))) [
      | inl g ↦ absurd (both_ways (fits_behind r b rs y) f (gathered-risen (r ∷ rs) (b ∷ y) (omega (arith, l)) (risen-gathered (q ∷ r ∷ rs) (a ∷ b ∷ y) (omega (arith, l)) g).1))
      | inr g ↦ g ∙ sym f
    ]
  ])
]

fronts-kept : (q a r b : ℕ) (rs : List ℕ) (ys : List (List ℕ)) → AllByRecursion (λ y. length y ≡ length rs) ys → filter (fits_behind q a (r ∷ rs)) (map (λ y. b ∷ y) ys) ≡ cond (gets_less r b q a) [] (map (λ y. b ∷ y) (filter (fits_behind r b rs) ys))
fronts-kept q a r b rs ys all =
    filter-map (fits_behind q a (r ∷ rs)) (λ y. b ∷ y) ys
    ∙ ap (map (λ y. b ∷ y)) (filter-same_where (λ y. length y ≡ length rs) _ _ (λ y l. one-more q a r b rs y l) ys all ∙ filter-cut (gets_less r b q a) (fits_behind r b rs) ys)
    ∙ by (gets_less r b q a)
  where
    by : (t : Bool) → map (λ y. b ∷ y) (cond t [] (filter (fits_behind r b rs) ys)) ≡ cond t [] (map (λ y. b ∷ y) (filter (fits_behind r b rs) ys))
    by true = refl
    by false = refl

-- those of the choices kept behind a row that begin with a count
abbrev pub kept_front : ℕ → ℕ → ℕ → ℕ → List ℕ → ℕ → List (List ℕ)
kept_front q a c r rs b = cond (gets_less r b q a) [] (map (λ y. b ∷ y) (kept r b (c - b) rs))

-- those that begin with a count of a range
abbrev pub kept_with : ℕ → ℕ → ℕ → ℕ → List ℕ → ℕ → ℕ → List (List ℕ)
kept_with q a c r rs from many = flat_map (kept_front q a c r rs) (range_with_len from many)

long-choices : (c : ℕ) (rs : List ℕ) → AllByRecursion (λ y. length y ≡ length rs) (choices c rs)
long-choices c rs = all_weaker (IsChoice c rs) (λ y. length y ≡ length rs) (λ y o. o.long) (choices c rs) (choices-each c rs)

pub kept-range : (q a c r : ℕ) (rs : List ℕ) (from many : ℕ) → filter (fits_behind q a (r ∷ rs)) (flat_map (λ b. map (λ y. b ∷ y) (choices (c - b) rs)) (range_with_len from many)) ≡ kept_with q a c r rs from many
kept-range q a c r rs from many =
    filter-flat_map (fits_behind q a (r ∷ rs)) (λ b. map (λ y. b ∷ y) (choices (c - b) rs)) (range_with_len from many)
    ∙ flat_map-same _ (kept_front q a c r rs) (λ b. fronts-kept q a r b rs (choices (c - b) rs) (long-choices (c - b) rs)) (range_with_len from many)

-- none of too many subjects, nor of too few for the rows of equal size
kept-none : (q a c : ℕ) (rs : List ℕ) → sum rs < c → kept q a c rs ≡ []
kept-none q a c rs h = ap (filter (fits_behind q a rs)) (choices-none c rs h)

pub no-front : (q a c r b : ℕ) (rs : List ℕ) → kept r b (c - b) rs ≡ [] → kept_front q a c r rs b ≡ []
no-front q a c r b rs e = rw e (by (gets_less r b q a))
  where
    by : (t : Bool) → cond t [] (map (λ y. b ∷ y) []) ≡ []
    by true = refl
    by false = refl

pub kept-few : (q a c : ℕ) (rs : List ℕ) → c < a * run q rs → kept q a c rs ≡ []
kept-few q a c [] h = absurd (omega (arith, h))
kept-few q a c (r ∷ rs) h =
    kept-range q a c r rs 0 (min c r + 1)
    ∙ flat_map-none (λ b. b < 0 + (min c r + 1)) (kept_front q a c r rs) (λ b l. by (nat_eq r q) refl h b (omega (arith, l)) (λ d e. kept-few d b (c - b) rs e)) (range_with_len 0 (min c r + 1)) (range-below 0 (min c r + 1))
  where
    by : (t : Bool) → nat_eq r q ≡ t → c < a * cond t (suc (run q rs)) 0 → (b : ℕ) → b ≤ c → ((d : ℕ) → c - b < b * run d rs → kept d b (c - b) rs ≡ []) → kept_front q a c r rs b ≡ []
    by false e h b m later = absurd (omega (arith, h))
    by true e h b m later = elim (cases_lt b a) [
      | inl less ↦ ap (λ t. cond t [] (map (λ y. b ∷ y) (kept r b (c - b) rs))) (ap (λ s. gets_less s b q a) (eqb-true r q e) ∙ less-here q b a less)
      | inr most ↦
          let wide : a * run q rs ≤ b * run q rs = mul-le-mul_right (run q rs) most in
          let all : a * suc (run q rs) ≡ a * run q rs + a = grind arith in
          no-front q a c r b rs (later r (subst (λ s. c - b < b * run s rs) (sym (eqb-true r q e)) (omega (arith, h, all, wide, most, m))))
    ]

-- the first choice behind a row

run-sum : (q : ℕ) (rs : List ℕ) → q * run q rs ≤ sum rs
run-sum q [] = omega arith
run-sum q (r ∷ rs) = by (nat_eq r q) refl (run-sum q rs)
  where
    by : (t : Bool) → nat_eq r q ≡ t → q * run q rs ≤ sum rs → q * cond t (suc (run q rs)) 0 ≤ sum (r ∷ rs)
    by false e h = omega arith
    by true e h =
        let same : r ≡ q = eqb-true r q e in
        let more : q * suc (run q rs) ≡ q * run q rs + q = grind arith in
        omega (arith, same, more, h, sum_by-cons (λ v. v) r rs)

-- what is known of the first count
pub record IsLeast (q a c r : ℕ) (rs : List ℕ) (b : ℕ) : Type 0 where
  pub kept_here : gets_less r b q a ≡ false
  pub few : b ≤ min c r
  pub enough : b * run r rs ≤ c - b
  pub most : c - b ≤ sum rs
  pub below : (d : ℕ) → d < b → kept_front q a c r rs d ≡ []

pub least-is : (q a c r : ℕ) (rs : List ℕ) → a ≤ q → a * run q (r ∷ rs) ≤ c → c ≤ sum (r ∷ rs) → IsLeast q a c r rs (max (cond (nat_eq r q) a 0) (c - sum rs))
least-is q a c r rs h few most = by (eqb_tells r q) few (omega (arith, most, sum_by-cons (λ v. v) r rs)) (run-sum r rs)
  where
    none-below : (d : ℕ) → sum rs < c - d → kept_front q a c r rs d ≡ []
    none-below d l = no-front q a c r d rs (kept-none r d (c - d) rs l)

    by : ((nat_eq r q ≡ true) × (r ≡ q)) ⊎ ((nat_eq r q ≡ false) × (r ≡ q → ⊥)) → a * run q (r ∷ rs) ≤ c → c ≤ r + sum rs → r * run r rs ≤ sum rs → IsLeast q a c r rs (max (cond (nat_eq r q) a 0) (c - sum rs))
    by (inr e) few all whole =
        let least : max (cond (nat_eq r q) a 0) (c - sum rs) ≡ c - sum rs = rw e.0 (omega arith) in
        let part : (c - sum rs) * run r rs ≤ r * run r rs = mul-le-mul_right (run r rs) (omega (arith, all)) in
        rw least (record {
          kept_here = and_left (nat_eq r q) (nat_lt (c - sum rs) a) e.0;
          few = omega (arith, all);
          enough = elim (cases_lt (sum rs) c) [
            | inl l ↦ omega (arith, part, whole, l)
            | inr l ↦ (let none : c - sum rs ≡ 0 = omega (arith, l) in rw none (omega arith))
          ];
          most = omega (arith, all);
          below = λ d l. none-below d (omega (arith, l));
        })
    by (inl e) few all whole =
        let fewer : a * suc (run r rs) ≤ c = subst (λ s. a * suc (run s rs) ≤ c) (sym e.1) (rw e.0 at few) in
        let spread : a * suc (run r rs) ≡ a * run r rs + a = grind arith in
        let least : max (cond (nat_eq r q) a 0) (c - sum rs) ≡ max a (c - sum rs) = rw e.0 refl in
        rw least (elim (cases_lt a (c - sum rs)) [
          | inl l ↦
              let here : max a (c - sum rs) ≡ c - sum rs = omega (arith, l) in
              let part : (c - sum rs) * run r rs ≤ r * run r rs = mul-le-mul_right (run r rs) (omega (arith, all)) in
              rw here (record {
                kept_here = less-not r q (c - sum rs) a (omega (arith, l));
                few = omega (arith, all);
                enough = omega (arith, part, whole, l);
                most = omega (arith, all);
                below = λ d m. none-below d (omega (arith, m));
              })
          | inr l ↦
              let here : max a (c - sum rs) ≡ a = omega (arith, l) in
              rw here (record {
                kept_here = less-not r q a a (omega arith);
                few = omega (arith, fewer, spread, h, e.1);
                enough = omega (arith, fewer, spread);
                most = omega (arith, l);
                below = λ d m. ap (λ t. cond t [] (map (λ y. d ∷ y) (kept r d (c - d) rs))) (ap (λ s. gets_less s d q a) e.1 ∙ less-here q d a m);
              })
        ])

later-kept : (q a c r b : ℕ) (rs x : List ℕ) → IsChoice (c - b) rs x → gets_less r b q a ≡ false → filter (fits_behind q a (r ∷ rs)) (later_choices c (r ∷ rs) (b ∷ x)) ≡ map (λ y. b ∷ y) (filter (fits_behind r b rs) (later_choices (c - b) rs x)) ++ kept_with q a c r rs (b + 1) (min c r - b)
later-kept q a c r b rs x o e =
    filter-append (fits_behind q a (r ∷ rs)) (map (λ y. b ∷ y) (later_choices (c - b) rs x)) (flat_map (λ d. map (λ y. d ∷ y) (choices (c - d) rs)) (range_with_len (b + 1) (min c r - b)))
    ∙ ap (λ ys. ys ++ filter (fits_behind q a (r ∷ rs)) (flat_map (λ d. map (λ y. d ∷ y) (choices (c - d) rs)) (range_with_len (b + 1) (min c r - b))))
    (fronts-kept q a r b rs (later_choices (c - b) rs x) (all_weaker (IsChoice (c - b) rs) (λ y. length y ≡ length rs) (λ y p. p.long) (later_choices (c - b) rs x) (later-each (c - b) rs x o)) ∙ ap (λ t. cond t [] (map (λ y. b ∷ y) (filter (fits_behind r b rs) (later_choices (c - b) rs x)))) e)
    ∙ ap (λ ys. map (λ y. b ∷ y) (filter (fits_behind r b rs) (later_choices (c - b) rs x)) ++ ys) (kept-range q a c r rs (b + 1) (min c r - b))

pub kept-split : (q a c r : ℕ) (rs : List ℕ) (s n k : ℕ) → kept_with q a c r rs s (n + k) ≡ kept_with q a c r rs s n ++ kept_with q a c r rs (s + n) k
kept-split q a c r rs s n k = ap (flat_map (kept_front q a c r rs)) (range-split s n k) ∙ flat_map-append (kept_front q a c r rs) (range_with_len s n) (range_with_len (s + n) k)

-- the first one is a choice
pub raised-choice : (q a c : ℕ) (rs : List ℕ) → a ≤ q → a * run q rs ≤ c → c ≤ sum rs → IsChoice c rs (raised q a c rs)
raised-choice q a c [] h few most = record { long = refl; whole = omega (arith, most); fitting = refl }
raised-choice q a c (r ∷ rs) h few most =
    let b : ℕ = max (cond (nat_eq r q) a 0) (c - sum rs) in
    let i : IsLeast q a c r rs b = least-is q a c r rs h few most in
    let o : IsChoice (c - b) rs (raised r b (c - b) rs) = raised-choice r b (c - b) rs (omega (arith, i.few)) i.enough i.most in
    record {
      long = ap suc o.long;
      whole = sum_by-cons (λ v. v) b (raised r b (c - b) rs) ∙ omega (arith, o.whole, i.few);
      fitting = rw (le-leb b r (omega (arith, i.few)), o.fitting) refl;
    }

pub raised-first : (q a c : ℕ) (rs : List ℕ) → a ≤ q → a * run q rs ≤ c → c ≤ sum rs → kept q a c rs ≡ raised q a c rs ∷ filter (fits_behind q a rs) (later_choices c rs (raised q a c rs))
raised-first q a c [] h few most =
    let none : c ≡ 0 = omega (arith, most) in
    rw (none, eq-eqb a a refl) refl
raised-first q a c (r ∷ rs) h few most =
    let b : ℕ = max (cond (nat_eq r q) a 0) (c - sum rs) in
    let i : IsLeast q a c r rs b = least-is q a c r rs h few most in
    let x : List ℕ = raised r b (c - b) rs in
    let o : IsChoice (c - b) rs x = raised-choice r b (c - b) rs (omega (arith, i.few)) i.enough i.most in
    let parts : min c r + 1 ≡ b + suc (min c r - b) = omega (arith, i.few) in
    let none : kept_with q a c r rs 0 b ≡ [] = flat_map-none (λ d. d < 0 + b) (kept_front q a c r rs) (λ d l. i.below d (omega (arith, l))) (range_with_len 0 b) (range-below 0 b) in
    let first : kept_front q a c r rs b ≡ map (λ y. b ∷ y) (x ∷ filter (fits_behind r b rs) (later_choices (c - b) rs x)) = ap (λ t. cond t [] (map (λ y. b ∷ y) (kept r b (c - b) rs))) i.kept_here ∙ ap (map (λ y. b ∷ y)) (raised-first r b (c - b) rs (omega (arith, i.few)) i.enough i.most) in
    kept-range q a c r rs 0 (min c r + 1)
    ∙ ap (kept_with q a c r rs 0) parts
    ∙ kept-split q a c r rs 0 b (suc (min c r - b))
    ∙ ap (λ ys. ys ++ kept_with q a c r rs (0 + b) (suc (min c r - b))) none
    ∙ ap (λ s. kept_with q a c r rs s (suc (min c r - b))) (zero-add b)
    ∙ ap (λ ys. ys ++ kept_with q a c r rs (b + 1) (min c r - b)) first
    ∙ ap (λ ys. (b ∷ x) ∷ ys) (sym (later-kept q a c r b rs x o i.kept_here))

-- the next choice, where there is one: by a later row, or by one more of this row
abbrev pub raised_or : Option (List ℕ) → ℕ → ℕ → ℕ → List ℕ → Option (List ℕ)
raised_or (Some y) a c r rs = Some (a ∷ y)
raised_or None a c r rs =
    cond (nat_lt a (min c r) && nat_le ((a + 1) * run r rs) (c - (a + 1))) (Some ((a + 1) ∷ raised r (a + 1) (c - (a + 1)) rs)) None

abbrev pub raised_after : ℕ → List ℕ → List ℕ → Option (List ℕ)
raised_after c [] x = None
raised_after c (r ∷ rs) [] = None
raised_after c (r ∷ rs) (a ∷ x) = raised_or (raised_after (c - a) rs x) a c r rs

abbrev pub kept_from : ℕ → ℕ → ℕ → List ℕ → Option (List ℕ) → List (List ℕ)
kept_from q a c rs None = []
kept_from q a c rs (Some y) = y ∷ filter (fits_behind q a rs) (later_choices c rs y)

abbrev pub AnyIs : (List ℕ → Type 0) → Option (List ℕ) → Type 0
AnyIs P None = Unit {0}
AnyIs P (Some y) = P y

pub after-choice : (c : ℕ) (rs x : List ℕ) → IsChoice c rs x → AnyIs (IsChoice c rs) (raised_after c rs x)
after-choice c [] x o = tt
after-choice c (r ∷ rs) [] o = tt
after-choice c (r ∷ rs) (b ∷ x) o =
    let both = first_and (nat_le b r) (fits x rs) o.fitting in
    let whole : b + sum x ≡ c = sym (sum_by-cons (λ v. v) b x) ∙ o.whole in
    let inner : IsChoice (c - b) rs x = record { long = omega (arith, o.long); whole = omega (arith, whole); fitting = both.1 } in
    by (raised_after (c - b) rs x) (after-choice (c - b) rs x inner) (leb-true b r both.0) (omega (arith, whole)) (omega (arith, whole, sum-minus rs x both.1)) (cases_Bool (nat_lt b (min c r) && nat_le ((b + 1) * run r rs) (c - (b + 1))))
  where
    longer : (d : ℕ) (y : List ℕ) → d ≤ c → d ≤ r → IsChoice (c - d) rs y → IsChoice c (r ∷ rs) (d ∷ y)
    longer d y l h p = record {
      long = ap suc p.long;
      whole = sum_by-cons (λ v. v) d y ∙ omega (arith, p.whole, l);
      fitting = rw (le-leb d r h, p.fitting) refl;
    }

    by : (n : Option (List ℕ)) → AnyIs (IsChoice (c - b) rs) n → b ≤ r → b ≤ c → c - b ≤ sum rs
        → ((nat_lt b (min c r) && nat_le ((b + 1) * run r rs) (c - (b + 1))) ≡ true) ⊎ ((nat_lt b (min c r) && nat_le ((b + 1) * run r rs) (c - (b + 1))) ≡ false)
        → AnyIs (IsChoice c (r ∷ rs)) (raised_or n b c r rs)
    by (Some y) p h l m t = longer b y l h p
    by None p h l m (inr t) = subst (λ u. AnyIs (IsChoice c (r ∷ rs)) (cond u (Some ((b + 1) ∷ raised r (b + 1) (c - (b + 1)) rs)) None)) (sym t) tt
    by None p h l m (inl t) =
        let tests = and_parts (nat_lt b (min c r)) (nat_le ((b + 1) * run r rs) (c - (b + 1))) t in
        let less : b < min c r = ltb-true b (min c r) tests.0 in
        let enough : (b + 1) * run r rs ≤ c - (b + 1) = leb-true ((b + 1) * run r rs) (c - (b + 1)) tests.1 in
        subst (λ u. AnyIs (IsChoice c (r ∷ rs)) (cond u (Some ((b + 1) ∷ raised r (b + 1) (c - (b + 1)) rs)) None)) (sym t)
        (longer (b + 1) (raised r (b + 1) (c - (b + 1)) rs) (omega (arith, less)) (omega (arith, less)) (raised-choice r (b + 1) (c - (b + 1)) rs (omega (arith, less)) enough (omega (arith, m))))

pub kept-after : (q a c : ℕ) (rs x : List ℕ) → IsChoice c rs x → Rise (q ∷ rs) (a ∷ x) → filter (fits_behind q a rs) (later_choices c rs x) ≡ kept_from q a c rs (raised_after c rs x)
kept-after q a c [] x o h = refl
kept-after q a c (r ∷ rs) [] o h = refl
kept-after q a c (r ∷ rs) (b ∷ x) o h =
    let both = first_and (nat_le b r) (fits x rs) o.fitting in
    let whole : b + sum x ≡ c = sym (sum_by-cons (λ v. v) b x) ∙ o.whole in
    let inner : IsChoice (c - b) rs x = record { long = omega (arith, o.long); whole = omega (arith, whole); fitting = both.1 } in
    later-kept q a c r b rs x inner h.0
    ∙ ap (λ ys. map (λ y. b ∷ y) ys ++ kept_with q a c r rs (b + 1) (min c r - b)) (kept-after r b (c - b) rs x inner h.1)
    ∙ by h.0 (raised_after (c - b) rs x) (after-choice (c - b) rs x inner) (leb-true b r both.0) (omega (arith, whole)) (omega (arith, whole, sum-minus rs x both.1)) (leb_tells (min c r) b) (leb_tells ((b + 1) * run r rs) (c - (b + 1)))
  where
    skip : c - (b + 1) < (b + 1) * run r rs → kept_with q a c r rs (b + 1) (min c r - b) ≡ []
    skip few = flat_map-none (λ d. b + 1 ≤ d) (kept_front q a c r rs) (λ d m. no-front q a c r d rs (kept-few r d (c - d) rs (wider d m (mul-le-mul_right (run r rs) m)))) (range_with_len (b + 1) (min c r - b)) (range-from (b + 1) (min c r - b))
      where
        wider : (d : ℕ) → b + 1 ≤ d → (b + 1) * run r rs ≤ d * run r rs → c - d < d * run r rs
        wider d m wide = omega (arith, few, wide, m)

    front : gets_less r b q a ≡ false → gets_less r (b + 1) q a ≡ false
    front e = elim (cases_Bool (gets_less r (b + 1) q a)) [
      | inl t ↦ (let both = less-parts r (b + 1) q a t in absurd (both_ways (gets_less r b q a) e (ap (λ s. gets_less s b q a) both.0 ∙ less-here q b a (omega (arith, both.1)))))
      | inr t ↦ t
    ]

    by : gets_less r b q a ≡ false → (n : Option (List ℕ)) → AnyIs (IsChoice (c - b) rs) n → b ≤ r → b ≤ c → c - b ≤ sum rs
        → ((nat_le (min c r) b ≡ true) × (min c r ≤ b)) ⊎ ((nat_le (min c r) b ≡ false) × (b < min c r))
        → ((nat_le ((b + 1) * run r rs) (c - (b + 1)) ≡ true) × ((b + 1) * run r rs ≤ c - (b + 1))) ⊎ ((nat_le ((b + 1) * run r rs) (c - (b + 1)) ≡ false) × (c - (b + 1) < (b + 1) * run r rs))
        → map (λ y. b ∷ y) (kept_from r b (c - b) rs n) ++ kept_with q a c r rs (b + 1) (min c r - b) ≡ kept_from q a c (r ∷ rs) (raised_or n b c r rs)
    by e (Some y) p h l m s t = ap (λ ys. (b ∷ y) ∷ ys) (sym (later-kept q a c r b rs y p e))
    by e None p h l m (inl s) t =
        let none : min c r - b ≡ 0 = omega (arith, s.1) in
        rw (none, le-ltb b (min c r) s.1) refl
    by e None p h l m (inr s) (inr t) = rw (lt-ltb b (min c r) s.1, t.0) (skip t.1)
    by e None p h l m (inr s) (inl t) =
        let more : min c r - b ≡ suc (min c r - (b + 1)) = omega (arith, s.1) in
        let o : IsChoice (c - (b + 1)) rs (raised r (b + 1) (c - (b + 1)) rs) = raised-choice r (b + 1) (c - (b + 1)) rs (omega (arith, s.1)) t.1 (omega (arith, m)) in
        let first : kept_front q a c r rs (b + 1) ≡ map (λ y. (b + 1) ∷ y) (raised r (b + 1) (c - (b + 1)) rs ∷ filter (fits_behind r (b + 1) rs) (later_choices (c - (b + 1)) rs (raised r (b + 1) (c - (b + 1)) rs))) = ap (λ u. cond u [] (map (λ y. (b + 1) ∷ y) (kept r (b + 1) (c - (b + 1)) rs))) (front e) ∙ ap (map (λ y. (b + 1) ∷ y)) (raised-first r (b + 1) (c - (b + 1)) rs (omega (arith, s.1)) t.1 (omega (arith, m))) in
        rw (lt-ltb b (min c r) s.1, t.0)
        (ap (kept_with q a c r rs (b + 1)) more
        ∙ ap (λ ys. ys ++ kept_with q a c r rs ((b + 1) + 1) (min c r - (b + 1))) first
        ∙ ap (λ ys. ((b + 1) ∷ raised r (b + 1) (c - (b + 1)) rs) ∷ ys) (sym (later-kept q a c r (b + 1) rs (raised r (b + 1) (c - (b + 1)) rs) o (front e))))

-- behind a row of no count every choice fits
pub none-behind : (rs y : List ℕ) → length y ≡ length rs → fits_behind 0 0 rs y ≡ is_gathered rs y
none-behind [] [] l = refl
none-behind [] (b ∷ y) l = absurd (omega (arith, l))
none-behind (r ∷ rs) [] l = absurd (omega (arith, l))
none-behind (r ∷ rs) (b ∷ y) l = one-more 0 0 r b rs y (omega (arith, l)) ∙ ap (λ t. not t && fits_behind r b rs y) (less-not r 0 b 0 (omega arith))
