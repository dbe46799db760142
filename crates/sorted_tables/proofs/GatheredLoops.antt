-- What the loops over the rows of a choice keep.
use Rattle.label_network.proofs.Rows.{get-within}
use Rattle.std.proofs.Common.{mul-one, ◌≡◌, ℕ, suc, ◌+◌, ◌-◌, ◌*◌, ◌/◌, ◌^◌, ◌<◌, ◌≤◌, List, [], ◌∷◌, length, get_or, drop, Bool, true, false, cond, ◌&&◌, refl, sym, ◌∙◌, ap, subst, arith, add-one, drop-cons, drop_of_length-le, nat_eq, eq-eqb, ne_eqb, lt-ltb, le-ltb, ◌⊎◌, inl, inr}
use Rattle.std.specs.List.{sum}
use Rattle.std.proofs.lemmas.Bool.{cases_lt, eqb-true}
use Rattle.std.proofs.lemmas.Bool.Decides.{eqb_tells}
use Rattle.std.proofs.lemmas.Grind.{pow_more}
use Rattle.std.proofs.lemmas.List.{length-drop}
use Rattle.std.proofs.lemmas.List.Sums.{sum_by-cons}
use Rattle.std.proofs.Math.Nat.{mul-div_cancel, mul-le-mul_left, mul-le-mul_right, one-le-pow, pow-le-pow_right}
use Rattle.weights.specs.Grouped.{fits}
use Rattle.weights.proofs.ChoiceLists.{IsChoice}
use Rattle.sorted_tables.specs.GatheredChoices.{is_gathered}
use Rattle.sorted_tables.specs.SortedSteps.{gathered_count, run, run_from, stands_again}
use Rattle.sorted_tables.proofs.GatheredForms.{Rise, rise-drop, risen-gathered}
use Rattle.sorted_tables.proofs.GatheredClasses.{alike, gathered-step, number_gathered, run-within}

-- how many rows from the first on have its size and get as much
abbrev pub alike_from : List ℕ → List ℕ → ℕ
alike_from [] x = 0
alike_from (q ∷ rs) [] = 0
alike_from (q ∷ rs) (a ∷ x) = alike q a rs x + 1

pub run-long : (r : List ℕ) → run_from r ≤ length r
run-long [] = omega arith
run-long (q ∷ rs) = omega (arith, run-within q rs)

pub alike-long : (r x : List ℕ) → alike_from r x ≤ length r
alike-long [] x = omega arith
alike-long (q ∷ rs) [] = omega arith
alike-long (q ∷ rs) (a ∷ x) = by q a rs x
  where
    by : (q a : ℕ) (rs x : List ℕ) → alike q a rs x + 1 ≤ suc (length rs)
    by q a [] x = omega arith
    by q a (s ∷ rs) [] = omega arith
    by q a (s ∷ rs) (b ∷ x) = elim (nat_eq s q && nat_eq a b) as (λ t. cond t (suc (alike q a rs x)) 0 + 1 ≤ suc (suc (length rs))) [ true ↦ omega (arith, by q a rs x) | false ↦ omega arith ]

run-next : (q s : ℕ) (rs : List ℕ) → run q (s ∷ rs) + 1 ≡ cond (nat_eq s q) (run_from (s ∷ rs) + 1) 1
run-next q s rs = by (nat_eq s q) refl
  where
    by : (t : Bool) → nat_eq s q ≡ t → cond t (suc (run q rs)) 0 + 1 ≡ cond t ((run s rs + 1) + 1) 1
    by true e = rw (eqb-true s q e) (omega arith)
    by false e = refl

pub run-at : (r : List ℕ) (j : ℕ) → j < length r → run_from (drop j r) ≡ cond (stands_again r j) (run_from (drop (j + 1) r) + 1) 1
run-at r j h =
    let split : drop j r ≡ get_or r j 0 ∷ drop (j + 1) r = rw add-one (drop-cons r j 0 h) in
    ap run_from split ∙ elim (cases_lt (j + 1) (length r)) [
      | inl l ↦
          let next : drop (j + 1) r ≡ get_or r (j + 1) 0 ∷ drop (suc (j + 1)) r = drop-cons r (j + 1) 0 l in
          ap (λ rs. run (get_or r j 0) rs + 1) next
          ∙ run-next (get_or r j 0) (get_or r (j + 1) 0) (drop (suc (j + 1)) r)
          ∙ ap (λ rs. cond (nat_eq (get_or r (j + 1) 0) (get_or r j 0)) (run_from rs + 1) 1) (sym next)
          ∙ ap (λ b. cond (b && nat_eq (get_or r (j + 1) 0) (get_or r j 0)) (run_from (drop (j + 1) r) + 1) 1) (sym (lt-ltb (j + 1) (length r) l))
      | inr l ↦
          ap (λ rs. run (get_or r j 0) rs + 1) (drop_of_length-le r {i = j + 1} l)
          ∙ ap (λ b. cond (b && nat_eq (get_or r (j + 1) 0) (get_or r j 0)) (run_from (drop (j + 1) r) + 1) 1) (sym (le-ltb (j + 1) (length r) l))
    ]

alike-next : (q s a b : ℕ) (rs x : List ℕ) → alike q a (s ∷ rs) (b ∷ x) + 1 ≡ cond (nat_eq s q && nat_eq b a) (alike_from (s ∷ rs) (b ∷ x) + 1) 1
alike-next q s a b rs x = by (nat_eq s q) refl (eqb_tells a b)
  where
    by : (t : Bool) → nat_eq s q ≡ t → ((nat_eq a b ≡ true) × (a ≡ b)) ⊎ ((nat_eq a b ≡ false) × (a ≡ b → ⊥)) → cond (t && nat_eq a b) (suc (alike q a rs x)) 0 + 1 ≡ cond (t && nat_eq b a) ((alike s b rs x + 1) + 1) 1
    by false e h = refl
    by true e (inl h) = rw (h.0, eq-eqb b a (sym h.1), eqb-true s q e, h.1) (omega arith)
    by true e (inr h) = rw (h.0, ne_eqb b a (λ f. h.1 (sym f))) refl

pub alike-at : (r x : List ℕ) (j : ℕ) → length x ≡ length r → j < length r → alike_from (drop j r) (drop j x) ≡ cond (stands_again r j && stands_again x j) (alike_from (drop (j + 1) r) (drop (j + 1) x) + 1) 1
alike-at r x j long h =
    let rows : drop j r ≡ get_or r j 0 ∷ drop (j + 1) r = rw add-one (drop-cons r j 0 h) in
    let counts : drop j x ≡ get_or x j 0 ∷ drop (j + 1) x = rw add-one (drop-cons x j 0 (omega (arith, long, h))) in
    ap (λ rs. alike_from rs (drop j x)) rows ∙ ap (alike_from (get_or r j 0 ∷ drop (j + 1) r)) counts ∙ elim (cases_lt (j + 1) (length r)) [
      | inl l ↦
          let m : j + 1 < length x = omega (arith, long, l) in
          let next : drop (j + 1) r ≡ get_or r (j + 1) 0 ∷ drop (suc (j + 1)) r = drop-cons r (j + 1) 0 l in
          let next_count : drop (j + 1) x ≡ get_or x (j + 1) 0 ∷ drop (suc (j + 1)) x = drop-cons x (j + 1) 0 m in
          rw (lt-ltb (j + 1) (length r) l, lt-ltb (j + 1) (length x) m, next, next_count) (alike-next (get_or r j 0) (get_or r (j + 1) 0) (get_or x j 0) (get_or x (j + 1) 0) (drop (suc (j + 1)) r) (drop (suc (j + 1)) x))
      | inr l ↦
          ap (λ rs. alike (get_or r j 0) (get_or x j 0) rs (drop (j + 1) x) + 1) (drop_of_length-le r {i = j + 1} l)
          ∙ ap (λ b. cond ((b && nat_eq (get_or r (j + 1) 0) (get_or r j 0)) && stands_again x j) (alike_from (drop (j + 1) r) (drop (j + 1) x) + 1) 1) (sym (le-ltb (j + 1) (length r) l))
    ]

-- one row more in front

pub count-at : (r x : List ℕ) (j : ℕ) → length x ≡ length r → fits x r ≡ true → Rise r x → j < length r
    → gathered_count (drop j r) (drop j x) * alike_from (drop j r) (drop j x) ≡ gathered_count (drop (j + 1) r) (drop (j + 1) x) * run_from (drop j r)
count-at r x j long f h b =
    let rows : drop j r ≡ get_or r j 0 ∷ drop (j + 1) r = rw add-one (drop-cons r j 0 b) in
    let counts : drop j x ≡ get_or x j 0 ∷ drop (j + 1) x = rw add-one (drop-cons x j 0 (omega (arith, long, b))) in
    let all : sum (get_or x j 0 ∷ drop (j + 1) x) ≡ get_or x j 0 + sum (drop (j + 1) x) = sum_by-cons (λ v. v) (get_or x j 0) (drop (j + 1) x) in
    let most : get_or x j 0 ≤ get_or r j 0 = get-within r x j f in
    let rest : sum (get_or x j 0 ∷ drop (j + 1) x) - get_or x j 0 ≡ sum (drop (j + 1) x) = omega (arith, all) in
    let rises : Rise (get_or r j 0 ∷ drop (j + 1) r) (get_or x j 0 ∷ drop (j + 1) x) = subst (λ rs. Rise rs (get_or x j 0 ∷ drop (j + 1) x)) rows (subst (Rise (drop j r)) counts (rise-drop j r x long h)) in
    let step : gathered_count (get_or r j 0 ∷ drop (j + 1) r) (get_or x j 0 ∷ drop (j + 1) x) * (alike (get_or r j 0) (get_or x j 0) (drop (j + 1) r) (drop (j + 1) x) + 1) ≡ number_gathered (sum (get_or x j 0 ∷ drop (j + 1) x) - get_or x j 0) (drop (j + 1) r) (drop (j + 1) x) * (run (get_or r j 0) (drop (j + 1) r) + 1) =
    gathered-step (sum (get_or x j 0 ∷ drop (j + 1) x)) (get_or r j 0) (get_or x j 0) (drop (j + 1) r) (drop (j + 1) x) (omega (arith, all, most)) (omega (arith, long, length-drop {A = ℕ})) rises in
    rw (rows, counts) (step ∙ ap (λ n. number_gathered n (drop (j + 1) r) (drop (j + 1) x) * (run (get_or r j 0) (drop (j + 1) r) + 1)) rest)

-- what is found of the rows from a place on
pub record IsCounted (r x : List ℕ) (i orders alike_orders equal alike_rows : ℕ) : Type 0 where
  pub long : length x ≡ length r
  pub short : length r ≤ 8
  pub fitting : fits x r ≡ true
  pub rises : Rise r x
  pub within : i ≤ length r
  pub orders_are : orders ≡ gathered_count (drop i r) (drop i x) * alike_orders
  pub few : orders * 8 ^ i ≤ 8 ^ 8
  pub alike_few : alike_orders * 8 ^ i ≤ 8 ^ 8
  pub some : 0 < alike_orders
  pub equal_is : equal ≡ run_from (drop i r)
  pub equal_few : equal ≤ 8
  pub alike_is : alike_rows ≡ alike_from (drop i r) (drop i x)
  pub alike_rows_few : alike_rows ≤ 8

pub counted-first : {c : ℕ} {r x : List ℕ} → IsChoice c r x → is_gathered r x ≡ true → length r ≤ 8 → IsCounted r x (length x) 1 1 0 0
counted-first {r = r} {x = x} o g short =
    let rows : drop (length x) r ≡ [] = drop_of_length-le r {i = length x} (omega (arith, o.long)) in
    let counts : drop (length x) x ≡ [] = drop_of_length-le x {i = length x} (omega arith) in
    let power : 8 ^ length x ≤ 8 ^ 8 = pow-le-pow_right (omega arith) {i = length x} {j = 8} (omega (arith, o.long, short)) in
    record {
      long = o.long;
      short = short;
      fitting = o.fitting;
      rises = risen-gathered r x o.long g;
      within = omega (arith, o.long);
      orders_are = rw (rows, counts) refl;
      few = omega (arith, power);
      alike_few = omega (arith, power);
      some = omega arith;
      equal_is = rw rows refl;
      equal_few = omega arith;
      alike_is = rw rows refl;
      alike_rows_few = omega arith;
    }

-- a product with one more factor of at most 8
product-few : (n m i : ℕ) → m ≤ 8 → 0 < i → n * 8 ^ i ≤ 8 ^ 8 → (n * m) * 8 ^ (i - 1) ≤ 8 ^ 8
product-few n m i few some h =
    let back : (i - 1) + 1 ≡ i = omega (arith, some) in
    let power : 8 ^ i ≡ 8 ^ (i - 1) * 8 = ap (λ n. 8 ^ n) (sym back) ∙ pow_more 8 (i - 1) in
    let all : (n * m) * 8 ^ (i - 1) ≤ (n * 8) * 8 ^ (i - 1) = mul-le-mul_right (8 ^ (i - 1)) (mul-le-mul_left n few) in
    let same : (n * 8) * 8 ^ (i - 1) ≡ n * (8 ^ (i - 1) * 8) = grind arith in
    omega (arith, all, same, subst (λ p. n * p ≤ 8 ^ 8) power h)

product-fits : (n m i : ℕ) → (n * m) * 8 ^ i ≤ 8 ^ 8 → n * m ≤ 8 ^ 8
product-fits n m i few = let wide : (n * m) * 1 ≤ (n * m) * 8 ^ i = mul-le-mul_left (n * m) (one-le-pow i 8 (omega arith)) in omega (arith, wide, few)

-- with one row more
pub record IsCountedOn (r x : List ℕ) (i orders alike_orders equal alike_rows : ℕ) : Type 0 where
  pub next : IsCounted r x i orders alike_orders equal alike_rows
  pub orders_fit : orders ≤ 8 ^ 8
  pub alike_orders_fit : alike_orders ≤ 8 ^ 8

pub counted-step : {r x : List ℕ} {i orders alike_orders equal alike_rows more same : ℕ} {again both : Bool} → IsCounted r x i orders alike_orders equal alike_rows → 0 < i → again ≡ stands_again r (i - 1) → both ≡ (stands_again r (i - 1) && stands_again x (i - 1)) → more ≡ cond again (equal + 1) 1 → same ≡ cond both (alike_rows + 1) 1
    → IsCountedOn r x (i - 1) (orders * more) (alike_orders * same) more same
counted-step {r = r} {x = x} {i = i} {orders = orders} {alike_orders = alike_orders} {equal = equal} {alike_rows = alike_rows} {more = more} {same = same} {both = both} k i_some again_is both_is more_is same_is =
    let back : (i - 1) + 1 ≡ i = omega (arith, i_some) in
    let before : i - 1 < length r = omega (arith, i_some, k.within) in
    let more-rows : more ≡ run_from (drop (i - 1) r) =
    more_is
    ∙ ap (λ t. cond t (equal + 1) 1) again_is
    ∙ ap (λ n. cond (stands_again r (i - 1)) (n + 1) 1) (k.equal_is ∙ ap (λ n. run_from (drop n r)) (sym back))
    ∙ sym (run-at r (i - 1) before) in
    let same-rows : same ≡ alike_from (drop (i - 1) r) (drop (i - 1) x) =
    same_is
    ∙ ap (λ t. cond t (alike_rows + 1) 1) both_is
    ∙ ap (λ n. cond (stands_again r (i - 1) && stands_again x (i - 1)) (n + 1) 1) (k.alike_is ∙ ap (λ n. alike_from (drop n r) (drop n x)) (sym back))
    ∙ sym (alike-at r x (i - 1) k.long before) in
    let step : gathered_count (drop (i - 1) r) (drop (i - 1) x) * same ≡ gathered_count (drop i r) (drop i x) * more =
    ap (λ n. gathered_count (drop (i - 1) r) (drop (i - 1) x) * n) same-rows
    ∙ count-at r x (i - 1) k.long k.fitting k.rises before
    ∙ ap (λ n. gathered_count (drop n r) (drop n x) * run_from (drop (i - 1) r)) back
    ∙ ap (λ n. gathered_count (drop i r) (drop i x) * n) (sym more-rows) in
    let equal_few : more ≤ 8 = omega (arith, more-rows, run-long (drop (i - 1) r), k.short, length-drop {A = ℕ}) in
    let alike_rows_few : same ≤ 8 = omega (arith, same-rows, alike-long (drop (i - 1) r) (drop (i - 1) x), k.short, length-drop {A = ℕ}) in
    let few = product-few orders more i equal_few i_some k.few in
    let alike_few = product-few alike_orders same i alike_rows_few i_some k.alike_few in
    record {
      orders_fit = product-fits orders more (i - 1) few;
      alike_orders_fit = product-fits alike_orders same (i - 1) alike_few;
      next = record {
        long = k.long;
        short = k.short;
        fitting = k.fitting;
        rises = k.rises;
        within = omega (arith, k.within);
        orders_are = ap (λ n. n * more) k.orders_are ∙ turned (gathered_count (drop i r) (drop i x)) alike_orders more (gathered_count (drop (i - 1) r) (drop (i - 1) x)) same step;
        few = few;
        alike_few = alike_few;
        some = product-some alike_orders same k.some (rw same_is (some both));
        equal_is = more-rows;
        equal_few = equal_few;
        alike_is = same-rows;
        alike_rows_few = alike_rows_few;
      };
    }
  where
    turned : (g n m h s : ℕ) → h * s ≡ g * m → (g * n) * m ≡ h * (n * s)
    turned g n m h s e =
        let first : (g * n) * m ≡ (g * m) * n = grind arith in
        let last : (h * s) * n ≡ h * (n * s) = grind arith in
        first ∙ ap (λ v. v * n) (sym e) ∙ last

    product-some : (n m : ℕ) → 0 < n → 0 < m → 0 < n * m
    product-some n m p q = grind (arith, p, q)

    some : (t : Bool) → 0 < cond t (alike_rows + 1) 1
    some true = omega arith
    some false = omega arith

-- a row that has not the size of the next one
pub counted-apart : {r x : List ℕ} {i orders alike_orders equal alike_rows : ℕ} → IsCounted r x i orders alike_orders equal alike_rows → 0 < i → false ≡ stands_again r (i - 1) → IsCounted r x (i - 1) orders alike_orders 1 1
counted-apart {r = r} {x = x} {i = i} {orders = orders} {alike_orders = alike_orders} k some apart =
    rw (mul-one orders, mul-one alike_orders) at (counted-step k some apart (ap (λ t. t && stands_again x (i - 1)) apart) refl refl).next

-- all rows
pub counted-all : {r x : List ℕ} {i orders alike_orders equal alike_rows : ℕ} → IsCounted r x i orders alike_orders equal alike_rows → i ≡ 0 → orders / alike_orders ≡ gathered_count r x
counted-all {r = r} {x = x} {alike_orders = alike_orders} k start = ap (λ n. n / alike_orders) (rw start at k.orders_are) ∙ mul-div_cancel (gathered_count r x) k.some
