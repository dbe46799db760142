-- Steps of the loops that write choices.
use Rattle.std.proofs.Common.{◌≡◌, ℕ, zero, suc, ◌+◌, ◌-◌, ◌<◌, ◌≤◌, List, [], ◌∷◌, ◌++◌, length, get_or, take, drop, set, min, Some, None, refl, sym, ◌∙◌, ap, arith, lt-ltb, le-ltb, add-one, drop-cons, append_assoc, take-suc-set, true, nat_le}
use Rattle.std.specs.List.{sum, Contains}
use Rattle.std.proofs.lemmas.List.Sums.{sum_by-cons, sum_by-drop_more, sum_by-take-drop}
use Rattle.weights.specs.Grouped.{fits, choices}
use Rattle.label_network.specs.ChoiceOrder.{later_choices}
use Rattle.std.specs.Prelude.{ℤ}
use Rattle.label_network.specs.LabelSteps.{AreSizes, least}
use Rattle.label_network.proofs.ChoiceSteps.{after_or, choice_after, choices_from}
use Rattle.label_network.specs.Meanings.{sizes_in}
use Rattle.weights.proofs.ChoiceLists.{IsChoice}
use Rattle.label_network.proofs.LaterChoices.{next-later}
use Rattle.label_network.proofs.Narrowing.{chosen}
use Rattle.std.proofs.lemmas.List.{take_all, length-drop, length-set, append-nil}
use Rattle.std.proofs.Math.ListN.{drop_of_length-le}
use borrow.Rule.Slice.PartMut.{put_mid}
use Rattle.weights.proofs.Sized.{first_and, sum-minus}

pub fill_step : (sizes xs goal : List ℕ) (i left : ℕ) → i < length sizes → length xs ≡ length sizes → take i xs ++ least left (drop i sizes) ≡ goal → (v w : ℕ) → v ≡ left - sum (drop (i + 1) sizes) → w ≡ min left (sum (drop (i + 1) sizes)) → take (i + 1) (set xs i v) ++ least w (drop (i + 1) sizes) ≡ goal
fill_step sizes xs goal i left h l e v w p q =
    let split : drop i sizes ≡ get_or sizes i 0 ∷ drop (i + 1) sizes = rw add-one (drop-cons sizes i 0 h) in
    let here : least left (drop i sizes) ≡ v ∷ least w (drop (i + 1) sizes) = rw (split, p, q) refl in
    let front : take (i + 1) (set xs i v) ≡ take i xs ++ v ∷ [] = rw add-one (take-suc-set xs i v (omega arith)) in
    rw (front, append_assoc) (rw (← here) e)

pub prefix_next : (i : ℕ) (r x y : List ℕ) → i ≤ length x → length x ≡ length r → choice_after (sum (drop i x)) (drop i r) (drop i x) ≡ Some y → choice_after (sum x) r x ≡ Some (take i x ++ y)
prefix_next zero r x y h l e = e
prefix_next (suc i) r [] y h l e = absurd (omega arith)
prefix_next (suc i) [] (a ∷ x) y h l e = absurd (omega arith)
prefix_next (suc i) (r ∷ rs) (a ∷ x) y h l e =
    let all : sum (a ∷ x) - a ≡ sum x = omega (arith, sum_by-cons (λ v. v) a x) in
    ap (λ c. after_or (choice_after c rs x) a (sum (a ∷ x)) r rs) all
    ∙ ap (λ o. after_or o a (sum (a ∷ x)) r rs) (prefix_next i rs x y (omega arith) (omega arith) e)

-- one place further to the front
pub place_next : (i : ℕ) (r x : List ℕ) → i < length x → length x ≡ length r → choice_after (sum (drop (i + 1) x)) (drop (i + 1) r) (drop (i + 1) x) ≡ None → choice_after (sum (drop i x)) (drop i r) (drop i x) ≡ after_or None (get_or x i 0) (sum (drop i x)) (get_or r i 0) (drop (i + 1) r)
place_next i r x h l e =
    let xs : drop i x ≡ get_or x i 0 ∷ drop (i + 1) x = rw add-one (drop-cons x i 0 h) in
    let rs : drop i r ≡ get_or r i 0 ∷ drop (i + 1) r = rw add-one (drop-cons r i 0 (omega arith)) in
    let all : sum (drop i x) - get_or x i 0 ≡ sum (drop (i + 1) x) = omega (arith, sum_by-drop_more (λ v. v) x i 0 h) in
    ap (λ ys. choice_after (sum (drop i x)) (drop i r) ys) xs
    ∙ ap (λ ys. choice_after (sum (drop i x)) ys (get_or x i 0 ∷ drop (i + 1) x)) rs
    ∙ ap (λ c. after_or (choice_after c (drop (i + 1) r) (drop (i + 1) x)) (get_or x i 0) (sum (drop i x)) (get_or r i 0) (drop (i + 1) r)) all
    ∙ ap (λ o. after_or o (get_or x i 0) (sum (drop i x)) (get_or r i 0) (drop (i + 1) r)) e

-- no further one
pub last_choice : (c : ℕ) (r x : List ℕ) → Contains (choices c r) x → choice_after (sum x) r x ≡ None → later_choices c r x ≡ []
last_choice c r x a e =
    let o : IsChoice c r x = chosen c r x a in
    next-later c r x o ∙ ap (choices_from c r) (ap (λ n. choice_after n r x) (sym o.whole) ∙ e)

-- the one that changes place i
pub changed : (c : ℕ) (r x : List ℕ) (i : ℕ) → Contains (choices c r) x → i < length x → choice_after (sum (drop (i + 1) x)) (drop (i + 1) r) (drop (i + 1) x) ≡ None → get_or x i 0 < sum (drop i x) → get_or x i 0 < get_or r i 0 →
    (y : List ℕ) → y ≡ take i x ++ (get_or x i 0 + 1) ∷ least (sum (drop i x) - (get_or x i 0 + 1)) (drop (i + 1) r) → later_choices c r x ≡ y ∷ later_choices c r y
changed c r x i a h e p q y same =
    let o : IsChoice c r x = chosen c r x a in
    let here : choice_after (sum (drop i x)) (drop i r) (drop i x) ≡ Some ((get_or x i 0 + 1) ∷ least (sum (drop i x) - (get_or x i 0 + 1)) (drop (i + 1) r)) =
    place_next i r x h o.long e ∙ rw (lt-ltb (get_or x i 0) (min (sum (drop i x)) (get_or r i 0)) (omega arith)) refl in
    next-later c r x o
    ∙ ap (choices_from c r) (ap (λ n. choice_after n r x) (sym o.whole) ∙ prefix_next i r x _ (omega arith) o.long here)
    ∙ rw (← same) refl

pub not_here : (i : ℕ) (r x : List ℕ) → i < length x → length x ≡ length r → choice_after (sum (drop (i + 1) x)) (drop (i + 1) r) (drop (i + 1) x) ≡ None → min (sum (drop i x)) (get_or r i 0) ≤ get_or x i 0 → choice_after (sum (drop i x)) (drop i r) (drop i x) ≡ None
not_here i r x h l e p = place_next i r x h l e ∙ rw (le-ltb (get_or x i 0) (min (sum (drop i x)) (get_or r i 0)) p) refl

pub fits-drop : (i : ℕ) (r x : List ℕ) → fits x r ≡ true → sum (drop i x) ≤ sum (drop i r)
fits-drop zero r x f = omega (arith, sum-minus r x f)
fits-drop (suc i) [] [] f = omega arith
fits-drop (suc i) [] (a ∷ x) f = absurd (cc f)
fits-drop (suc i) (r ∷ rs) [] f = absurd (cc f)
fits-drop (suc i) (r ∷ rs) (a ∷ x) f = fits-drop i rs x (first_and (nat_le a r) (fits x rs) f).1

pub drop-whole : (i : ℕ) (x : List ℕ) → sum (drop i x) ≤ sum x
drop-whole i x = omega (arith, sum_by-take-drop (λ v. v) x i)

-- the part from a place on, changed, behind the part before it
pub put_back : (x y : List ℕ) (i : ℕ) (a : ℕ) → i < length x → take (i + 1) (set x i a) ++ y ≡ take i x ++ a ∷ y
put_back x y i a h =
    let front : take (i + 1) (set x i a) ≡ take i x ++ a ∷ [] = rw add-one (take-suc-set x i a h) in
    rw (front, append_assoc) refl

pub take_rest : {X : Type 0} (i : ℕ) (xs : List X) → take (length xs - i) (drop i xs) ≡ drop i xs
take_rest {X = X} i xs = take_all (length xs - i) (drop i xs) (omega (arith, length-drop {A = X}))

-- the sizes of the rows from a place on
pub drop-sizes : (i : ℕ) (zs : List ℤ) → sizes_in (drop i zs) ≡ drop i (sizes_in zs)
drop-sizes zero zs = refl
drop-sizes (suc i) [] = refl
drop-sizes (suc i) (z ∷ zs) = drop-sizes i zs

pub sizes-drop : (i : ℕ) (zs : List ℤ) → AreSizes zs → AreSizes (drop i zs)
sizes-drop zero zs s = s
sizes-drop (suc i) [] s = s
sizes-drop (suc i) (z ∷ zs) s = sizes-drop i zs (record { each = λ j h. s.each (suc j) (omega (arith, h)) })

pub rest-sizes : (i : ℕ) (zs : List ℤ) → sizes_in (take (length zs - i) (drop i zs)) ≡ drop i (sizes_in zs)
rest-sizes i zs = ap sizes_in (take_rest i zs) ∙ drop-sizes i zs

pub put_end : (a : ℕ) (xs ys : List ℕ) → a ≤ length xs → put_mid a (length xs - a) xs ys ≡ take a xs ++ ys
put_end a xs ys h =
    let none : drop (length xs - a) (drop a xs) ≡ [] = drop_of_length-le (drop a xs) {i = length xs - a} (omega (arith, length-drop {A = ℕ})) in
    ap (λ zs. take a xs ++ (ys ++ zs)) none ∙ ap (λ zs. take a xs ++ zs) (append-nil ys)

-- what `next_counts` has written
pub written : (r x new : List ℕ) (j rest : ℕ) → j < length x → rest ≡ sum (drop j x) - (get_or x j 0 + 1) → new ≡ least rest (take (length r - (j + 1)) (drop (j + 1) r)) →
    put_mid (j + 1) (length (set x j (get_or x j 0 + 1)) - (j + 1)) (set x j (get_or x j 0 + 1)) new ≡ take j x ++ (get_or x j 0 + 1) ∷ least (sum (drop j x) - (get_or x j 0 + 1)) (drop (j + 1) r)
written r x new j rest h e n =
    put_end (j + 1) (set x j (get_or x j 0 + 1)) new (omega (arith, length-set x j (get_or x j 0 + 1)))
    ∙ put_back x new j (get_or x j 0 + 1) h
    ∙ ap (λ zs. take j x ++ (get_or x j 0 + 1) ∷ zs) (n ∙ rw (e, take_rest (j + 1) r) refl)
