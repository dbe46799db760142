-- The least and the greatest pairing in order, by the sums of the least and the greatest later scores.
use Rattle.std.proofs.Common.{◌≡◌, ℕ, zero, suc, ◌+◌, ◌-◌, ◌≤◌, List, [], ◌∷◌, ◌++◌, length, take, drop, refl, sym, ◌∙◌, ap, arith, length-drop, drop_of_length-le}
use Rattle.std.specs.Prelude.{ℤ, pos, ◌+ℤ◌, ◌-ℤ◌, ◌*ℤ◌, replicate, reverse}
use Rattle.std.specs.List.{sum}
use Rattle.std.proofs.Math.IntN.{zero-*ℤ, *ℤ-zero}
use Rattle.std.proofs.lemmas.Int.{ints}
use Rattle.std.proofs.lemmas.List.{length-reverse, reverse-append, drop-append-le, drop-drop}
use Rattle.std.proofs.lemmas.List.Sums.{sum_by-cons}
use Rattle.later_scores.specs.LaterSums.{total_score, subjects, least_sum, greatest_sum}
use Rattle.label_network.specs.LinearSteps.{steps_by, least_added, greatest_added}
use Rattle.completion_bounds.specs.Pairings.{paired}
use Rattle.label_network.proofs.Sorting.{sort_up, length-sort, total-sort, total-parts, least_is, greatest_is}
use Rattle.completion_bounds.proofs.Products.{distribute, distribute_left}

-- the rest of a list from each row on, each with the step of that row
abbrev tails : ℤ → List ℤ → List ℕ → List ℤ → ℤ
tails u [] ms ys = pos 0
tails u (w ∷ us) [] ys = pos 0
tails u (w ∷ us) (m ∷ ms) ys = ((w -ℤ u) *ℤ total_score ys) +ℤ tails w us ms (drop m ys)

paired-block : (m : ℕ) (w : ℤ) (us ys : List ℤ) → m ≤ length ys → paired (replicate m w ++ us) ys ≡ (w *ℤ total_score (take m ys)) +ℤ paired us (drop m ys)
paired-block zero w us ys h = rw (*ℤ-zero w) (none (paired us ys))
  where
    none : (p : ℤ) → p ≡ pos 0 +ℤ p
    none p = omega (arith, ints)
paired-block (suc m) w us [] h = absurd (omega (arith, h))
paired-block (suc m) w us (y ∷ ys) h = grouped _ _ _ _ _ (paired-block m w us ys (omega (arith, h))) (distribute w y (total_score (take m ys)))
  where
    grouped : (a b c d t : ℤ) → t ≡ b +ℤ c → d ≡ a +ℤ b → a +ℤ t ≡ d +ℤ c
    grouped a b c d t e f = omega (arith, ints, e, f)

pub by-tails : (u : ℤ) (us : List ℤ) (ms : List ℕ) (ys : List ℤ) → length us ≡ length ms → length ys ≡ sum ms → paired (subjects us ms) ys ≡ (u *ℤ total_score ys) +ℤ tails u us ms ys
by-tails u [] [] [] l e = rw (*ℤ-zero u) refl
by-tails u [] [] (y ∷ ys) l e = absurd (omega (arith, e))
by-tails u [] (m ∷ ms) ys l e = absurd (omega (arith, l))
by-tails u (w ∷ us) [] ys l e = absurd (omega (arith, l))
by-tails u (w ∷ us) (m ∷ ms) ys l e =
    let whole : sum (m ∷ ms) ≡ m + sum ms = sum_by-cons (λ v. v) m ms in
    let here = paired-block m w (subjects us ms) ys (omega (arith, whole, e)) in
    let rest = by-tails w us ms (drop m ys) (omega (arith, l)) (omega (arith, whole, e, length-drop {A = ℤ})) in
    let three = distribute_left (w -ℤ u) u (total_score ys) in
    let four : (w -ℤ u) +ℤ u ≡ w = omega (arith, ints) in
    last _ _ _ _ _ _ _ _ _ here rest (distribute w (total_score (take m ys)) (total_score (drop m ys))) (ap (λ t. w *ℤ t) (total-parts m ys)) three (ap (λ n. n *ℤ total_score ys) four)
  where
    last : (p wt q wd t wy wu uy ww : ℤ) {s : ℤ} → p ≡ wt +ℤ q → q ≡ wd +ℤ t → s ≡ wt +ℤ wd → s ≡ wy → ww ≡ wu +ℤ uy → ww ≡ wy → p ≡ uy +ℤ (wu +ℤ t)
    last p wt q wd t wy wu uy ww {s} a b c d e f = omega (arith, ints, a, b, c, d, e, f)

-- the end of an ascending list has the greatest
tails-greatest : (u : ℤ) (us : List ℤ) (ms : List ℕ) (a : ℕ) (later : List ℤ) → a + sum ms ≡ length later → tails u us ms (drop a (sort_up later)) ≡ steps_by greatest_sum u us ms later
tails-greatest u [] ms a later e = refl
tails-greatest u (w ∷ us) [] a later e = refl
tails-greatest u (w ∷ us) (m ∷ ms) a later e =
    let place : length later - sum (m ∷ ms) ≡ a = omega (arith, e) in
    let here : total_score (drop a (sort_up later)) ≡ greatest_sum (sum (m ∷ ms)) later = ap (λ n. total_score (drop n (sort_up later))) (sym place) ∙ sym (greatest_is (sum (m ∷ ms)) later (omega (arith, e))) in
    rw (here, drop-drop m a (sort_up later)) (ap (λ t. ((w -ℤ u) *ℤ greatest_sum (sum (m ∷ ms)) later) +ℤ t) (tails-greatest w us ms (a + m) later (omega (arith, e, (sum_by-cons (λ v. v) m ms)))))

total-append : (xs ys : List ℤ) → total_score (xs ++ ys) ≡ total_score xs +ℤ total_score ys
total-append [] ys = plain (total_score ys)
  where
    plain : (t : ℤ) → t ≡ pos 0 +ℤ t
    plain t = omega (arith, ints)
total-append (x ∷ xs) ys = ap (λ t. x +ℤ t) (total-append xs ys) ∙ grouped x (total_score xs) (total_score ys)
  where
    grouped : (a b c : ℤ) → a +ℤ (b +ℤ c) ≡ (a +ℤ b) +ℤ c
    grouped a b c = omega (arith, ints)

-- the end of a list turned round is its front
drop-turned : (a i : ℕ) (zs : List ℤ) → a + i ≡ length zs → total_score (drop a (reverse zs)) ≡ total_score (take i zs)
drop-turned a zero zs e = let none : drop a (reverse zs) ≡ [] = drop_of_length-le (reverse zs) {i = a} (omega (arith, e, length-reverse zs)) in rw none refl
drop-turned a (suc i) [] e = absurd (omega (arith, e))
drop-turned a (suc i) (z ∷ zs) e =
    let split : reverse (z ∷ zs) ≡ reverse zs ++ z ∷ [] = reverse-append (z ∷ []) zs in
    let short : a ≤ length (reverse zs) = omega (arith, e, length-reverse zs) in
    ap (λ ys. total_score (drop a ys)) split ∙ ap total_score (drop-append-le a (reverse zs) (z ∷ []) short) ∙ total-append (drop a (reverse zs)) (z ∷ []) ∙ last _ _ z (drop-turned a i zs (omega (arith, e)))
  where
    last : (s t z : ℤ) → s ≡ t → s +ℤ (z +ℤ pos 0) ≡ z +ℤ t
    last s t z e = omega (arith, ints, e)

tails-least : (u : ℤ) (us : List ℤ) (ms : List ℕ) (a : ℕ) (later : List ℤ) → a + sum ms ≡ length later → tails u us ms (drop a (reverse (sort_up later))) ≡ steps_by least_sum u us ms later
tails-least u [] ms a later e = refl
tails-least u (w ∷ us) [] a later e = refl
tails-least u (w ∷ us) (m ∷ ms) a later e =
    let whole : sum (m ∷ ms) ≡ m + sum ms = sum_by-cons (λ v. v) m ms in
    let here : total_score (drop a (reverse (sort_up later))) ≡ least_sum (sum (m ∷ ms)) later = drop-turned a (sum (m ∷ ms)) (sort_up later) (omega (arith, e, length-sort later)) ∙ sym (least_is (sum (m ∷ ms)) later) in
    rw (here, drop-drop m a (reverse (sort_up later))) (ap (λ t. ((w -ℤ u) *ℤ least_sum (sum (m ∷ ms)) later) +ℤ t) (tails-least w us ms (a + m) later (omega (arith, e, whole))))

-- the sum that can be added is the pairing of the units in order
pub greatest_pairing_is : (us : List ℤ) (ms : List ℕ) (later : List ℤ) → length us ≡ length ms → sum ms ≡ length later → greatest_added us ms later ≡ paired (subjects us ms) (sort_up later)
greatest_pairing_is [] [] later l e = refl
greatest_pairing_is [] (m ∷ ms) later l e = absurd (omega (arith, l))
greatest_pairing_is (u ∷ us) [] later l e = absurd (omega (arith, l))
greatest_pairing_is (u ∷ us) (m ∷ ms) later l e = the_rest
  where
    whole : sum (m ∷ ms) ≡ m + sum ms
    whole = sum_by-cons (λ v. v) m ms

    tailed : paired (subjects (u ∷ us) (m ∷ ms)) (sort_up later) ≡ (u *ℤ total_score (sort_up later)) +ℤ (((u -ℤ u) *ℤ total_score (sort_up later)) +ℤ tails u us ms (drop m (sort_up later)))
    tailed = by-tails u (u ∷ us) (m ∷ ms) (sort_up later) l (length-sort later ∙ sym e)

    nothing : (u -ℤ u) *ℤ total_score (sort_up later) ≡ pos 0
    nothing = let z : u -ℤ u ≡ pos 0 = omega (arith, ints) in rw (z, zero-*ℤ (total_score (sort_up later))) refl

    joined : (p a n t : ℤ) → p ≡ a +ℤ (n +ℤ t) → n ≡ pos 0 → a +ℤ t ≡ p
    joined p a n t i j = omega (arith, ints, i, j)

    the_rest : greatest_added (u ∷ us) (m ∷ ms) later ≡ paired (subjects (u ∷ us) (m ∷ ms)) (sort_up later)
    the_rest = rw (← total-sort later, ← tails-greatest u us ms m later (omega (arith, whole, e))) (joined _ _ _ _ tailed nothing)

total-turned : (zs : List ℤ) → total_score (reverse zs) ≡ total_score zs
total-turned [] = refl
total-turned (z ∷ zs) = ap total_score (reverse-append (z ∷ []) zs) ∙ total-append (reverse zs) (z ∷ []) ∙ last _ _ z (total-turned zs)
  where
    last : (s t z : ℤ) → s ≡ t → s +ℤ (z +ℤ pos 0) ≡ z +ℤ t
    last s t z e = omega (arith, ints, e)

pub least_pairing_is : (us : List ℤ) (ms : List ℕ) (later : List ℤ) → length us ≡ length ms → sum ms ≡ length later → least_added us ms later ≡ paired (subjects us ms) (reverse (sort_up later))
least_pairing_is [] [] later l e = refl
least_pairing_is [] (m ∷ ms) later l e = absurd (omega (arith, l))
least_pairing_is (u ∷ us) [] later l e = absurd (omega (arith, l))
least_pairing_is (u ∷ us) (m ∷ ms) later l e = the_rest
  where
    whole : sum (m ∷ ms) ≡ m + sum ms
    whole = sum_by-cons (λ v. v) m ms

    tailed : paired (subjects (u ∷ us) (m ∷ ms)) (reverse (sort_up later)) ≡ (u *ℤ total_score (reverse (sort_up later))) +ℤ (((u -ℤ u) *ℤ total_score (reverse (sort_up later))) +ℤ tails u us ms (drop m (reverse (sort_up later))))
    tailed = by-tails u (u ∷ us) (m ∷ ms) (reverse (sort_up later)) l (length-reverse (sort_up later) ∙ length-sort later ∙ sym e)

    nothing : (u -ℤ u) *ℤ total_score (reverse (sort_up later)) ≡ pos 0
    nothing = let z : u -ℤ u ≡ pos 0 = omega (arith, ints) in rw (z, zero-*ℤ (total_score (reverse (sort_up later)))) refl

    same : total_score (reverse (sort_up later)) ≡ total_score later
    same = total-turned (sort_up later) ∙ total-sort later

    joined : (p a n t : ℤ) → p ≡ a +ℤ (n +ℤ t) → n ≡ pos 0 → a +ℤ t ≡ p
    joined p a n t i j = omega (arith, ints, i, j)

    the_rest : least_added (u ∷ us) (m ∷ ms) later ≡ paired (subjects (u ∷ us) (m ∷ ms)) (reverse (sort_up later))
    the_rest = rw (← same, ← tails-least u us ms m later (omega (arith, whole, e))) (joined _ _ _ _ tailed nothing)
