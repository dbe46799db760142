-- The interval of a sum of products narrows along each choice.
use Rattle.std.proofs.Common.{◌≡◌, ℕ, zero, suc, ◌+◌, ◌-◌, ◌≤◌, List, [], ◌∷◌, ◌++◌, length, true, refl, sym, ◌∙◌, ap, subst, arith, nat_le}
use Rattle.std.specs.Prelude.{ℤ, pos, negsuc, ◌+ℤ◌, ◌-ℤ◌, ◌*ℤ◌, ◌≤ℤ◌, replicate}
use Rattle.std.specs.List.{sum}
use Rattle.std.proofs.Math.IntN.{*ℤ_comm, zero-*ℤ, *ℤ-zero}
use Rattle.std.proofs.lemmas.Bool.{leb-true}
use Rattle.std.proofs.lemmas.Int.{ints}
use Rattle.std.proofs.lemmas.List.Sums.{sum_by-cons}
use Rattle.weights.specs.Grouped.{fits, minus}
use Rattle.weights.proofs.Sized.{sum-minus, first_and}
use Rattle.later_scores.specs.LaterSums.{total_score, part_sum}
use Rattle.later_scores.specs.LaterSteps.{better_of}
use Rattle.later_scores.specs.declared.ends.End.{End}
use Rattle.later_scores.specs.declared.ends.End.TheVariants.{Least, Greatest}
use Rattle.later_scores.proofs.LaterArcs.{Nearer, more-times, part-arc, part-none, total-block}
use Rattle.label_network.specs.Linear.{row_sum}
use Rattle.label_network.specs.LinearSteps.{steps_by, added_by, least_added, greatest_added}
use Rattle.label_network.proofs.Climbing.{RowsClimb, Climbs}
use Rattle.completion_bounds.proofs.Products.{distribute, distribute_left}

-- products of three, each with one of the factors moved
pub scale : (d a b : ℤ) → pos 0 ≤ℤ d → a ≤ℤ b → (d *ℤ a) ≤ℤ (d *ℤ b)
scale (negsuc d) a b h e = absurd (omega (arith, ints, h))
scale (pos zero) a b h e = rw (zero-*ℤ a, zero-*ℤ b) (omega (arith, ints))
scale (pos (suc d)) a b h e = rw (more-times d a, more-times d b) (omega (arith, ints, e, scale (pos d) a b (omega (arith, ints)) e))

assoc-pos : (k : ℕ) (d v : ℤ) → (pos k *ℤ d) *ℤ v ≡ pos k *ℤ (d *ℤ v)
assoc-pos zero d v = rw (zero-*ℤ d, zero-*ℤ v, zero-*ℤ (d *ℤ v)) refl
assoc-pos (suc k) d v = rw (more-times k d, more-times k (d *ℤ v), distribute_left (pos k *ℤ d) d v, assoc-pos k d v) refl

-- the scores of the rows taken, step by step
abbrev row_steps : ℤ → List ℤ → List ℕ → ℤ
row_steps u [] xs = pos 0
row_steps u (w ∷ us) [] = pos 0
row_steps u (w ∷ us) (x ∷ xs) = (pos (sum (x ∷ xs)) *ℤ (w -ℤ u)) +ℤ row_steps w us xs

row-steps : (u : ℤ) (us : List ℤ) (xs : List ℕ) → length us ≡ length xs → row_sum us xs ≡ (pos (sum xs) *ℤ u) +ℤ row_steps u us xs
row-steps u [] [] e = rw (zero-*ℤ u) refl
row-steps u [] (x ∷ xs) e = absurd (omega (arith, e))
row-steps u (w ∷ us) [] e = absurd (omega (arith, e))
row-steps u (w ∷ us) (x ∷ xs) e =
    let both : pos (sum (x ∷ xs)) *ℤ w ≡ (pos x *ℤ w) +ℤ (pos (sum xs) *ℤ w) = ap (λ n. n *ℤ w) (ap pos (sum_by-cons (λ v. v) x xs)) ∙ distribute_left (pos x) (pos (sum xs)) w in
    let apart : pos (sum (x ∷ xs)) *ℤ ((w -ℤ u) +ℤ u) ≡ (pos (sum (x ∷ xs)) *ℤ (w -ℤ u)) +ℤ (pos (sum (x ∷ xs)) *ℤ u) = distribute (pos (sum (x ∷ xs))) (w -ℤ u) u in
    let back : (w -ℤ u) +ℤ u ≡ w = omega (arith, ints) in
    let again : pos (sum (x ∷ xs)) *ℤ w ≡ (pos (sum (x ∷ xs)) *ℤ (w -ℤ u)) +ℤ (pos (sum (x ∷ xs)) *ℤ u) = ap (λ n. pos (sum (x ∷ xs)) *ℤ n) (sym back) ∙ apart in
    joined (pos x *ℤ w) (row_sum us xs) (pos (sum xs) *ℤ w) (row_steps w us xs) (pos (sum (x ∷ xs)) *ℤ w) (pos (sum (x ∷ xs)) *ℤ (w -ℤ u)) (pos (sum (x ∷ xs)) *ℤ u) (row-steps w us xs (omega (arith, e))) both again
  where
    joined : (a s b t c d f : ℤ) → s ≡ b +ℤ t → c ≡ a +ℤ b → c ≡ d +ℤ f → a +ℤ s ≡ f +ℤ (d +ℤ t)
    joined a s b t c d f i j k = omega (arith, ints, i, j, k)

-- one step: a sum times the step, before and after
near-times : (e : End) (d a b : ℤ) → pos 0 ≤ℤ d → Nearer e a b → Nearer e (d *ℤ a) (d *ℤ b)
near-times Least d a b h n = scale d a b h n
near-times Greatest d a b h n = scale d b a h n

one-step : (e : End) (d v a b : ℤ) (k : ℕ) → pos 0 ≤ℤ d → Nearer e a ((pos k *ℤ v) +ℤ b) → Nearer e (d *ℤ a) (((pos k *ℤ d) *ℤ v) +ℤ (d *ℤ b))
one-step e d v a b k h n =
    let moved : d *ℤ (pos k *ℤ v) ≡ (pos k *ℤ d) *ℤ v = *ℤ_comm d (pos k *ℤ v) ∙ assoc-pos k v d ∙ ap (λ n. pos k *ℤ n) (*ℤ_comm v d) ∙ sym (assoc-pos k d v) in
    subst (Nearer e (d *ℤ a)) ((distribute d (pos k *ℤ v) b) ∙ ap (λ n. n +ℤ (d *ℤ b)) moved) (near-times e d a ((pos k *ℤ v) +ℤ b) h n)

near-nothing : (e : End) → Nearer e (pos 0) (pos 0 +ℤ pos 0)
near-nothing Least = omega (arith, ints)
near-nothing Greatest = omega (arith, ints)

near-both : (e : End) (a s p q t w z : ℤ) → Nearer e a (p +ℤ q) → Nearer e s (t +ℤ w) → z ≡ p +ℤ t → Nearer e (a +ℤ s) (z +ℤ (q +ℤ w))
near-both Least a s p q t w z h k i = omega (arith, ints, h, k, i)
near-both Greatest a s p q t w z h k i = omega (arith, ints, h, k, i)

near-moved : (e : End) (s p w a y z : ℤ) → Nearer e s (p +ℤ w) → a +ℤ y ≡ p +ℤ z → Nearer e (z +ℤ s) (a +ℤ (y +ℤ w))
near-moved Least s p w a y z h i = omega (arith, ints, h, i)
near-moved Greatest s p w a y z h i = omega (arith, ints, h, i)

sums-minus : (r x : List ℕ) → fits x r ≡ true → sum (minus r x) ≡ sum r - sum x
sums-minus r x f = omega (arith, sum-minus r x f)

steps-arc : (e : End) (u : ℤ) (us : List ℤ) (r x : List ℕ) (c : ℕ) (v : ℤ) (later : List ℤ) → Climbs u us → fits x r ≡ true → sum x ≤ c → sum r ≤ sum x + length later → Nearer e (steps_by (part_sum (better_of e)) u us r (replicate c v ++ later)) ((row_steps u us x *ℤ v) +ℤ steps_by (part_sum (better_of e)) u us (minus r x) later)
steps-arc e u [] r x c v later a f h l = rw (zero-*ℤ v) (near-nothing e)
steps-arc e u (w ∷ us) [] [] c v later a f h l = rw (zero-*ℤ v) (near-nothing e)
steps-arc e u (w ∷ us) [] (b ∷ x) c v later a f h l = absurd (cc f)
steps-arc e u (w ∷ us) (m ∷ ms) [] c v later a f h l = absurd (cc f)
steps-arc e u (w ∷ us) (m ∷ ms) (b ∷ x) c v later a f h l =
    let both = first_and (nat_le b m) (fits x ms) f in
    let xs : sum (b ∷ x) ≡ b + sum x = sum_by-cons (λ v. v) b x in
    let arc = rw (← (sums-minus (m ∷ ms) (b ∷ x) f)) at (part-arc e c (sum (b ∷ x)) (sum (m ∷ ms)) v later h (omega (arith, (sum-minus (m ∷ ms) (b ∷ x) f))) (omega (arith, l))) in
    let here = one-step e (w -ℤ u) v _ _ (sum (b ∷ x)) (omega (arith, ints, a.0)) arc in
    let rest = steps-arc e w us ms x c v later a.1 both.1 (omega (arith, xs, h)) (omega (arith, xs, (sum_by-cons (λ v. v) m ms), l, (leb-true b m both.0))) in
    let apart = distribute_left (pos (sum (b ∷ x)) *ℤ (w -ℤ u)) (row_steps w us x) v in
    near-both e _ _ ((pos (sum (b ∷ x)) *ℤ (w -ℤ u)) *ℤ v) ((w -ℤ u) *ℤ part_sum (better_of e) (sum ((m - b) ∷ minus ms x)) later) (row_steps w us x *ℤ v) (steps_by (part_sum (better_of e)) w us (minus ms x) later) _ here rest apart

-- all that the choice adds is in the first row's score and the steps
taken-sum : (u : ℤ) (us : List ℤ) (b : ℕ) (x : List ℕ) (c : ℕ) (v : ℤ) (later : List ℤ) → length us ≡ length x → sum (b ∷ x) ≡ c → (v *ℤ row_sum (u ∷ us) (b ∷ x)) +ℤ (u *ℤ total_score later) ≡ (row_steps u us x *ℤ v) +ℤ (u *ℤ total_score (replicate c v ++ later))
taken-sum u us b x c v later l e =
    let both : pos c *ℤ u ≡ (pos b *ℤ u) +ℤ (pos (sum x) *ℤ u) = ap (λ n. n *ℤ u) (ap pos (sym e ∙ sum_by-cons (λ v. v) b x)) ∙ distribute_left (pos b) (pos (sum x)) u in
    let row : row_sum (u ∷ us) (b ∷ x) ≡ (pos c *ℤ u) +ℤ row_steps u us x = joined (pos b *ℤ u) (row_sum us x) (pos (sum x) *ℤ u) (row_steps u us x) (pos c *ℤ u) (row-steps u us x l) both in
    let two : u *ℤ total_score (replicate c v ++ later) ≡ (u *ℤ (pos c *ℤ v)) +ℤ (u *ℤ total_score later) = ap (λ n. u *ℤ n) (total-block c v later) ∙ distribute u (pos c *ℤ v) (total_score later) in
    let moved : u *ℤ (pos c *ℤ v) ≡ (pos c *ℤ u) *ℤ v = *ℤ_comm u (pos c *ℤ v) ∙ assoc-pos c v u ∙ ap (λ n. pos c *ℤ n) (*ℤ_comm v u) ∙ sym (assoc-pos c u v) in
    last _ _ _ _ _ _ (ap (λ n. v *ℤ n) row ∙ *ℤ_comm v ((pos c *ℤ u) +ℤ row_steps u us x) ∙ distribute_left (pos c *ℤ u) (row_steps u us x) v) two moved
  where
    joined : (a s b t c : ℤ) → s ≡ b +ℤ t → c ≡ a +ℤ b → a +ℤ s ≡ c +ℤ t
    joined a s b t c i j = omega (arith, ints, i, j)

    last : (r k s t m y : ℤ) → r ≡ k +ℤ s → t ≡ m +ℤ y → m ≡ k → r +ℤ y ≡ s +ℤ t
    last r k s t m y i j n = omega (arith, ints, i, j, n)

added-arc : (end : End) (us : List ℤ) (r x : List ℕ) (c : ℕ) (v : ℤ) (later : List ℤ) → RowsClimb us → length us ≡ length r → length x ≡ length r → fits x r ≡ true → sum x ≡ c → sum r ≡ c + length later → Nearer end (added_by (part_sum (better_of end)) us r (replicate c v ++ later)) ((v *ℤ row_sum us x) +ℤ added_by (part_sum (better_of end)) us (minus r x) later)
added-arc end [] r x c v later a l k f e s = rw (*ℤ-zero v) (near-nothing end)
added-arc end (u ∷ us) [] x c v later a l k f e s = absurd (omega (arith, l))
added-arc end (u ∷ us) (m ∷ ms) [] c v later a l k f e s = absurd (omega (arith, k))
added-arc end (u ∷ us) (m ∷ ms) (b ∷ x) c v later a l k f e s =
    let both = first_and (nat_le b m) (fits x ms) f in
    let xs : sum (b ∷ x) ≡ b + sum x = sum_by-cons (λ v. v) b x in
    let steps = steps-arc end u us ms x c v later a both.1 (omega (arith, xs, e)) (omega (arith, xs, (sum_by-cons (λ v. v) m ms), s, e, (leb-true b m both.0))) in
    let taken = taken-sum u us b x c v later (omega (arith, l, k)) e in
    near-moved end _ (row_steps u us x *ℤ v) (steps_by (part_sum (better_of end)) u us (minus ms x) later) (v *ℤ row_sum (u ∷ us) (b ∷ x)) (u *ℤ total_score later) (u *ℤ total_score (replicate c v ++ later)) steps taken

pub least-added : (us : List ℤ) (r x : List ℕ) (c : ℕ) (v : ℤ) (later : List ℤ) → RowsClimb us → length us ≡ length r → length x ≡ length r → fits x r ≡ true → sum x ≡ c → sum r ≡ c + length later → least_added us r (replicate c v ++ later) ≤ℤ ((v *ℤ row_sum us x) +ℤ least_added us (minus r x) later)
least-added = added-arc Least

pub greatest-added : (us : List ℤ) (r x : List ℕ) (c : ℕ) (v : ℤ) (later : List ℤ) → RowsClimb us → length us ≡ length r → length x ≡ length r → fits x r ≡ true → sum x ≡ c → sum r ≡ c + length later → ((v *ℤ row_sum us x) +ℤ greatest_added us (minus r x) later) ≤ℤ greatest_added us r (replicate c v ++ later)
greatest-added = added-arc Greatest

steps-none : (better : ℤ → ℤ → ℤ) (u : ℤ) (us : List ℤ) (ms : List ℕ) → steps_by (part_sum better) u us ms [] ≡ pos 0
steps-none better u [] ms = refl
steps-none better u (w ∷ us) [] = refl
steps-none better u (w ∷ us) (m ∷ ms) = rw (part-none better (sum (m ∷ ms)), *ℤ-zero (w -ℤ u), steps-none better w us ms) refl
