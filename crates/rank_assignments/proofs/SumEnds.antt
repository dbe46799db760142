-- Between which numbers treatments' sums end: how the ends draw together where a number is given, and the squares of their distances from a centre.
use Rattle.std.proofs.Common.{◌≡◌, ℕ, zero, suc, ◌+◌, ◌-◌, ◌*◌, ◌≤◌, List, [], ◌∷◌, map, length, min, max, replicate, true, false, refl, sym, ◌∙◌, ap, subst, arith, nat_le}
use Rattle.std.specs.Prelude.{pos, ◌≤ℤ◌}
use Rattle.std.specs.List.{sum_by, sum, AllByRecursion}
use Rattle.std.proofs.Math.Nat.{mul-le-mul}
use Rattle.std.proofs.lemmas.Bool.{leb-true}
use Rattle.std.proofs.lemmas.Int.{ints}
use Rattle.std.proofs.lemmas.List.Sums.{sum_by-cons}
use Rattle.weights.specs.Grouped.{fits, minus}
use Rattle.weights.proofs.Sized.{first_and}
use Rattle.label_network.specs.Meanings.{sizes_in}
use Rattle.networks.specs.Distances.{far_square, farthest, near_square, nearest, squared}
use Rattle.networks.proofs.SquaredDistances.{Falls, Rises}
use Rattle.rank_assignments.specs.Assignments.{ahead, before, gained, over_ends}
use Rattle.rank_assignments.specs.declared.assignment.Assignment.{Assignment}
use Rattle.rank_assignments.specs.declared.assignment.Ahead.{Ahead}
use Rattle.rank_assignments.proofs.AssignmentRooms.{AreOnes}
use Rattle.rank_assignments.proofs.UprightSums.{IsMidway}

-- ---- one number is given

pub part-low : (v here a d : ℕ) → (a + d) * min v here ≤ v * a + d * here
part-low v here a d =
    let same_a : a ≤ a = omega arith in
    let same_d : d ≤ d = omega arith in
    let less_v : min v here ≤ v = omega arith in
    let less_here : min v here ≤ here = omega arith in
    let one : a * min v here ≤ a * v = mul-le-mul same_a less_v in
    let two : d * min v here ≤ d * here = mul-le-mul same_d less_here in
    omega (arith, one, two)

pub part-high : (v here a d : ℕ) → v * a + d * here ≤ (a + d) * max v here
part-high v here a d =
    let same_a : a ≤ a = omega arith in
    let same_d : d ≤ d = omega arith in
    let more_v : v ≤ max v here = omega arith in
    let more_here : here ≤ max v here = omega arith in
    let one : a * v ≤ a * max v here = mul-le-mul same_a more_v in
    let two : d * here ≤ d * max v here = mul-le-mul same_d more_here in
    omega (arith, one, two)

-- the ends of one treatment's sum draw together
pub record AreNarrower (low high low' high' : ℕ) : Type 0 where
  pub rises : low ≤ low'
  pub falls : high' ≤ high

pub ends-narrow : (v : Assignment) (z : Ahead) (r a s : ℕ) → a ≤ r
    → AreNarrower (s + r * min v.value z.least + z.later_least) (s + r * max v.value z.most + z.later_most)
    ((s + v.value * a) + (r - a) * z.least + z.later_least) ((s + v.value * a) + (r - a) * z.most + z.later_most)
ends-narrow v z r a s h =
    let parts : r ≡ a + (r - a) = omega (arith, h) in
    let low : r * min v.value z.least ≤ v.value * a + (r - a) * z.least = subst (λ n. n * min v.value z.least ≤ v.value * a + (r - a) * z.least) (sym parts) (part-low v.value z.least a (r - a)) in
    let high : v.value * a + (r - a) * z.most ≤ r * max v.value z.most = subst (λ n. v.value * a + (r - a) * z.most ≤ n * max v.value z.most) (sym parts) (part-high v.value z.most a (r - a)) in
    record { rises = omega (arith, low); falls = omega (arith, high) }

pub ends-rise : (f : ℕ → ℕ → ℕ) → Rises f → (v : Assignment) (z : Ahead) (r c s : List ℕ) → fits c r ≡ true → over_ends f (before false v z) r s ≤ over_ends f z (minus r c) (gained v.value c s)
ends-rise f m v z [] [] s t = omega arith
ends-rise f m v z [] (a ∷ c) s t = absurd (cc t)
ends-rise f m v z (r ∷ rs) [] s t = absurd (cc t)
ends-rise f m v z (r ∷ rs) (a ∷ c) [] t = omega arith
ends-rise f m v z (r ∷ rs) (a ∷ c) (s ∷ ss) t =
    let both = first_and (nat_le a r) (fits c rs) t in
    let n = ends-narrow v z r a s (leb-true a r both.0) in
    omega (arith, m _ _ _ _ n.rises n.falls, ends-rise f m v z rs c ss both.1)

pub ends-fall : (f : ℕ → ℕ → ℕ) → Falls f → (v : Assignment) (z : Ahead) (r c s : List ℕ) → fits c r ≡ true → over_ends f z (minus r c) (gained v.value c s) ≤ over_ends f (before false v z) r s
ends-fall f m v z [] [] s t = omega arith
ends-fall f m v z [] (a ∷ c) s t = absurd (cc t)
ends-fall f m v z (r ∷ rs) [] s t = absurd (cc t)
ends-fall f m v z (r ∷ rs) (a ∷ c) [] t = omega arith
ends-fall f m v z (r ∷ rs) (a ∷ c) (s ∷ ss) t =
    let both = first_and (nat_le a r) (fits c rs) t in
    let n = ends-narrow v z r a s (leb-true a r both.0) in
    omega (arith, m _ _ _ _ n.rises n.falls, ends-fall f m v z rs c ss both.1)

-- the last number of a block
pub ends-closed : (f : ℕ → ℕ → ℕ) (v : Assignment) (z : Ahead) (k : ℕ) (r s : List ℕ) → length r ≡ k → length s ≡ k → over_ends f (before true v z) r s ≡ over_ends f z (replicate k 1) (gained v.value r s)
ends-closed f v z zero [] s e l = refl
ends-closed f v z zero (r ∷ rs) s e l = absurd (omega (arith, e))
ends-closed f v z (suc k) [] s e l = absurd (omega (arith, e))
ends-closed f v z (suc k) (r ∷ rs) [] e l = absurd (omega (arith, l))
ends-closed f v z (suc k) (r ∷ rs) (s ∷ ss) e l =
    let low : s + r * v.value + (z.least + z.later_least) ≡ (s + v.value * r) + 1 * z.least + z.later_least = omega arith in
    let high : s + r * v.value + (z.most + z.later_most) ≡ (s + v.value * r) + 1 * z.most + z.later_most = omega arith in
    ap (λ n. f n (s + r * v.value + (z.most + z.later_most)) + over_ends f (before true v z) rs ss) low
    ∙ ap (λ n. f ((s + v.value * r) + 1 * z.least + z.later_least) n + over_ends f (before true v z) rs ss) high
    ∙ ap (λ n. f ((s + v.value * r) + 1 * z.least + z.later_least) ((s + v.value * r) + 1 * z.most + z.later_most) + n) (ends-closed f v z k rs ss (omega (arith, e)) (omega (arith, l)))

-- none is left to be given
pub ends-none : (f : ℕ → ℕ → ℕ) (k : ℕ) (r s : List ℕ) → length r ≡ length s → over_ends f (ahead k []) r s ≡ sum_by (λ t. f t t) s
ends-none f k [] [] e = refl
ends-none f k [] (s ∷ ss) e = absurd (omega (arith, e))
ends-none f k (r ∷ rs) [] e = absurd (omega (arith, e))
ends-none f k (r ∷ rs) (s ∷ ss) e =
    let same : s + r * 0 + 0 ≡ s = omega arith in
    ap (λ n. f n n + over_ends f (ahead k []) rs ss) same
    ∙ ap (λ n. f s s + n) (ends-none f k rs ss (omega (arith, e)))
    ∙ sym (sum_by-cons (λ t. f t t) s ss)

-- ---- squares of distances

-- they are the same on the other sides of the centre
pub near-midway : (q : ℕ) → IsMidway (near_square q) q
near-midway q low high low' high' a b = (let same : nearest q low' high' ≡ nearest q low high = omega (arith, a, b) in ap squared same)

pub far-midway : (q : ℕ) → IsMidway (far_square q) q
far-midway q low high low' high' a b = (let same : farthest q low' high' ≡ farthest q low high = omega (arith, a, b) in ap squared same)

-- ---- the sums

pub length-gained : (v : ℕ) (c s : List ℕ) → length (gained v c s) ≡ length s
length-gained v [] s = refl
length-gained v (a ∷ c) [] = refl
length-gained v (a ∷ c) (s ∷ ss) = ap suc (length-gained v c ss)

pub up-higher : (t u : ℕ) (s : List ℕ) → t ≤ u → AllByRecursion (λ z. z ≤ t) s → AllByRecursion (λ z. z ≤ u) s
up-higher t u [] h a = tt
up-higher t u (s ∷ ss) h a = (omega (arith, a.0, h), up-higher t u ss h a.1)

pub sum-gained : (v : ℕ) (c s : List ℕ) → length c ≡ length s → sum (gained v c s) ≡ sum s + v * sum c
sum-gained v [] [] e = omega arith
sum-gained v [] (s ∷ ss) e = absurd (omega (arith, e))
sum-gained v (a ∷ c) [] e = absurd (omega (arith, e))
sum-gained v (a ∷ c) (s ∷ ss) e =
    let rest : sum (gained v c ss) ≡ sum ss + v * sum c = sum-gained v c ss (omega (arith, e)) in
    let parts : v * sum (a ∷ c) ≡ v * a + v * sum c = ap (λ n. v * n) (sum_by-cons (λ z. z) a c) ∙ split v a (sum c) in
    omega (arith, sum_by-cons (λ z. z) (s + v * a) (gained v c ss), sum_by-cons (λ z. z) s ss, rest, parts)
  where
    split : (v a b : ℕ) → v * (a + b) ≡ v * a + v * b
    split v a b = grind arith

pub sum-zeros : (k : ℕ) → sum (replicate k 0) ≡ 0
sum-zeros zero = refl
sum-zeros (suc k) = omega (arith, sum_by-cons (λ z. z) 0 (replicate k 0), sum-zeros k)

pub gained-small : (v t : ℕ) (c r s : List ℕ) → v ≤ 16 → fits c r ≡ true → AreOnes r → AllByRecursion (λ z. z ≤ t) s → AllByRecursion (λ z. z ≤ t + 16) (gained v c s)
gained-small v t [] r s w f o a = up-higher t (t + 16) s (omega arith) a
gained-small v t (b ∷ c) [] s w f o a = absurd (cc f)
gained-small v t (b ∷ c) (r ∷ rs) [] w f o a = tt
gained-small v t (b ∷ c) (r ∷ rs) (s ∷ ss) w f o a =
    let both = first_and (nat_le b r) (fits c rs) f in
    let within : b ≤ r = leb-true b r both.0 in
    let one : b ≤ 1 = omega (arith, within, o.0) in
    let part : v * b ≤ 16 * 1 = mul-le-mul w one in
    (omega (arith, part, a.0), gained-small v t c rs ss w both.1 o.1 a.1)

pub zeros-small : (k t : ℕ) → AllByRecursion (λ z. z ≤ t) (replicate k 0)
zeros-small zero t = tt
zeros-small (suc k) t = (omega arith, zeros-small k t)

pub sizes-zeros : (k : ℕ) → sizes_in (replicate k (pos 0)) ≡ replicate k 0
sizes-zeros zero = refl
sizes-zeros (suc k) = ap (λ s. 0 ∷ s) (sizes-zeros k)

pub pos-zeros : (k : ℕ) → map pos (replicate k 0) ≡ replicate k (pos 0)
pos-zeros zero = refl
pos-zeros (suc k) = ap (λ s. pos 0 ∷ s) (pos-zeros k)

pub pos-rise : (a b : ℕ) → a ≤ b → pos a ≤ℤ pos b
pos-rise a b h = omega (arith, ints, h)
