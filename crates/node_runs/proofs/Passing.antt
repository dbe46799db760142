-- Nodes in two lists, one behind another: a node that is passed on, put between them, or raised.
use Rattle.std.proofs.Common.{◌≡◌, ◌≢◌, true, ℕ, ◌+◌, ◌*◌, ◌<◌, ◌≤◌, ◌-◌, List, [], ◌∷◌, ◌++◌, length, take, drop, get_or, sym, subst, ◌∙◌, ap, arith, refl, append_assoc}
use Rattle.std.specs.Prelude.{ℤ, ◌<ℤ◌, ◌≤ℤ◌, pos}
use Rattle.std.specs.Int.Signed.{lt_z}
use Rattle.std.specs.List.{AllByRecursion}
use Rattle.std.proofs.lemmas.Int.{ints}
use Rattle.std.proofs.lemmas.List.{drop_more, map-append, get_or-append_right, get_or-drop, length-append, length-drop, length-map, get_or-map, take_more}
use Rattle.std.proofs.lemmas.List.Sums.{sum_by-append, sum_by-cons, sum_by-take-le}
use Rattle.weights.proofs.Filters.{all_append}
use Rattle.node_pool.specs.Nodes.{Node, NodeRow, node, weighted}
use Rattle.node_runs.specs.Runs.{IsGrown}
use Rattle.node_runs.specs.RunSteps.{IsAscending, IsMerger, IsOver, IsPassed, lead, leads}
use Rattle.node_runs.proofs.Ascending.{ascending-put}

-- a node that was read at a place
pub node-at : (nodes : List Node) (i : ℕ) (k : List ℤ) (w : ℕ) → ((d : Node) → k ≡ (get_or nodes i d).key) → ((d : Node) → w ≡ (get_or nodes i d).weight) → (d : Node) → node k w ≡ get_or nodes i d
node-at nodes i k w key weight d = rw (key d, weight d) refl

-- one is passed on
pub passed : (xs from : List Node) (i : ℕ) (a : Node) → i < length from → ((d : Node) → a ≡ get_or from i d) → (xs ++ a ∷ []) ++ drop (i + 1) from ≡ xs ++ drop i from
passed xs from i a low is =
    append_assoc xs (a ∷ []) (drop (i + 1) from)
    ∙ ap (λ b. xs ++ b ∷ drop (i + 1) from) (is a)
    ∙ ap (λ ns. xs ++ ns) (sym (drop_more from i a low))

weighted-append : (f : List ℤ → ℕ) (xs ys : List Node) → weighted f (xs ++ ys) ≡ weighted f xs + weighted f ys
weighted-append f xs ys = sum_by-append (λ a. a.weight * f a.key) xs ys

weighted-cons : (f : List ℤ → ℕ) (a : Node) (ys : List Node) → weighted f (a ∷ ys) ≡ a.weight * f a.key + weighted f ys
weighted-cons f a ys = sum_by-cons (λ a. a.weight * f a.key) a ys

all_left : (P : Node → Type 0) (xs ys : List Node) → AllByRecursion P (xs ++ ys) → AllByRecursion P xs
all_left P [] ys h = tt
all_left P (x ∷ xs) ys h = (h.0, all_left P xs ys h.1)

all_right : (P : Node → Type 0) (xs ys : List Node) → AllByRecursion P (xs ++ ys) → AllByRecursion P ys
all_right P [] ys h = h
all_right P (x ∷ xs) ys h = all_right P xs ys h.1

-- the weight of the first that is left
pub held-le : (xs from : List Node) (at : ℕ) (d : Node) → at < length from → (get_or from at d).weight ≤ weighted (λ k. 1) (xs ++ drop at from)
held-le xs from at d low = omega (arith, weighted-append (λ k. 1) xs (drop at from), ap (weighted (λ k. 1)) (drop_more from at d low), weighted-cons (λ k. 1) (get_or from at d) (drop (at + 1) from))

pub put-length : (xs ys : List Node) (a : Node) → length ((xs ++ a ∷ []) ++ ys) ≡ length (xs ++ ys) + 1
put-length xs ys a = omega (arith, length-append (xs ++ a ∷ []) ys, length-append xs (a ∷ []), length-append xs ys)

pub raised-length : (xs from : List Node) (at : ℕ) (a : Node) → at < length from → length ((xs ++ a ∷ []) ++ drop (at + 1) from) ≡ length (xs ++ drop at from)
raised-length xs from at a low = omega (arith, low, put-length xs (drop (at + 1) from) a, length-append xs (drop (at + 1) from), length-append xs (drop at from), length-drop at from, length-drop (at + 1) from)

-- what is less than the first that is left
pub first-left : (z : ℤ) (from : List Node) (at : ℕ) → ((d : Node) → at < length from → z <ℤ lead (get_or from at d)) → 0 < length (leads (drop at from)) → z <ℤ get_or (leads (drop at from)) 0 (pos 0)
first-left z from at h some =
    let d : Node = node [] 0 in
    let low : at < length from = omega (arith, some, length-map (drop at from) lead, length-drop at from) in
    rw (drop_more from at d low) (h d low)

-- one node more
module _ (nodes : List Node) (i : ℕ) (k : List ℤ) (w : ℕ) (low : i < length nodes) (key : (d : Node) → k ≡ (get_or nodes i d).key) (weight : (d : Node) → w ≡ (get_or nodes i d).weight) where
  next : take (i + 1) nodes ≡ take i nodes ++ node k w ∷ []
  next = take_more nodes i (node k w) low ∙ ap (λ a. take i nodes ++ a ∷ []) (sym (node-at nodes i k w key weight (node k w)))

  pub next-sum : (f : List ℤ → ℕ) → weighted f (take (i + 1) nodes) ≡ weighted f (take i nodes) + w * f k
  next-sum f = omega (arith, ap (weighted f) next, weighted-append f (take i nodes) (node k w ∷ []), weighted-cons f (node k w) [])

  pub next-fits : weighted (λ k. 1) (take i nodes) + w ≤ weighted (λ k. 1) nodes
  next-fits = omega (arith, next-sum (λ k. 1), sum_by-take-le (λ (a : Node). a.weight * 1) nodes (i + 1))

  pub next-heavy : AllByRecursion (λ (a : Node). 1 ≤ a.weight) (take (i + 1) nodes) → AllByRecursion (λ (a : Node). 1 ≤ a.weight) (take i nodes) × (1 ≤ w)
  next-heavy h =
      let all = rw next at h in
      (all_left (λ (a : Node). 1 ≤ a.weight) (take i nodes) (node k w ∷ []) all, (all_right (λ (a : Node). 1 ≤ a.weight) (take i nodes) (node k w ∷ []) all).0)

-- one is put between
pub put-grown : (xs ys : List Node) (k : List ℤ) (w : ℕ) → IsGrown (xs ++ ys) k w ((xs ++ node k w ∷ []) ++ ys)
put-grown xs ys k w = rw (append_assoc xs (node k w ∷ []) ys) (record {
  sums = λ f. omega (arith, weighted-append f xs (node k w ∷ ys), weighted-cons f (node k w) ys, weighted-append f xs ys);
  heavy = λ h all. all_append (λ (a : Node). 1 ≤ a.weight) xs (node k w ∷ ys) (all_left (λ (a : Node). 1 ≤ a.weight) xs ys all) (h, all_right (λ (a : Node). 1 ≤ a.weight) xs ys all);
})

pub put-ascending : (xs ys : List Node) (k : List ℤ) (w : ℕ) → IsAscending (leads (xs ++ ys)) → IsOver (get_or k 0 (pos 0)) (leads xs) → AllByRecursion (λ y. get_or k 0 (pos 0) <ℤ y) (leads ys) → IsAscending (leads ((xs ++ node k w ∷ []) ++ ys))
put-ascending xs ys k w up low high =
    rw (append_assoc xs (node k w ∷ []) ys, map-append lead xs (node k w ∷ ys)) (ascending-put (leads xs) (leads ys) (get_or k 0 (pos 0)) (rw (map-append lead xs ys) at up) low high)

-- one is raised
pub raised-grown : (xs ys : List Node) (a : Node) (k : List ℤ) (w s : ℕ) → a.key ≡ k → s ≡ a.weight + w → IsGrown (xs ++ a ∷ ys) k w ((xs ++ node k s ∷ []) ++ ys)
raised-grown xs ys a k w s key is = rw (append_assoc xs (node k s ∷ []) ys, is, ← key) (record {
  sums = λ f. omega (arith, weighted-append f xs (node a.key (a.weight + w) ∷ ys), weighted-cons f (node a.key (a.weight + w)) ys, weighted-append f xs (a ∷ ys), weighted-cons f a ys, spread a.weight w (f a.key));
  heavy = λ h all. all_append (λ (a : Node). 1 ≤ a.weight) xs (node a.key (a.weight + w) ∷ ys) (all_left (λ (a : Node). 1 ≤ a.weight) xs (a ∷ ys) all) (omega (arith, h), (all_right (λ (a : Node). 1 ≤ a.weight) xs (a ∷ ys) all).1);
})
  where
    spread : (a w y : ℕ) → (a + w) * y ≡ a * y + w * y
    spread a w y = grind arith

pub raised-ascending : (xs ys : List Node) (a : Node) (k : List ℤ) (s : ℕ) → a.key ≡ k → IsAscending (leads (xs ++ a ∷ ys)) → IsAscending (leads ((xs ++ node k s ∷ []) ++ ys))
raised-ascending xs ys a k s key up = rw (append_assoc xs (node k s ∷ []) ys, ← key, map-append lead xs (node a.key s ∷ ys), ← map-append lead xs (a ∷ ys)) up

-- keys of one number are that number
pub one-number : (j k : List ℤ) → length j ≡ 1 → length k ≡ 1 → get_or j 0 (pos 0) ≡ get_or k 0 (pos 0) → j ≡ k
one-number [] k e h same = absurd (omega (arith, e))
one-number (x ∷ []) [] e h same = absurd (omega (arith, h))
one-number (x ∷ []) (y ∷ []) e h same = ap (λ z. z ∷ []) same
one-number (x ∷ []) (y ∷ z ∷ k) e h same = absurd (omega (arith, h))
one-number (x ∷ y ∷ j) k e h same = absurd (omega (arith, e))

pub merger-passed : (into from : NodeRow) (at count at' : ℕ) (into' : NodeRow) → IsMerger into from at count → IsPassed from.nodes at into at' into' → IsMerger into' from at' count
merger-passed into from at count at' into' m p = record {
  done = p.wide ∙ m.done;
  left = m.left;
  within = p.within;
  counted = m.counted ∙ ap length (sym p.same);
  ascending = subst (λ ns. IsAscending (leads ns)) (sym p.same) m.ascending;
}

-- a node that lies behind the first list
pub in-rest : (xs from : List Node) (at i done : ℕ) (d : Node) → done ≡ length xs → done ≤ i → get_or (xs ++ drop at from) i d ≡ get_or from (at + (i - done)) d
in-rest xs from at i done d e h = get_or-append_right xs (drop at from) done i d (sym e) h ∙ get_or-drop at from (i - done) d

-- the last one's number
pub last-lead : (nodes : List Node) (last : ℕ) (d : Node) → last ≡ length nodes - 1 → 0 < length nodes → lead (get_or nodes last d) ≡ get_or (leads nodes) (length (leads nodes) - 1) (pos 0)
last-lead nodes last d e some =
    let low : last < length nodes = omega (arith, e, some) in
    let place : length (leads nodes) - 1 ≡ last = omega (arith, e, length-map nodes lead) in
    rw place (sym (get_or-map lead nodes last d (pos 0) low))

pub less-is : (a b : ℤ) → lt_z a b ≡ true → a <ℤ b
less-is a b e = grind (arith, ints)

pub strict : (z l : ℤ) → z ≤ℤ l → l ≢ z → z <ℤ l
strict z l h ne = omega (arith, ints, h, ne)
