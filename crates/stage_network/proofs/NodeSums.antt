-- One more node of a stage.
use Rattle.std.proofs.Common.{◌≡◌, ℕ, ◌+◌, ◌*◌, ◌<◌, ◌≤◌, List, [], ◌∷◌, length, take, get_or, Bool, true, false, cond, ◌||◌, refl, sym, ◌∙◌, ap, arith}
use Rattle.std.specs.List.{sum_by, flat_map, filter, AllByRecursion}
use Rattle.std.proofs.lemmas.List.Sums.{sum_by-cons, sum_by_more, sum_by-take-le}
use Rattle.std.specs.Prelude.{ℤ}
use Rattle.weights.specs.declared.tails.Tail.{Tail}
use Rattle.weights.specs.declared.tails.Tail.TheVariants.{Less, Greater, Two}
use Rattle.weights.proofs.Sums.{sum_by-le-sum_by}
use Rattle.node_pool.specs.Nodes.{Node, weighted}
use Rattle.networks.specs.Completions.{total_weight}
use Rattle.networks.specs.Network.{Network}
use Rattle.stage_network.specs.NodeSteps.{successors, closes_inside, closed_part, closed_weight}
use Rattle.networks.specs.Opened.{is_open, is_open_for_some}

pub or_true : (b : Bool) → (b || true) ≡ true
or_true true = refl
or_true false = refl

pub length-filter-le : {X : Type 0} (p : X → Bool) (xs : List X) → length (filter p xs) ≤ length xs
length-filter-le p [] = omega arith
length-filter-le p (x ∷ xs) = elim (p x) as (λ b. length (cond b (x ∷ filter p xs) (filter p xs)) ≤ length (x ∷ xs)) [ true ↦ omega (arith, length-filter-le p xs) | false ↦ omega (arith, length-filter-le p xs) ]

-- what passes one test is left by a weaker one
pub filter-both : (f p : List ℤ → Bool) → ((k : List ℤ) → f k ≡ true → p k ≡ true) → (nodes : List Node) → filter (λ a. f a.key) (filter (λ a. p a.key) nodes) ≡ filter (λ a. f a.key) nodes
filter-both f p pass [] = refl
filter-both f p pass (a ∷ nodes) =
    by (f a.key) (p a.key) refl refl (filter-both f p pass nodes)
  where
    by : (x y : Bool) → f a.key ≡ x → p a.key ≡ y → filter (λ a. f a.key) (filter (λ a. p a.key) nodes) ≡ filter (λ a. f a.key) nodes → filter (λ a. f a.key) (filter (λ a. p a.key) (a ∷ nodes)) ≡ filter (λ a. f a.key) (a ∷ nodes)
    by true true e h rest = rw (h, e) (ap (λ ns. a ∷ ns) rest)
    by true false e h rest = (let no : p a.key ≡ true = pass a.key e in cc)
    by false true e h rest = rw (h, e) rest
    by false false e h rest = rw (h, e) rest

cond-le : (b : Bool) (m : ℕ) → cond b m 0 ≤ m
cond-le true m = omega arith
cond-le false m = omega arith

pub closed-le-weighted : (n : Network) (t : Tail) (g : ℕ) (nodes : List Node) → closed_weight n t g nodes ≤ weighted (total_weight n g) nodes
closed-le-weighted n t g nodes = sum_by-le-sum_by (closed_part n t g) (λ a. a.weight * total_weight n g a.key) (λ a. cond-le (closes_inside n t g a.key) (a.weight * total_weight n g a.key)) nodes

-- the nodes that those lead to whose keys pass
abbrev pub opened_to : Network → (ℕ → List ℤ → Bool) → ℕ → List Node → List Node
opened_to n p g nodes = flat_map (successors n g) (filter (λ a. p g a.key) nodes)

-- a key that is open for a tail is open for some
pub open-for : (n : Network) (t : Tail) (g : ℕ) (k : List ℤ) → is_open n t g k ≡ true → is_open_for_some n g k ≡ true
open-for n Less g k e = rw e refl
open-for n Greater g k e = rw e (or_true (is_open n Less g k))
open-for n Two g k e = rw e (ap (λ b. is_open n Less g k || b) (or_true (is_open n Greater g k)) ∙ or_true (is_open n Less g k))

-- the weight of the nodes that close with all extreme
abbrev pub inside_weight : Network → Tail → ℕ → List Node → ℕ
inside_weight n t g nodes = sum_by (λ a. cond (closes_inside n t g a.key) a.weight 0) nodes

pub inside-le : (n : Network) (t : Tail) (g : ℕ) (nodes : List Node) → inside_weight n t g nodes ≤ weighted (λ k. 1) nodes
inside-le n t g nodes = sum_by-le-sum_by (λ a. cond (closes_inside n t g a.key) a.weight 0) (λ a. a.weight * 1) (λ a. once (closes_inside n t g a.key) a.weight) nodes
  where
    once : (b : Bool) (m : ℕ) → cond b m 0 ≤ m * 1
    once true m = omega arith
    once false m = omega arith

module _ (n : Network) (t : Tail) (g : ℕ) (nodes : List Node) (i : ℕ) (a : Node) (below : i < length nodes) (is : a ≡ get_or nodes i a) where
  part : Node → ℕ
  part b = cond (closes_inside n t g b.key) b.weight 0

  pub inside-more : inside_weight n t g (take (i + 1) nodes) ≡ inside_weight n t g (take i nodes) + cond (closes_inside n t g a.key) a.weight 0
  unfolding part
  inside-more = sum_by_more part nodes i a below ∙ ap (λ b. inside_weight n t g (take i nodes) + part b) (sym is)

  pub inside-fits : inside_weight n t g (take i nodes) + a.weight ≤ weighted (λ k. 1) nodes
  inside-fits = omega (
    arith,
    inside-le n t g (take i nodes),
    sum_by_more (λ (b : Node). b.weight * 1) nodes i a below,
    ap (λ (b : Node). b.weight * 1) is,
    sum_by-take-le (λ (b : Node). b.weight * 1) nodes (i + 1),
  )

-- where the nodes' completions weigh the same, the inside ones can be multiplied at once
pub closed-together : (n : Network) (t : Tail) (g total : ℕ) (nodes : List Node) → AllByRecursion (λ (a : Node). total_weight n g a.key ≡ total) nodes → closed_weight n t g nodes ≡ inside_weight n t g nodes * total
closed-together n t g total [] a = omega arith
closed-together n t g total (b ∷ nodes) a =
    rw (sum_by-cons (closed_part n t g) b nodes, sum_by-cons (λ (c : Node). cond (closes_inside n t g c.key) c.weight 0) b nodes, closed-together n t g total nodes a.1, a.0)
    (by (closes_inside n t g b.key) b.weight (inside_weight n t g nodes))
  where
    by : (v : Bool) (w rest : ℕ) → cond v (w * total) 0 + rest * total ≡ (cond v w 0 + rest) * total
    by true w rest = grind arith
    by false w rest = grind arith
