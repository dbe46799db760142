-- A sweep from stage to stage: what stays of the nodes, and what is closed of them.
use Rattle.std.proofs.Common.{◌≡◌, ℕ, zero, suc, ◌+◌, ◌*◌, ◌<◌, ◌≤◌, ◌&&◌, List, [], ◌∷◌, ◌++◌, length, Bool, true, false, cond, refl, sym, ◌∙◌, ap, arith}
use Rattle.std.specs.Prelude.{ℤ}
use Rattle.std.specs.List.{filter, AllByRecursion}
use Rattle.std.specs.Set.{is_member}
use Rattle.std.proofs.lemmas.List.{length-append}
use Rattle.std.proofs.lemmas.List.Elements.{filter-append}
use Rattle.std.proofs.lemmas.List.Sums.{sum_by-cons, sum_by-append}
use Rattle.std.proofs.lemmas.Map.Made.{is_member-filter}
use Rattle.weights.specs.declared.tails.Tail.{Tail}
use Rattle.weights.specs.declared.tails.Tails.{Tails}
use Rattle.weights.proofs.Filters.{all_filter}
use Rattle.node_pool.specs.Nodes.{Node, node, key_eq, keys, is_held, weighted}
use Rattle.node_pool.proofs.Puts.{same_key, key_equiv}
use Rattle.networks.specs.Network.{Network}
use Rattle.networks.specs.declared.stages.Verdict.{Verdict}
use Rattle.networks.specs.declared.stages.Verdict.TheVariants.{Inside, Outside, Undecided}
use Rattle.networks.specs.declared.tail_sums.Kept.{Kept}
use Rattle.networks.specs.declared.tail_sums.Kept.TheVariants.{Open, All}
use Rattle.networks.specs.Asked.{asked}
use Rattle.networks.specs.Completions.{is_inside, total_weight}
use Rattle.networks.specs.Opened.{is_open, is_open_for_some}
use Rattle.stage_network.specs.NodeSteps.{all_successors, closes_inside, closed_part, closed_weight, AllHeavy}
use Rattle.stage_network.specs.SweepSteps.{stays, staying, closed_at, counted}
use Rattle.stage_network.proofs.NodeSums.{open-for, length-filter-le, filter-both}
use Rattle.networks.proofs.Steps.{sum_by-same, total_weight-step}
use Rattle.stage_network.proofs.Conserved.{sum_by-filter}
use Rattle.stage_network.proofs.OpenKeys.{keys-filter, same-holds}
use Rattle.stage_network.proofs.Gathered.{same-members}
use Rattle.stage_network.proofs.Carried.{carried}

-- filters and sums
when : (b : Bool) (w m : ℕ) → cond b (w * m) 0 ≡ w * cond b m 0
when true w m = refl
when false w m = omega arith

pub weighted-filter : (f : List ℤ → ℕ) (p : List ℤ → Bool) (nodes : List Node) → weighted f (filter (λ a. p a.key) nodes) ≡ weighted (λ k. cond (p k) (f k) 0) nodes
weighted-filter f p nodes = sum_by-filter (λ (a : Node). a.weight * f a.key) (λ a. p a.key) nodes ∙ sum_by-same _ _ (λ a. when (p a.key) a.weight (f a.key)) nodes

-- nodes that are told alike are told alike when filtered
pub told-filtered : (p : List ℤ → Bool) (xs ys : List Node) → ((f : List ℤ → ℕ) → weighted f xs ≡ weighted f ys) → (f : List ℤ → ℕ) → weighted f (filter (λ a. p a.key) xs) ≡ weighted f (filter (λ a. p a.key) ys)
told-filtered p xs ys told f = weighted-filter f p xs ∙ told (λ k. cond (p k) (f k) 0) ∙ sym (weighted-filter f p ys)

-- one room more
pub told-more : (p : List ℤ → Bool) (kept work before here after : List Node) → ((f : List ℤ → ℕ) → weighted f kept ≡ weighted f (filter (λ a. p a.key) before)) → ((f : List ℤ → ℕ) → weighted f work ≡ weighted f here) → ((f : List ℤ → ℕ) → weighted f after ≡ weighted f before + weighted f here) → (f : List ℤ → ℕ) → weighted f (kept ++ filter (λ a. p a.key) work) ≡ weighted f (filter (λ a. p a.key) after)
told-more p kept work before here after was told more f =
    omega (
      arith,
      sum_by-append (λ (a : Node). a.weight * f a.key) kept (filter (λ a. p a.key) work),
      was f,
      weighted-filter f p before,
      told-filtered p work here told f,
      weighted-filter f p here,
      weighted-filter f p after,
      more (λ k. cond (p k) (f k) 0),
    )

-- what holds of nodes holds of those that stay of them
pub kept-holds : (P : List ℤ → Type 0) (p : List ℤ → Bool) (kept before : List Node) → AllHeavy kept → AllHeavy before → AllByRecursion (λ (a : Node). P a.key) before → ((f : List ℤ → ℕ) → weighted f kept ≡ weighted f (filter (λ a. p a.key) before)) → AllByRecursion (λ (a : Node). P a.key) kept
kept-holds P p kept before heavy solid holds told =
    let stay = filter (λ a. p a.key) before in
    same-holds P stay kept (all_filter (λ (a : Node). P a.key) (λ a. p a.key) before holds)
    (same-members kept stay heavy (all_filter (λ (a : Node). 1 ≤ a.weight) (λ a. p a.key) before solid) told)

-- a key is closed or stays, or neither
closed-or : (some : Bool) (v : Verdict) (m : ℕ) → cond (cond some false (is_inside v)) m 0 + cond some m 0 ≤ m
closed-or true v m = omega arith
closed-or false Inside m = omega arith
closed-or false Outside m = omega arith
closed-or false Undecided m = omega arith

closed-or_stays : (n : Network) (keep : Kept) (t : Tail) (g : ℕ) (k : List ℤ) → closed_at n keep t g k + cond (stays n keep g k) (total_weight n g k) 0 ≤ total_weight n g k
closed-or_stays n All t g k = omega arith
closed-or_stays n (Open tails) t g k = closed-or (is_open_for_some (asked tails n) g k) ((asked tails n).verdict t g k) (total_weight n g k)

times-le : (w a b c : ℕ) → a + b ≤ c → w * a + w * b ≤ w * c
times-le zero a b c h = omega arith
times-le (suc w) a b c h =
    let once : (m : ℕ) → suc w * m ≡ m + w * m = λ m. grind arith in
    omega (arith, once a, once b, once c, times-le w a b c h, h)

pub parted : (n : Network) (keep : Kept) (t : Tail) (g : ℕ) (nodes : List Node) → weighted (closed_at n keep t g) nodes + weighted (λ k. cond (stays n keep g k) (total_weight n g k) 0) nodes ≤ weighted (total_weight n g) nodes
parted n keep t g [] = omega arith
parted n keep t g (a ∷ nodes) =
    let term = λ (f : List ℤ → ℕ) (b : Node). b.weight * f b.key in
    let s : List ℤ → ℕ = λ k. cond (stays n keep g k) (total_weight n g k) 0 in
    omega (
      arith,
      sum_by-cons (term (closed_at n keep t g)) a nodes,
      sum_by-cons (term s) a nodes,
      sum_by-cons (term (total_weight n g)) a nodes,
      times-le a.weight (closed_at n keep t g a.key) (s a.key) (total_weight n g a.key) (closed-or_stays n keep t g a.key),
      parted n keep t g nodes,
    )

pub closed-le : (n : Network) (keep : Kept) (t : Tail) (g : ℕ) (nodes : List Node) → weighted (closed_at n keep t g) nodes ≤ weighted (total_weight n g) nodes
closed-le n keep t g nodes = omega (arith, parted n keep t g nodes)

pub closed-weighted : (n : Network) (tails : Tails) (t : Tail) (g : ℕ) (nodes : List Node) → closed_weight (asked tails n) t g nodes ≡ weighted (closed_at n (Open tails) t g) nodes
unfolding total_weight
closed-weighted n tails t g nodes = sum_by-same (closed_part (asked tails n) t g) _ (λ a. when (closes_inside (asked tails n) t g a.key) a.weight (total_weight n g a.key)) nodes

pub closed-none : (n : Network) (t : Tail) (g : ℕ) (nodes : List Node) → weighted (closed_at n All t g) nodes ≡ 0
closed-none n t g [] = refl
closed-none n t g (a ∷ nodes) = omega (arith, sum_by-cons (λ (b : Node). b.weight * closed_at n All t g b.key) a nodes, closed-none n t g nodes)

pub staying-none : (n : Network) (g : ℕ) (nodes : List Node) → staying n All g nodes ≡ nodes
staying-none n g [] = refl
staying-none n g (a ∷ nodes) = ap (λ ns. a ∷ ns) (staying-none n g nodes)

-- what is counted of two lists is counted apart, and of nodes that stay is counted of all
pub counted-append : (n : Network) (keep : Kept) (t : Tail) (g : ℕ) (xs ys : List Node) → counted n keep t g (xs ++ ys) ≡ counted n keep t g xs + counted n keep t g ys
counted-append n All t g xs ys = refl
counted-append n (Open tails) t g xs ys =
    let free : Node → Bool = λ a. is_open (asked tails n) t g a.key in
    ap length (filter-append free xs ys) ∙ length-append (filter free xs) (filter free ys)

pub counted-staying : (n : Network) (keep : Kept) (t : Tail) (g : ℕ) (nodes : List Node) → counted n keep t g (staying n keep g nodes) ≡ counted n keep t g nodes
counted-staying n All t g nodes = refl
counted-staying n (Open tails) t g nodes = ap length (filter-both (is_open (asked tails n) t g) (is_open_for_some (asked tails n) g) (open-for (asked tails n) t g) nodes)

pub counted-more : (n : Network) (keep : Kept) (t : Tail) (g : ℕ) (kept work : List Node) → counted n keep t g (kept ++ staying n keep g work) ≡ counted n keep t g kept + counted n keep t g work
counted-more n keep t g kept work = counted-append n keep t g kept (staying n keep g work) ∙ ap (λ m. counted n keep t g kept + m) (counted-staying n keep t g work)

pub counted-nothing : (n : Network) (keep : Kept) (t : Tail) (g : ℕ) (m : ℕ) → m ≡ m + counted n keep t g []
counted-nothing n All t g m = omega arith
counted-nothing n (Open tails) t g m = omega arith

pub counted-le : (n : Network) (keep : Kept) (t : Tail) (g : ℕ) (nodes : List Node) → counted n keep t g nodes ≤ length nodes
counted-le n All t g nodes = omega arith
counted-le n (Open tails) t g nodes = length-filter-le (λ (a : Node). is_open (asked tails n) t g a.key) nodes

-- the members of what is left of nodes
pub stay-members : (n : Network) (tails : Tails) (g : ℕ) (kept all : List Node) → AllHeavy kept → AllHeavy all → ((f : List ℤ → ℕ) → weighted f kept ≡ weighted f (staying n (Open tails) g all)) → (q : List ℤ) → is_held kept q ≡ (is_held all q && is_open_for_some (asked tails n) g q)
stay-members n tails g kept all heavy solid told q =
    let some : List ℤ → Bool = is_open_for_some (asked tails n) g in
    same-members kept (staying n (Open tails) g all) heavy (all_filter (λ (a : Node). 1 ≤ a.weight) (λ a. some a.key) all solid) told q
    ∙ ap (λ ks. is_member key_eq ks q) (keys-filter some all)
    ∙ is_member-filter key_equiv some q (λ x e. ap some (same_key q x e)) (keys all)

-- the first node
pub one : (f : List ℤ → ℕ) (k : List ℤ) → weighted f (node k 1 ∷ []) ≡ f k
one f k = omega (arith, sum_by-cons (λ (a : Node). a.weight * f a.key) (node k 1) [])

-- the totals that are left
pub all-total : (n : Network) (g : ℕ) → g < n.count → (here all : List Node) → ((f : List ℤ → ℕ) → weighted f all ≡ weighted f (all_successors n g here)) → weighted (total_weight n (g + 1)) all ≡ weighted (total_weight n g) here
all-total n g before here all told = told (total_weight n (g + 1)) ∙ carried n g (total_weight n g) (total_weight n (g + 1)) (λ k. total_weight-step n g k before) here
