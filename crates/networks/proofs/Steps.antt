-- The sums over completions, one stage at a time: what implementations and sums over stages rest on.
use Rattle.std.proofs.Common.{◌≡◌, ℕ, zero, suc, ◌+◌, ◌-◌, ◌*◌, ◌<◌, ◌≤◌, List, [], ◌∷◌, map, Bool, true, false, refl, ◌∙◌, ap, arith, add-one, subst}
use Rattle.std.specs.Prelude.{ℤ}
use Rattle.std.specs.List.{flat_map, sum_by, filter, AllByRecursion, Contains}
use Rattle.std.proofs.lemmas.List.Elements.{recursion_from_All, All-weaker, All-contains_itself}
use Rattle.weights.specs.declared.tails.Tail.{Tail}
use Rattle.networks.specs.declared.stages.Verdict.TheVariants.{Inside, Outside}
use Rattle.networks.specs.Network.{Network, IsReached}
use Rattle.networks.specs.Completions.{paths, completions, path_weight, path_end, is_inside, ends_inside, total_weight, extreme_weight}
use Rattle.weights.proofs.Sums.{sum_by-filter-≤}
pub use Rattle.weights.proofs.Sums.{sum_by-same, sum_by-scaled, sum_by-map, sum_by-flat_map}
use Rattle.weights.proofs.Filters.{all_append, all_map, all_weaker}
pub use Rattle.weights.proofs.Filters.{filter-map, filter-flat_map}

-- where each element passes nothing is filtered out, and where none does all is
pub filter_all : {X : Type 0} (p : X → Bool) (xs : List X) → AllByRecursion (λ x. p x ≡ true) xs → filter p xs ≡ xs
filter_all p [] a = refl
filter_all p (x ∷ xs) a = rw (a.0, filter_all p xs a.1) refl

pub filter_none : {X : Type 0} (p : X → Bool) (xs : List X) → AllByRecursion (λ x. p x ≡ false) xs → filter p xs ≡ []
filter_none p [] a = refl
filter_none p (x ∷ xs) a = rw (a.0, filter_none p xs a.1) refl

-- the paths of m stages that end at a key which passes

abbrev pub passing : Network → (List ℤ → Bool) → ℕ → ℕ → List ℤ → ℕ
passing n p m g k = sum_by (path_weight n g k) (filter (λ cs. p (path_end n g k cs)) (paths n m g k))

passing-choice : (n : Network) (p : List ℤ → Bool) (m g : ℕ) (k : List ℤ) (c : List ℕ) → sum_by (path_weight n g k) (filter (λ cs. p (path_end n g k cs)) (map (λ cs. c ∷ cs) (paths n m (g + 1) (n.next g k c)))) ≡ n.weight g k c * passing n p m (g + 1) (n.next g k c)
passing-choice n p m g k c =
    let kept : List (List (List ℕ)) = filter (λ cs. p (path_end n (g + 1) (n.next g k c) cs)) (paths n m (g + 1) (n.next g k c)) in
    ap (sum_by (path_weight n g k)) (filter-map (λ cs. p (path_end n g k cs)) (λ cs. c ∷ cs) (paths n m (g + 1) (n.next g k c)))
    ∙ sum_by-map (path_weight n g k) (λ cs. c ∷ cs) kept
    ∙ sum_by-scaled (n.weight g k c) (path_weight n (g + 1) (n.next g k c)) kept

pub passing-step : (n : Network) (p : List ℤ → Bool) (m g : ℕ) (k : List ℤ) → passing n p (suc m) g k ≡ sum_by (λ c. n.weight g k c * passing n p m (g + 1) (n.next g k c)) (n.choices g k)
passing-step n p m g k =
    ap (sum_by (path_weight n g k)) (filter-flat_map (λ cs. p (path_end n g k cs)) (λ c. map (λ cs. c ∷ cs) (paths n m (g + 1) (n.next g k c))) (n.choices g k))
    ∙ sum_by-flat_map (path_weight n g k) (λ c. filter (λ cs. p (path_end n g k cs)) (map (λ cs. c ∷ cs) (paths n m (g + 1) (n.next g k c)))) (n.choices g k)
    ∙ sum_by-same _ _ (passing-choice n p m g k) (n.choices g k)

abbrev pub all_paths : Network → ℕ → ℕ → List ℤ → ℕ
all_paths n m g k = sum_by (path_weight n g k) (paths n m g k)

all-choice : (n : Network) (m g : ℕ) (k : List ℤ) (c : List ℕ) → sum_by (path_weight n g k) (map (λ cs. c ∷ cs) (paths n m (g + 1) (n.next g k c))) ≡ n.weight g k c * all_paths n m (g + 1) (n.next g k c)
all-choice n m g k c =
    sum_by-map (path_weight n g k) (λ cs. c ∷ cs) (paths n m (g + 1) (n.next g k c))
    ∙ sum_by-scaled (n.weight g k c) (path_weight n (g + 1) (n.next g k c)) (paths n m (g + 1) (n.next g k c))

pub all-step : (n : Network) (m g : ℕ) (k : List ℤ) → all_paths n (suc m) g k ≡ sum_by (λ c. n.weight g k c * all_paths n m (g + 1) (n.next g k c)) (n.choices g k)
all-step n m g k =
    sum_by-flat_map (path_weight n g k) (λ c. map (λ cs. c ∷ cs) (paths n m (g + 1) (n.next g k c))) (n.choices g k)
    ∙ sum_by-same _ _ (all-choice n m g k) (n.choices g k)

-- a key's sums are those over its choices, of the arc's weight times the sum of the key that it reaches

pub left : (n : Network) (g : ℕ) → g < n.count → n.count - g ≡ suc (n.count - (g + 1))
left n g h = omega arith

pub total_weight-step : (n : Network) (g : ℕ) (k : List ℤ) → g < n.count → total_weight n g k ≡ sum_by (λ c. n.weight g k c * total_weight n (g + 1) (n.next g k c)) (n.choices g k)
unfolding total_weight
total_weight-step n g k h = ap (λ m. all_paths n m g k) (left n g h) ∙ all-step n (n.count - (g + 1)) g k

pub extreme_weight-step : (n : Network) (t : Tail) (g : ℕ) (k : List ℤ) → g < n.count → extreme_weight n t g k ≡ sum_by (λ c. n.weight g k c * extreme_weight n t (g + 1) (n.next g k c)) (n.choices g k)
unfolding extreme_weight
extreme_weight-step n t g k h =
    ap (λ m. passing n (λ e. is_inside (n.verdict t n.count e)) m g k) (left n g h)
    ∙ passing-step n (λ e. is_inside (n.verdict t n.count e)) (n.count - (g + 1)) g k

pub extreme-le-total : (n : Network) (t : Tail) (g : ℕ) (k : List ℤ) → extreme_weight n t g k ≤ total_weight n g k
unfolding total_weight extreme_weight
extreme-le-total n t g k = sum_by-filter-≤ (path_weight n g k) (ends_inside n t g k) (completions n g k)

-- at the last stage there is the empty completion, of weight 1
pub total_weight-last : (n : Network) (k : List ℤ) → total_weight n n.count k ≡ 1
unfolding total_weight
total_weight-last n k = let e : n.count - n.count ≡ 0 = omega arith in rw e refl

-- keys that are reached

pub reached-next : (n : Network) (g : ℕ) (k : List ℤ) (c : List ℕ) → IsReached n g k → g < n.count → Contains (n.choices g k) c → IsReached n (g + 1) (n.next g k c)
reached-next n g k c r h a = rw add-one (k, c, r, h, a, refl)

-- what each allowed arc keeps holds of each completion's end

pub all_flat_map : {X Y : Type 0} (P : Y → Type 0) (f : X → List Y) (xs : List X) → AllByRecursion (λ x. AllByRecursion P (f x)) xs → AllByRecursion P (flat_map f xs)
all_flat_map P f [] a = tt
all_flat_map P f (x ∷ xs) a = all_append P (f x) (flat_map f xs) a.0 (all_flat_map P f xs a.1)

all_members : {X : Type 0} (P : X → Type 0) (xs : List X) → ((x : X) → Contains xs x → P x) → AllByRecursion P xs
all_members P xs h = recursion_from_All P xs (All-weaker (Contains xs) P h xs (All-contains_itself xs))

abbrev pub IsKept : Network → (ℕ → List ℤ → Type 0) → Type 0
IsKept n P = (g : ℕ) (k : List ℤ) (c : List ℕ) → IsReached n g k → g < n.count → Contains (n.choices g k) c → P g k → P (g + 1) (n.next g k c)

paths-keep : (n : Network) (P : ℕ → List ℤ → Type 0) → IsKept n P → (m g : ℕ) (k : List ℤ) → g + m ≡ n.count → IsReached n g k → P g k → AllByRecursion (λ cs. P n.count (path_end n g k cs)) (paths n m g k)
paths-keep n P kept zero g k e r p = (subst (λ i. P i k) (let here : g ≡ n.count = omega arith in here) p, tt)
paths-keep n P kept (suc m) g k e r p =
    let before : g < n.count = omega arith in
    all_flat_map _ (λ c. map (λ cs. c ∷ cs) (paths n m (g + 1) (n.next g k c))) (n.choices g k)
    (all_members (λ c. AllByRecursion (λ cs. P n.count (path_end n g k cs)) (map (λ cs. c ∷ cs) (paths n m (g + 1) (n.next g k c)))) (n.choices g k)
    (λ c allowed. all_map (λ cs. P n.count (path_end n g k cs)) (λ cs. c ∷ cs) (paths n m (g + 1) (n.next g k c))
    (paths-keep n P kept m (g + 1) (n.next g k c) (omega arith) (reached-next n g k c r before allowed) (kept g k c r before allowed p))))

pub completions-keep : (n : Network) (P : ℕ → List ℤ → Type 0) → IsKept n P → (g : ℕ) (k : List ℤ) → IsReached n g k → g ≤ n.count → P g k → AllByRecursion (λ cs. P n.count (path_end n g k cs)) (completions n g k)
completions-keep n P kept g k r h p = paths-keep n P kept (n.count - g) g k (omega arith) r p

-- a verdict that each arc keeps is sound
pub inside_from_arcs : (n : Network) (t : Tail) → IsKept n (λ g k. n.verdict t g k ≡ Inside) → (g : ℕ) (k : List ℤ) → IsReached n g k → g ≤ n.count → n.verdict t g k ≡ Inside → AllByRecursion (λ cs. ends_inside n t g k cs ≡ true) (completions n g k)
inside_from_arcs n t kept g k r h v =
    all_weaker (λ cs. n.verdict t n.count (path_end n g k cs) ≡ Inside) (λ cs. ends_inside n t g k cs ≡ true) (λ cs e. ap is_inside e) (completions n g k)
    (completions-keep n (λ g k. n.verdict t g k ≡ Inside) kept g k r h v)

pub outside_from_arcs : (n : Network) (t : Tail) → IsKept n (λ g k. n.verdict t g k ≡ Outside) → (g : ℕ) (k : List ℤ) → IsReached n g k → g ≤ n.count → n.verdict t g k ≡ Outside → AllByRecursion (λ cs. ends_inside n t g k cs ≡ false) (completions n g k)
outside_from_arcs n t kept g k r h v =
    all_weaker (λ cs. n.verdict t n.count (path_end n g k cs) ≡ Outside) (λ cs. ends_inside n t g k cs ≡ false) (λ cs e. ap is_inside e) (completions n g k)
    (completions-keep n (λ g k. n.verdict t g k ≡ Outside) kept g k r h v)
