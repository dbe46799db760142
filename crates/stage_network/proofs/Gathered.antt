-- Rooms filled one after another: the nodes of the next stage.
use Rattle.std.proofs.Common.{◌≡◌, ℕ, zero, suc, ◌+◌, ◌*◌, ◌<◌, ◌≤◌, List, [], ◌∷◌, ◌++◌, length, take, get_or, Bool, true, false, cond, ◌||◌, refl, sym, ◌∙◌, ap, arith, subst, nat_eq, nat_lt}
use Rattle.std.specs.Prelude.{ℤ}
use Rattle.std.specs.List.{sum_by, filter, IsDistinct, AllByRecursion}
use Rattle.std.specs.Set.{is_member}
use Rattle.std.proofs.lemmas.List.Sums.{sum_by-cons}
use Rattle.std.proofs.lemmas.Map.Keys.{IsDistinct-head, IsDistinct-tail, IsDistinct-cons}
use Rattle.node_pool.specs.Nodes.{Node, key_eq, keys, weighted}
use Rattle.networks.specs.Completions.{total_weight}
use Rattle.networks.specs.Network.{Network, IsReached}
use Rattle.stage_network.specs.NodeSteps.{successor, AllReached, AllHeavy, AreNodes}
use Rattle.networks.proofs.Steps.{sum_by-flat_map, sum_by-same, reached-next}
use Rattle.stage_network.specs.ArcSteps.{Arc, segment, arc_nodes, spread_out, bucket, firsts, IsFine, AllFine}
use Rattle.node_pool.proofs.Puts.{unlike, alike}
use Rattle.weights.proofs.Sums.{sum_by-filter, sum_by-plus}
use Rattle.weights.proofs.Filters.{all_append, all_map, all_filter}
use Rattle.stage_network.proofs.OpenKeys.{map-append, distinct_filter, keys-filter, same-holds}
use Rattle.stage_network.proofs.Bounds.{weights-le-weighted}
use Rattle.stage_network.proofs.Stepping.{reached_at}
use Rattle.stage_network.proofs.Roomwise.{all_segment, heavy_at}
use Rattle.weights.proofs.Products.{product-some}

-- the arcs to the rooms below one more
three : (a t x : ℕ) → cond (nat_lt a (t + 1)) x 0 ≡ cond (nat_lt a t) x 0 + cond (nat_eq a t) x 0
three a t x = grind arith

below_is : (a t : ℕ) → a < t → nat_lt a t ≡ true
below_is a t h = grind arith

not_below : (a : ℕ) → nat_lt a 0 ≡ false
not_below a = grind arith

is_below : (a t : ℕ) → nat_lt a t ≡ true → a < t
is_below a t e = grind arith

is_same : (a t : ℕ) → nat_eq a t ≡ true → a ≡ t
is_same a t e = grind arith

firsts-sum : (h : Arc → ℕ) (t : ℕ) (arcs : List Arc) → sum_by h (firsts (t + 1) arcs) ≡ sum_by h (firsts t arcs) + sum_by h (bucket t arcs)
firsts-sum h t arcs =
    sum_by-filter h (λ a. nat_lt a.target (t + 1)) arcs
    ∙ sum_by-same _ (λ a. cond (nat_lt a.target t) (h a) 0 + cond (nat_eq a.target t) (h a) 0) (λ a. three a.target t (h a)) arcs
    ∙ sum_by-plus (λ a. cond (nat_lt a.target t) (h a) 0) (λ a. cond (nat_eq a.target t) (h a) 0) arcs
    ∙ ap (λ m. m + sum_by (λ a. cond (nat_eq a.target t) (h a) 0) arcs) (sym (sum_by-filter h (λ a. nat_lt a.target t) arcs))
    ∙ ap (λ m. sum_by h (firsts t arcs) + m) (sym (sum_by-filter h (λ a. nat_eq a.target t) arcs))

pub firsts-more : (n : Network) (g : ℕ) (nodes : List Node) (f : List ℤ → ℕ) (t : ℕ) (arcs : List Arc) → weighted f (spread_out n g nodes (firsts (t + 1) arcs)) ≡ weighted f (spread_out n g nodes (firsts t arcs)) + weighted f (spread_out n g nodes (bucket t arcs))
firsts-more n g nodes f t arcs =
    let part = λ (ws : List Arc). sum_by-flat_map (λ (b : Node). b.weight * f b.key) (arc_nodes n g nodes) ws in
    omega (arith, part (firsts (t + 1) arcs), part (firsts t arcs), part (bucket t arcs), firsts-sum (λ a. weighted f (arc_nodes n g nodes a)) t arcs)

pub firsts-le : (n : Network) (g : ℕ) (nodes : List Node) (f : List ℤ → ℕ) (t : ℕ) (arcs : List Arc) → weighted f (spread_out n g nodes (firsts t arcs)) ≤ weighted f (spread_out n g nodes arcs)
firsts-le n g nodes f t arcs =
    let part = λ (ws : List Arc). sum_by-flat_map (λ (b : Node). b.weight * f b.key) (arc_nodes n g nodes) ws in
    omega (arith, part (firsts t arcs), part arcs, fewer (λ a. weighted f (arc_nodes n g nodes a)) t arcs)
  where
    fewer : (h : Arc → ℕ) (t : ℕ) (arcs : List Arc) → sum_by h (firsts t arcs) ≤ sum_by h arcs
    fewer h t [] = omega arith
    fewer h t (a ∷ arcs) = elim (nat_lt a.target t) as (λ b. sum_by h (cond b (a ∷ firsts t arcs) (firsts t arcs)) ≤ sum_by h (a ∷ arcs)) [
      | true ↦ omega (arith, sum_by-cons h a (firsts t arcs), sum_by-cons h a arcs, fewer h t arcs)
      | false ↦ omega (arith, sum_by-cons h a arcs, fewer h t arcs)
    ]

pub firsts-all : (n : Network) (g width : ℕ) (nodes rooms : List Node) (arcs : List Arc) → AllFine n g width nodes rooms arcs → firsts (length rooms) arcs ≡ arcs
firsts-all n g width nodes rooms [] a = refl
firsts-all n g width nodes rooms (w ∷ arcs) a = rw (below_is w.target (length rooms) a.0.target) (ap (λ ws. w ∷ ws) (firsts-all n g width nodes rooms arcs a.1))

pub firsts-none : (arcs : List Arc) → firsts 0 arcs ≡ []
firsts-none [] = refl
firsts-none (w ∷ arcs) = rw (not_below w.target) (firsts-none arcs)

-- which keys heavy nodes have is told by their sums
abbrev ind : List ℤ → List ℤ → ℕ
ind q k = cond (key_eq q k) 1 0

some_is : (m : ℕ) → 1 ≤ m → nat_lt 0 m ≡ true
some_is m h = grind arith

member-weighs : (q : List ℤ) (nodes : List Node) → AllHeavy nodes → is_member key_eq (keys nodes) q ≡ nat_lt 0 (weighted (ind q) nodes)
member-weighs q [] a = refl
member-weighs q (b ∷ nodes) a =
    rw (sum_by-cons (λ (c : Node). c.weight * ind q c.key) b nodes) (elim (key_eq q b.key) as (λ t. (t || is_member key_eq (keys nodes) q) ≡ nat_lt 0 (b.weight * cond t 1 0 + weighted (ind q) nodes)) [
      | true ↦ sym (some_is (b.weight * 1 + weighted (ind q) nodes) (omega (arith, a.0)))
      | false ↦ member-weighs q nodes a.1 ∙ ap (nat_lt 0) (let e : weighted (ind q) nodes ≡ b.weight * 0 + weighted (ind q) nodes = omega arith in e)
    ])

pub same-members : (xs ys : List Node) → AllHeavy xs → AllHeavy ys → ((f : List ℤ → ℕ) → weighted f xs ≡ weighted f ys) → (q : List ℤ) → is_member key_eq (keys xs) q ≡ is_member key_eq (keys ys) q
same-members xs ys a b told q = member-weighs q xs a ∙ ap (nat_lt 0) (told (ind q)) ∙ sym (member-weighs q ys b)

-- what holds of each node that fine arcs lead to
module _ (n : Network) (g width : ℕ) (nodes rooms : List Node) where
  pub fine_filter : (p : Arc → Bool) (arcs : List Arc) → AllFine n g width nodes rooms arcs → AllByRecursion (λ a. IsFine n g width nodes rooms a × (p a ≡ true)) (filter p arcs)
  fine_filter p [] a = tt
  fine_filter p (w ∷ arcs) a = elim (p w) as (λ b. p w ≡ b → AllByRecursion (λ a. IsFine n g width nodes rooms a × (p a ≡ true)) (cond b (w ∷ filter p arcs) (filter p arcs))) [
    | true ↦ λ e. ((a.0, e), fine_filter p arcs a.1)
    | false ↦ λ e. fine_filter p arcs a.1
  ] refl

  pub spread-all : (P : Node → Type 0) (Q : Arc → Type 0) → ((a : Arc) → Q a → (i : ℕ) (d : Node) → a.start ≤ i → i < a.end → P (successor n g (get_or nodes i d) a.choice)) → (arcs : List Arc) → AllByRecursion Q arcs → AllByRecursion P (spread_out n g nodes arcs)
  spread-all P Q h [] a = tt
  spread-all P Q h (w ∷ arcs) a = all_append P (arc_nodes n g nodes w) (spread_out n g nodes arcs)
      (all_map P (λ b. successor n g b w.choice) (segment w.start w.end nodes) (all_segment (λ b. P (successor n g b w.choice)) w.start w.end nodes (h w a.0)))
      (spread-all P Q h arcs a.1)

module _ (n : Network) (g width : ℕ) (nodes rooms : List Node) (here : AreNodes n g nodes) where
  pub spread-heavy : (p : Arc → Bool) (arcs : List Arc) → AllFine n g width nodes rooms arcs → AllHeavy (spread_out n g nodes (filter p arcs))
  spread-heavy p arcs a = spread-all n g width nodes rooms (λ (b : Node). 1 ≤ b.weight) (λ a. IsFine n g width nodes rooms a × (p a ≡ true))
      (λ w f i d h k. product-some _ _ (heavy_at nodes i d here.heavy (omega (arith, k, f.0.chosen.last))) (here.lawful.weighty g (get_or nodes i d).key w.choice (reached_at n g nodes i d here.reached (omega (arith, k, f.0.chosen.last))) (f.0.chosen.allowed i d h k)))
      (filter p arcs) (fine_filter n g width nodes rooms p arcs a)

  pub spread-reached : (p : Arc → Bool) (arcs : List Arc) → AllFine n g width nodes rooms arcs → AllReached n (g + 1) (spread_out n g nodes (filter p arcs))
  spread-reached p arcs a = spread-all n g width nodes rooms (λ (b : Node). IsReached n (g + 1) b.key) (λ a. IsFine n g width nodes rooms a × (p a ≡ true))
      (λ w f i d h k. reached-next n g (get_or nodes i d).key w.choice (reached_at n g nodes i d here.reached (omega (arith, k, f.0.chosen.last))) here.before (f.0.chosen.allowed i d h k))
      (filter p arcs) (fine_filter n g width nodes rooms p arcs a)

  pub spread-here : (e : Node) (t : ℕ) (arcs : List Arc) → AllFine n g width nodes rooms arcs → AllByRecursion (λ (b : Node). take width b.key ≡ (get_or rooms t e).key) (spread_out n g nodes (bucket t arcs))
  spread-here e t arcs a = spread-all n g width nodes rooms (λ (b : Node). take width b.key ≡ (get_or rooms t e).key) (λ a. IsFine n g width nodes rooms a × (nat_eq a.target t ≡ true))
      (λ w f i d h k. f.0.room i d e h k ∙ ap (λ t. (get_or rooms t e).key) (is_same w.target t f.1))
      (bucket t arcs) (fine_filter n g width nodes rooms (λ a. nat_eq a.target t) arcs a)

  pub spread-before : (e : Node) (t : ℕ) (arcs : List Arc) → AllFine n g width nodes rooms arcs → AllByRecursion (λ (b : Node). (j : ℕ) × (j < t) × (take width b.key ≡ (get_or rooms j e).key)) (spread_out n g nodes (firsts t arcs))
  spread-before e t arcs a = spread-all n g width nodes rooms (λ (b : Node). (j : ℕ) × (j < t) × (take width b.key ≡ (get_or rooms j e).key)) (λ a. IsFine n g width nodes rooms a × (nat_lt a.target t ≡ true))
      (λ w f i d h k. (w.target, is_below w.target t f.1, f.0.room i d e h k))
      (firsts t arcs) (fine_filter n g width nodes rooms (λ a. nat_lt a.target t) arcs a)

  -- a room's nodes, told as those of the arcs to it
  module _ (t : ℕ) (arcs : List Arc) (fine : AllFine n g width nodes rooms arcs) (work : List Node) (heavy : AllHeavy work) (told : (f : List ℤ → ℕ) → weighted f work ≡ weighted f (spread_out n g nodes (bucket t arcs))) where
    filled_same : (q : List ℤ) → is_member key_eq (keys work) q ≡ is_member key_eq (keys (spread_out n g nodes (bucket t arcs))) q
    filled_same = same-members work (spread_out n g nodes (bucket t arcs)) heavy (spread-heavy (λ a. nat_eq a.target t) arcs fine) told

    pub filled-reached : AllReached n (g + 1) work
    filled-reached = same-holds (IsReached n (g + 1)) (spread_out n g nodes (bucket t arcs)) work (spread-reached (λ a. nat_eq a.target t) arcs fine) filled_same

    pub filled-here : (e : Node) → AllByRecursion (λ (b : Node). take width b.key ≡ (get_or rooms t e).key) work
    filled-here e = same-holds (λ k. take width k ≡ (get_or rooms t e).key) (spread_out n g nodes (bucket t arcs)) work (spread-here e t arcs fine) filled_same

  -- the weight of a room's nodes, beside all others'
  pub bucket-fits : (f : List ℤ → ℕ) (t limit : ℕ) (arcs : List Arc) → weighted f (spread_out n g nodes arcs) ≤ limit → weighted f (spread_out n g nodes (firsts t arcs)) + weighted f (spread_out n g nodes (bucket t arcs)) ≤ limit
  bucket-fits f t limit arcs h = omega (arith, firsts-more n g nodes f t arcs, firsts-le n g nodes f (t + 1) arcs, h)

  pub bucket-light : (t limit : ℕ) (arcs : List Arc) → AllFine n g width nodes rooms arcs → weighted (total_weight n (g + 1)) (spread_out n g nodes arcs) ≤ limit → weighted (λ k. 1) (spread_out n g nodes (bucket t arcs)) ≤ limit
  bucket-light t limit arcs fine h =
      omega (
        arith,
        weights-le-weighted n here.lawful (g + 1) (omega (arith, here.before)) (spread_out n g nodes (bucket t arcs)) (spread-reached (λ a. nat_eq a.target t) arcs fine),
        bucket-fits (total_weight n (g + 1)) t limit arcs h,
      )

-- rooms apart
apart_at : (x : List ℤ) (rooms : List Node) (t : ℕ) (e : Node) → AllByRecursion (λ y. key_eq x y ≡ false) (keys rooms) → t < length rooms → key_eq x (get_or rooms t e).key ≡ false
apart_at x [] t e a h = absurd (omega arith)
apart_at x (b ∷ rooms) zero e a h = a.0
apart_at x (b ∷ rooms) (suc t) e a h = apart_at x rooms t e a.1 (omega (arith, h))

pub rooms-apart : (rooms : List Node) (j t : ℕ) (e : Node) → IsDistinct key_eq (keys rooms) → j < t → t < length rooms → key_eq (get_or rooms j e).key (get_or rooms t e).key ≡ false
rooms-apart [] j t e d h k = absurd (omega (arith, k))
rooms-apart (b ∷ rooms) j zero e d h k = absurd (omega (arith, h))
rooms-apart (b ∷ rooms) zero (suc t) e d h k = apart_at b.key rooms t e (IsDistinct-head key_eq b.key (keys rooms) d) (omega (arith, k))
rooms-apart (b ∷ rooms) (suc j) (suc t) e d h k = rooms-apart rooms j t e (IsDistinct-tail key_eq b.key (keys rooms) d) (omega (arith, h)) (omega (arith, k))

all_append_keys : (P : List ℤ → Type 0) (xs ys : List (List ℤ)) → AllByRecursion P xs → AllByRecursion P ys → AllByRecursion P (xs ++ ys)
all_append_keys P xs ys a b = all_append P xs ys a b

distinct-append : (xs ys : List (List ℤ)) → IsDistinct key_eq xs → IsDistinct key_eq ys → AllByRecursion (λ x. AllByRecursion (λ y. key_eq x y ≡ false) ys) xs → IsDistinct key_eq (xs ++ ys)
distinct-append [] ys a b c = b
distinct-append (x ∷ xs) ys a b c = IsDistinct-cons key_eq x (xs ++ ys) (all_append_keys (λ y. key_eq x y ≡ false) xs ys (IsDistinct-head key_eq x xs a) c.0) (distinct-append xs ys (IsDistinct-tail key_eq x xs a) b c.1)

all_keys : (A : List ℤ → Type 0) (nodes : List Node) → AllByRecursion (λ (a : Node). A a.key) nodes → AllByRecursion A (keys nodes)
all_keys A [] h = tt
all_keys A (b ∷ nodes) h = (h.0, all_keys A nodes h.1)

all_pairs : (A B : List ℤ → Type 0) → ((x y : List ℤ) → A x → B y → key_eq x y ≡ false) → (xs ys : List (List ℤ)) → AllByRecursion A xs → AllByRecursion B ys → AllByRecursion (λ x. AllByRecursion (λ y. key_eq x y ≡ false) ys) xs
all_pairs A B h [] ys a b = tt
all_pairs A B h (x ∷ xs) ys a b = (row ys b, all_pairs A B h xs ys a.1 b)
  where
    row : (ys : List (List ℤ)) → AllByRecursion B ys → AllByRecursion (λ y. key_eq x y ≡ false) ys
    row [] b = tt
    row (y ∷ ys) b = (h x y a.0 b.0, row ys b.1)

pub kept-apart : (p : List ℤ → Bool) (kept work : List Node) (A B : List ℤ → Type 0) → ((x y : List ℤ) → A x → B y → key_eq x y ≡ false) → IsDistinct key_eq (keys kept) → IsDistinct key_eq (keys work) → AllByRecursion (λ (a : Node). A a.key) kept → AllByRecursion (λ (a : Node). B a.key) work → IsDistinct key_eq (keys (kept ++ filter (λ a. p a.key) work))
kept-apart p kept work A B h d e a b =
    let is : keys (kept ++ filter (λ a. p a.key) work) ≡ keys kept ++ filter p (keys work) = map-append (λ (b : Node). b.key) kept (filter (λ a. p a.key) work) ∙ ap (λ ks. keys kept ++ ks) (keys-filter p work) in
    subst (IsDistinct key_eq) (sym is) (distinct-append (keys kept) (filter p (keys work)) d (distinct_filter p (keys work) e) (all_pairs A B h (keys kept) (filter p (keys work)) (all_keys A kept a) (all_filter B p (keys work) (all_keys B work b))))

pub clash : (width : ℕ) (rooms : List Node) (t : ℕ) (e : Node) → IsDistinct key_eq (keys rooms) → t < length rooms → (x y : List ℤ) → (j : ℕ) × (j < t) × (take width x ≡ (get_or rooms j e).key) → take width y ≡ (get_or rooms t e).key → key_eq x y ≡ false
clash width rooms t e d low x y a b = unlike x y (λ same.
    let yes : key_eq (get_or rooms a.0 e).key (get_or rooms t e).key ≡ true = alike _ _ (sym a.2 ∙ ap (take width) same ∙ b) in
    let no : key_eq (get_or rooms a.0 e).key (get_or rooms t e).key ≡ false = rooms-apart rooms a.0 t e d a.1 low in
    cc)

pub kept-heavy : (p : List ℤ → Bool) (kept work : List Node) → AllHeavy kept → AllHeavy work → AllHeavy (kept ++ filter (λ a. p a.key) work)
kept-heavy p kept work a b = all_append (λ (c : Node). 1 ≤ c.weight) kept (filter (λ a. p a.key) work) a (all_filter (λ (c : Node). 1 ≤ c.weight) (λ a. p a.key) work b)
