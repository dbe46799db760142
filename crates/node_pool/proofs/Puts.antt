-- A node put into a list of nodes.
use Rattle.std.proofs.Common.{◌≡◌, ◌≢◌, ℕ, zero, suc, ◌+◌, ◌*◌, ◌<◌, ◌≤◌, List, [], ◌∷◌, ◌++◌, length, get_or, set, Bool, true, false, cond, ◌||◌, refl, arith, sym, ◌∙◌, ap, subst, inl, inr, nat_eq}
use Rattle.std.specs.Prelude.{ℤ}
use Rattle.std.specs.List.{IsDistinct, AllByRecursion}
use Rattle.std.specs.Set.{is_member}
use Rattle.std.specs.Ordering.{int_cmp}
use Rattle.std.specs.Cmp.{IsEquivalence, eq_by_cmp_equiv, signed_Decides}
use Rattle.std.specs.Cmp.Lexicographic.{pointwise_decides, lists_ties}
use Rattle.std.proofs.lemmas.Cmp.{lists_total, int_cmp_total}
use Rattle.std.proofs.lemmas.Bool.{cases_eq}
use Rattle.std.proofs.lemmas.List.Sums.{sum_by-cons}
use Rattle.std.proofs.lemmas.Map.Keys.{IsDistinct-head, IsDistinct-tail, IsDistinct-cons}
use Rattle.node_pool.specs.Nodes.{Node, key_eq, keys, weighted, weight_in}
use Rattle.node_pool.specs.Pool.{IsMerge, IsPlaced}
use Rattle.node_pool.specs.PoolSteps.{put}

pub key_equiv : IsEquivalence key_eq
key_equiv = eq_by_cmp_equiv (lists_total int_cmp_total)

-- keys that compare alike are one
pub same_key : (j k : List ℤ) → key_eq j k ≡ true → j ≡ k
same_key j k e = (pointwise_decides signed_Decides j k).0 (lists_ties int_cmp (λ x y. refl) j k ∙ e)

pub alike : (j k : List ℤ) → j ≡ k → key_eq j k ≡ true
alike j k e = subst (λ x. key_eq j x ≡ true) e (key_equiv.refl j)

pub unlike : (j k : List ℤ) → j ≢ k → key_eq j k ≡ false
unlike j k ne = elim (key_eq j k) as (λ b. key_eq j k ≡ b → b ≡ false) [ true ↦ λ e. absurd (ne (same_key j k e)) | false ↦ λ e. refl ] refl

-- a key that is put in: what every sum gains
pub put-weighted : (f : List ℤ → ℕ) (k : List ℤ) (w : ℕ) (nodes : List Node) → weighted f (put k w nodes) ≡ weighted f nodes + w * f k
put-weighted f k w [] = refl
put-weighted f k w (a ∷ nodes) =
    elim (key_eq a.key k) as (λ t. key_eq a.key k ≡ t → weighted f (cond t (record { key = a.key; weight = a.weight + w } ∷ nodes) (a ∷ put k w nodes)) ≡ weighted f (a ∷ nodes) + w * f k) [
      | true ↦ λ e.
          let one : f a.key ≡ f k = ap f (same_key a.key k e) in
          rw (sum_by-cons (λ c. c.weight * f c.key) (record { key = a.key; weight = a.weight + w }) nodes, sum_by-cons (λ c. c.weight * f c.key) a nodes) (rw one (omega arith))
      | false ↦ λ e. rw (sum_by-cons (λ c. c.weight * f c.key) a (put k w nodes), sum_by-cons (λ c. c.weight * f c.key) a nodes, put-weighted f k w nodes) (omega arith)
    ] refl

-- its members
or_swap : (b c d : Bool) → (b || (c || d)) ≡ (c || (b || d))
or_swap true true d = refl
or_swap true false d = refl
or_swap false c d = refl

or_same : (b c : Bool) → (b || (b || c)) ≡ (b || c)
or_same true c = refl
or_same false c = refl

pub put-members : (q k : List ℤ) (w : ℕ) (nodes : List Node) → is_member key_eq (keys (put k w nodes)) q ≡ (key_eq q k || is_member key_eq (keys nodes) q)
put-members q k w [] = refl
put-members q k w (a ∷ nodes) =
    elim (key_eq a.key k) as (λ t. key_eq a.key k ≡ t → is_member key_eq (keys (cond t (record { key = a.key; weight = a.weight + w } ∷ nodes) (a ∷ put k w nodes))) q ≡ (key_eq q k || (key_eq q a.key || is_member key_eq (keys nodes) q))) [
      | true ↦ λ e. sym (ap (λ j. key_eq q j || (key_eq q a.key || is_member key_eq (keys nodes) q)) (sym (same_key a.key k e)) ∙ or_same (key_eq q a.key) (is_member key_eq (keys nodes) q))
      | false ↦ λ e. ap (λ b. key_eq q a.key || b) (put-members q k w nodes) ∙ or_swap (key_eq q a.key) (key_eq q k) (is_member key_eq (keys nodes) q)
    ] refl

-- its keys stay apart
put-apart : (j k : List ℤ) (w : ℕ) (nodes : List Node) → key_eq j k ≡ false → AllByRecursion (λ y. key_eq j y ≡ false) (keys nodes) → AllByRecursion (λ y. key_eq j y ≡ false) (keys (put k w nodes))
put-apart j k w [] ne a = (ne, tt)
put-apart j k w (b ∷ nodes) ne a =
    elim (key_eq b.key k) as (λ t. AllByRecursion (λ y. key_eq j y ≡ false) (keys (cond t (record { key = b.key; weight = b.weight + w } ∷ nodes) (b ∷ put k w nodes)))) [
      | true ↦ a
      | false ↦ (a.0, put-apart j k w nodes ne a.1)
    ]

pub put-distinct : (k : List ℤ) (w : ℕ) (nodes : List Node) → IsDistinct key_eq (keys nodes) → IsDistinct key_eq (keys (put k w nodes))
put-distinct k w [] d = IsDistinct-cons key_eq k [] tt d
put-distinct k w (a ∷ nodes) d =
    elim (key_eq a.key k) as (λ t. key_eq a.key k ≡ t → IsDistinct key_eq (keys (cond t (record { key = a.key; weight = a.weight + w } ∷ nodes) (a ∷ put k w nodes)))) [
      | true ↦ λ e. d
      | false ↦ λ e. IsDistinct-cons key_eq a.key (keys (put k w nodes)) (put-apart a.key k w nodes e (IsDistinct-head key_eq a.key (keys nodes) d)) (put-distinct k w nodes (IsDistinct-tail key_eq a.key (keys nodes) d))
    ] refl

-- where no node has the key it is put at the end
pub put-new : (k : List ℤ) (w : ℕ) (nodes : List Node) → ((i : ℕ) (d : Node) → i < length nodes → (get_or nodes i d).key ≢ k) → put k w nodes ≡ nodes ++ record { key = k; weight = w } ∷ []
put-new k w [] none = refl
put-new k w (a ∷ nodes) none =
    let not_here : key_eq a.key k ≡ false = unlike a.key k (none 0 a (omega arith)) in
    rw not_here (ap (λ ns. a ∷ ns) (put-new k w nodes (λ i d h. none (suc i) d (omega (arith, h)))))

-- where one has it, its weight grows
apart_at : (j : List ℤ) (nodes : List Node) (i : ℕ) (d : Node) → i < length nodes → AllByRecursion (λ y. key_eq j y ≡ false) (keys nodes) → key_eq j (get_or nodes i d).key ≡ false
apart_at j [] i d h a = absurd (omega arith)
apart_at j (b ∷ nodes) zero d h a = a.0
apart_at j (b ∷ nodes) (suc i) d h a = apart_at j nodes i d (omega (arith, h)) a.1

pub put-held : (k : List ℤ) (w : ℕ) (nodes : List Node) (i : ℕ) (d : Node) → IsDistinct key_eq (keys nodes) → i < length nodes → (get_or nodes i d).key ≡ k → put k w nodes ≡ set nodes i (record { key = k; weight = (get_or nodes i d).weight + w })
put-held k w [] i d a h e = absurd (omega arith)
put-held k w (b ∷ nodes) zero d a h e = rw (alike b.key k e) (rw e refl)
put-held k w (b ∷ nodes) (suc i) d a h e =
    let low : i < length nodes = omega (arith, h) in
    let not_here : key_eq b.key k ≡ false = subst (λ x. key_eq b.key x ≡ false) e (apart_at b.key nodes i d low (IsDistinct-head key_eq b.key (keys nodes) a)) in
    rw not_here (ap (λ ns. b ∷ ns) (put-held k w nodes i d (IsDistinct-tail key_eq b.key (keys nodes) a) low e))

pub weight-held : (k : List ℤ) (nodes : List Node) (i : ℕ) (d : Node) → IsDistinct key_eq (keys nodes) → i < length nodes → (get_or nodes i d).key ≡ k → weight_in nodes k ≡ (get_or nodes i d).weight
weight-held k [] i d a h e = absurd (omega arith)
weight-held k (b ∷ nodes) zero d a h e = rw (alike b.key k e) refl
weight-held k (b ∷ nodes) (suc i) d a h e =
    let low : i < length nodes = omega (arith, h) in
    let not_here : key_eq b.key k ≡ false = subst (λ x. key_eq b.key x ≡ false) e (apart_at b.key nodes i d low (IsDistinct-head key_eq b.key (keys nodes) a)) in
    rw not_here (weight-held k nodes i d (IsDistinct-tail key_eq b.key (keys nodes) a) low e)

pub held-member : (k : List ℤ) (nodes : List Node) (i : ℕ) (d : Node) → i < length nodes → (get_or nodes i d).key ≡ k → is_member key_eq (keys nodes) k ≡ true
held-member k [] i d h e = absurd (omega arith)
held-member k (b ∷ nodes) zero d h e = rw (alike k b.key (sym e)) refl
held-member k (b ∷ nodes) (suc i) d h e = ap (λ t. key_eq k b.key || t) (held-member k nodes i d (omega (arith, h)) e) ∙ or_true (key_eq k b.key)
  where
    or_true : (b : Bool) → (b || true) ≡ true
    or_true true = refl
    or_true false = refl

pub not-member : (k : List ℤ) (nodes : List Node) → ((i : ℕ) (d : Node) → i < length nodes → (get_or nodes i d).key ≢ k) → is_member key_eq (keys nodes) k ≡ false
not-member k [] none = refl
not-member k (a ∷ nodes) none =
    let not_here : key_eq k a.key ≡ false = unlike k a.key (λ e. none 0 a (omega arith) (sym e)) in
    rw not_here (not-member k nodes (λ i d h. none (suc i) d (omega (arith, h))))

pub weight_in-le : (k : List ℤ) (nodes : List Node) → weight_in nodes k ≤ weighted (λ k. 1) nodes
weight_in-le k [] = omega arith
weight_in-le k (a ∷ nodes) = rw (sum_by-cons (λ (c : Node). c.weight * 1) a nodes) (elim (key_eq a.key k) as (λ t. cond t a.weight (weight_in nodes k) ≤ a.weight * 1 + weighted (λ k. 1) nodes) [
  | true ↦ omega arith
  | false ↦ omega (arith, weight_in-le k nodes)
])

pub none_distinct : IsDistinct key_eq []
unfolding IsDistinct
none_distinct = tt

-- a place keeps its key
pub put-keeps : (k : List ℤ) (w : ℕ) (nodes : List Node) (i : ℕ) (d : Node) → i < length nodes → (get_or (put k w nodes) i d).key ≡ (get_or nodes i d).key
put-keeps k w [] i d h = absurd (omega arith)
put-keeps k w (a ∷ nodes) zero d h = elim (key_eq a.key k) as (λ t. (get_or (cond t (record { key = a.key; weight = a.weight + w } ∷ nodes) (a ∷ put k w nodes)) 0 d).key ≡ a.key) [ true ↦ refl | false ↦ refl ]
put-keeps k w (a ∷ nodes) (suc i) d h = elim (key_eq a.key k) as (λ t. (get_or (cond t (record { key = a.key; weight = a.weight + w } ∷ nodes) (a ∷ put k w nodes)) (suc i) d).key ≡ (get_or nodes i d).key) [ true ↦ refl | false ↦ put-keeps k w nodes i d (omega (arith, h)) ]

pub put-longer : (k : List ℤ) (w : ℕ) (nodes : List Node) → length nodes ≤ length (put k w nodes)
put-longer k w [] = omega arith
put-longer k w (a ∷ nodes) = elim (key_eq a.key k) as (λ t. suc (length nodes) ≤ length (cond t (record { key = a.key; weight = a.weight + w } ∷ nodes) (a ∷ put k w nodes))) [ true ↦ omega arith | false ↦ omega (arith, put-longer k w nodes) ]

-- where a key stands after it was put in
abbrev PlaceCount : List ℤ → ℕ → List Node → ℕ → Type 0
PlaceCount k w nodes i = i < length (put k w nodes) → ((d : Node) → (get_or (put k w nodes) i d).key ≡ k) → (i < length nodes → length (put k w nodes) ≡ length nodes) × (length nodes ≤ i → length (put k w nodes) ≡ length nodes + 1)

place-behind : (k : List ℤ) (w : ℕ) (a : Node) (nodes : List Node) (i : ℕ) → ((j : ℕ) → PlaceCount k w nodes j) → key_eq a.key k ≡ false → i < suc (length (put k w nodes)) → ((d : Node) → (get_or (a ∷ put k w nodes) i d).key ≡ k) → (i < suc (length nodes) → suc (length (put k w nodes)) ≡ suc (length nodes)) × (suc (length nodes) ≤ i → suc (length (put k w nodes)) ≡ suc (length nodes) + 1)
place-behind k w a nodes zero rest e h at = let yes : key_eq a.key k ≡ true = alike a.key k (at a) in cc
place-behind k w a nodes (suc i) rest e h at =
    let here = rest i (omega (arith, h)) at in
    (λ low. ap suc (here.0 (omega (arith, low))), λ high. omega (arith, here.1 (omega (arith, high))))

pub place-count : (k : List ℤ) (w : ℕ) (nodes : List Node) (i : ℕ) → i < length (put k w nodes) → ((d : Node) → (get_or (put k w nodes) i d).key ≡ k) → (i < length nodes → length (put k w nodes) ≡ length nodes) × (length nodes ≤ i → length (put k w nodes) ≡ length nodes + 1)
place-count k w [] i h at = (λ low. absurd (omega (arith, low)), λ high. refl)
place-count k w (a ∷ nodes) i h at =
    elim (key_eq a.key k) as (λ t. key_eq a.key k ≡ t → i < length (cond t (record { key = a.key; weight = a.weight + w } ∷ nodes) (a ∷ put k w nodes)) → ((d : Node) → (get_or (cond t (record { key = a.key; weight = a.weight + w } ∷ nodes) (a ∷ put k w nodes)) i d).key ≡ k) → (i < suc (length nodes) → length (cond t (record { key = a.key; weight = a.weight + w } ∷ nodes) (a ∷ put k w nodes)) ≡ suc (length nodes)) × (suc (length nodes) ≤ i → length (cond t (record { key = a.key; weight = a.weight + w } ∷ nodes) (a ∷ put k w nodes)) ≡ suc (length nodes) + 1)) [
      | true ↦ λ e h' at'. (λ low. refl, λ high. absurd (omega (arith, h', high)))
      | false ↦ λ e h' at'. place-behind k w a nodes i (place-count k w nodes) e h' at'
    ] refl h at

put-length-le : (k : List ℤ) (w : ℕ) (nodes : List Node) → length (put k w nodes) ≤ length nodes + 1
put-length-le k w [] = omega arith
put-length-le k w (a ∷ nodes) = elim (key_eq a.key k) as (λ t. length (cond t (record { key = a.key; weight = a.weight + w } ∷ nodes) (a ∷ put k w nodes)) ≤ suc (length nodes) + 1) [ true ↦ omega arith | false ↦ omega (arith, put-length-le k w nodes) ]

pub place-near : (k : List ℤ) (w : ℕ) (nodes : List Node) (i : ℕ) → i < length (put k w nodes) → ((d : Node) → (get_or (put k w nodes) i d).key ≡ k) → i ≤ length nodes
place-near k w nodes i h at = omega (arith, h, put-length-le k w nodes)

not_eq : (i m : ℕ) → i ≢ m → nat_eq i m ≡ false
not_eq i m ne = grind arith

nat_eq-same : (m : ℕ) → nat_eq m m ≡ true
nat_eq-same m = grind arith

pub place-if : (k : List ℤ) (w : ℕ) (nodes : List Node) (i : ℕ) → i < length (put k w nodes) → ((d : Node) → (get_or (put k w nodes) i d).key ≡ k) → length (put k w nodes) ≡ cond (nat_eq i (length nodes)) (length nodes + 1) (length nodes)
place-if k w nodes i h at = elim (cases_eq i (length nodes)) [
  | inl e ↦
      let yes : nat_eq i (length nodes) ≡ true = rw e (nat_eq-same (length nodes)) in
      rw yes ((place-count k w nodes i h at).1 (omega (arith, e)))
  | inr ne ↦
      let no : nat_eq i (length nodes) ≡ false = not_eq i (length nodes) ne in
      rw no ((place-count k w nodes i h at).0 (below i (length nodes) ne (place-near k w nodes i h at)))
]
  where
    below : (i m : ℕ) → i ≢ m → i ≤ m → i < m
    below i m ne h = grind arith

-- what a key weighs after it was put in, and what the others do
put-here : (k : List ℤ) (w : ℕ) (nodes : List Node) → weight_in (put k w nodes) k ≡ weight_in nodes k + w
put-here k w [] = rw (alike k k refl) (omega arith)
put-here k w (a ∷ nodes) =
    elim (key_eq a.key k) as (λ t. key_eq a.key k ≡ t → weight_in (cond t (record { key = a.key; weight = a.weight + w } ∷ nodes) (a ∷ put k w nodes)) k ≡ cond t a.weight (weight_in nodes k) + w) [
      | true ↦ λ e. rw e refl
      | false ↦ λ e. rw e (put-here k w nodes)
    ] refl

put-others : (k j : List ℤ) (w : ℕ) (nodes : List Node) → j ≢ k → weight_in (put k w nodes) j ≡ weight_in nodes j
put-others k j w [] ne = rw (unlike k j (λ e. ne (sym e))) refl
put-others k j w (a ∷ nodes) ne =
    elim (key_eq a.key k) as (λ t. key_eq a.key k ≡ t → weight_in (cond t (record { key = a.key; weight = a.weight + w } ∷ nodes) (a ∷ put k w nodes)) j ≡ weight_in (a ∷ nodes) j) [
      | true ↦ λ e. let no : key_eq a.key j ≡ false = unlike a.key j (λ h. ne (sym h ∙ same_key a.key k e)) in rw no refl
      | false ↦ λ e. ap (λ m. cond (key_eq a.key j) a.weight m) (put-others k j w nodes ne)
    ] refl

-- the two together
pub put-merge : (k : List ℤ) (w : ℕ) (nodes : List Node) → IsDistinct key_eq (keys nodes) → IsMerge nodes k w (put k w nodes)
put-merge k w nodes d = record {
  here = put-here k w nodes;
  others = λ j ne. put-others k j w nodes ne;
  distinct = put-distinct k w nodes d;
  members = λ j. put-members j k w nodes;
  sums = λ f. put-weighted f k w nodes;
}

pub put-placed : (k : List ℤ) (w : ℕ) (nodes : List Node) (i : ℕ) → i < length (put k w nodes) → ((d : Node) → (get_or (put k w nodes) i d).key ≡ k) → IsPlaced nodes k (put k w nodes) i
put-placed k w nodes i h at = record {
  within = h;
  stands = at;
  near = place-near k w nodes i h at;
  count = place-if k w nodes i h at;
  kept = λ j d low. put-keeps k w nodes j d low;
}
