-- Nodes whose keys are those reached through open keys, each once: how many are open, and where they lead.
use Rattle.std.proofs.Common.{◌≡◌, ℕ, List, [], ◌∷◌, ◌++◌, map, Bool, true, false, cond, ◌&&◌, ◌||◌, refl, sym, ◌∙◌, ap, length}
use Rattle.std.specs.Prelude.{ℤ}
use Rattle.std.specs.List.{flat_map, filter, IsDistinct, AllByRecursion}
use Rattle.std.specs.Set.{is_member, distinct_count}
use Rattle.std.proofs.lemmas.List.{length-map}
use Rattle.std.proofs.lemmas.Map.Made.{is_member-filter, length-from_keys}
use Rattle.std.proofs.lemmas.Map.Keys.{IsDistinct-head, IsDistinct-tail, IsDistinct-cons}
use Rattle.node_runs.proofs.Merges.{member-holds}
use Rattle.weights.proofs.Filters.{all_filter}
use Rattle.node_pool.specs.Nodes.{Node, key_eq, keys}
use Rattle.networks.specs.Network.{Network}
use Rattle.stage_network.specs.NodeSteps.{successor, successors}
use Rattle.stage_network.proofs.NodeSums.{opened_to, or_true}
use Rattle.node_pool.proofs.Puts.{same_key, key_equiv}
pub use Rattle.std.proofs.lemmas.List.{map-append}

-- a filter keeps keys apart
pub distinct_filter : (p : List ℤ → Bool) (ks : List (List ℤ)) → IsDistinct key_eq ks → IsDistinct key_eq (filter p ks)
distinct_filter p [] d = d
distinct_filter p (k ∷ ks) d =
    elim (p k) as (λ b. IsDistinct key_eq (cond b (k ∷ filter p ks) (filter p ks))) [
      | true ↦ IsDistinct-cons key_eq k (filter p ks) (all_filter (λ y. key_eq k y ≡ false) p ks (IsDistinct-head key_eq k ks d)) (distinct_filter p ks (IsDistinct-tail key_eq k ks d))
      | false ↦ distinct_filter p ks (IsDistinct-tail key_eq k ks d)
    ]

map-map : {X Y Z : Type 0} (f : Y → Z) (h : X → Y) (xs : List X) → map f (map h xs) ≡ map (λ x. f (h x)) xs
map-map f h [] = refl
map-map f h (x ∷ xs) = ap (λ zs. f (h x) ∷ zs) (map-map f h xs)

pub keys-opened_to : (n : Network) (p : ℕ → List ℤ → Bool) (g : ℕ) (nodes : List Node) → keys (opened_to n p g nodes) ≡ flat_map (λ k. map (n.next g k) (n.choices g k)) (filter (p g) (keys nodes))
keys-opened_to n p g [] = refl
keys-opened_to n p g (a ∷ nodes) =
    elim (p g a.key) as (λ b. keys (flat_map (successors n g) (cond b (a ∷ filter (λ a. p g a.key) nodes) (filter (λ a. p g a.key) nodes))) ≡ flat_map (λ k. map (n.next g k) (n.choices g k)) (cond b (a.key ∷ filter (p g) (keys nodes)) (filter (p g) (keys nodes)))) [
      | true ↦ map-append (λ (b : Node). b.key) (successors n g a) (opened_to n p g nodes)
          ∙ ap (λ ks. ks ++ keys (opened_to n p g nodes)) (map-map (λ (b : Node). b.key) (successor n g a) (n.choices g a.key))
          ∙ ap (λ ks. map (n.next g a.key) (n.choices g a.key) ++ ks) (keys-opened_to n p g nodes)
      | false ↦ keys-opened_to n p g nodes
    ]

pub all_of_members : (P : List ℤ → Type 0) (merged : List Node) → ((q : List ℤ) → is_member key_eq (keys merged) q ≡ true → P q) → AllByRecursion (λ a. P a.key) merged
all_of_members P [] h = tt
all_of_members P (a ∷ merged) h = (
  h a.key (ap (λ b. b || is_member key_eq (keys merged) a.key) (key_equiv.refl a.key)),
  all_of_members P merged (λ q m. h q (ap (λ b. key_eq q a.key || b) m ∙ or_true (key_eq q a.key))),
)

pub same-holds : (P : List ℤ → Type 0) (nodes merged : List Node) → AllByRecursion (λ a. P a.key) nodes → ((q : List ℤ) → is_member key_eq (keys merged) q ≡ is_member key_eq (keys nodes) q) → AllByRecursion (λ a. P a.key) merged
same-holds P nodes merged a same = all_of_members P merged (λ q m. member-holds P nodes q a (sym (same q) ∙ m))

pub one_distinct : (k : List ℤ) → IsDistinct key_eq (k ∷ [])
unfolding IsDistinct
one_distinct k = (tt, tt)

-- how many pass another test, which only keys that pass meet
and_skip : (a b c : Bool) → (c ≡ true → b ≡ true) → ((a && b) && c) ≡ (a && c)
and_skip false b c h = refl
and_skip true true c h = refl
and_skip true false false h = refl
and_skip true false true h = h refl

pub keys-filter : (p : List ℤ → Bool) (nodes : List Node) → keys (filter (λ a. p a.key) nodes) ≡ filter p (keys nodes)
keys-filter p [] = refl
keys-filter p (a ∷ nodes) = elim (p a.key) as (λ b. keys (cond b (a ∷ filter (λ a. p a.key) nodes) (filter (λ a. p a.key) nodes)) ≡ cond b (a.key ∷ filter p (keys nodes)) (filter p (keys nodes))) [ true ↦ ap (λ ks. a.key ∷ ks) (keys-filter p nodes) | false ↦ keys-filter p nodes ]

pub counted-once : (p f : List ℤ → Bool) (nodes : List Node) (ks : List (List ℤ)) → IsDistinct key_eq (keys nodes) → ((k : List ℤ) → f k ≡ true → p k ≡ true) → ((q : List ℤ) → is_member key_eq (keys nodes) q ≡ (is_member key_eq ks q && p q)) → length (filter (λ (a : Node). f a.key) nodes) ≡ distinct_count key_eq (filter f ks)
counted-once p f nodes ks apart pass was =
    let same : (q : List ℤ) (x : List ℤ) → key_eq q x ≡ true → f q ≡ f x = λ q x e. ap f (same_key q x e) in
    sym (length-map (filter (λ (a : Node). f a.key) nodes) (λ (a : Node). a.key))
    ∙ ap length (keys-filter f nodes)
    ∙ length-from_keys key_equiv (filter f (keys nodes)) (filter f ks) (distinct_filter f (keys nodes) apart)
    (λ q. is_member-filter key_equiv f q (same q) (keys nodes) ∙ ap (λ b. b && f q) (was q) ∙ and_skip (is_member key_eq ks q) (p q) (f q) (pass q) ∙ sym (is_member-filter key_equiv f q (same q) ks))
