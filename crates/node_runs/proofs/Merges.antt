-- A weight that is merged in: no key weighs nothing, and what is merged into nothing stands alone.
use Rattle.std.proofs.Common.{◌≡◌, ℕ, ◌+◌, ◌≤◌, List, [], ◌∷◌, Bool, true, false, cond, ◌||◌, refl, sym, ◌∙◌, ap, arith, subst}
use Rattle.std.specs.Prelude.{ℤ}
use Rattle.std.specs.List.{IsDistinct, AllByRecursion}
use Rattle.std.specs.Set.{is_member}
use Rattle.std.proofs.lemmas.Map.Keys.{IsDistinct-head, IsDistinct-tail}
use Rattle.node_pool.specs.Nodes.{Node, node, key_eq, keys, is_held, weight_in}
use Rattle.node_pool.specs.Pool.{IsMerge}
use Rattle.node_pool.proofs.Puts.{alike, unlike, same_key}

-- each node weighs at least 1
abbrev AllHeavy : List Node → Type 0
AllHeavy nodes = AllByRecursion (λ (a : Node). 1 ≤ a.weight) nodes

pub member-holds : (P : List ℤ → Type 0) (nodes : List Node) (q : List ℤ) → AllByRecursion (λ a. P a.key) nodes → is_member key_eq (keys nodes) q ≡ true → P q
member-holds P [] q a m = cc
member-holds P (b ∷ nodes) q a m =
    elim (key_eq q b.key) as (λ t. key_eq q b.key ≡ t → (t || is_member key_eq (keys nodes) q) ≡ true → P q) [
      | true ↦ λ e m'. subst P (sym (same_key q b.key e)) a.0
      | false ↦ λ e m'. member-holds P nodes q a.1 m'
    ] refl m

heavy-in : (k : List ℤ) (nodes : List Node) → AllHeavy nodes → is_held nodes k ≡ true → 1 ≤ weight_in nodes k
heavy-in k [] a m = cc
heavy-in k (b ∷ nodes) a m = elim (key_eq b.key k) as (λ t. key_eq b.key k ≡ t → 1 ≤ cond t b.weight (weight_in nodes k)) [
  | true ↦ λ e. a.0
  | false ↦ λ e.
      let other : key_eq k b.key ≡ false = unlike k b.key (λ same. let yes : key_eq b.key k ≡ true = alike b.key k (sym same) in cc) in
      heavy-in k nodes a.1 (ap (λ t. t || is_held nodes k) (sym other) ∙ m)
] refl

heavy-of : (nodes : List Node) → IsDistinct key_eq (keys nodes) → ((k : List ℤ) → is_held nodes k ≡ true → 1 ≤ weight_in nodes k) → AllHeavy nodes
heavy-of [] d h = tt
heavy-of (b ∷ nodes) d h =
    let here : key_eq b.key b.key ≡ true = alike b.key b.key refl in (
      subst (λ t. 1 ≤ cond t b.weight (weight_in nodes b.key)) here (h b.key (ap (λ t. t || is_held nodes b.key) here)),
      heavy-of nodes (IsDistinct-tail key_eq b.key (keys nodes) d) (λ k m.
          let apart : key_eq b.key k ≡ false = member-holds (λ j. key_eq b.key j ≡ false) nodes k (all_keys_back nodes (IsDistinct-head key_eq b.key (keys nodes) d)) m in
          subst (λ t. 1 ≤ cond t b.weight (weight_in nodes k)) apart (h k (ap (λ t. key_eq k b.key || t) m ∙ or_true (key_eq k b.key)))),
    )
  where
    or_true : (t : Bool) → (t || true) ≡ true
    or_true true = refl
    or_true false = refl

    all_keys_back : (xs : List Node) → AllByRecursion (λ j. key_eq b.key j ≡ false) (keys xs) → AllByRecursion (λ (a : Node). key_eq b.key a.key ≡ false) xs
    all_keys_back [] a = tt
    all_keys_back (x ∷ xs) a = (a.0, all_keys_back xs a.1)

pub heavy-merge : (old : List Node) (k : List ℤ) (w : ℕ) (new : List Node) → IsMerge old k w new → 1 ≤ w → AllHeavy old → AllHeavy new
heavy-merge old k w new m h a = heavy-of new m.distinct (λ j held. elim (key_eq j k) as (λ t. key_eq j k ≡ t → 1 ≤ weight_in new j) [
  | true ↦ λ e. rw (same_key j k e) (omega (arith, m.here, h))
  | false ↦ λ e. rw (m.others j (λ same. let yes : key_eq j k ≡ true = alike j k same in cc)) (heavy-in j old a (ap (λ t. t || is_held old j) (sym e) ∙ sym (m.members j) ∙ held))
] refl)

-- what is merged into nothing stands alone
merge_alone : (k : List ℤ) (w : ℕ) (new : List Node) → IsMerge [] k w new → (j : List ℤ) → is_held new j ≡ true → j ≡ k
merge_alone k w new m j held = same_key j k (or_none (key_eq j k) (sym (m.members j) ∙ held))
  where
    or_none : (b : Bool) → (b || false) ≡ true → b ≡ true
    or_none true e = refl
    or_none false e = e

pub merge_first : (k : List ℤ) (w : ℕ) (new : List Node) → IsMerge [] k w new → new ≡ node k w ∷ []
merge_first k w [] m = let yes : key_eq k k ≡ true = alike k k refl in let no : false ≡ (key_eq k k || false) = m.members k in let clash : false ≡ (true || false) = no ∙ ap (λ t. t || false) yes in cc
merge_first k w (a ∷ []) m =
    let key : a.key ≡ k = merge_alone k w (a ∷ []) m a.key (ap (λ t. t || false) (alike a.key a.key refl)) in
    let here : cond (key_eq a.key k) a.weight 0 ≡ 0 + w = m.here in
    let weight : a.weight ≡ 0 + w = sym (ap (λ t. cond t a.weight 0) (alike a.key k key)) ∙ here in
    ap (λ x. node x a.weight ∷ []) key ∙ ap (λ x. node k x ∷ []) (let e : a.weight ≡ w = omega (arith, weight) in e)
merge_first k w (a ∷ b ∷ rest) m =
    let first : a.key ≡ k = merge_alone k w (a ∷ b ∷ rest) m a.key (ap (λ t. t || is_held (b ∷ rest) a.key) (alike a.key a.key refl)) in
    let second : b.key ≡ k = merge_alone k w (a ∷ b ∷ rest) m b.key (ap (λ t. key_eq b.key a.key || (t || is_held rest b.key)) (alike b.key b.key refl) ∙ or_true (key_eq b.key a.key)) in
    let no : key_eq a.key b.key ≡ false = (IsDistinct-head key_eq a.key (keys (b ∷ rest)) m.distinct).0 in
    let yes : key_eq a.key b.key ≡ true = alike a.key b.key (first ∙ sym second) in
    cc
  where
    or_true : (t : Bool) → (t || true) ≡ true
    or_true true = refl
    or_true false = refl
