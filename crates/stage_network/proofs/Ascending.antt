-- Nodes that are sorted by their keys and laid flat: the same sums, each key once, strictly ascending.
use Rattle.std.proofs.Common.{◌≡◌, ℕ, zero, suc, ◌+◌, ◌*◌, ◌<◌, ◌≤◌, List, [], ◌∷◌, ◌++◌, length, map, get_or, true, false, refl, sym, ◌∙◌, ap, subst, arith}
use Rattle.std.specs.Prelude.{ℤ, IsPermutation}
use Rattle.std.specs.List.{AllByRecursion, IsDistinct, dedup_from}
use Rattle.std.specs.List.Sorted.{IsSortedBy, IsSorted, IsStrictlySortedBy}
use Rattle.std.specs.Ordering.{is_lt, ordering_then, int_cmp}
use Rattle.std.specs.declared.cmp.Ordering.{Ordering}
use Rattle.std.specs.declared.cmp.Ordering.TheVariants.{Less, Equal, Greater}
use Rattle.std.specs.Set.{is_member, distinct_count}
use Rattle.std.proofs.lemmas.Cmp.{lists_total, int_cmp_total}
use Rattle.std.proofs.lemmas.List.{get_or-map, length-map}
use Rattle.std.proofs.lemmas.List.Elements.{recursion_from_All, All-from_recursion}
use Rattle.std.proofs.lemmas.List.Kept.{IsStrictlySortedBy-dedup}
use Rattle.std.proofs.lemmas.List.Sorted.{sum_by-IsPermutation, length_permutation, IsPermutation-map, All-permutation}
use Rattle.std.proofs.lemmas.Map.Keys.{IsDistinct-head, IsDistinct-tail}
use Rattle.std.proofs.lemmas.Map.Made.{length-from_keys, IsDistinct-from_count}
use Rattle.node_pool.specs.Nodes.{Node, key_cmp, key_eq, keys, weighted}
use Rattle.node_pool.proofs.Puts.{alike, unlike, key_equiv}
use Rattle.stage_network.specs.NodeSteps.{AllHeavy}
use Rattle.stage_network.proofs.Gathered.{same-members}
use Rattle.stage_network.specs.declared.ordering.Entry.{Entry}
use Rattle.stage_network.specs.Ordering.{entry_cmp, entry_node}

other_way : (k y : List ℤ) → key_eq k y ≡ false → key_eq y k ≡ false
other_way k y differ = unlike y k (λ e. let yes : key_eq k y ≡ true = alike k y (sym e) in cc)

own_dedup : (k : List ℤ) (ks : List (List ℤ)) → IsDistinct key_eq (k ∷ ks) → dedup_from key_eq k ks ≡ k ∷ ks
own_dedup k [] d = refl
own_dedup k (x ∷ ks) d =
    let differ : key_eq x k ≡ false = other_way k x (IsDistinct-head key_eq k (x ∷ ks) d).0 in
    rw differ (ap (λ js. k ∷ js) (own_dedup x ks (IsDistinct-tail key_eq k (x ∷ ks) d)))

strictly : (ks : List (List ℤ)) → IsSorted key_cmp ks → IsDistinct key_eq ks → IsStrictlySortedBy key_cmp ks
strictly [] s d = IsStrictlySortedBy-dedup (lists_total int_cmp_total) (λ x y. refl) [] s
strictly (k ∷ ks) s d = subst (IsStrictlySortedBy key_cmp) (own_dedup k ks d) (IsStrictlySortedBy-dedup (lists_total int_cmp_total) (λ x y. refl) (k ∷ ks) s)

-- keys in rooms of one width compare by room and then by partial
then-then : (a b c : Ordering) → ordering_then (ordering_then a b) c ≡ ordering_then a (ordering_then b c)
then-then Less b c = refl
then-then Equal b c = refl
then-then Greater b c = refl

by-room : (r s p q : List ℤ) → length r ≡ length s → key_cmp (r ++ p) (s ++ q) ≡ ordering_then (key_cmp r s) (key_cmp p q)
by-room [] [] p q e = refl
by-room [] (y ∷ s) p q e = absurd (omega (arith, e))
by-room (x ∷ r) [] p q e = absurd (omega (arith, e))
by-room (x ∷ r) (y ∷ s) p q e = ap (ordering_then (int_cmp x y)) (by-room r s p q (omega (arith, e))) ∙ sym (then-then (int_cmp x y) (key_cmp r s) (key_cmp p q))

abbrev pub nodes_in : List Entry → List Node
nodes_in entries = map entry_node entries

keys-in : (entries : List Entry) → keys (nodes_in entries) ≡ map (λ (e : Entry). e.room.now ++ e.partial.now) entries
keys-in [] = refl
keys-in (e ∷ entries) = ap (λ ks. (e.room.now ++ e.partial.now) ∷ ks) (keys-in entries)

abbrev pub AllInRooms : ℕ → List Entry → Type 0
AllInRooms width entries = AllByRecursion (λ (e : Entry). length e.room.now ≡ width) entries

entry_at : (width : ℕ) (entries : List Entry) (i : ℕ) (d : Entry) → AllInRooms width entries → i < length entries → length (get_or entries i d).room.now ≡ width
entry_at width [] i d a h = absurd (omega (arith, h))
entry_at width (e ∷ entries) zero d a h = a.0
entry_at width (e ∷ entries) (suc i) d a h = entry_at width entries i d a.1 (omega (arith, h))

sorted-at : (width : ℕ) (entries : List Entry) (d' : Entry) → AllInRooms width entries → IsSortedBy (λ a b. is_lt (entry_cmp a b)) entries → IsSorted key_cmp (map (λ (e : Entry). e.room.now ++ e.partial.now) entries)
sorted-at width entries d' wide s k d low high =
    let key : Entry → List ℤ = λ e. e.room.now ++ e.partial.now in
    let before : k + 1 < length entries = omega (arith, high, length-map entries key) in
    let here : k < length entries = omega (arith, before) in
    let a : Entry = get_or entries k d' in
    let b : Entry = get_or entries (k + 1) d' in
    let first : get_or (map key entries) k d ≡ key a = get_or-map key entries k d' d here in
    let second : get_or (map key entries) (k + 1) d ≡ key b = get_or-map key entries (k + 1) d' d before in
    rw (first, second, by-room b.room.now a.room.now b.partial.now a.partial.now (entry_at width entries (k + 1) d' wide before ∙ sym (entry_at width entries k d' wide here))) (s k d' low before)

keys-sorted : (width : ℕ) (entries : List Entry) → AllInRooms width entries → IsSortedBy (λ a b. is_lt (entry_cmp a b)) entries → IsSorted key_cmp (map (λ (e : Entry). e.room.now ++ e.partial.now) entries)
keys-sorted width [] wide s = λ k d low high. absurd (omega (arith, high))
keys-sorted width (e ∷ entries) wide s = sorted-at width (e ∷ entries) e wide s

module _ (entries sorted : List Entry) (moved : IsPermutation entries sorted) where
  nodes-moved : IsPermutation (nodes_in entries) (nodes_in sorted)
  nodes-moved = IsPermutation-map entry_node entries sorted moved

  pub same-sums : (f : List ℤ → ℕ) → weighted f (nodes_in sorted) ≡ weighted f (nodes_in entries)
  same-sums f = sum_by-IsPermutation (λ (a : Node). a.weight * f a.key) (nodes_in entries) (nodes_in sorted) nodes-moved

  pub still_all : (P : Node → Type 0) → AllByRecursion P (nodes_in entries) → AllByRecursion P (nodes_in sorted)
  still_all P a = recursion_from_All P (nodes_in sorted) (All-permutation P (nodes_in entries) (nodes_in sorted) nodes-moved (All-from_recursion P (nodes_in entries) a))

  pub still_members : AllHeavy (nodes_in entries) → (q : List ℤ) → is_member key_eq (keys (nodes_in sorted)) q ≡ is_member key_eq (keys (nodes_in entries)) q
  still_members heavy = same-members (nodes_in sorted) (nodes_in entries) (still_all (λ (a : Node). 1 ≤ a.weight) heavy) heavy same-sums

  pub still_distinct : AllHeavy (nodes_in entries) → IsDistinct key_eq (keys (nodes_in entries)) → IsDistinct key_eq (keys (nodes_in sorted))
  still_distinct heavy d =
      let xs : List Node = nodes_in entries in
      let ys : List Node = nodes_in sorted in
      let count : length (keys xs) ≡ distinct_count key_eq (keys ys) = length-from_keys key_equiv (keys xs) (keys ys) d (λ q. sym (still_members heavy q)) in
      let long : length (keys ys) ≡ length (keys xs) = length-map ys (λ (a : Node). a.key) ∙ length_permutation xs ys nodes-moved ∙ sym (length-map xs (λ (a : Node). a.key)) in
      IsDistinct-from_count key_equiv (keys ys) (sym count ∙ sym long)

  still_in_rooms : (width : ℕ) → AllInRooms width entries → AllInRooms width sorted
  still_in_rooms width a = recursion_from_All (λ (e : Entry). length e.room.now ≡ width) sorted (All-permutation (λ (e : Entry). length e.room.now ≡ width) entries sorted moved (All-from_recursion (λ (e : Entry). length e.room.now ≡ width) entries a))

  pub ascending : (width : ℕ) → AllInRooms width entries → AllHeavy (nodes_in entries) → IsDistinct key_eq (keys (nodes_in entries)) → IsSortedBy (λ a b. is_lt (entry_cmp a b)) sorted → IsStrictlySortedBy key_cmp (keys (nodes_in sorted))
  ascending width wide heavy d s = strictly (keys (nodes_in sorted)) (subst (IsSorted key_cmp) (sym (keys-in sorted)) (keys-sorted width sorted (still_in_rooms width wide) s)) (still_distinct heavy d)
