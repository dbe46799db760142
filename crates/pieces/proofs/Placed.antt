-- The places of keys in ascending order, and the parts that they are dealt to.
use Rattle.std.proofs.Common.{◌≡◌, ℕ, zero, suc, ◌+◌, ◌*◌, ◌%◌, List, [], ◌∷◌, ◌++◌, length, Bool, true, false, cond, nat_eq, ◌&&◌, refl, sym, ◌∙◌, ap, arith}
use Rattle.std.specs.Prelude.{⊤, ℤ}
use Rattle.std.specs.declared.cmp.Ordering.TheVariants.{Less}
use Rattle.std.specs.List.{filter, AllByRecursion, IsDistinct}
use Rattle.std.specs.List.Sorted.{IsStrictlySortedBy}
use Rattle.std.specs.Ordering.{is_lt, ordering_reverse}
use Rattle.std.specs.Set.{is_member, distinct_count}
use Rattle.std.proofs.lemmas.Cmp.{lists_total, int_cmp_total, tied_itself}
use Rattle.std.proofs.lemmas.List.Kept.{IsStrictlySortedBy-filter}
use Rattle.std.proofs.lemmas.List.Sums.{sum_by-cons}
use Rattle.std.proofs.lemmas.Map.Keys.{sorted_head, sorted_tail, IsDistinct-from_sorted}
use Rattle.std.proofs.lemmas.Map.Made.{is_member-filter, length-from_keys}
use Rattle.node_pool.specs.Nodes.{Node, key_cmp, key_eq, keys, weighted}
use Rattle.node_pool.proofs.Puts.{same_key, key_equiv}
use Rattle.pieces.specs.Cuts.{owned_nodes}
use Rattle.pieces.specs.Parting.{dealt}

-- how many keys come before one
abbrev before : List ℤ → List (List ℤ) → ℕ
before q ks = length (filter (λ j. is_lt (key_cmp j q)) ks)

-- the keys of nodes stand at the places from i on
abbrev AllPlaced : (List ℤ → ℕ) → ℕ → List Node → Type 0
AllPlaced place i [] = ⊤
AllPlaced place i (a ∷ nodes) = (place a.key ≡ i) × AllPlaced place (suc i) nodes

not_less : (j q : List ℤ) → key_cmp q j ≡ Less → is_lt (key_cmp j q) ≡ false
not_less j q h = ap is_lt ((lists_total int_cmp_total).antisymm j q ∙ ap ordering_reverse h)

none-before : (q : List ℤ) (ks : List (List ℤ)) → AllByRecursion (λ y. key_cmp q y ≡ Less) ks → before q ks ≡ 0
none-before q [] a = refl
none-before q (k ∷ ks) a = rw (not_less k q a.0) (none-before q ks a.1)

itself : (k : List ℤ) → is_lt (key_cmp k k) ≡ false
itself k = ap is_lt (tied_itself (lists_total int_cmp_total) k)

one-before : (k q : List ℤ) (ks : List (List ℤ)) → key_cmp k q ≡ Less → before q (k ∷ ks) ≡ suc (before q ks)
one-before k q ks h = rw h refl

shift : (place other : List ℤ → ℕ) (i : ℕ) (nodes : List Node) → AllByRecursion (λ q. place q ≡ other q) (keys nodes) → AllPlaced other i nodes → AllPlaced place i nodes
shift place other i [] same a = tt
shift place other i (b ∷ nodes) same a = (same.0 ∙ a.0, shift place other (suc i) nodes same.1 a.1)

all_same : (P Q : List ℤ → Type 0) → ((q : List ℤ) → P q → Q q) → (ks : List (List ℤ)) → AllByRecursion P ks → AllByRecursion Q ks
all_same P Q w [] a = tt
all_same P Q w (k ∷ ks) a = (w k a.0, all_same P Q w ks a.1)

placed-from : (i : ℕ) (nodes : List Node) → IsStrictlySortedBy key_cmp (keys nodes) → AllPlaced (λ q. i + before q (keys nodes)) i nodes
placed-from i [] s = tt
placed-from i (a ∷ nodes) s =
    let head = sorted_head key_cmp a.key (keys nodes) s in
    let none : before a.key (a.key ∷ keys nodes) ≡ 0 = rw (itself a.key) (none-before a.key (keys nodes) head) in
    let first : i + before a.key (a.key ∷ keys nodes) ≡ i = omega (arith, none) in
    let later : (q : List ℤ) → key_cmp a.key q ≡ Less → i + before q (a.key ∷ keys nodes) ≡ suc i + before q (keys nodes) = λ q h. omega (arith, one-before a.key q (keys nodes) h) in
    (first, shift (λ q. i + before q (a.key ∷ keys nodes)) (λ q. suc i + before q (keys nodes)) (suc i) nodes (all_same (λ q. key_cmp a.key q ≡ Less) _ later (keys nodes) head) (placed-from (suc i) nodes (sorted_tail key_cmp a.key (keys nodes) s)))

-- the place among keys of which these are all, each once
module _ (nodes : List Node) (all : List (List ℤ)) (rising : IsStrictlySortedBy key_cmp (keys nodes)) (members : (q : List ℤ) → is_member key_eq (keys nodes) q ≡ is_member key_eq all q) where
  abbrev pub place : List ℤ → ℕ
  place q = distinct_count key_eq (filter (λ j. is_lt (key_cmp j q)) all)

  place-is : (q : List ℤ) → place q ≡ 0 + before q (keys nodes)
  place-is q =
      let less : List ℤ → Bool = λ j. is_lt (key_cmp j q) in
      let few : List (List ℤ) = filter less (keys nodes) in
      let same : (x : List ℤ) → is_member key_eq few x ≡ is_member key_eq (filter less all) x = λ x.
      is_member-filter key_equiv less x (λ y e. ap less (same_key x y e)) (keys nodes)
      ∙ ap (λ b. b && less x) (members x)
      ∙ sym (is_member-filter key_equiv less x (λ y e. ap less (same_key x y e)) all) in
      let distinct : IsDistinct key_eq few = IsDistinct-from_sorted key_cmp few (IsStrictlySortedBy-filter key_cmp less (keys nodes) rising) in
      let count : length few ≡ place q = length-from_keys key_equiv few (filter less all) distinct same in
      omega (arith, count)

  every : (P : List ℤ → Type 0) → ((q : List ℤ) → P q) → (ks : List (List ℤ)) → AllByRecursion P ks
  every P p [] = tt
  every P p (k ∷ ks) = (p k, every P p ks)

  pub placed : AllPlaced place 0 nodes
  placed = shift place (λ q. 0 + before q (keys nodes)) 0 nodes (every (λ q. place q ≡ 0 + before q (keys nodes)) place-is (keys nodes)) (placed-from 0 nodes rising)

-- keys that are dealt by their places
pub dealt-weighted : (f place : List ℤ → ℕ) (parts part i : ℕ) (nodes : List Node) → AllPlaced place i nodes → weighted f (owned_nodes nodes (dealt parts i (length nodes)) part) ≡ weighted (λ q. cond (nat_eq (place q % parts) part) (f q) 0) nodes
dealt-weighted f place parts part i [] a = refl
dealt-weighted f place parts part i (b ∷ nodes) a =
    let own : List Node = owned_nodes nodes (dealt parts (suc i) (length nodes)) part in
    let rest : weighted f own ≡ weighted (λ q. cond (nat_eq (place q % parts) part) (f q) 0) nodes = dealt-weighted f place parts part (suc i) nodes a.1 in
    sym (by (nat_eq (i % parts) part) own)
    ∙ ap (λ j. b.weight * cond (nat_eq (j % parts) part) (f b.key) 0 + weighted f own) (sym a.0)
    ∙ ap (λ m. b.weight * cond (nat_eq (place b.key % parts) part) (f b.key) 0 + m) rest
    ∙ sym (sum_by-cons (λ (e : Node). e.weight * cond (nat_eq (place e.key % parts) part) (f e.key) 0) b nodes)
  where
    none : (w : ℕ) → w * 0 ≡ 0
    none w = grind arith

    by : (t : Bool) (own : List Node) → b.weight * cond t (f b.key) 0 + weighted f own ≡ weighted f (cond t (b ∷ own) own)
    by true own = sym (sum_by-cons (λ (e : Node). e.weight * f e.key) b own)
    by false own = omega (arith, none b.weight)

pub length-dealt : (parts i count : ℕ) → length (dealt parts i count) ≡ count
length-dealt parts i zero = refl
length-dealt parts i (suc count) = ap suc (length-dealt parts (suc i) count)

dealt-suc : (parts i count : ℕ) → dealt parts i (suc count) ≡ dealt parts i count ++ ((i + count) % parts) ∷ []
dealt-suc parts i zero = let e : i + 0 ≡ i = omega arith in rw e refl
dealt-suc parts i (suc count) =
    let e : suc i + count ≡ i + suc count = omega arith in
    ap (λ os. (i % parts) ∷ os) (dealt-suc parts (suc i) count ∙ ap (λ m. dealt parts (suc i) count ++ (m % parts) ∷ []) e)

pub dealt-more : (parts count : ℕ) → dealt parts 0 (count + 1) ≡ dealt parts 0 count ++ (count % parts) ∷ []
dealt-more parts count =
    let e : 0 + count ≡ count = omega arith in
    let next : count + 1 ≡ suc count = omega arith in
    ap (dealt parts 0) next ∙ dealt-suc parts 0 count ∙ ap (λ m. dealt parts 0 count ++ (m % parts) ∷ []) e
