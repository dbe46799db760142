-- Groups whose labels are put into another order.
use Rattle.std.proofs.Common.{◌≡◌, ◌≢◌, ℕ, ◌<◌, ◌≤◌, Bool, true, false, cond, nat_eq, nat_lt, List, [], ◌∷◌, length, map, get_or, bytes_eq, refl, sym, ap, ◌∙◌, subst, arith, zero-add}
use Rattle.std.specs.List.{All, AllPairs, Contains, count_by}
use Rattle.std.specs.List.Sorted.{IsPermutation}
use Rattle.std.proofs.lemmas.Bool.{false≢true}
use Rattle.std.proofs.lemmas.Bool.Decides.{nat_tests}
use Rattle.std.proofs.lemmas.List.{get_or-map, get_or_default, length-map}
use Rattle.std.proofs.lemmas.List.Elements.{All-head, All-map, All-tail, Contains-get_or, All-contains_itself}
use Rattle.std.proofs.lemmas.List.FromFn.{get_or-map-range_with_len, length-map-range_with_len}
use Rattle.std.proofs.lemmas.List.Sorted.{Contains-permutation, IsPermutation-sym, length_permutation}
use Rattle.std.proofs.lemmas.List.Sums.{fails_before_first, passes_at_first, position_or_len_is, sum_by-cons}
use Rattle.weights.specs.Labellings.{counts_of}
use Rattle.sample_reader.specs.Groups.{number_among}
use Rattle.sample_reader.specs.Orders.{renumbered}
use Rattle.sample_reader.proofs.Rearranged.{IsPermutation-from_contained, distinct-IsPermutation}
use Rattle.sample_reader.proofs.Sizes.{none_empty-counts}
use Rattle.sample_reader.proofs.SubjectLemmas.{equal_bytes, same_bytes}

abbrev pub number : List (List ℕ) → List ℕ → ℕ
number order label = number_among bytes_eq order label

-- ---- numbers and places

at_number : (order : List (List ℕ)) (label d : List ℕ) → number order label < length order → get_or order (number order label) d ≡ label
at_number order label d within = equal_bytes _ label (passes_at_first (λ known. bytes_eq known label) order d within)

contained : (order : List (List ℕ)) (label : List ℕ) → number order label < length order → Contains order label
contained order label within = (number order label, within, at_number order label label within)

numbered : (order : List (List ℕ)) (label : List ℕ) → Contains order label → number order label < length order
numbered order label has = by (nat_lt (number order label) (length order)) refl
  where
    by : (below : Bool) → nat_lt (number order label) (length order) ≡ below → number order label < length order
    by true e = grind (arith, nat_tests)
    by false e =
        let before : has.0 < number order label = let within = has.1 in grind (arith, nat_tests) in
        let fails = fails_before_first (λ known. bytes_eq known label) order has.0 label before in
        absurd (false≢true (sym fails ∙ subst (λ known. bytes_eq known label ≡ true) (sym has.2) (same_bytes label)))

-- ---- whether the order fits

abbrev pub AllThere : List (List ℕ) → List (List ℕ) → Type 0
AllThere labels order = (length (map (number order) labels) ≡ length order) × All (λ n. n < length order) (map (number order) labels)

at_place : (order labels : List (List ℕ)) (k : ℕ) (d : List ℕ) → k < length labels → All (λ n. n < length order) (map (number order) labels) → number order (get_or labels k d) < length order
at_place order labels k d within below =
    let e = get_or-map (number order) labels k d 0 within in
    let lt = below k 0 (omega (arith, length-map labels (number order))) in omega (arith, e, lt)

pub permutation : (labels order : List (List ℕ)) → AllPairs ◌≢◌ labels → AllThere labels order → IsPermutation labels order
permutation labels order distinct there =
    IsPermutation-from_contained labels order distinct (λ k d within. contained order (get_or labels k d) (at_place order labels k d within there.1)) (sym (length-map labels (number order)) ∙ there.0)

pub all_there : (labels order : List (List ℕ)) → IsPermutation labels order → AllThere labels order
all_there labels order same = (
  length-map labels (number order) ∙ sym (length_permutation labels order same),
  All-map (λ n. n < length order) (number order) labels (λ k d within. numbered order (get_or labels k d) (Contains-permutation labels order (get_or labels k d) same (All-contains_itself labels k d within))),
)

-- ---- the members

differ : (xs ys : List ℕ) → xs ≢ ys → bytes_eq xs ys ≡ false
differ xs ys other = by (bytes_eq xs ys) refl
  where
    by : (same : Bool) → bytes_eq xs ys ≡ same → bytes_eq xs ys ≡ false
    by true e = absurd (other (equal_bytes xs ys e))
    by false e = e

-- the number of the label at a place is that place
number-at : (order : List (List ℕ)) (k : ℕ) (d : List ℕ) → AllPairs ◌≢◌ order → k < length order → number order (get_or order k d) ≡ k
number-at order k d distinct within =
    let label = get_or order k d in
    position_or_len_is (λ known. bytes_eq known label) order k d (omega arith)
    (λ j before. differ (get_or order j d) label (distinct j k d before within))
    (λ _. same_bytes label)

pub renumber-is : (labels order : List (List ℕ)) (members : List ℕ) → All (λ member. member < length labels) members
    → map (λ member. get_or (map (number order) labels) member 0) members ≡ renumbered order labels members
renumber-is labels order [] below = refl
renumber-is labels order (member ∷ members) below =
    let small : ℕ → Type 0 = λ m. m < length labels in
    rw (get_or-map (number order) labels member [] 0 (All-head small member members below), renumber-is labels order members (All-tail small member members below))

renumber-below : (labels order : List (List ℕ)) (members : List ℕ) → All (λ member. member < length labels) members → AllThere labels order
    → All (λ member. member < length order) (renumbered order labels members)
renumber-below labels order members below there =
    All-map (λ member. member < length order) (λ member. number order (get_or labels member [])) members (λ k d within. at_place order labels (get_or members k d) [] (below k d within) there.1)

one_where : (x m y g : ℕ) → (x ≡ m → y ≡ g) → cond (nat_eq x m) 1 0 ≤ cond (nat_eq y g) 1 0
one_where x m y g h = by (nat_eq x m) refl
  where
    by : (same : Bool) → nat_eq x m ≡ same → cond (nat_eq x m) 1 0 ≤ cond (nat_eq y g) 1 0
    by true e = let is : x ≡ m = grind (arith, nat_tests) in let then_is = h is in grind (arith, nat_tests)
    by false e = rw e (omega arith)

count-map : (f : ℕ → ℕ) (m g : ℕ) (members : List ℕ) → f m ≡ g → count_by (λ member. nat_eq member m) members ≤ count_by (λ member. nat_eq member g) (map f members)
count-map f m g [] e = omega arith
count-map f m g (x ∷ members) e =
    let rest = count-map f m g members e in
    let first = one_where x m (f x) g (λ is. ap f is ∙ e) in
    rw (sum_by-cons (λ member. cond (nat_eq member m) 1 0) x members, sum_by-cons (λ member. cond (nat_eq member g) 1 0) (f x) (map f members)) (omega (arith, rest, first))

-- the size of a group
size-at : (groups group : ℕ) (members : List ℕ) → group < groups → All (λ size. 1 ≤ size) (counts_of groups members) → 0 < count_by (λ member. nat_eq member group) members
size-at groups group members within sizes =
    let count : ℕ → ℕ = λ g. count_by (λ member. nat_eq member g) members in
    let e = get_or-map-range_with_len count 0 groups group group 0 within (zero-add group) in
    let size = sizes group 0 (omega (arith, length-map-range_with_len count 0 groups)) in
    omega (arith, e, size)

renumber-none_empty : (labels order : List (List ℕ)) (members : List ℕ) → AllPairs ◌≢◌ order → IsPermutation labels order
    → All (λ size. 1 ≤ size) (counts_of (length labels) members)
    → (group : ℕ) → group < length order → 0 < count_by (λ member. nat_eq member group) (renumbered order labels members)
renumber-none_empty labels order members distinct same sizes group within =
    let label = get_or order group [] in
    let has = Contains-permutation order labels label (IsPermutation-sym labels order same) (Contains-get_or order group [] within) in
    let place : get_or labels has.0 [] ≡ label = get_or_default labels has.0 [] label has.1 ∙ has.2 in
    let is : number order (get_or labels has.0 []) ≡ group = ap (number order) place ∙ number-at order group [] distinct within in
    let size = size-at (length labels) has.0 members has.1 sizes in
    let more = count-map (λ member. number order (get_or labels member [])) has.0 group members is in
    omega (arith, size, more)

-- Groups whose labels are those of the order: what holds of them by the order.
pub record AreReordered (labels order : List (List ℕ)) (members : List ℕ) : Type 0 where
  pub many : length order ≡ length labels
  pub distinct : AllPairs ◌≢◌ order
  pub one_each : length (renumbered order labels members) ≡ length members
  pub groups_exist : All (λ group. group < length order) (renumbered order labels members)
  pub none_empty : All (λ size. 1 ≤ size) (counts_of (length order) (renumbered order labels members))

pub are_reordered : (labels order : List (List ℕ)) (members sizes : List ℕ) → AllPairs ◌≢◌ labels → IsPermutation labels order → All (λ group. group < length labels) members
    → sizes ≡ counts_of (length labels) members → All (λ size. 1 ≤ size) sizes → AreReordered labels order members
are_reordered labels order members sizes distinct same exist counted none_empty =
    let also_distinct = distinct-IsPermutation labels order same distinct in
    record {
      many = length_permutation labels order same;
      distinct = also_distinct;
      one_each = length-map members _;
      groups_exist = renumber-below labels order members exist (all_there labels order same);
      none_empty = none_empty-counts (length order) (renumbered order labels members) (renumber-none_empty labels order members also_distinct same (rw counted at none_empty));
    }
