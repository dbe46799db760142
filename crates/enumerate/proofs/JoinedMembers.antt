-- Labellings that are put together: each begins with a labelling of the first counts, and the walk through them.
use Rattle.std.proofs.Common.{◌≡◌, ℕ, ◌≤◌, List, [], ◌∷◌, ◌++◌, length, take, drop, map, refl, sym, ◌∙◌, ap, subst, arith, length-append}
use Rattle.std.specs.Prelude.{Contains}
use Rattle.std.specs.List.{AllByRecursion, sum, sum_by}
use Rattle.std.proofs.Math.Seq.{drop-append_seam, take-append_seam}
use Rattle.std.proofs.lemmas.List.Elements.{All-contains, All-contains_itself, All-from_recursion, recursion_from_All}
use Rattle.weights.specs.Labellings.{labellings}
use Rattle.weights.proofs.Filters.{all_append, all_map, all_weaker}
use Rattle.weights.proofs.Members.{IsLabelling, labelling_from}
use Rattle.weights.proofs.Sums.{sum_by-flat_map, sum_by-map, sum_by-same}
use Rattle.enumerate.specs.Joined.{joined_labellings}
use Rattle.enumerate.proofs.Products.{joined, map-concat-product}

-- with counts in front
pub joined-front : (counts : List ℕ) (parts : List (List ℕ)) → joined_labellings (counts ∷ parts) ≡ joined (labellings counts) (joined_labellings parts)
joined-front counts parts = map-concat-product (labellings counts) (map labellings parts)

-- a sum over all, by the labellings of the first counts
pub over_joined : (counts : List ℕ) (parts : List (List ℕ)) (f : List ℕ → ℕ) → sum_by f (joined_labellings (counts ∷ parts)) ≡ sum_by (λ x. sum_by (λ ys. f (x ++ ys)) (joined_labellings parts)) (labellings counts)
over_joined counts parts f =
    ap (sum_by f) (joined-front counts parts)
    ∙ sum_by-flat_map f (λ x. map (λ ys. x ++ ys) (joined_labellings parts)) (labellings counts)
    ∙ sum_by-same (λ x. sum_by f (map (λ ys. x ++ ys) (joined_labellings parts))) (λ x. sum_by (λ ys. f (x ++ ys)) (joined_labellings parts)) (λ x. sum_by-map f (λ ys. x ++ ys) (joined_labellings parts)) (labellings counts)

-- each member of a list is one
pub own : (members : List (List ℕ)) → AllByRecursion (Contains members) members
own members = recursion_from_All (Contains members) members (All-contains_itself members)

pub each-labelling : (counts : List ℕ) → AllByRecursion (IsLabelling counts) (labellings counts)
each-labelling counts = all_weaker (Contains (labellings counts)) (IsLabelling counts) (labelling_from counts) (labellings counts) (own (labellings counts))

pub each-long : (counts : List ℕ) → AllByRecursion (λ x. length x ≡ sum counts) (labellings counts)
each-long counts = all_weaker (IsLabelling counts) (λ x. length x ≡ sum counts) (λ x l. l.over.long) (labellings counts) (each-labelling counts)

pub all-joined : (P Q R : List ℕ → Type 0) → ((x y : List ℕ) → P x → Q y → R (x ++ y)) → (parts rests : List (List ℕ)) → AllByRecursion P parts → AllByRecursion Q rests → AllByRecursion R (joined parts rests)
all-joined P Q R f [] rests a b = tt
all-joined P Q R f (x ∷ parts) rests a b =
    all_append R (map (λ rest. x ++ rest) rests) (joined parts rests) (all_map R (λ rest. x ++ rest) rests (all_weaker Q (λ y. R (x ++ y)) (λ y q. f x y a.0 q) rests b)) (all-joined P Q R f parts rests a.1 b)

-- a member begins with a labelling of the first counts, and goes on as a member of the others
pub record Parted (counts : List ℕ) (parts : List (List ℕ)) (r : List ℕ) : Type 0 where
  pub long : sum counts ≤ length r
  pub front : Contains (labellings counts) (take (sum counts) r)
  pub rest : Contains (joined_labellings parts) (drop (sum counts) r)

each-parted : (counts : List ℕ) (parts : List (List ℕ)) → AllByRecursion (Parted counts parts) (joined (labellings counts) (joined_labellings parts))
each-parted counts parts =
    all-joined (Contains (labellings counts)) (Contains (joined_labellings parts)) (Parted counts parts)
    (λ x y p q. (let long : length x ≡ sum counts = (labelling_from counts x p).over.long in record {
      long = omega (arith, long, length-append x y);
      front = subst (Contains (labellings counts)) (sym (ap (λ i. take i (x ++ y)) (sym long) ∙ take-append_seam x y)) p;
      rest = subst (Contains (joined_labellings parts)) (sym (ap (λ i. drop i (x ++ y)) (sym long) ∙ drop-append_seam x y)) q;
    }))
    (labellings counts) (joined_labellings parts) (own (labellings counts)) (own (joined_labellings parts))

pub parts-of : (counts : List ℕ) (parts : List (List ℕ)) (r : List ℕ) → Contains (joined_labellings (counts ∷ parts)) r → Parted counts parts r
parts-of counts parts r m =
    All-contains (Parted counts parts) (joined (labellings counts) (joined_labellings parts)) r
    (All-from_recursion (Parted counts parts) (joined (labellings counts) (joined_labellings parts)) (each-parted counts parts))
    (subst (λ members. Contains members r) (joined-front counts parts) m)

-- where there are no counts, the empty list alone is a member
pub none-joined : (r : List ℕ) → Contains (joined_labellings []) r → r ≡ []
none-joined [] m = refl
none-joined (x ∷ r) m = absurd (All-contains (λ y. y ≡ x ∷ r → ⊥) ([] ∷ []) (x ∷ r) (All-from_recursion (λ y. y ≡ x ∷ r → ⊥) ([] ∷ []) ((λ e. absurd (cc e)), tt)) m refl)
