-- The items of a list, numbered in the order in which they first appear.
use Rattle.std.proofs.Common.{◌≡◌, ◌≢◌, ℕ, ◌+◌, ◌<◌, ◌≤◌, Bool, true, false, cond, not, ◌||◌, nat_eq, nat_lt, List, [], ◌∷◌, ◌++◌, length, map, get_or, refl, sym, ap, ◌∙◌, subst, Some, None, arith}
use Rattle.std.specs.Option.{unwrap_or}
use Rattle.std.specs.List.{All, count_by, filter, list_any, position, position_or_len}
use Rattle.std.proofs.lemmas.Bool.{false≢true}
use Rattle.std.proofs.lemmas.Bool.Decides.{nat_tests}
use Rattle.std.proofs.lemmas.List.{append-nil, length_push, map-append}
use Rattle.std.proofs.lemmas.List.Elements.{All-head, All-tail, All-push, All-weaker, filter-append}
use Rattle.std.proofs.lemmas.List.Folds.{position_or_len_push, list_any_none, list_any_at}
use Rattle.std.proofs.lemmas.List.Quantifiers.{all_pairs_push}
use Rattle.std.proofs.lemmas.List.Sums.{prefix_len-le-length, fails_before_first, passes_at_first, sum_by_push}
use Rattle.std.proofs.lemmas.Map.Views.{any-filter_same}
use Rattle.sample_reader.specs.Groups.{first_appearances, number_among}
use Rattle.sample_reader.specs.Numbered.{IsNumbered}

unwrap_or-cond : (m n : ℕ) → m ≤ n → unwrap_or (cond (nat_lt m n) (Some m) None) n ≡ m
unwrap_or-cond m n h = grind (arith, nat_tests)

pub unwrap_or-position : {X : Type 0} (p : X → Bool) (xs : List X) → unwrap_or (position p xs) (length xs) ≡ position_or_len p xs
unwrap_or-position p xs = unwrap_or-cond _ _ (prefix_len-le-length (λ x. not (p x)) xs)

positive-push : (m : ℕ) (b : Bool) → (b ≡ false → 0 < m) → 0 < m + cond b 1 0
positive-push m true h = omega arith
positive-push m false h = let p = h refl in omega arith

-- each number that occurred, and the one that is added, occurs
occurs-push : (members : List ℕ) (n group : ℕ) → (group ≢ n → 0 < count_by (λ member. nat_eq member group) members) → 0 < count_by (λ member. nat_eq member group) (members ++ n ∷ [])
occurs-push members n group h =
    rw (sum_by_push (λ member. cond (nat_eq member group) 1 0) members n) (positive-push _ (nat_eq n group) (λ other. h (λ e. grind (arith, nat_tests))))

module _ {X : Type 0} (same : X → X → Bool) where
  module _ (equal : (x y : X) → same x y ≡ true → x ≡ y) (reflexive : (x : X) → same x x ≡ true) where
    symmetric_where_same : (x y : X) → same x y ≡ true → same x y ≡ same y x
    symmetric_where_same x y e = subst (λ w. same x w ≡ same w x) (equal x y e) refl

    symmetric : (x y : X) → same x y ≡ same y x
    symmetric x y = by (same x y) (same y x) refl refl
      where
        by : (s t : Bool) → same x y ≡ s → same y x ≡ t → same x y ≡ same y x
        by true t e f = symmetric_where_same x y e
        by false true e f = sym (symmetric_where_same y x f)
        by false false e f = e ∙ sym f

    -- whether an item is kept by the filter that drops the label z
    kept : (z x : X) (b dropped : Bool) → same x z ≡ dropped → filter (λ y. not (same y z)) (cond b [] (x ∷ [])) ≡ cond (dropped || b) [] (x ∷ [])
    kept z x true true e = refl
    kept z x true false e = refl
    kept z x false true e = rw e
    kept z x false false e = rw e

    -- the filter that drops z keeps the labels that are x, if x is another label
    any-kept : (z x : X) (rest : List X) → same x z ≡ false → list_any (λ y. same y x) (filter (λ y. not (same y z)) rest) ≡ list_any (λ y. same y x) rest
    any-kept z x rest e =
        any-filter_same (λ y. same y x) (λ y. not (same y z)) true (λ k t. subst (λ w. not (same w z) ≡ true) (sym (equal k x t)) (ap not e)) rest

    push_cases : (z x : X) (rest : List X) → filter (λ y. not (same y z)) (cond (list_any (λ y. same y x) rest) [] (x ∷ []))
        ≡ cond (same z x || list_any (λ y. same y x) (filter (λ y. not (same y z)) rest)) [] (x ∷ [])
    push_cases z x rest = by (same x z) refl
      where
        by : (dropped : Bool) → same x z ≡ dropped → filter (λ y. not (same y z)) (cond (list_any (λ y. same y x) rest) [] (x ∷ []))
            ≡ cond (same z x || list_any (λ y. same y x) (filter (λ y. not (same y z)) rest)) [] (x ∷ [])
        by true e = kept z x _ true e ∙ ap (λ t. cond (t || list_any (λ y. same y x) (filter (λ y. not (same y z)) rest)) [] (x ∷ [])) (sym e ∙ symmetric x z)
        by false e =
            kept z x _ false e ∙ ap (λ t. cond t [] (x ∷ [])) (sym (any-kept z x rest e))
            ∙ ap (λ t. cond (t || list_any (λ y. same y x) (filter (λ y. not (same y z)) rest)) [] (x ∷ [])) (sym e ∙ symmetric x z)

    -- one more item is a new label where no label is the same
    pub first_appearances-push : (xs : List X) (x : X) → first_appearances same (xs ++ x ∷ [])
        ≡ first_appearances same xs ++ cond (list_any (λ y. same y x) (first_appearances same xs)) [] (x ∷ [])
    first_appearances-push [] x = refl
    first_appearances-push (z ∷ zs) x =
        let labels = first_appearances same zs in
        let drops : X → Bool = λ y. not (same y z) in
        ap (λ rest. z ∷ filter drops rest) (first_appearances-push zs x)
        ∙ ap (λ rest. z ∷ rest) (filter-append drops labels (cond (list_any (λ y. same y x) labels) [] (x ∷ [])) ∙ ap (λ rest. filter drops labels ++ rest) (push_cases z x labels))

    -- a label that is there keeps its number when another is added
    number_among-push : (labels : List X) (x y : X) → number_among same labels y < length labels → number_among same (labels ++ x ∷ []) y ≡ number_among same labels y
    number_among-push labels x y h = let e = position_or_len_push (λ z. same z y) labels x in grind (arith, nat_tests)

    numbers-push : (labels seen : List X) (x : X) → All (λ member. member < length labels) (map (number_among same labels) seen)
        → map (number_among same (labels ++ x ∷ [])) seen ≡ map (number_among same labels) seen
    numbers-push labels [] x h = refl
    numbers-push labels (y ∷ seen) x h =
        let small : ℕ → Type 0 = λ member. member < length labels in
        rw (
          number_among-push labels x y (All-head small (number_among same labels y) (map (number_among same labels) seen) h),
          numbers-push labels seen x (All-tail small (number_among same labels y) (map (number_among same labels) seen) h),
        )

    -- an item that stands after all labels is none of them
    none_is : (labels : List X) (x : X) → number_among same labels x ≡ length labels → (k : ℕ) (d : X) → k < length labels → same (get_or labels k d) x ≡ false
    none_is labels x h k d lt = fails_before_first (λ y. same y x) labels k d (omega arith)

    new_number : (labels : List X) (x : X) → number_among same labels x ≡ length labels → number_among same (labels ++ x ∷ []) x ≡ length labels
    new_number labels x h = let e = position_or_len_push (λ z. same z x) labels x in let r = reflexive x in grind (arith, nat_tests)

    pub IsNumbered-new : (seen labels : List X) (members : List ℕ) (x : X) → IsNumbered same seen labels members → number_among same labels x ≡ length labels
        → IsNumbered same (seen ++ x ∷ []) (labels ++ x ∷ []) (members ++ length labels ∷ [])
    IsNumbered-new seen labels members x old h =
        let small : ℕ → Type 0 = λ member. member < length labels in
        let grows : length (labels ++ x ∷ []) ≡ length labels + 1 = length_push labels x in
        let none : list_any (λ y. same y x) labels ≡ false = list_any_none _ labels (λ k d lt. none_is labels x h k d lt) in
        let all_below : All small (map (number_among same labels) seen) = subst (λ ms. All small ms) old.numbers old.below in
        record {
          in_order = rw (first_appearances-push seen x, ← old.in_order, none);
          numbers = rw (map-append, numbers-push labels seen x all_below, new_number labels x h, ← old.numbers);
          below = All-push (λ member. member < length (labels ++ x ∷ [])) members (length labels) (All-weaker small (λ member. member < length (labels ++ x ∷ [])) (λ m lt. omega arith) members old.below) (omega arith);
          none_empty = λ group lt. occurs-push members (length labels) group (λ ne. old.none_empty group (omega arith));
          distinct = all_pairs_push ◌≢◌ labels x old.distinct (λ k d lt e. false≢true (sym (none_is labels x h k d lt) ∙ subst (λ w. same w x ≡ true) (sym e) (reflexive x)));
        }

    pub IsNumbered-known : (seen labels : List X) (members : List ℕ) (x : X) → IsNumbered same seen labels members → number_among same labels x < length labels
        → IsNumbered same (seen ++ x ∷ []) labels (members ++ number_among same labels x ∷ [])
    IsNumbered-known seen labels members x old h =
        let known : list_any (λ y. same y x) labels ≡ true = list_any_at _ labels _ x h (passes_at_first (λ y. same y x) labels x h) in
        record {
          in_order = rw (first_appearances-push seen x, ← old.in_order, known, append-nil);
          numbers = rw (map-append, ← old.numbers);
          below = All-push (λ member. member < length labels) members _ old.below h;
          none_empty = λ group lt. occurs-push members _ group (λ ne. old.none_empty group lt);
          distinct = old.distinct;
        }
