-- One label more, where the labels are kept by their numbers.
use Rattle.std.proofs.Common.{◌≡◌, ◌≢◌, ℕ, ◌+◌, ◌<◌, ◌≤◌, Bool, true, false, cond, not, nat_eq, nat_lt, ℤ, List, [], ◌∷◌, ◌++◌, length, map, bytes_eq, Ok, Err, refl, sym, ap, ◌∙◌, arith}
use Rattle.std.specs.List.{All, position_or_len}
use Rattle.std.proofs.lemmas.Bool.Decides.{nat_tests}
use Rattle.std.proofs.lemmas.List.{get_or_append_left, map-append}
use Rattle.std.proofs.Math.Seq.{get_or-append_seam}
use Rattle.std.proofs.lemmas.List.Elements.{All-head, All-tail}
use Rattle.std.proofs.lemmas.List.Sums.{passes_at_first, prefix_len-le-length}
use Rattle.std.proofs.lemmas.Slice.Eq.{bytes_eq-Decides}
use Rattle.record_reader.specs.declared.faults.Kind.TheVariants.{GroupTooMany}
use Rattle.sample_reader.specs.GroupLayout.{different, with_label}
use Rattle.sample_reader.specs.Groups.{number_among, with_item}
use Rattle.sample_reader.specs.Kept.{AreKept, labels_at, subjects_of}
use Rattle.sample_reader.specs.Numbered.{IsNumbered}
use Rattle.sample_reader.proofs.Appearances.{IsNumbered-new, IsNumbered-known}

pub equal_bytes : (xs ys : List ℕ) → bytes_eq xs ys ≡ true → xs ≡ ys
equal_bytes xs ys = (bytes_eq-Decides xs ys).0

pub same_bytes : (xs : List ℕ) → bytes_eq xs xs ≡ true
same_bytes xs = (bytes_eq-Decides xs xs).1 refl

-- the first place of an item of a list of images
pub position_or_len-map : {X Y : Type 0} (f : X → Y) (p : Y → Bool) (xs : List X) → position_or_len p (map f xs) ≡ position_or_len (λ x. p (f x)) xs
position_or_len-map f p [] = refl
position_or_len-map f p (x ∷ xs) = ap (λ n. cond (not (p (f x))) (1 + n) 0) (position_or_len-map f p xs)

labels_at-push : (labels : List (List ℕ)) (members : List ℕ) (label : List ℕ) → All (λ member. member < length labels) members → labels_at (labels ++ label ∷ []) members ≡ labels_at labels members
labels_at-push labels [] label below = refl
labels_at-push labels (member ∷ members) label below =
    let small : ℕ → Type 0 = λ m. m < length labels in
    rw (get_or_append_left labels (label ∷ []) [] member (All-head small member members below), labels_at-push labels members label (All-tail small member members below))

-- One label more: the labels that are kept, and the numbers with its number.
pub record IsNext (labels more : List (List ℕ)) (members : List ℕ) (number : ℕ) (label : List ℕ) : Type 0 where
  pub labels_are : labels_at more (members ++ number ∷ []) ≡ labels_at labels members ++ label ∷ []
  pub numbered : IsNumbered bytes_eq (labels_at labels members ++ label ∷ []) more (members ++ number ∷ [])

next-new : (labels : List (List ℕ)) (members : List ℕ) (number : ℕ) (label : List ℕ)
    → IsNumbered bytes_eq (labels_at labels members) labels members → number ≡ number_among bytes_eq labels label → number ≡ length labels
    → IsNext labels (labels ++ label ∷ []) members number label
next-new labels members number label old is_number is_new = record {
  labels_are = rw (is_new, map-append, labels_at-push labels members label old.below, get_or-append_seam labels label [] []);
  numbered = rw is_new (IsNumbered-new bytes_eq equal_bytes same_bytes _ labels members label old (sym is_number ∙ is_new));
}

next-known : (labels : List (List ℕ)) (members : List ℕ) (number : ℕ) (label : List ℕ)
    → IsNumbered bytes_eq (labels_at labels members) labels members → number ≡ number_among bytes_eq labels label → number ≢ length labels
    → IsNext labels labels members number label
next-known labels members number label old is_number is_old =
    let low = prefix_len-le-length (λ known. not (bytes_eq known label)) labels in
    let within : number_among bytes_eq labels label < length labels = omega arith in
    let known = equal_bytes _ label (passes_at_first (λ known. bytes_eq known label) labels [] within) in
    record {
      labels_are = rw (is_number, map-append, known);
      numbered = rw is_number (IsNumbered-known bytes_eq equal_bytes same_bytes _ labels members label old within);
    }

next-by : (labels : List (List ℕ)) (members : List ℕ) (number : ℕ) (label : List ℕ) (is_new : Bool) → is_new ≡ nat_eq (number_among bytes_eq labels label) (length labels)
    → IsNumbered bytes_eq (labels_at labels members) labels members → number ≡ number_among bytes_eq labels label
    → IsNext labels (cond is_new (labels ++ label ∷ []) labels) members number label
next-by labels members number label true test old is_number =
    let is_new : number ≡ length labels = grind (arith, nat_tests) in next-new labels members number label old is_number is_new
next-by labels members number label false test old is_number =
    let is_old : number ≢ length labels = λ e. grind (arith, nat_tests) in next-known labels members number label old is_number is_old

-- one label more is inserted
pub next : (labels more : List (List ℕ)) (members : List ℕ) (number : ℕ) (label : List ℕ) → IsNumbered bytes_eq (labels_at labels members) labels members
    → number ≡ number_among bytes_eq labels label → more ≡ with_item bytes_eq labels label → IsNext labels more members number label
next labels more members number label old is_number more_are = rw more_are (next-by labels members number label _ refl old is_number)

module _ (labels more : List (List ℕ)) (members : List ℕ) (values : List ℤ) (number most : ℕ) (label : List ℕ) (one_more : IsNext labels more members number label) where
  pub with_label-many : most < length more → with_label most (subjects_of labels members values) label ≡ Err GroupTooMany
  with_label-many many =
      let test : nat_lt most (length (different (labels_at labels members ++ label ∷ []))) ≡ true = rw (← one_more.numbered.in_order) (grind (arith, nat_tests)) in
      rw test

  pub with_label-few : length more ≤ most → with_label most (subjects_of labels members values) label ≡ Ok (subjects_of more (members ++ number ∷ []) values)
  with_label-few few =
      let test : nat_lt most (length (different (labels_at labels members ++ label ∷ []))) ≡ false = rw (← one_more.numbered.in_order) (grind (arith, nat_tests)) in
      rw (test, one_more.labels_are)

  pub kept-next : AreKept labels members values → AreKept more (members ++ number ∷ []) values
  kept-next kept = record { numbered = rw one_more.labels_are one_more.numbered; in_range = kept.in_range }
