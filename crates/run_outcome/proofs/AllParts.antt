-- The texts of all parts of a run, each once, are pieces that are put together.
use Rattle.std.proofs.Common.{◌≡◌, ◌≢◌, ◌∙◌, ℕ, zero, suc, ◌<◌, ◌≤◌, ◌||◌, List, [], ◌∷◌, AllPairs, get_or, length, map, take, Bool, true, false, nat_eq, not, Ok, ap, arith, refl, subst, sym}
use Rattle.std.specs.List.{AllByRecursion, flat_map}
use Rattle.std.proofs.lemmas.Bool.Decides.{nat_tests}
use Rattle.std.proofs.lemmas.List.{get_or-map, get_or-take, get_or_default, length-map, length-take}
use Rattle.outside.specs.declared.source.TheConstants.{LONGEST_FILE}
use Rattle.weights.specs.declared.tails.Tail.TheVariants.{Less, Greater, Two}
use Rattle.settings.specs.WholeRuns.{whole}
use Rattle.settings.specs.declared.settings.Settings.{Settings}
use Rattle.piece_texts.specs.declared.merging.Merged.{Merged}
use Rattle.piece_texts.specs.declared.piece.Piece.{Piece}
use Rattle.piece_texts.specs.Merges.{MergeGives, doubled_at, greater_of, lacks_piece, less_of, merged_number, occurs, parts_of, two_of}
use Rattle.piece_texts.specs.Places.{NoneBelow, piece_at, unknown}
use Rattle.pieces.specs.Undivided.{AreOfOneRun}
use Rattle.pieces.proofs.WholeRuns.{one-run-mergeable}
use Rattle.run_outcome.specs.Divided.{AreAll, AreParts, AsksAnswerable}
use Rattle.run_outcome.specs.MergedRuns.{AllPartsMerge, MergeOutcome}
use Rattle.run_outcome.specs.Outcome.{outcome_of_bytes}
use Rattle.run_outcome.specs.Questions.{Questions}
use Rattle.run_outcome.proofs.Undivided.{divided, merged-report, own, own-texts, whole-answer, whole-report}

-- ---- numbers in a list

contained-occurs : (x : ℕ) (xs : List ℕ) (k : ℕ) → k < length xs → x ≡ get_or xs k 0 → occurs x xs ≡ true
contained-occurs x [] k low same = absurd (omega (arith, low))
contained-occurs x (y ∷ xs) zero low same = let here : nat_eq y x ≡ true = grind (arith, nat_tests, same) in rw here refl
contained-occurs x (y ∷ xs) (suc k) low same = by (nat_eq y x) (contained-occurs x xs k (omega (arith, low)) same)
  where
    by : (b : Bool) → occurs x xs ≡ true → (b || occurs x xs) ≡ true
    by true e = refl
    by false e = e

occurs-contained : (x : ℕ) (xs : List ℕ) → occurs x xs ≡ true → (k : ℕ) × (k < length xs) × (x ≡ get_or xs k 0)
occurs-contained x [] e = absurd cc
occurs-contained x (y ∷ xs) e = by (nat_eq y x) refl e (occurs-contained x xs)
  where
    by : (b : Bool) → nat_eq y x ≡ b → (b || occurs x xs) ≡ true → (occurs x xs ≡ true → (k : ℕ) × (k < length xs) × (x ≡ get_or xs k 0)) → (k : ℕ) × (k < suc (length xs)) × (x ≡ get_or (y ∷ xs) k 0)
    by true s e rest = (0, omega arith, grind (arith, nat_tests, s))
    by false s e rest = let found = rest e in (suc found.0, omega (arith, found.1), found.2)

none-before : (order : List ℕ) → AllPairs ◌≢◌ order → (i : ℕ) → i < length order → occurs (get_or order i 0) (take i order) ≡ false
none-before order distinct i low = by (occurs (get_or order i 0) (take i order)) refl
  where
    by : (b : Bool) → occurs (get_or order i 0) (take i order) ≡ b → b ≡ false
    by false e = refl
    by true e =
        let found = occurs-contained (get_or order i 0) (take i order) e in
        let below : found.0 < i = omega (arith, found.1, length-take i order) in
        let same : get_or (take i order) found.0 0 ≡ get_or order found.0 0 = get_or-take i order found.0 0 below in
        absurd (distinct found.0 i 0 below low (sym (found.2 ∙ same)))

-- ---- the parts of one run

module _ (questions : Questions) (settings : Settings) (file bytes : List ℕ) (parts : AreParts questions settings file bytes) (answer : AsksAnswerable questions settings file) where
  abbrev piece_of : ℕ → Piece
  piece_of = own questions settings file bytes parts answer

  parts-are : (order : List ℕ) → parts_of (map piece_of order) ≡ order
  parts-are [] = refl
  parts-are (part ∷ order) = ap (λ (rest : List ℕ). part ∷ rest) (parts-are order)

  place-is : (order : List ℕ) (i : ℕ) → i < length (map piece_of order) → piece_at (map piece_of order) i ≡ piece_of (get_or order i 0)
  place-is order i low = get_or-map piece_of order i 0 unknown (omega (arith, low, length-map order piece_of))

  all-pieces : (P : Piece → Type 0) → ((part : ℕ) → P (piece_of part)) → (order : List ℕ) → AllByRecursion P (map piece_of order)
  all-pieces P each [] = tt
  all-pieces P each (part ∷ order) = (each part, all-pieces P each order)

  -- they are one of each part of one run
  of-one-run : (first : ℕ) (rest : List ℕ) → AreAll parts.piece.parts (first ∷ rest) → AreOfOneRun (map piece_of (first ∷ rest))
  of-one-run first rest all =
      let order = first ∷ rest in
      let pieces = map piece_of order in
      let once : NoneBelow (doubled_at pieces) (length pieces) = λ i low.
      ap (λ p. occurs p.part (take i (parts_of pieces))) (place-is order i low)
      ∙ ap (λ ps. occurs (get_or order i 0) (take i ps)) (parts-are order)
      ∙ none-before order all.once i (omega (arith, low, length-map order piece_of)) in
      let each : NoneBelow (lacks_piece pieces) parts.piece.parts = λ part low.
      let there = all.each part low in
      let here : part ≡ get_or order there.0 0 = sym there.2 ∙ get_or_default order there.0 part 0 there.1 in
      ap (λ ps. not (occurs part ps)) (parts-are order) ∙ ap not (contained-occurs part order there.0 there.1 here) in
      let tails = answer.tails in
      let networks = answer.divisible.networks in
      record {
        same_name = all-pieces (λ (p : Piece). p.name ≡ (piece_of first).name) (λ part. refl) order;
        same_parts = all-pieces (λ (p : Piece). p.parts ≡ (piece_of first).parts) (λ part. refl) order;
        same_head = all-pieces (λ (p : Piece). p.head ≡ (piece_of first).head) (λ part. refl) order;
        once = once;
        each = each;
        less = divided questions settings file bytes parts answer less_of Less tails.less first rest (networks Less) (λ part. refl);
        greater = divided questions settings file bytes parts answer greater_of Greater tails.greater first rest (networks Greater) (λ part. refl);
        two = divided questions settings file bytes parts answer two_of Two tails.two first rest (networks Two) (λ part. refl);
      }

  abbrev merged : ℕ → List ℕ → Merged
  merged first rest =
      let pieces = map piece_of (first ∷ rest) in
      record {
        head = (piece_at pieces 0).head;
        total = (piece_at pieces 0).total;
        less = merged_number less_of pieces;
        greater = merged_number greater_of pieces;
        two = merged_number two_of pieces;
      }

  of-all : (order : List ℕ) → AreAll parts.piece.parts order → AllByRecursion (λ part. part < parts.piece.parts) order → bytes ≡ flat_map parts.texts order → length bytes ≤ LONGEST_FILE
      → MergeOutcome bytes (outcome_of_bytes questions (whole settings) file)
  of-all [] all below joined short = let there = all.each 0 parts.alone.usable.some in absurd (omega (arith, there.1))
  of-all (first ∷ rest) all below joined short =
      let are = own-texts questions settings file bytes parts answer first rest short below joined in
      let gives : MergeGives (map piece_of (first ∷ rest)) (Ok (merged first rest)) =
      (one-run-mergeable (map piece_of (first ∷ rest)) (omega arith) are.formed (of-one-run first rest all), record { head = refl; total = refl; less = refl; greater = refl; two = refl }) in
      let text = merged-report questions settings file bytes parts answer first rest (merged first rest) are.formed gives in
      subst (λ outcome. MergeOutcome bytes outcome) (sym (whole-report questions settings file bytes parts answer first below.0))
      (short, (merged first rest, (map piece_of (first ∷ rest), are, gives), sym text))

pub all-parts-merge : (questions : Questions) (bytes : List ℕ) → AllPartsMerge questions bytes
all-parts-merge questions bytes = λ settings file parts all short. of-all questions settings file bytes parts (whole-answer questions settings file bytes parts) parts.order all parts.are_parts parts.joined short
