-- The texts of the parts of one run, put together, are the report of the run that is not divided.
use Rattle.std.proofs.Common.{◌≡◌, ◌∙◌, inl, inr, ℕ, ◌<◌, ◌≤◌, ◌++◌, List, [], ◌∷◌, codes, decimal, length, length-append, map, Bool, true, false, cond, Option, Some, None, Ok, ap, arith, refl, subst, sym}
use Rattle.std.specs.Prelude.{option_map}
use Rattle.std.specs.List.{AllByRecursion, flat_map}
use Rattle.outside.specs.declared.source.TheConstants.{LONGEST_FILE}
use Rattle.weights.specs.Conditional.{is_extreme, numerator, observed_statistic, total}
use Rattle.weights.proofs.Sums.{sum_by-filter-≤}
use Rattle.weights.specs.declared.TheConstants.{MAX}
use Rattle.weights.specs.declared.tails.Tail.{Tail}
use Rattle.weights.specs.declared.tails.Tail.TheVariants.{Less, Greater, Two}
use Rattle.networks.specs.Completions.{extreme_weight}
use Rattle.networks.specs.Follows.{answer_of, open_keys}
use Rattle.networks.specs.Network.{Network}
use Rattle.networks.proofs.Following.{extreme-is}
use Rattle.settings.specs.declared.pieces.PieceOf.{PieceOf}
use Rattle.settings.specs.WholeRuns.{whole}
use Rattle.settings.specs.declared.settings.Settings.{Settings}
use Rattle.piece_texts.specs.declared.merging.Merged.{Merged}
use Rattle.piece_texts.specs.declared.piece.Piece.{Piece}
use Rattle.piece_texts.specs.declared.piece.PieceSum.{PieceSum}
use Rattle.piece_texts.specs.Merges.{MergeGives, greater_of, less_of, merged_number, number_told, summed_to, two_of}
use Rattle.piece_texts.specs.PieceTexts.{IsPiece, ended, line_count, piece_text, piece_tail_line}
use Rattle.piece_texts.specs.ReadPieces.{AreTexts}
use Rattle.piece_texts.proofs.EachPart.{all-add-up}
use Rattle.pieces.specs.Cuts.{piece_sum}
use Rattle.pieces.specs.Undivided.{AreSumsOf, IsDivided, IsUndivided}
use Rattle.pieces.proofs.WrittenPieces.{adds-up-written, extreme-written}
use Rattle.pieces.proofs.WholeRuns.{undivided-result}
use Rattle.report.specs.Report.{head_text, report_text}
use Rattle.report.specs.declared.headings.Title.TheVariants as title
use Rattle.report.proofs.AnswerLemmas.{merged_text-answer_of}
use Rattle.run_outcome.specs.Divided.{AreParts, AsksAnswerable, PartAnswers, Serves, WritesUndivided, of_part, settings_of_part}
use Rattle.run_outcome.specs.MergedRuns.{MergeOutcome, MergesWith, text_of_merged}
use Rattle.run_outcome.specs.Outcome.{asking_of, outcome_of_bytes, part_of, piece_for, spread_of, tail_piece, way_of}
use Rattle.run_outcome.specs.Question.{Question}
use Rattle.run_outcome.specs.Questions.{Questions}
use Rattle.run_outcome.specs.declared.parts.PartOf.{PartOf}
use Rattle.run_outcome.proofs.OneQuestion.{answer-of-part, asked-text, other-text}
use Rattle.run_outcome.proofs.OneReading.{texts-once}
use Rattle.run_outcome.proofs.PiecesFormed.{lines-within, piece-formed, usable-part}

-- ---- texts

middle : (front text a b c d : List ℕ) → length text ≤ length (front ++ text ++ a ++ b ++ c ++ d)
middle front text a b c d =
    omega (arith, length-append front text, length-append (front ++ text) a, length-append (front ++ text ++ a) b, length-append (front ++ text ++ a ++ b) c, length-append (front ++ text ++ a ++ b ++ c) d)

head-within : (p : Piece) → length p.head ≤ length (piece_text p)
head-within p =
    let first = ended (codes "piece 1") ++ ended (codes "name " ++ p.name) ++ ended (codes "parts " ++ decimal p.parts) ++ ended (codes "part " ++ decimal p.part) in
    middle (first ++ ended (codes "head " ++ decimal (line_count p.head))) p.head (piece_tail_line (codes "less ") p.less) (piece_tail_line (codes "greater ") p.greater) (piece_tail_line (codes "two ") p.two) (ended (codes "end"))

no-text : (p : Piece) (rest : List ℕ) → [] ≡ piece_text p ++ rest → ⊥
no-text p rest same = cc

some-text : (bytes : List ℕ) (pieces : List Piece) → AreTexts bytes pieces → bytes ≡ [] → ⊥
some-text bytes [] texts none = omega (arith, texts.some)
some-text bytes (p ∷ pieces) texts none = no-text p (flat_map piece_text pieces) (sym none ∙ texts.text)

all-of : (P : Piece → Type 0) (own : ℕ → Piece) (parts : ℕ) → ((part : ℕ) → part < parts → P (own part)) → (order : List ℕ) → AllByRecursion (λ part. part < parts) order → AllByRecursion P (map own order)
all-of P own parts each [] below = tt
all-of P own parts each (part ∷ order) below = (each part below.0, all-of P own parts each order below.1)

same-texts : (own : ℕ → Piece) (texts : ℕ → List ℕ) (parts : ℕ) → ((part : ℕ) → part < parts → texts part ≡ piece_text (own part)) → (order : List ℕ) → AllByRecursion (λ part. part < parts) order
    → flat_map texts order ≡ flat_map piece_text (map own order)
same-texts own texts parts each [] below = refl
same-texts own texts parts each (part ∷ order) below =
    ap (λ (text : List ℕ). text ++ flat_map texts order) (each part below.0) ∙ ap (λ (rest : List ℕ). piece_text (own part) ++ rest) (same-texts own texts parts each order below.1)

-- ---- the parts of one run

of-part : (settings : Settings) (part : ℕ) (piece : PieceOf) → settings.piece ≡ Some piece → settings_of_part part settings ≡ record settings { piece = Some (of_part part piece) }
of-part settings part piece is = ap (λ (found : Option PieceOf). record settings { piece = option_map (of_part part) found }) is

-- the first part says that the question is answerable
pub whole-answer : (questions : Questions) (settings : Settings) (file bytes : List ℕ) → AreParts questions settings file bytes → AsksAnswerable questions settings file
whole-answer questions settings file bytes parts =
    answer-of-part questions settings (of_part 0 parts.piece) file
    (subst (λ (s : Settings). PartAnswers questions s (Some file)) (of-part settings 0 parts.piece parts.is_asked) (parts.written 0 parts.alone.usable.some).answers)

module _ (questions : Questions) (settings : Settings) (file bytes : List ℕ) (parts : AreParts questions settings file bytes) (answer : AsksAnswerable questions settings file) where
  abbrev question : Question
  question = answer.question

  abbrev pub part_at : ℕ → PartOf
  part_at part = part_of file (of_part part parts.piece)

  abbrev pub own : ℕ → Piece
  own part = piece_for (part_at part) (asking_of settings file) answer.tails question

  abbrev pub own_head : List ℕ
  own_head = head_text (title.Test settings.test) question.sizes question.dropped question.extra (observed_statistic question.test) question.test.scale (total question.test)

  written-text : (part : ℕ) → part < parts.piece.parts → outcome_of_bytes questions (record settings { piece = Some (of_part part parts.piece) }) file ≡ Ok (parts.texts part)
  written-text part below = ap (λ (s : Settings). outcome_of_bytes questions s file) (sym (of-part settings part parts.piece parts.is_asked)) ∙ (parts.written part below).outcome

  part-text : (part : ℕ) → part < parts.piece.parts → parts.texts part ≡ piece_text (own part)
  part-text part below = asked-text questions settings file answer (Some (of_part part parts.piece)) (parts.texts part) (written-text part below)

  -- each has the form of a piece, where its lines are not too many
  own-formed : line_count own_head ≤ MAX → (part : ℕ) → part < parts.piece.parts → IsPiece (own part)
  own-formed few part below =
      piece-formed (part_at part) (asking_of settings file) answer.tails question (usable-part file (of_part part parts.piece) (record { at = parts.alone.usable.at; some = parts.alone.usable.some; few = parts.alone.usable.few; part = below })) answer.are_asked answer.divisible few

  all-own : (P : Piece → Type 0) → ((part : ℕ) → P (own part)) → (order : List ℕ) → AllByRecursion P (map own order)
  all-own P each [] = tt
  all-own P each (part ∷ order) = (each part, all-own P each order)

  -- as much is extreme of the network that is written down as of what runs for it
  is-numerator : (tail : Tail) → Serves question.test tail (question.running tail) (question.network tail) → extreme_weight (question.network tail) tail 0 (question.network tail).first ≡ numerator question.test tail
  is-numerator tail serves =
      sym (extreme-written (question.running tail) (question.network tail) tail serves.written) ∙ extreme-is question.test tail (question.running tail) serves.follows

  -- each piece has the sums of its part
  sums-of : (get : Piece → Option PieceSum) (tail : Tail) (first : ℕ) (rest : List ℕ) → Serves question.test tail (question.running tail) (question.network tail)
      → ((part : ℕ) → get (own part) ≡ Some (piece_sum (question.network tail) tail parts.piece.at parts.piece.parts part))
      → AreSumsOf (question.network tail) tail parts.piece.at get (map own (first ∷ rest))
  sums-of get tail first rest serves each = record {
    add = adds-up-written (question.running tail) (question.network tail) tail serves.written serves.lawful parts.piece.at parts.piece.parts parts.alone.usable.some;
    each = all-own (λ (p : Piece). get p ≡ Some (piece_sum (question.network tail) tail parts.piece.at parts.piece.parts p.part)) each (first ∷ rest);
  }

  -- the tail of a run that is divided, whose number is at most the total
  pub divided : (get : Piece → Option PieceSum) (tail : Tail) (is_asked : Bool) (first : ℕ) (rest : List ℕ) → (is_asked ≡ true → Serves question.test tail (question.running tail) (question.network tail))
      → ((part : ℕ) → get (own part) ≡ tail_piece (part_at part) question.network tail is_asked)
      → IsDivided get (map own (first ∷ rest))
  divided get tail false first rest serves each = inl (all-own (λ (p : Piece). get p ≡ None) each (first ∷ rest))
  divided get tail true first rest serves each =
      let n = question.network tail in
      let most : extreme_weight n tail 0 n.first ≤ total question.test =
      omega (arith, is-numerator tail (serves refl), sum_by-filter-≤ question.test.weight (is_extreme question.test tail) question.test.reference) in
      inr (n, tail, parts.piece.at, sums-of get tail first rest (serves refl) each, most)

  -- what the parts of a tail come to
  abbrev told : Bool → Tail → Option ℕ
  told is_asked tail = cond is_asked (Some (numerator question.test tail)) None

  told-sum : (get : Piece → Option PieceSum) (tail : Tail) (is_asked : Bool) (first : ℕ) (rest : List ℕ) (number : Option ℕ) → (is_asked ≡ true → Serves question.test tail (question.running tail) (question.network tail))
      → ((part : ℕ) → get (own part) ≡ tail_piece (part_at part) question.network tail is_asked)
      → number ≡ merged_number get (map own (first ∷ rest))
      → ((n : Network) (t : Tail) (at : ℕ) → AreSumsOf n t at get (map own (first ∷ rest)) → number ≡ Some (extreme_weight n t 0 n.first))
      → number ≡ told is_asked tail
  told-sum get tail true first rest number serves each is undivided =
      let n = question.network tail in
      undivided n tail parts.piece.at (sums-of get tail first rest (serves refl) each) ∙ ap Some (is-numerator tail (serves refl))
  told-sum get tail false first rest number serves each is undivided =
      is ∙ ap (λ found. number_told found (summed_to get (map own (first ∷ rest)) (length (map own (first ∷ rest))))) (each first)

  abbrev report : List ℕ
  report = report_text (title.Test settings.test) question.sizes question.dropped question.extra (answer_of question.test (open_keys question.network) answer.tails (way_of settings.nodes)) false None

  -- the pieces put together are the report
  pub merged-report : (first : ℕ) (rest : List ℕ) (merged : Merged) → AllByRecursion IsPiece (map own (first ∷ rest)) → MergeGives (map own (first ∷ rest)) (Ok merged) → text_of_merged merged ≡ report
  merged-report first rest merged formed gives =
      let pieces = map own (first ∷ rest) in
      let is : IsUndivided pieces merged = undivided-result pieces (Ok merged) (omega arith) gives (all-add-up pieces formed gives.0.0) in
      let less = told-sum less_of Less answer.tails.less first rest merged.less (answer.divisible.networks Less) (λ part. refl) gives.1.less is.less in
      let greater = told-sum greater_of Greater answer.tails.greater first rest merged.greater (answer.divisible.networks Greater) (λ part. refl) gives.1.greater is.greater in
      let two = told-sum two_of Two answer.tails.two first rest merged.two (answer.divisible.networks Two) (λ part. refl) gives.1.two is.two in
      rw (gives.1.head, gives.1.total, less, greater, two)
      (merged_text-answer_of (title.Test settings.test) question.sizes question.dropped question.extra question.test (open_keys question.network) answer.tails (way_of settings.nodes))

  -- as is the outcome of the run that is not divided
  pub whole-report : (first : ℕ) → first < parts.piece.parts → outcome_of_bytes questions (whole settings) file ≡ Ok report
  whole-report first below =
      let made = answer_of question.test (open_keys question.network) answer.tails (way_of settings.nodes) in
      other-text questions settings file answer (Some (of_part first parts.piece)) None (parts.texts first) (written-text first below)
      ∙ ap (λ (nodes : Bool). Ok (report_text (title.Test settings.test) question.sizes question.dropped question.extra made nodes (spread_of settings.distribution question.test))) parts.alone.no_nodes
      ∙ ap (λ (shown : Bool). Ok (report_text (title.Test settings.test) question.sizes question.dropped question.extra made false (spread_of shown question.test))) parts.alone.no_distribution

  few-lines : (first : ℕ) (rest : List ℕ) → length bytes ≤ LONGEST_FILE → bytes ≡ flat_map piece_text (map own (first ∷ rest)) → line_count own_head ≤ MAX
  few-lines first rest short is =
      let text = piece_text (own first) in
      let long : length bytes ≡ length (text ++ flat_map piece_text (map own rest)) = ap (λ (bs : List ℕ). length bs) is in
      omega (arith, short, long, length-append text (flat_map piece_text (map own rest)), head-within (own first), lines-within own_head)

  -- the bytes are the texts of these pieces
  pub own-texts : (first : ℕ) (rest : List ℕ) → length bytes ≤ LONGEST_FILE → AllByRecursion (λ part. part < parts.piece.parts) (first ∷ rest) → bytes ≡ flat_map parts.texts (first ∷ rest)
      → AreTexts bytes (map own (first ∷ rest))
  own-texts first rest short below joined =
      let is : bytes ≡ flat_map piece_text (map own (first ∷ rest)) = joined ∙ same-texts own parts.texts parts.piece.parts part-text (first ∷ rest) below in
      record { some = omega arith; formed = all-of IsPiece own parts.piece.parts (own-formed (few-lines first rest short is)) (first ∷ rest) below; text = is }

  of-order : (text : List ℕ) → MergeOutcome bytes (Ok text) → (order : List ℕ) → AllByRecursion (λ part. part < parts.piece.parts) order → bytes ≡ flat_map parts.texts order
      → outcome_of_bytes questions (whole settings) file ≡ Ok text
  of-order text comes [] below joined = absurd (some-text bytes comes.1.1.0 comes.1.1.1 joined)
  of-order text comes (first ∷ rest) below joined =
      let pieces = map own (first ∷ rest) in
      let texts = own-texts first rest comes.0 below joined in
      let same : comes.1.1.0 ≡ pieces = texts-once bytes comes.1.1.0 pieces comes.1.1.1 texts in
      let gives : MergeGives pieces (Ok comes.1.0) = subst (λ ps. MergeGives ps (Ok comes.1.0)) same comes.1.1.2 in
      whole-report first below.0 ∙ ap Ok (sym (merged-report first rest comes.1.0 texts.formed gives) ∙ sym comes.1.2)

  undivided : (text : List ℕ) → MergeOutcome bytes (Ok text) → outcome_of_bytes questions (whole settings) file ≡ Ok text
  undivided text comes = of-order text comes parts.order parts.are_parts parts.joined

-- what is written for the parts of a run
pub writes-undivided : (questions : Questions) (took : List ℕ → Type 0) (bytes : List ℕ) → MergesWith bytes took → WritesUndivided questions took bytes
writes-undivided questions took bytes with = λ settings file parts. rw (undivided questions settings file bytes parts (whole-answer questions settings file bytes parts) with.0 with.1) with.2
