-- Lines read one after another, and what their end or their fault says.
use Rattle.std.proofs.Common.{◌≡◌, ◌≢◌, ℕ, ◌+◌, ◌<◌, List, [], ◌∷◌, ◌++◌, length, true, false, refl, sym, ◌∙◌, ap, subst, arith, inl, inr, append_assoc, append-nil}
use Rattle.std.specs.List.{AllByRecursion, flat_map}
use Rattle.std.proofs.lemmas.List.{length_push, append_cancel_left}
use Rattle.weights.proofs.Filters.{all_push}
use Rattle.piece_texts.specs.declared.piece.Piece.{Piece}
use Rattle.piece_texts.specs.declared.reader.Step.{Step}
use Rattle.piece_texts.specs.declared.reader.Step.TheVariants.{Outside, AtName, AtParts, AtPart, AtCount, InHead, AtTail}
use Rattle.piece_texts.specs.PieceTexts.{IsPiece, HasNoFeed, ended, piece_text}
use Rattle.piece_texts.specs.ReaderSteps.{Reading, fresh, Leads, is_whole, behind}
use Rattle.piece_texts.specs.ReadPieces.{AreLines, AreTexts, Starts, NoTexts, IsFaultLine}
use Rattle.piece_texts.proofs.LineRuns.{IsRead, Runs, after_pieces}
use Rattle.piece_texts.proofs.LinesLead.{leads-on, runs-on, runs-split, runs-once}
use Rattle.piece_texts.proofs.PieceRuns.{run-pieces, run-text, all-append, never-empty, lines-first, nothing-left}
use Rattle.piece_texts.proofs.TextsGrow.{fresh-shown, shown-runs, flat-push, partial}

pub no-length : (xs : List ℕ) → length xs ≡ 0 → xs ≡ []
no-length [] e = refl
no-length (x ∷ xs) e = absurd (omega (arith, e))

lines-more : (bytes : List ℕ) (lines : List (List ℕ)) (line rest rest' : List ℕ) → AreLines bytes lines rest → HasNoFeed line → rest ≡ line ++ 10 ∷ rest' → AreLines bytes (lines ++ line ∷ []) rest'
lines-more bytes lines line rest rest' cut free e = record {
  free = all_push HasNoFeed lines line cut.free free;
  cut = cut.cut
      ∙ ap (λ t. flat_map ended lines ++ t) (e ∙ sym (append_assoc line (10 ∷ []) rest'))
      ∙ sym (append_assoc (flat_map ended lines) (ended line) rest')
      ∙ ap (λ t. t ++ rest') (sym (flat-push ended lines line));
}

pub read-more : (bytes rest line rest' : List ℕ) (number : ℕ) (s e : Reading) → IsRead bytes rest number s → HasNoFeed line → rest ≡ line ++ 10 ∷ rest' → Leads s.at s line e → IsRead bytes rest' (number + 1) e
read-more bytes rest line rest' number s e r free is leads = record {
  lines = r.lines ++ line ∷ [];
  cut = lines-more bytes r.lines line rest rest' r.cut free is;
  counted = omega (arith, r.counted, length_push r.lines line);
  runs = runs-on fresh s e r.lines (line ∷ []) r.runs (e, leads, refl);
}

some-length : (pieces : List Piece) → pieces ≢ [] → 0 < length pieces
some-length [] some = absurd (some refl)
some-length (p ∷ pieces) some = omega arith

flat-append : (xs ys : List (List ℕ)) → flat_map ended (xs ++ ys) ≡ flat_map ended xs ++ flat_map ended ys
flat-append [] ys = refl
flat-append (x ∷ xs) ys = ap (λ t. ended x ++ t) (flat-append xs ys) ∙ sym (append_assoc (ended x) (flat_map ended xs) (flat_map ended ys))

no-lines : (ns : List (List ℕ)) → flat_map ended ns ≡ [] → ns ≡ []
no-lines [] e = refl
no-lines (n ∷ ns) e = absurd (never-empty n (flat_map ended ns) 10 (sym (append_assoc n (10 ∷ []) (flat_map ended ns)) ∙ e))

-- lines of the same bytes are the same
same-lines : (ls ms ns : List (List ℕ)) → ms ≡ ls ++ ns → (rest : List ℕ) → rest ≡ [] → flat_map ended ls ++ rest ≡ flat_map ended ms → ms ≡ ls
same-lines ls ms ns e rest left text =
    let none : ns ≡ [] = no-lines ns (append_cancel_left (flat_map ended ls) (flat_map ended ns) [] (sym (flat-append ls ns) ∙ ap (flat_map ended) (sym e) ∙ sym text ∙ ap (λ t. flat_map ended ls ++ t) left)) in
    e ∙ ap (λ t. ls ++ t) none ∙ append-nil ls

-- texts of pieces begin with lines that lead somewhere
starts-from-runs : (lines : List (List ℕ)) (s : Reading) → AllByRecursion HasNoFeed lines → Runs fresh lines s → Starts (flat_map ended lines)
starts-from-runs lines s free r =
    let on = leads-on lines s r in
    let shown = shown-runs (lines ++ on.more) fresh (after_pieces on.pieces) [] (all-append HasNoFeed lines on.more free on.free) fresh-shown on.runs in (
      flat_map ended on.more,
      on.pieces,
      record {
        some = some-length on.pieces on.some;
        formed = shown.formed;
        text = sym (flat-append lines on.more) ∙ shown.is ∙ append-nil (flat_map piece_text on.pieces);
      },
    )

-- and lines with which texts of pieces begin lead somewhere
pub runs-from-starts : (lines : List (List ℕ)) → AllByRecursion HasNoFeed lines → Starts (flat_map ended lines) → (s : Reading) × Runs fresh lines s
runs-from-starts lines free s =
    let run = run-pieces s.1 [] s.2.formed in
    let found = lines-first lines run.lines s.0 free run.free (s.2.text ∙ sym (run-text s.1 run)) in
    let parts = runs-split fresh (after_pieces s.1) lines found.0 (subst (λ ls. Runs fresh ls (after_pieces s.1)) found.1 run.runs) in
    (parts.0, parts.1)

pub read-fault : (bytes rest line rest' : List ℕ) (number : ℕ) (s : Reading) → IsRead bytes rest number s → HasNoFeed line → rest ≡ line ++ 10 ∷ rest' → ((e : Reading) → Leads s.at s line e → ⊥) → IsFaultLine bytes number
read-fault bytes rest line rest' number s r free is cannot = record {
  none = λ pieces t. none (rest', pieces, subst (λ x. AreTexts x pieces) (lines-more bytes r.lines line rest rest' r.cut free is).cut t);
  line = inl (record {
    lines = r.lines;
    line = line;
    rest = rest';
    cut = record { free = r.cut.free; cut = r.cut.cut ∙ ap (λ t. flat_map ended r.lines ++ t) is };
    free = free;
    counted = r.counted;
    before = starts-from-runs r.lines s r.cut.free r.runs;
    cannot = none;
  });
}
  where
    none : Starts (flat_map ended (r.lines ++ line ∷ [])) → ⊥
    none b =
        let runs = runs-from-starts (r.lines ++ line ∷ []) (all_push HasNoFeed r.lines line r.cut.free free) b in
        let parts = runs-split fresh runs.0 r.lines (line ∷ []) runs.1 in
        let same : parts.0 ≡ s = runs-once fresh parts.0 s r.lines parts.1 r.runs in
        cannot parts.2.0 (subst (λ m. Leads m.at m line parts.2.0) same parts.2.1)

whole-is : (pieces : List Piece) → 0 < length pieces → is_whole (after_pieces pieces) ≡ true
whole-is [] some = absurd (omega (arith, some))
whole-is (p ∷ pieces) some = refl

pub read-end : (bytes rest : List ℕ) (number : ℕ) (s : Reading) → IsRead bytes rest number s → HasNoFeed rest → (rest ≡ [] → is_whole s ≡ false) → IsFaultLine bytes number
read-end bytes rest number s r free early = record {
  none = none;
  line = inr (record {
    lines = r.lines;
    rest = rest;
    cut = r.cut;
    last = free;
    counted = r.counted;
    before = starts-from-runs r.lines s r.cut.free r.runs;
  });
}
  where
    none : NoTexts bytes
    none pieces t =
        let run = run-pieces pieces [] t.formed in
        let text : flat_map ended r.lines ++ rest ≡ flat_map ended run.lines = sym r.cut.cut ∙ t.text ∙ sym (run-text pieces run) in
        let left : rest ≡ [] = nothing-left r.lines run.lines rest r.cut.free run.free free text in
        let found = lines-first r.lines run.lines rest r.cut.free run.free text in
        let found' : run.lines ≡ r.lines = same-lines r.lines run.lines found.0 found.1 rest left text in
        let same : after_pieces pieces ≡ s = runs-once fresh (after_pieces pieces) s r.lines (subst (λ ls. Runs fresh ls (after_pieces pieces)) found' run.runs) r.runs in
        let yes' : is_whole s ≡ true = ap is_whole (sym same) ∙ whole-is pieces t.some in
        let no' : is_whole s ≡ false = early left in
        cc

pub read-formed : (bytes rest : List ℕ) (number : ℕ) (s : Reading) → IsRead bytes rest number s → AllByRecursion IsPiece s.done
read-formed bytes rest number s r = (shown-runs r.lines fresh s [] r.cut.free fresh-shown r.runs).formed

pub read-whole : (bytes rest : List ℕ) (number : ℕ) (s : Reading) → IsRead bytes rest number s → rest ≡ [] → is_whole s ≡ true → AreTexts bytes s.done
read-whole bytes rest number s r none w =
    let shown = shown-runs r.lines fresh s [] r.cut.free fresh-shown r.runs in
    record {
      some = some s.at s.done w;
      formed = shown.formed;
      text = r.cut.cut ∙ ap (λ t. flat_map ended r.lines ++ t) none ∙ append-nil (flat_map ended r.lines) ∙ shown.is ∙ ap (λ t. flat_map piece_text s.done ++ t) (empty s.at s.done s.draft w) ∙ append-nil (flat_map piece_text s.done);
    }
  where
    some : (step : Step) (done : List Piece) → behind step done ≡ true → 0 < length done
    some Outside [] w = absurd cc
    some Outside (p ∷ done) w = omega arith
    some AtName done w = absurd cc
    some AtParts done w = absurd cc
    some (AtPart m) done w = absurd cc
    some AtCount done w = absurd cc
    some (InHead k) done w = absurd cc
    some (AtTail from) done w = absurd cc

    empty : (step : Step) (done : List Piece) (d : Piece) → behind step done ≡ true → partial step d ≡ []
    empty Outside done d w = refl
    empty AtName done d w = absurd cc
    empty AtParts done d w = absurd cc
    empty (AtPart m) done d w = absurd cc
    empty AtCount done d w = absurd cc
    empty (InHead k) done d w = absurd cc
    empty (AtTail from) done d w = absurd cc
