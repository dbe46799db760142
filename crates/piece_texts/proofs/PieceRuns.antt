-- The texts of pieces are lines that lead from one piece to the next.
use Rattle.std.proofs.Common.{◌≡◌, ◌≢◌, ℕ, zero, suc, ◌+◌, ◌-◌, ◌≤◌, List, [], ◌∷◌, ◌++◌, length, codes, decimal, true, Option, Some, None, refl, sym, ◌∙◌, ap, subst, arith, inl, inr, ◌⊎◌, append_assoc, append-nil}
use Rattle.std.specs.List.{AllByRecursion, flat_map}
use Rattle.weights.specs.declared.TheConstants.{MAX}
use Rattle.piece_texts.specs.declared.piece.Piece.{Piece}
use Rattle.piece_texts.specs.declared.piece.PieceSum.{PieceSum}
use Rattle.piece_texts.specs.declared.reader.Step.TheVariants.{InHead, AtTail}
use Rattle.piece_texts.specs.PieceTexts.{IsPiece, TailFits, HasNoFeed, ended, line_count, sums_text, piece_text}
use Rattle.piece_texts.specs.FieldSteps.{tail_words}
use Rattle.piece_texts.specs.Places.{unknown}
use Rattle.piece_texts.specs.ReaderSteps.{fresh, with_tail}
use Rattle.piece_texts.proofs.LineRuns.{Runs, after_pieces}
use Rattle.piece_texts.proofs.FieldsRead.{cut-once, not-without}
use Rattle.piece_texts.proofs.FreeLines.{no_feed, free-decimal, free-append, free-words, free-name, free-sums}
use Rattle.piece_texts.proofs.LinesLead.{runs-on}
use Rattle.piece_texts.proofs.TextsGrow.{count-append, count-more, shown-runs, fresh-shown}

-- the lines of a piece
abbrev first_lines : Piece → List (List ℕ)
first_lines p =
    codes "piece 1" ∷ (codes "name " ++ p.name) ∷ (codes "parts " ++ decimal p.parts)
    ∷ (codes "part " ++ decimal p.part) ∷ (codes "head " ++ decimal (line_count p.head)) ∷ []

abbrev tail_lines : ℕ → Option PieceSum → List (List ℕ)
tail_lines t None = []
tail_lines t (Some s) = (tail_words t ++ sums_text s) ∷ []

abbrev known : Piece → Piece
known p = record unknown { name = p.name; parts = p.parts; part = p.part }

part-fits : (p : Piece) → IsPiece p → p.part ≤ p.parts - 1
part-fits p f = omega (arith, f.part)

run-first : (p : Piece) (done : List Piece) → IsPiece p → 1 ≤ line_count p.head → line_count p.head ≤ MAX → Runs (after_pieces done) (first_lines p) (record { done = done; draft = known p; at = InHead (line_count p.head - 1) })
run-first p done f some few = (
  _,
  (refl, refl),
  (
    _,
    (p.name, f.name, refl, refl),
    (
      _,
      (p.parts, record { low = f.some_parts; high = f.few_parts; fits = omega (arith, f.few_parts); text = refl }, refl),
      (
        _,
        (p.part, record { low = omega arith; high = part-fits p f; fits = omega (arith, f.part, f.few_parts); text = refl }, refl),
        (
          _,
          (line_count p.head, record { low = some; high = few; fits = few; text = refl }, refl),
          refl,
        ),
      ),
    ),
  ),
)

run-head : (lines : List (List ℕ)) (done : List Piece) (d : Piece) → Runs (record { done = done; draft = d; at = InHead (length lines) }) lines (record { done = done; draft = record d { head = d.head ++ flat_map ended lines }; at = InHead 0 })
run-head [] done d = ap (λ h. record { done = done; draft = record d { head = h }; at = InHead 0 }) (append-nil d.head)
run-head (line ∷ lines) done d = (
  record { done = done; draft = record d { head = d.head ++ ended line }; at = InHead (length lines) },
  refl,
  subst (λ h. Runs (record { done = done; draft = record d { head = d.head ++ ended line }; at = InHead (length lines) }) lines (record { done = done; draft = record d { head = h }; at = InHead 0 })) (append_assoc d.head (ended line) (flat_map ended lines))
      (run-head lines done (record d { head = d.head ++ ended line })),
)

-- a tail's line, or none
abbrev place : ℕ → ℕ → Option PieceSum → ℕ
place t from None = from
place t from (Some s) = suc t

abbrev set_tail : ℕ → Option PieceSum → Piece → Piece
set_tail t None d = d
set_tail t (Some s) d = with_tail t s d

run-tail : (t from : ℕ) (o : Option PieceSum) (done : List Piece) (d : Piece) → from ≤ t → t ≤ 2 → TailFits o → Runs (record { done = done; draft = d; at = AtTail from }) (tail_lines t o) (record { done = done; draft = set_tail t o d; at = AtTail (place t from o) })
run-tail t from None done d low high fits = refl
run-tail t from (Some s) done d low high fits =
    (_, inl (record { tail = t; sums = s; is = record { low = low; high = high; fits = fits; text = refl }; leads = refl }), refl)

place-le : (t from : ℕ) (o : Option PieceSum) → from ≤ t → place t from o ≤ suc t
place-le t from None h = omega (arith, h)
place-le t from (Some s) h = omega arith

some-place : (l g w : Option PieceSum) → (l ≢ None) ⊎ ((g ≢ None) ⊎ (w ≢ None)) → 1 ≤ place 2 (place 1 (place 0 0 l) g) w
some-place None None None (inl a) = absurd (a refl)
some-place None None None (inr (inl a)) = absurd (a refl)
some-place None None None (inr (inr a)) = absurd (a refl)
some-place l g (Some s) a = omega arith
some-place l (Some s) None a = omega arith
some-place (Some s) None None a = omega arith

abbrev tail_free : Piece → Piece
tail_free p = record p { less = None; greater = None; two = None }

set-all : (p : Piece) (l g w : Option PieceSum) → set_tail 2 w (set_tail 1 g (set_tail 0 l (tail_free p))) ≡ record p { less = l; greater = g; two = w }
set-all p None None None = refl
set-all p None None (Some w) = refl
set-all p None (Some g) None = refl
set-all p None (Some g) (Some w) = refl
set-all p (Some l) None None = refl
set-all p (Some l) None (Some w) = refl
set-all p (Some l) (Some g) None = refl
set-all p (Some l) (Some g) (Some w) = refl

count-lines : (lines : List (List ℕ)) → AllByRecursion HasNoFeed lines → line_count (flat_map ended lines) ≡ length lines
count-lines [] a = refl
count-lines (line ∷ lines) a = omega (arith, count-append (ended line) (flat_map ended lines), count-more [] line a.0, count-lines lines a.1)

free-total : (d : ℕ) → d ≤ MAX → HasNoFeed (codes "total " ++ decimal d)
free-total d h = free-append (codes "total ") (decimal d) (free-words (codes "total ") refl) (free-decimal d h)

head-count : (p : Piece) (f : IsPiece p) → line_count p.head ≡ length f.head.lines + 1
head-count p f = ap line_count f.head.text ∙ omega (arith, count-append (flat_map ended f.head.lines) (ended (codes "total " ++ decimal p.total)), count-lines f.head.lines f.head.whole, count-more [] (codes "total " ++ decimal p.total) (free-total p.total f.total))

abbrev last_lines : Piece → List (List ℕ)
last_lines p = tail_lines 0 p.less ++ (tail_lines 1 p.greater ++ (tail_lines 2 p.two ++ codes "end" ∷ []))

abbrev lines_of : (p : Piece) → IsPiece p → List (List ℕ)
lines_of p f = first_lines p ++ (f.head.lines ++ ((codes "total " ++ decimal p.total) ∷ last_lines p))

run-last : (p : Piece) (done : List Piece) → IsPiece p → Runs (record { done = done; draft = tail_free p; at = AtTail 0 }) (last_lines p) (after_pieces (done ++ p ∷ []))
run-last p done f =
    let one : ℕ = place 0 0 p.less in
    let two : ℕ = place 1 one p.greater in
    let low : one ≤ 1 = place-le 0 0 p.less (omega arith) in
    let low' : two ≤ 2 = place-le 1 one p.greater low in
    let d : Piece = set_tail 0 p.less (tail_free p) in
    let d' : Piece = set_tail 1 p.greater d in
    runs-on _ (record { done = done; draft = d; at = AtTail one }) _ (tail_lines 0 p.less) _ (run-tail 0 0 p.less done (tail_free p) (omega arith) (omega arith) f.less)
    (runs-on _ (record { done = done; draft = d'; at = AtTail two }) _ (tail_lines 1 p.greater) _ (run-tail 1 one p.greater done d low (omega arith) f.greater)
    (runs-on _ (record { done = done; draft = set_tail 2 p.two d'; at = AtTail (place 2 two p.two) }) _ (tail_lines 2 p.two) _ (run-tail 2 two p.two done d' low' (omega arith) f.two) (
      _,
      inr (record { some = some-place p.less p.greater p.two f.asked; text = refl; leads = refl }),
      ap (λ x. after_pieces (done ++ x ∷ [])) (sym (set-all p p.less p.greater p.two)),
    )))

-- a piece's lines lead over it
pub run-piece : (p : Piece) (done : List Piece) (f : IsPiece p) → Runs (after_pieces done) (lines_of p f) (after_pieces (done ++ p ∷ []))
run-piece p done f =
    let count = head-count p f in
    let at : line_count p.head - 1 ≡ length f.head.lines = omega (arith, count) in
    runs-on (after_pieces done) (record { done = done; draft = known p; at = InHead (line_count p.head - 1) }) (after_pieces (done ++ p ∷ [])) (first_lines p) _ (run-first p done f (omega (arith, count)) f.few_lines)
    (subst (λ k. Runs (record { done = done; draft = known p; at = InHead k }) (f.head.lines ++ ((codes "total " ++ decimal p.total) ∷ last_lines p)) (after_pieces (done ++ p ∷ []))) (sym at)
    (runs-on (record { done = done; draft = known p; at = InHead (length f.head.lines) }) (record { done = done; draft = record (known p) { head = [] ++ flat_map ended f.head.lines }; at = InHead 0 }) (after_pieces (done ++ p ∷ [])) f.head.lines _ (run-head f.head.lines done (known p)) (
      record { done = done; draft = tail_free p; at = AtTail 0 },
      (p.total, record { low = f.some_total; high = f.total; fits = f.total; text = refl }, ap (λ h. record { done = done; draft = record (tail_free p) { head = h }; at = AtTail 0 }) f.head.text),
      run-last p done f,
    )))

pub all-append : {A : Type 0} (P : A → Type 0) (xs ys : List A) → AllByRecursion P xs → AllByRecursion P ys → AllByRecursion P (xs ++ ys)
all-append P [] ys a b = b
all-append P (x ∷ xs) ys a b = (a.0, all-append P xs ys a.1 b)

free-tail-words : (t : ℕ) → HasNoFeed (tail_words t)
free-tail-words zero = free-words (codes "less ") refl
free-tail-words (suc zero) = free-words (codes "greater ") refl
free-tail-words (suc (suc t)) = free-words (codes "two ") refl

free-tail : (t : ℕ) (o : Option PieceSum) → TailFits o → AllByRecursion HasNoFeed (tail_lines t o)
free-tail t None f = tt
free-tail t (Some s) f = (free-append (tail_words t) (sums_text s) (free-tail-words t) (free-sums s f), tt)

free-number : (words : List ℕ) (n : ℕ) → no_feed words ≡ true → n ≤ MAX → HasNoFeed (words ++ decimal n)
free-number words n e h = free-append words (decimal n) (free-words words e) (free-decimal n h)

free-first : (p : Piece) → IsPiece p → AllByRecursion HasNoFeed (first_lines p)
free-first p f = (
  free-words (codes "piece 1") refl,
  (
    free-append (codes "name ") p.name (free-words (codes "name ") refl) (free-name p.name f.name.digits),
    (
      free-number (codes "parts ") p.parts refl (omega (arith, f.few_parts)),
      (
        free-number (codes "part ") p.part refl (omega (arith, f.part, f.few_parts)),
        (
          free-number (codes "head ") (line_count p.head) refl f.few_lines,
          tt,
        ),
      ),
    ),
  ),
)

free-lines : (p : Piece) (f : IsPiece p) → AllByRecursion HasNoFeed (lines_of p f)
free-lines p f =
    all-append HasNoFeed (first_lines p) (f.head.lines ++ ((codes "total " ++ decimal p.total) ∷ last_lines p)) (free-first p f)
    (all-append HasNoFeed f.head.lines ((codes "total " ++ decimal p.total) ∷ last_lines p) f.head.whole (
      free-total p.total f.total,
      all-append HasNoFeed (tail_lines 0 p.less) (tail_lines 1 p.greater ++ (tail_lines 2 p.two ++ codes "end" ∷ [])) (free-tail 0 p.less f.less)
          (all-append HasNoFeed (tail_lines 1 p.greater) (tail_lines 2 p.two ++ codes "end" ∷ []) (free-tail 1 p.greater f.greater)
          (all-append HasNoFeed (tail_lines 2 p.two) (codes "end" ∷ []) (free-tail 2 p.two f.two)
          (free-words (codes "end") refl, tt))),
    ))

-- pieces have lines that lead over them
pub record PieceRun (done pieces : List Piece) : Type 0 where
  pub lines : List (List ℕ)
  pub free : AllByRecursion HasNoFeed lines
  pub runs : Runs (after_pieces done) lines (after_pieces (done ++ pieces))

pub run-pieces : (pieces done : List Piece) → AllByRecursion IsPiece pieces → PieceRun done pieces
run-pieces [] done f = record { lines = []; free = tt; runs = ap after_pieces (append-nil done) }
run-pieces (p ∷ pieces) done f =
    let rest = run-pieces pieces (done ++ p ∷ []) f.1 in
    record {
      lines = lines_of p f.0 ++ rest.lines;
      free = all-append HasNoFeed (lines_of p f.0) rest.lines (free-lines p f.0) rest.free;
      runs = runs-on (after_pieces done) (after_pieces (done ++ p ∷ [])) (after_pieces (done ++ p ∷ pieces)) (lines_of p f.0) rest.lines (run-piece p done f.0)
          (subst (λ x. Runs (after_pieces (done ++ p ∷ [])) rest.lines (after_pieces x)) (append_assoc done (p ∷ []) pieces) rest.runs);
    }

pub run-text : (pieces : List Piece) (r : PieceRun [] pieces) → flat_map ended r.lines ≡ flat_map piece_text pieces
run-text pieces r = (shown-runs r.lines fresh (after_pieces pieces) [] r.free fresh-shown r.runs).is ∙ append-nil (flat_map piece_text pieces)

-- a line feed at the end of the first line, with what stands behind it
feed-first : (line : List ℕ) (lines : List (List ℕ)) (more : List ℕ) → flat_map ended (line ∷ lines) ++ more ≡ line ++ 10 ∷ (flat_map ended lines ++ more)
feed-first line lines more = append_assoc (ended line) (flat_map ended lines) more ∙ append_assoc line (10 ∷ []) (flat_map ended lines ++ more)

pub never-empty : (xs ys : List ℕ) (b : ℕ) → xs ++ b ∷ ys ≢ []
never-empty [] ys b e = cc
never-empty (x ∷ xs) ys b e = cc

-- bytes that begin with lines and are lines begin with these lines
pub lines-first : (ls ms : List (List ℕ)) (more : List ℕ) → AllByRecursion HasNoFeed ls → AllByRecursion HasNoFeed ms → flat_map ended ls ++ more ≡ flat_map ended ms → (ns : List (List ℕ)) × (ms ≡ ls ++ ns)
lines-first [] ms more a b e = (ms, refl)
lines-first (l ∷ ls) [] more a b e = absurd (never-empty l (flat_map ended ls ++ more) 10 (sym (feed-first l ls more) ∙ e))
lines-first (l ∷ ls) (m ∷ ms) more a b e =
    let cut = cut-once 10 l (flat_map ended ls ++ more) m (flat_map ended ms) a.0 b.0 (sym (feed-first l ls more) ∙ e ∙ append_assoc m (10 ∷ []) (flat_map ended ms)) in
    let rest = lines-first ls ms more a.1 b.1 cut.1 in
    (rest.0, ap (λ ys. m ∷ ys) rest.1 ∙ ap (λ y. y ∷ (ls ++ rest.0)) (sym cut.0))

-- unknown without a line feed stands behind them at the end
pub nothing-left : (ls ms : List (List ℕ)) (rest : List ℕ) → AllByRecursion HasNoFeed ls → AllByRecursion HasNoFeed ms → HasNoFeed rest → flat_map ended ls ++ rest ≡ flat_map ended ms → rest ≡ []
nothing-left [] [] rest a b free e = e
nothing-left [] (m ∷ ms) rest a b free e = absurd (not-without 10 m (flat_map ended ms) (subst HasNoFeed (e ∙ append_assoc m (10 ∷ []) (flat_map ended ms)) free))
nothing-left (l ∷ ls) [] rest a b free e = absurd (never-empty l (flat_map ended ls ++ rest) 10 (sym (feed-first l ls rest) ∙ e))
nothing-left (l ∷ ls) (m ∷ ms) rest a b free e =
    let cut = cut-once 10 l (flat_map ended ls ++ rest) m (flat_map ended ms) a.0 b.0 (sym (feed-first l ls rest) ∙ e ∙ append_assoc m (10 ∷ []) (flat_map ended ms)) in
    nothing-left ls ms rest a.1 b.1 free cut.1
