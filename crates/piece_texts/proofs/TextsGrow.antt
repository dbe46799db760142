-- Lines that lead on are the texts of the pieces that were read, and the beginning of the next.
use Rattle.std.proofs.Common.{◌≡◌, ◌≢◌, ℕ, zero, suc, ◌+◌, ◌-◌, ◌<◌, ◌≤◌, List, [], ◌∷◌, ◌++◌, length, take, get_or, codes, decimal, cond, nat_eq, Bool, true, false, Some, None, refl, sym, ◌∙◌, ap, subst, arith, inl, inr, ◌⊎◌, append_assoc, append-nil}
use Rattle.std.specs.List.{AllByRecursion, flat_map}
use Rattle.std.proofs.lemmas.List.{take_more}
use Rattle.weights.specs.declared.TheConstants.{MAX}
use Rattle.weights.proofs.Filters.{all_push}
use Rattle.piece_texts.specs.declared.piece.Piece.{Piece}
use Rattle.piece_texts.specs.declared.piece.PieceSum.{PieceSum}
use Rattle.piece_texts.specs.declared.reader.Step.{Step}
use Rattle.piece_texts.specs.declared.reader.Step.TheVariants.{Outside, AtName, AtParts, AtPart, AtCount, InHead, AtTail}
use Rattle.piece_texts.specs.PieceTexts.{IsName, IsHead, IsPiece, TailFits, SumFits, HasNoFeed, ended, line_count, sums_text, piece_tail_line, piece_text}
use Rattle.piece_texts.specs.FieldSteps.{IsAfter, IsTail, tail_words}
use Rattle.piece_texts.specs.Places.{unknown}
use Rattle.piece_texts.specs.ReaderSteps.{Reading, fresh, with_tail, Leads}
use Rattle.piece_texts.proofs.LineRuns.{Runs}

-- the text of a piece as it grows: up to its name, its number of parts, its part, the count of its
-- head's lines, and its tails
abbrev pub to_name : Piece → List ℕ
to_name d = ended (codes "piece 1") ++ ended (codes "name " ++ d.name)

abbrev pub to_parts : Piece → List ℕ
to_parts d = to_name d ++ ended (codes "parts " ++ decimal d.parts)

abbrev pub to_part : Piece → List ℕ
to_part d = to_parts d ++ ended (codes "part " ++ decimal d.part)

abbrev pub to_count : ℕ → Piece → List ℕ
to_count count d = to_part d ++ ended (codes "head " ++ decimal count)

abbrev pub to_tails : Piece → List ℕ
to_tails d = to_count (line_count d.head) d ++ d.head

-- the lines of its tails
abbrev pub tail_lines : Piece → List ℕ
tail_lines d = (piece_tail_line (codes "less ") d.less ++ piece_tail_line (codes "greater ") d.greater) ++ piece_tail_line (codes "two ") d.two

pub grown : (d : Piece) → (to_tails d ++ tail_lines d) ++ ended (codes "end") ≡ piece_text d
grown d =
    let less : List ℕ = piece_tail_line (codes "less ") d.less in
    let greater : List ℕ = piece_tail_line (codes "greater ") d.greater in
    let two : List ℕ = piece_tail_line (codes "two ") d.two in
    ap (λ t. t ++ ended (codes "end"))
    (sym (append_assoc (to_tails d) (less ++ greater) two) ∙ ap (λ t. t ++ two) (sym (append_assoc (to_tails d) less greater)))

-- the text of what is known of a piece
abbrev pub partial : Step → Piece → List ℕ
partial Outside d = []
partial AtName d = ended (codes "piece 1")
partial AtParts d = to_name d
partial (AtPart m) d = to_parts d
partial AtCount d = to_part d
partial (InHead k) d = to_count (line_count d.head + (k + 1)) d ++ d.head
partial (AtTail from) d = to_tails d ++ tail_lines d

pub record NoTails (d : Piece) : Type 0 where
  pub less : d.less ≡ None
  pub greater : d.greater ≡ None
  pub two : d.two ≡ None

pub record Blank (d : Piece) : Type 0 where
  pub head : d.head ≡ []
  pub tails : NoTails d

pub record Named (d : Piece) : Type 0 where
  pub name : IsName d.name
  pub some_parts : 1 ≤ d.parts
  pub few_parts : d.parts ≤ 64
  pub part : d.part < d.parts

pub record InLines (k : ℕ) (d : Piece) : Type 0 where
  pub few : line_count d.head + (k + 1) ≤ MAX
  pub named : Named d
  pub lines : List (List ℕ)
  pub free : AllByRecursion HasNoFeed lines
  pub text : d.head ≡ flat_map ended lines
  pub tails : NoTails d

abbrev pub Asked : Piece → Type 0
Asked d = (d.less ≢ None) ⊎ ((d.greater ≢ None) ⊎ (d.two ≢ None))

pub record AtTails (from : ℕ) (d : Piece) : Type 0 where
  pub named : Named d
  pub head : IsHead d.total d.head
  pub few : line_count d.head ≤ MAX
  pub some_total : 1 ≤ d.total
  pub total : d.total ≤ MAX
  pub less : TailFits d.less
  pub greater : TailFits d.greater
  pub two : TailFits d.two
  pub no_less : from ≤ 0 → d.less ≡ None
  pub no_greater : from ≤ 1 → d.greater ≡ None
  pub no_two : from ≤ 2 → d.two ≡ None
  pub asked : 1 ≤ from → Asked d

abbrev pub Fits : Step → Piece → Type 0
Fits Outside d = d ≡ unknown
Fits AtName d = d ≡ unknown
Fits AtParts d = IsName d.name × Blank d
Fits (AtPart m) d = IsName d.name × (1 ≤ d.parts) × (d.parts ≤ 64) × (m ≡ d.parts - 1) × Blank d
Fits AtCount d = Named d × Blank d
Fits (InHead k) d = InLines k d
Fits (AtTail from) d = AtTails from d

pub record Shown (s : Reading) (text : List ℕ) : Type 0 where
  pub formed : AllByRecursion IsPiece s.done
  pub fits : Fits s.at s.draft
  pub is : text ≡ flat_map piece_text s.done ++ partial s.at s.draft

pub fresh-shown : Shown fresh []
fresh-shown = record { formed = tt; fits = refl; is = refl }

no-tails-text : (d : Piece) → NoTails d → tail_lines d ≡ []
no-tails-text d n = rw (n.less, n.greater, n.two) refl

count-none : (xs : List ℕ) → HasNoFeed xs → line_count xs ≡ 0
count-none [] a = refl
count-none (x ∷ xs) a = omega (arith, count-none xs a.1, other x a.0)
  where
    other : (x : ℕ) → x ≢ 10 → ◌≡◌ {A = ℕ} (cond (nat_eq x 10) 1 0) 0
    other x ne = by (nat_eq x 10) refl
      where
        by : (b : Bool) → nat_eq x 10 ≡ b → ◌≡◌ {A = ℕ} (cond b 1 0) 0
        by true e = absurd (ne (grind arith))
        by false e = refl

pub count-append : (xs ys : List ℕ) → line_count (xs ++ ys) ≡ line_count xs + line_count ys
count-append [] ys = omega arith
count-append (x ∷ xs) ys = omega (arith, count-append xs ys)

pub count-next : (xs : List ℕ) (i : ℕ) → i < length xs → line_count (take (i + 1) xs) ≡ line_count (take i xs) + cond (nat_eq (get_or xs i 0) 10) 1 0
count-next xs i low = ap line_count (take_more xs i 0 low) ∙ count-append (take i xs) (get_or xs i 0 ∷ []) ∙ omega arith

pub count-more : (head line : List ℕ) → HasNoFeed line → line_count (head ++ ended line) ≡ line_count head + 1
count-more head line free = omega (arith, count-append head (ended line), count-append line (10 ∷ []), count-none line free)

pub flat-push : {A : Type 0} (f : A → List ℕ) (xs : List A) (x : A) → flat_map f (xs ++ x ∷ []) ≡ flat_map f xs ++ f x
flat-push f [] x = append-nil (f x)
flat-push f (y ∷ xs) x = ap (λ t. f y ++ t) (flat-push f xs x) ∙ sym (append_assoc (f y) (flat_map f xs) (f x))

-- a line more of a piece
abbrev Advances : Step → Piece → List ℕ → Step → Piece → Type 0
Advances step d line step' d' = Fits step' d' × (partial step' d' ≡ partial step d ++ ended line)

count-one : (k : ℕ) → 1 ≤ k → 0 + (k - 1 + 1) ≡ k
count-one k h = omega (arith, h)

advance-count : (d : Piece) (line : List ℕ) (k : ℕ) → Named d × Blank d → IsAfter (codes "head ") 1 MAX k line → Advances AtCount d line (InHead (k - 1)) d
advance-count d line k f a = (
  record { few = omega (arith, ap line_count f.1.head, a.low, a.high); named = f.0; lines = []; free = tt; text = f.1.head; tails = f.1.tails },
  ap (λ h. to_count (line_count h + (k - 1 + 1)) d ++ h) f.1.head
      ∙ append-nil (to_count (0 + (k - 1 + 1)) d)
      ∙ ap (λ n. to_count n d) (count-one k a.low)
      ∙ ap (λ t. to_part d ++ ended t) (sym a.text),
)

head-line : (k : ℕ) (d : Piece) (line : List ℕ) → HasNoFeed line → InLines (suc k) d → InLines k (record d { head = d.head ++ ended line })
head-line k d line free f = record {
  few = omega (arith, count-more d.head line free, f.few);
  named = record { name = f.named.name; some_parts = f.named.some_parts; few_parts = f.named.few_parts; part = f.named.part };
  lines = f.lines ++ line ∷ [];
  free = all_push HasNoFeed f.lines line f.free free;
  text = ap (λ h. h ++ ended line) f.text ∙ sym (flat-push ended f.lines line);
  tails = record { less = f.tails.less; greater = f.tails.greater; two = f.tails.two };
}

advance-line : (k : ℕ) (d : Piece) (line : List ℕ) → HasNoFeed line → InLines (suc k) d → Advances (InHead (suc k)) d line (InHead k) (record d { head = d.head ++ ended line })
advance-line k d line free f = (
  head-line k d line free f,
  ap (λ n. to_count n d ++ (d.head ++ ended line)) (omega (arith, count-more d.head line free))
      ∙ sym (append_assoc (to_count (line_count d.head + (suc k + 1)) d) d.head (ended line)),
)

advance-total : (d : Piece) (line : List ℕ) (total : ℕ) → HasNoFeed line → InLines zero d → IsAfter (codes "total ") 1 MAX total line → Advances (InHead zero) d line (AtTail 0) (record d { head = d.head ++ ended line; total = total })
advance-total d line total free f a =
    let d' : Piece = record d { head = d.head ++ ended line; total = total } in
    let none : NoTails d' = record { less = f.tails.less; greater = f.tails.greater; two = f.tails.two } in (
      record {
        named = record { name = f.named.name; some_parts = f.named.some_parts; few_parts = f.named.few_parts; part = f.named.part };
        head = record { lines = f.lines; whole = f.free; text = ap (λ h. h ++ ended line) f.text ∙ ap (λ t. flat_map ended f.lines ++ ended t) a.text };
        few = omega (arith, count-more d.head line free, f.few);
        some_total = a.low;
        total = a.high;
        less = subst TailFits (sym f.tails.less) tt;
        greater = subst TailFits (sym f.tails.greater) tt;
        two = subst TailFits (sym f.tails.two) tt;
        no_less = λ h. f.tails.less;
        no_greater = λ h. f.tails.greater;
        no_two = λ h. f.tails.two;
        asked = λ h. absurd (omega (arith, h));
      },
      ap (λ t. to_tails d' ++ t) (no-tails-text d' none)
          ∙ append-nil (to_tails d')
          ∙ ap (λ n. to_count n d ++ (d.head ++ ended line)) (omega (arith, count-more d.head line free))
          ∙ sym (append_assoc (to_count (line_count d.head + (zero + 1)) d) d.head (ended line)),
    )

some-not : (s : PieceSum) → Some s ≢ None
some-not s e = cc

-- the tails' text with one more, behind which there is none
push-less : (d : Piece) (s : PieceSum) → d.less ≡ None → d.greater ≡ None → d.two ≡ None → tail_lines (record d { less = Some s }) ≡ tail_lines d ++ ended (codes "less " ++ sums_text s)
push-less d s l g w = rw (l, g, w) (append-nil _ ∙ append-nil _)

push-greater : (d : Piece) (s : PieceSum) → d.greater ≡ None → d.two ≡ None → tail_lines (record d { greater = Some s }) ≡ tail_lines d ++ ended (codes "greater " ++ sums_text s)
push-greater d s g w = rw (g, w) (append-nil _ ∙ ap (λ t. t ++ ended (codes "greater " ++ sums_text s)) (sym (append-nil _ ∙ append-nil _)))

push-two : (d : Piece) (s : PieceSum) → d.two ≡ None → tail_lines (record d { two = Some s }) ≡ tail_lines d ++ ended (codes "two " ++ sums_text s)
push-two d s w = rw w (ap (λ t. t ++ ended (codes "two " ++ sums_text s)) (sym (append-nil _)))

tail-pushed : (t : ℕ) (d : Piece) (s : PieceSum) → t ≤ 2 → (t ≤ 0 → d.less ≡ None) → (t ≤ 1 → d.greater ≡ None) → d.two ≡ None → tail_lines (with_tail t s d) ≡ tail_lines d ++ ended (tail_words t ++ sums_text s)
tail-pushed zero d s h l g w = push-less d s (l (omega arith)) (g (omega arith)) w
tail-pushed (suc zero) d s h l g w = push-greater d s (g (omega arith)) w
tail-pushed (suc (suc t)) d s h l g w = push-two d s w

tail-fits : (from t : ℕ) (d : Piece) (s : PieceSum) → t ≤ 2 → from ≤ t → SumFits s → AtTails from d → AtTails (suc t) (with_tail t s d)
tail-fits from zero d s h low fits f = record {
  named = record { name = f.named.name; some_parts = f.named.some_parts; few_parts = f.named.few_parts; part = f.named.part };
  head = f.head;
  few = f.few;
  some_total = f.some_total;
  total = f.total;
  less = fits;
  greater = f.greater;
  two = f.two;
  no_less = λ k. absurd (omega (arith, k));
  no_greater = λ k. f.no_greater (omega (arith, low));
  no_two = λ k. f.no_two (omega (arith, low));
  asked = λ k. inl (some-not s);
}
tail-fits from (suc zero) d s h low fits f = record {
  named = record { name = f.named.name; some_parts = f.named.some_parts; few_parts = f.named.few_parts; part = f.named.part };
  head = f.head;
  few = f.few;
  some_total = f.some_total;
  total = f.total;
  less = f.less;
  greater = fits;
  two = f.two;
  no_less = λ k. absurd (omega (arith, k));
  no_greater = λ k. absurd (omega (arith, k));
  no_two = λ k. f.no_two (omega (arith, low));
  asked = λ k. inr (inl (some-not s));
}
tail-fits from (suc (suc t)) d s h low fits f = record {
  named = record { name = f.named.name; some_parts = f.named.some_parts; few_parts = f.named.few_parts; part = f.named.part };
  head = f.head;
  few = f.few;
  some_total = f.some_total;
  total = f.total;
  less = f.less;
  greater = f.greater;
  two = fits;
  no_less = λ k. absurd (omega (arith, k));
  no_greater = λ k. absurd (omega (arith, k));
  no_two = λ k. absurd (omega (arith, k));
  asked = λ k. inr (inr (some-not s));
}

still-tails : (t : ℕ) (d : Piece) (s : PieceSum) → to_tails (with_tail t s d) ≡ to_tails d
still-tails zero d s = refl
still-tails (suc zero) d s = refl
still-tails (suc (suc t)) d s = refl

advance-tail : (from t : ℕ) (d : Piece) (s : PieceSum) (line : List ℕ) → IsTail from t s line → AtTails from d → Advances (AtTail from) d line (AtTail (suc t)) (with_tail t s d)
advance-tail from t d s line is f = (
  tail-fits from t d s is.high is.low is.fits f,
  ap (λ x. x ++ tail_lines (with_tail t s d)) (still-tails t d s)
      ∙ ap (λ x. to_tails d ++ x) (tail-pushed t d s is.high (λ h. f.no_less (omega (arith, h, is.low))) (λ h. f.no_greater (omega (arith, h, is.low))) (f.no_two (omega (arith, is.low, is.high))))
      ∙ sym (append_assoc (to_tails d) (tail_lines d) (ended (tail_words t ++ sums_text s)))
      ∙ ap (λ l. (to_tails d ++ tail_lines d) ++ ended l) (sym is.text),
)

end-formed : (from : ℕ) (d : Piece) → 1 ≤ from → AtTails from d → IsPiece d
end-formed from d some f = record {
  name = f.named.name;
  some_parts = f.named.some_parts;
  few_parts = f.named.few_parts;
  part = f.named.part;
  head = f.head;
  few_lines = f.few;
  some_total = f.some_total;
  total = f.total;
  less = f.less;
  greater = f.greater;
  two = f.two;
  asked = f.asked some;
}

-- a piece goes on
goes-on : (done : List Piece) (step step' : Step) (d d' : Piece) (line text : List ℕ) → Shown (record { done = done; draft = d; at = step }) text → Advances step d line step' d' → Shown (record { done = done; draft = d'; at = step' }) (text ++ ended line)
goes-on done step step' d d' line text s a = record {
  formed = s.formed;
  fits = a.0;
  is = ap (λ t. t ++ ended line) s.is ∙ append_assoc (flat_map piece_text done) (partial step d) (ended line) ∙ ap (λ t. flat_map piece_text done ++ t) (sym a.1);
}

blank-unknown : (d : Piece) → d ≡ unknown → Blank d
blank-unknown d e = subst Blank (sym e) (record { head = refl; tails = record { less = refl; greater = refl; two = refl } })

shown-step : (step : Step) (done : List Piece) (d : Piece) (line text : List ℕ) (next : Reading) → HasNoFeed line → Shown (record { done = done; draft = d; at = step }) text → Leads step (record { done = done; draft = d; at = step }) line next → Shown next (text ++ ended line)
shown-step Outside done d line text next free s l =
    subst (λ n. Shown n (text ++ ended line)) (sym l.1)
    (goes-on done Outside AtName d d line text s (s.fits, ap ended (sym l.0)))
shown-step AtName done d line text next free s l =
    let b = blank-unknown d s.fits in
    subst (λ n. Shown n (text ++ ended line)) (sym l.3)
    (goes-on done AtName AtParts d (record d { name = l.0 }) line text s
    ((l.1, record { head = b.head; tails = record { less = b.tails.less; greater = b.tails.greater; two = b.tails.two } }), ap (λ t. ended (codes "piece 1") ++ ended t) (sym l.2)))
shown-step AtParts done d line text next free s l =
    let b = s.fits.1 in
    subst (λ n. Shown n (text ++ ended line)) (sym l.2)
    (goes-on done AtParts (AtPart (l.0 - 1)) d (record d { parts = l.0 }) line text s
    ((s.fits.0, l.1.low, l.1.high, refl, record { head = b.head; tails = record { less = b.tails.less; greater = b.tails.greater; two = b.tails.two } }), ap (λ t. to_name d ++ ended t) (sym l.1.text)))
shown-step (AtPart m) done d line text next free s l =
    let b = s.fits.4 in
    let low : l.0 < d.parts = omega (arith, l.1.high, s.fits.3, s.fits.1) in
    subst (λ n. Shown n (text ++ ended line)) (sym l.2)
    (goes-on done (AtPart m) AtCount d (record d { part = l.0 }) line text s
    ((record { name = s.fits.0; some_parts = s.fits.1; few_parts = s.fits.2; part = low }, record { head = b.head; tails = record { less = b.tails.less; greater = b.tails.greater; two = b.tails.two } }), ap (λ t. to_parts d ++ ended t) (sym l.1.text)))
shown-step AtCount done d line text next free s l =
    subst (λ n. Shown n (text ++ ended line)) (sym l.2)
    (goes-on done AtCount (InHead (l.0 - 1)) d d line text s (advance-count d line l.0 s.fits l.1))
shown-step (InHead (suc k)) done d line text next free s l =
    subst (λ n. Shown n (text ++ ended line)) (sym l)
    (goes-on done (InHead (suc k)) (InHead k) d (record d { head = d.head ++ ended line }) line text s (advance-line k d line free s.fits))
shown-step (InHead zero) done d line text next free s l =
    subst (λ n. Shown n (text ++ ended line)) (sym l.2)
    (goes-on done (InHead zero) (AtTail 0) d (record d { head = d.head ++ ended line; total = l.0 }) line text s (advance-total d line l.0 free s.fits l.1))
shown-step (AtTail from) done d line text next free s (inl l) =
    subst (λ n. Shown n (text ++ ended line)) (sym l.leads)
    (goes-on done (AtTail from) (AtTail (suc l.tail)) d (with_tail l.tail l.sums d) line text s (advance-tail from l.tail d l.sums line l.is s.fits))
shown-step (AtTail from) done d line text next free s (inr l) =
    subst (λ n. Shown n (text ++ ended line)) (sym l.leads) (record {
      formed = all_push IsPiece done d s.formed (end-formed from d l.some s.fits);
      fits = refl;
      is = ap (λ t. t ++ ended line) s.is
          ∙ append_assoc (flat_map piece_text done) (to_tails d ++ tail_lines d) (ended line)
          ∙ ap (λ t. flat_map piece_text done ++ ((to_tails d ++ tail_lines d) ++ ended t)) l.text
          ∙ ap (λ t. flat_map piece_text done ++ t) (grown d)
          ∙ sym (flat-push piece_text done d)
          ∙ sym (append-nil (flat_map piece_text (done ++ d ∷ [])));
    })

pub shown-runs : (lines : List (List ℕ)) (s e : Reading) (text : List ℕ) → AllByRecursion HasNoFeed lines → Shown s text → Runs s lines e → Shown e (text ++ flat_map ended lines)
shown-runs [] s e text free shown r = subst (λ x. Shown x (text ++ [])) (sym r) (subst (Shown s) (sym (append-nil text)) shown)
shown-runs (line ∷ lines) s e text free shown r =
    subst (Shown e) (append_assoc text (ended line) (flat_map ended lines))
    (shown-runs lines r.0 e (text ++ ended line) free.1 (shown-step s.at s.done s.draft line text r.0 free.0 shown r.1) r.2)
