-- Lines lead to one place at most, and from wherever a reader stands, some lines lead on to the end of a piece: so lines begin a text of pieces exactly where they lead somewhere.
use Rattle.std.proofs.Common.{◌≡◌, ◌≢◌, ℕ, zero, suc, ◌-◌, ◌<◌, ◌≤◌, List, [], ◌∷◌, ◌++◌, replicate, codes, decimal, refl, sym, ◌∙◌, ap, subst, arith, inl, inr}
use Rattle.std.specs.List.{AllByRecursion}
use Rattle.std.specs.Str.Parse.{digits_value}
use Rattle.std.proofs.lemmas.List.{append_cancel_left}
use Rattle.std.proofs.lemmas.Fmt.{decimal_is_IsNumeral_wide}
use Rattle.weights.specs.declared.TheConstants.{MAX}
use Rattle.piece_texts.specs.declared.piece.Piece.{Piece}
use Rattle.piece_texts.specs.declared.piece.PieceSum.{PieceSum}
use Rattle.piece_texts.specs.declared.reader.Step.{Step}
use Rattle.piece_texts.specs.declared.reader.Step.TheVariants.{Outside, AtName, AtParts, AtPart, AtCount, InHead, AtTail}
use Rattle.piece_texts.specs.PieceTexts.{IsName, SumFits, sums_text, ended, HasNoFeed}
use Rattle.piece_texts.specs.FieldSteps.{IsAfter, tail_words}
use Rattle.piece_texts.specs.ReaderSteps.{Reading, fresh, with_tail, with_line, TailLeads, Leads}
use Rattle.piece_texts.proofs.LineRuns.{Runs, after_pieces}
use Rattle.piece_texts.proofs.FieldsRead.{cut-once, decimal-without, wide}
use Rattle.piece_texts.proofs.FreeLines.{free-append, free-words, free-decimal, free-sums}

-- a number is written in one way, and read in one
decimal-once : (n m : ℕ) → n ≤ MAX → m ≤ MAX → decimal n ≡ decimal m → n ≡ m
decimal-once n m h k e = sym (decimal_is_IsNumeral_wide n (wide n h)).1 ∙ ap (digits_value 10) e ∙ (decimal_is_IsNumeral_wide m (wide m k)).1

number-once : (words line : List ℕ) (least most n m : ℕ) → IsAfter words least most n line → IsAfter words least most m line → n ≡ m
number-once words line least most n m a b = decimal-once n m a.fits b.fits (append_cancel_left words (decimal n) (decimal m) (sym a.text ∙ b.text))

sums-once : (a b : PieceSum) → SumFits a → SumFits b → sums_text a ≡ sums_text b → a ≡ b
sums-once a b f g e =
    let parts = cut-once 32 (decimal a.closed) (decimal a.sum) (decimal b.closed) (decimal b.sum) (decimal-without a.closed f.closed) (decimal-without b.closed g.closed) e in
    ap (λ c. record { closed = c; sum = a.sum }) (decimal-once a.closed b.closed f.closed g.closed parts.0)
    ∙ ap (λ c. record { closed = b.closed; sum = c }) (decimal-once a.sum b.sum f.sum g.sum parts.1)

abbrev first_of : List ℕ → ℕ
first_of [] = 0
first_of (x ∷ xs) = x

differ : {A : Type 0} (a b : ℕ) → a < b → a ≡ b → A
differ a b h e = absurd (omega (arith, h, e))

tail-once : (t u : ℕ) (xs ys : List ℕ) → t ≤ 2 → u ≤ 2 → tail_words t ++ xs ≡ tail_words u ++ ys → t ≡ u
tail-once zero zero xs ys h k e = refl
tail-once zero (suc zero) xs ys h k e = differ 103 108 (omega arith) (sym (ap first_of e))
tail-once zero (suc (suc u)) xs ys h k e = differ 108 116 (omega arith) (ap first_of e)
tail-once (suc zero) zero xs ys h k e = differ 103 108 (omega arith) (ap first_of e)
tail-once (suc zero) (suc zero) xs ys h k e = refl
tail-once (suc zero) (suc (suc u)) xs ys h k e = differ 103 116 (omega arith) (ap first_of e)
tail-once (suc (suc t)) zero xs ys h k e = differ 108 116 (omega arith) (sym (ap first_of e))
tail-once (suc (suc t)) (suc zero) xs ys h k e = differ 103 116 (omega arith) (sym (ap first_of e))
tail-once (suc (suc t)) (suc (suc u)) xs ys h k e = omega (arith, h, k)

not-end : {A : Type 0} (t : ℕ) (xs line : List ℕ) → line ≡ tail_words t ++ xs → line ≡ codes "end" → A
not-end zero xs line e f = differ 101 108 (omega arith) (sym (ap first_of f) ∙ ap first_of e)
not-end (suc zero) xs line e f = differ 101 103 (omega arith) (sym (ap first_of f) ∙ ap first_of e)
not-end (suc (suc t)) xs line e f = differ 101 116 (omega arith) (sym (ap first_of f) ∙ ap first_of e)

tails-once : (from : ℕ) (s a b : Reading) (line : List ℕ) → TailLeads from s line a → TailLeads from s line b → a ≡ b
tails-once from s a b line p q =
    let tail : p.tail ≡ q.tail = tail-once p.tail q.tail (sums_text p.sums) (sums_text q.sums) p.is.high q.is.high (sym p.is.text ∙ q.is.text) in
    let rest : sums_text p.sums ≡ sums_text q.sums = append_cancel_left (tail_words q.tail) (sums_text p.sums) (sums_text q.sums) (ap (λ t. tail_words t ++ sums_text p.sums) (sym tail) ∙ sym p.is.text ∙ q.is.text) in
    let sums : p.sums ≡ q.sums = sums-once p.sums q.sums p.is.fits q.is.fits rest in
    p.leads
    ∙ ap (λ t. record s { draft = with_tail t p.sums s.draft; at = AtTail (suc t) }) tail
    ∙ ap (λ x. record s { draft = with_tail q.tail x s.draft; at = AtTail (suc q.tail) }) sums
    ∙ sym q.leads

leads-once : (step : Step) (s a b : Reading) (line : List ℕ) → Leads step s line a → Leads step s line b → a ≡ b
leads-once Outside s a b line p q = p.1 ∙ sym q.1
leads-once AtName s a b line p q =
    p.3 ∙ ap (λ x. record s { draft = record s.draft { name = x }; at = AtParts }) (append_cancel_left (codes "name ") p.0 q.0 (sym p.2 ∙ q.2)) ∙ sym q.3
leads-once AtParts s a b line p q =
    p.2 ∙ ap (λ x. record s { draft = record s.draft { parts = x }; at = AtPart (x - 1) }) (number-once (codes "parts ") line 1 64 p.0 q.0 p.1 q.1) ∙ sym q.2
leads-once (AtPart m) s a b line p q =
    p.2 ∙ ap (λ x. record s { draft = record s.draft { part = x }; at = AtCount }) (number-once (codes "part ") line 0 m p.0 q.0 p.1 q.1) ∙ sym q.2
leads-once AtCount s a b line p q =
    p.2 ∙ ap (λ x. record s { at = InHead (x - 1) }) (number-once (codes "head ") line 1 MAX p.0 q.0 p.1 q.1) ∙ sym q.2
leads-once (InHead (suc k)) s a b line p q = p ∙ sym q
leads-once (InHead zero) s a b line p q =
    p.2 ∙ ap (λ x. record (with_line s line) { draft = record (with_line s line).draft { total = x }; at = AtTail 0 }) (number-once (codes "total ") line 1 MAX p.0 q.0 p.1 q.1) ∙ sym q.2
leads-once (AtTail from) s a b line (inl p) (inl q) = tails-once from s a b line p q
leads-once (AtTail from) s a b line (inl p) (inr q) = not-end p.tail (sums_text p.sums) line p.is.text q.text
leads-once (AtTail from) s a b line (inr p) (inl q) = not-end q.tail (sums_text q.sums) line q.is.text p.text
leads-once (AtTail from) s a b line (inr p) (inr q) = p.leads ∙ sym q.leads

pub runs-once : (s a b : Reading) (lines : List (List ℕ)) → Runs s lines a → Runs s lines b → a ≡ b
runs-once s a b [] p q = p ∙ sym q
runs-once s a b (line ∷ lines) p q =
    let next : q.0 ≡ p.0 = leads-once s.at s q.0 p.0 line q.1 p.1 in
    runs-once p.0 a b lines p.2 (subst (λ x. Runs x lines b) next q.2)

-- one run after another
pub runs-on : (s m e : Reading) (xs ys : List (List ℕ)) → Runs s xs m → Runs m ys e → Runs s (xs ++ ys) e
runs-on s m e [] ys r t = subst (λ x. Runs x ys e) r t
runs-on s m e (x ∷ xs) ys r t = (r.0, r.1, runs-on r.0 m e xs ys r.2 t)

pub runs-split : (s e : Reading) (xs ys : List (List ℕ)) → Runs s (xs ++ ys) e → (m : Reading) × Runs s xs m × Runs m ys e
runs-split s e [] ys r = (s, refl, r)
runs-split s e (x ∷ xs) ys r = let rest = runs-split r.0 e xs ys r.2 in (rest.0, (r.0, r.1, rest.1), rest.2)

-- the end of a piece
abbrev Ends : Reading → Type 0
Ends s = (lines : List (List ℕ)) × (pieces : List Piece) × (pieces ≢ []) × Runs s lines (after_pieces pieces) × AllByRecursion HasNoFeed lines

not_empty : {X : Type 0} (xs : List X) (x : X) → xs ++ x ∷ [] ≢ []
not_empty [] x e = cc
not_empty (y ∷ xs) x e = cc

one_more : (s next : Reading) (line : List ℕ) → HasNoFeed line → Leads s.at s line next → Ends next → Ends s
one_more s next line free leads ends = (line ∷ ends.0, ends.1, ends.2, (next, leads, ends.3), (free, ends.4))

abbrev zeros : PieceSum
zeros = record { closed = 0; sum = 0 }

ends-closing : (done : List Piece) (d : Piece) (from : ℕ) → 1 ≤ from → Ends (record { done = done; draft = d; at = AtTail from })
ends-closing done d from some = (codes "end" ∷ [], done ++ d ∷ [], not_empty done d, (_, inr (record { some = some; text = refl; leads = refl }), refl), (free-words (codes "end") refl, tt))

ends-tails : (done : List Piece) (d : Piece) (from : ℕ) → Ends (record { done = done; draft = d; at = AtTail from })
ends-tails done d (suc from) = ends-closing done d (suc from) (omega arith)
ends-tails done d zero =
    let s : Reading = record { done = done; draft = d; at = AtTail 0 } in
    let next : Reading = record s { draft = with_tail 2 zeros d; at = AtTail 3 } in
    one_more s next _ (free-append (codes "two ") (sums_text zeros) (free-words (codes "two ") refl) (free-sums zeros (record { closed = omega arith; sum = omega arith }))) (inl (record { tail = 2; sums = zeros; is = record { low = omega arith; high = omega arith; fits = record { closed = omega arith; sum = omega arith }; text = refl }; leads = refl }))
    (ends-closing done (with_tail 2 zeros d) 3 (omega arith))

one_is : (words : List ℕ) (most : ℕ) → 1 ≤ most → IsAfter words 1 most 1 (words ++ decimal 1)
one_is words most h = record { low = omega arith; high = h; fits = omega arith; text = refl }

ends-head : (k : ℕ) (done : List Piece) (d : Piece) → Ends (record { done = done; draft = d; at = InHead k })
ends-head zero done d =
    one_more _ _ (codes "total " ++ decimal 1) (free-append (codes "total ") (decimal 1) (free-words (codes "total ") refl) (free-decimal 1 (omega arith))) (1, one_is (codes "total ") MAX (omega arith), refl)
    (ends-tails done (record d { head = d.head ++ ended (codes "total " ++ decimal 1); total = 1 }) 0)
ends-head (suc k) done d = one_more _ _ [] tt refl (ends-head k done (record d { head = d.head ++ ended [] }))

ends-count : (done : List Piece) (d : Piece) → Ends (record { done = done; draft = d; at = AtCount })
ends-count done d = one_more _ _ (codes "head " ++ decimal 1) (free-append (codes "head ") (decimal 1) (free-words (codes "head ") refl) (free-decimal 1 (omega arith))) (1, one_is (codes "head ") MAX (omega arith), refl) (ends-head 0 done d)

ends-part : (m : ℕ) (done : List Piece) (d : Piece) → Ends (record { done = done; draft = d; at = AtPart m })
ends-part m done d = one_more _ _ (codes "part " ++ decimal 0) (free-append (codes "part ") (decimal 0) (free-words (codes "part ") refl) (free-decimal 0 (omega arith))) (0, record { low = omega arith; high = omega arith; fits = omega arith; text = refl }, refl) (ends-count done (record d { part = 0 }))

ends-parts : (done : List Piece) (d : Piece) → Ends (record { done = done; draft = d; at = AtParts })
ends-parts done d = one_more _ _ (codes "parts " ++ decimal 1) (free-append (codes "parts ") (decimal 1) (free-words (codes "parts ") refl) (free-decimal 1 (omega arith))) (1, one_is (codes "parts ") 64 (omega arith), refl) (ends-part 0 done (record d { parts = 1 }))

zeros_name : IsName (replicate 64 48)
zeros_name = record { long = refl; digits = refl }

ends-name : (done : List Piece) (d : Piece) → Ends (record { done = done; draft = d; at = AtName })
ends-name done d = one_more _ _ (codes "name " ++ replicate 64 48) (free-words (codes "name " ++ replicate 64 48) refl) (replicate 64 48, zeros_name, refl, refl) (ends-parts done (record d { name = replicate 64 48 }))

ends-outside : (done : List Piece) (d : Piece) → Ends (record { done = done; draft = d; at = Outside })
ends-outside done d = one_more _ _ (codes "piece 1") (free-words (codes "piece 1") refl) (refl, refl) (ends-name done d)

ends : (s : Reading) → Ends s
ends s = by s.at refl
  where
    by : (step : Step) → s.at ≡ step → Ends s
    by step e = subst Ends (at_own step e) (any step s.done s.draft)
      where
        at_own : (step : Step) → s.at ≡ step → record { done = s.done; draft = s.draft; at = step } ≡ s
        at_own step e = ap (λ x. record s { at = x }) (sym e)

        any : (step : Step) (done : List Piece) (d : Piece) → Ends (record { done = done; draft = d; at = step })
        any Outside done d = ends-outside done d
        any AtName done d = ends-name done d
        any AtParts done d = ends-parts done d
        any (AtPart m) done d = ends-part m done d
        any AtCount done d = ends-count done d
        any (InHead k) done d = ends-head k done d
        any (AtTail from) done d = ends-tails done d from

-- from where lines lead, some lines lead on to the end of a piece
pub record LeadsOn (lines : List (List ℕ)) : Type 0 where
  pub more : List (List ℕ)
  pub free : AllByRecursion HasNoFeed more
  pub pieces : List Piece
  pub some : pieces ≢ []
  pub runs : Runs fresh (lines ++ more) (after_pieces pieces)

pub leads-on : (lines : List (List ℕ)) (s : Reading) → Runs fresh lines s → LeadsOn lines
leads-on lines s r =
    let last = ends s in
    record { more = last.0; free = last.4; pieces = last.1; some = last.2; runs = runs-on fresh s _ lines last.0 r last.3 }
