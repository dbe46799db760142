-- The fields of a line.
use Rattle.std.proofs.Common.{◌≡◌, ◌≢◌, ℕ, ◌+◌, ◌<◌, ◌≤◌, ◌^◌, List, [], ◌∷◌, ◌++◌, take, drop, decimal, Option, Some, None, Result, Ok, Err, refl, sym, ◌∙◌, ap, subst, arith}
use Rattle.std.specs.Str.{IsUtf8}
use Rattle.std.specs.Char.{digit_value}
use Rattle.std.specs.Str.Parse.{AllDigits, ParsesUnsigned}
use Rattle.std.specs.Prelude.{SomeIff, MatchOption}
use Rattle.std.specs.Borrow.{Bor}
use Rattle.std.proofs.lemmas.List.{append_cancel_left}
use Rattle.std.proofs.lemmas.Str.{IsUtf8-from_ascii}
use Rattle.std.proofs.lemmas.Fmt.{parse-decimal_wide, IsAscii-decimal_wide, decimal_is_IsNumeral_wide}
use Rattle.weights.specs.declared.TheConstants.{MAX}
use Rattle.piece_texts.specs.declared.piece.PieceSum.{PieceSum}
use Rattle.piece_texts.specs.PieceTexts.{SumFits, IsName, sums_text}
use Rattle.piece_texts.specs.FieldSteps.{Without, CutAt, IsIn, NumberRead, NumberAfter, NameAfter, SumsRead, SumsAfter, BothRead, RestAfter}

pub wide : (n : ℕ) → n ≤ MAX → n < 10 ^ 64
wide n h = omega (arith, h)

below : (n : ℕ) → n ≤ MAX → n < 2 ^ 128
below n h = omega (arith, h)

pub parsed : {E : Type 0} (n : ℕ) (text : List ℕ) (r : Result ℕ E) → n ≤ MAX → text ≡ decimal n → ParsesUnsigned 128 10 text r → r ≡ Ok n
parsed n text r h e p = parse-decimal_wide 128 n text r (below n h) (wide n h) e p

pub utf8 : (n : ℕ) (text : List ℕ) → n ≤ MAX → text ≡ decimal n → IsUtf8 text
utf8 n text h e = subst IsUtf8 (sym e) (IsUtf8-from_ascii (decimal n) (IsAscii-decimal_wide n (wide n h)))

pub not-without : (b : ℕ) (xs ys : List ℕ) → Without b (xs ++ b ∷ ys) → ⊥
not-without b [] ys a = a.0 refl
not-without b (x ∷ xs) ys a = not-without b xs ys a.1

abbrev head_of : (d : ℕ) (xs : List ℕ) → ℕ
head_of d [] = d
head_of d (x ∷ xs) = x

abbrev rest_of : List ℕ → List ℕ
rest_of [] = []
rest_of (x ∷ xs) = xs

-- lists cut at the first place of a byte
pub cut-once : (b : ℕ) (us vs xs ys : List ℕ) → Without b us → Without b xs → us ++ b ∷ vs ≡ xs ++ b ∷ ys → (us ≡ xs) × (vs ≡ ys)
cut-once b [] vs [] ys a c e = (refl, ap rest_of e)
cut-once b [] vs (x ∷ xs) ys a c e = absurd (c.0 (sym (ap (head_of b) e)))
cut-once b (u ∷ us) vs [] ys a c e = absurd (a.0 (ap (head_of b) e))
cut-once b (u ∷ us) vs (x ∷ xs) ys a c e =
    let first : u ≡ x = ap (head_of b) e in
    let more = cut-once b us vs xs ys a.1 c.1 (ap rest_of e) in
    (ap (λ y. y ∷ us) first ∙ ap (λ ws. x ∷ ws) more.0, more.1)

no_space : (xs : List ℕ) → AllDigits 10 xs → Without 32 xs
no_space [] a = tt
no_space (x ∷ xs) a = (λ e. not_digit x e a.0, no_space xs a.1)
  where
    not_digit : (x : ℕ) → x ≡ 32 → digit_value x < 10 → ⊥
    not_digit x e h = absurd (omega (arith, subst (λ y. digit_value y < 10) e h))

pub decimal-without : (n : ℕ) → n ≤ MAX → Without 32 (decimal n)
decimal-without n h = no_space (decimal n) (decimal_is_IsNumeral_wide n (wide n h)).0.1

pub sums-cut : (text : List ℕ) (i : ℕ) (s : PieceSum) → CutAt 32 text i → SumFits s → text ≡ sums_text s → (take i text ≡ decimal s.closed) × (drop (i + 1) text ≡ decimal s.sum)
sums-cut text i s c fits e = cut-once 32 (take i text) (drop (i + 1) text) (decimal s.closed) (decimal s.sum) c.free (decimal-without s.closed fits.closed) (sym c.cut ∙ e)

pub sums-none : (text : List ℕ) (s : PieceSum) → Without 32 text → text ≡ sums_text s → ⊥
sums-none text s a e = not-without 32 (decimal s.closed) (decimal s.sum) (subst (Without 32) e a)

abbrev from_ok : {E : Type 0} → ℕ → Result ℕ E → ℕ
from_ok d (Ok n) = n
from_ok d (Err e) = d

same_ok : {E : Type 0} (r : Result ℕ E) (n m : ℕ) → r ≡ Ok n → r ≡ Ok m → n ≡ m
same_ok r n m a b = sym (ap (from_ok 0) a) ∙ ap (from_ok 0) b

pub number-read : {E : Type 0} (least most n : ℕ) (text : List ℕ) (r : Result ℕ E) (s : Option ℕ) → most ≤ MAX → ParsesUnsigned 128 10 text r → r ≡ Ok n → SomeIff s (IsIn least most n text) n → NumberRead least most text s
number-read least most n text r None h p is s = λ m h'.
    let same : n ≡ m = same_ok r n m is (parsed m text r (omega (arith, h, h'.high)) h'.shortest p) in
    s (subst (λ x. IsIn least most x text) (sym same) h')
number-read least most n text r (Some x) h p is s = subst (λ y. IsIn least most y text) (sym s.1) s.0

pub number-behind : (words : List ℕ) (least most : ℕ) (line rest : List ℕ) (s : Option ℕ) → most ≤ MAX → line ≡ words ++ rest → NumberRead least most rest s → NumberAfter words least most line s
number-behind words least most line rest None h e r = λ n a. r n (record { low = a.low; high = a.high; shortest = append_cancel_left words rest (decimal n) (sym e ∙ a.text) })
number-behind words least most line rest (Some n) h e r = record { low = r.low; high = r.high; fits = omega (arith, h, r.high); text = e ∙ ap (λ t. words ++ t) r.shortest }

pub name-behind : (words line rest : List ℕ) (s : Option (List ℕ)) → line ≡ words ++ rest → SomeIff s (IsName rest) rest → NameAfter words line s
name-behind words line rest None e s = λ name is a. s (subst IsName (append_cancel_left words name rest (sym a ∙ e)) is)
name-behind words line rest (Some name) e s = (subst IsName (sym s.1) s.0, e ∙ ap (λ t. words ++ t) (sym s.1))

pub sums-behind : (words line rest : List ℕ) (s : Option PieceSum) → line ≡ words ++ rest → SumsRead rest s → SumsAfter words line s
sums-behind words line rest None e r = λ s fits a. r s fits (append_cancel_left words rest (sums_text s) (sym e ∙ a))
sums-behind words line rest (Some s) e r = (r.0, e ∙ ap (λ t. words ++ t) r.1)

pub sums-read : (text : List ℕ) (i : ℕ) (r : Option PieceSum) → CutAt 32 text i → BothRead (take i text) (drop (i + 1) text) r → SumsRead text r
sums-read text i None c b = λ s fits e. let parts = sums-cut text i s c fits e in b s fits parts.0 parts.1
sums-read text i (Some s) c b = (b.0, c.cut ∙ ap (λ t. t ++ 32 ∷ drop (i + 1) text) b.1 ∙ ap (λ t. decimal s.closed ++ 32 ∷ t) b.2)

-- what is behind words, as a search of a prefix says it
pub rest-after : (words line : List ℕ) (r : Option (Bor (List ℕ))) → MatchOption r ((rest : List ℕ) → line ≢ words ++ rest) (λ x. line ≡ words ++ x.now) → RestAfter words line r
rest-after words line None m = m
rest-after words line (Some x) m = m
