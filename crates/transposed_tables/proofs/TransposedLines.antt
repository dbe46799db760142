-- Lists of lines whose places change: what they were comes back, and sums and products stay.
use Rattle.std.proofs.Common.{◌≡◌, ℕ, zero, suc, ◌+◌, ◌*◌, List, [], ◌∷◌, length, map, refl, sym, ◌∙◌, ap, arith}
use Rattle.std.specs.Prelude.{replicate}
use Rattle.std.specs.List.{AllByRecursion}
use Rattle.std.proofs.lemmas.List.{length-replicate}
use Rattle.weights.proofs.Sized.{plus}
use Rattle.completion_bounds.proofs.Factorials.{factorial, factorials, total}
use Rattle.transposed_tables.specs.Transposed.{fronted, transposed}

-- each line has n items
abbrev pub AreLong : ℕ → List (List ℕ) → Type 0
AreLong n lines = AllByRecursion (λ line. length line ≡ n) lines

pub length-fronted : (x : List ℕ) (lines : List (List ℕ)) → length x ≡ length lines → length (fronted x lines) ≡ length lines
length-fronted [] [] e = refl
length-fronted [] (line ∷ lines) e = absurd (omega (arith, e))
length-fronted (a ∷ x) [] e = absurd (omega (arith, e))
length-fronted (a ∷ x) (line ∷ lines) e = ap suc (length-fronted x lines (omega (arith, e)))

pub length-transposed : (k : ℕ) (w : List (List ℕ)) → AreLong k w → length (transposed k w) ≡ k
length-transposed k [] a = length-replicate k []
length-transposed k (x ∷ w) a =
    let rest = length-transposed k w a.1 in
    length-fronted x (transposed k w) (a.0 ∙ sym rest) ∙ rest

long-empty : (k : ℕ) → AreLong 0 (replicate k [])
long-empty zero = tt
long-empty (suc k) = (refl, long-empty k)

long-fronted : (n : ℕ) (x : List ℕ) (lines : List (List ℕ)) → AreLong n lines → AreLong (suc n) (fronted x lines)
long-fronted n [] lines a = tt
long-fronted n (b ∷ x) [] a = tt
long-fronted n (b ∷ x) (line ∷ lines) a = (ap suc a.0, long-fronted n x lines a.1)

pub long-transposed : (k : ℕ) (w : List (List ℕ)) → AreLong (length w) (transposed k w)
long-transposed k [] = long-empty k
long-transposed k (x ∷ w) = long-fronted (length w) x (transposed k w) (long-transposed k w)

-- as long as the first lines, so it fits them
pub level-transposed : (k : ℕ) (x : List ℕ) (w : List (List ℕ)) → AreLong k (x ∷ w) → length x ≡ length (transposed k w)
level-transposed k x w a = a.0 ∙ sym (length-transposed k w a.1)

-- transposed twice

transposed-fronted : (n : ℕ) (x : List ℕ) (lines : List (List ℕ)) → length x ≡ length lines → transposed (suc n) (fronted x lines) ≡ x ∷ transposed n lines
transposed-fronted n [] [] e = refl
transposed-fronted n [] (line ∷ lines) e = absurd (omega (arith, e))
transposed-fronted n (a ∷ x) [] e = absurd (omega (arith, e))
transposed-fronted n (a ∷ x) (line ∷ lines) e = rw (transposed-fronted n x lines (omega (arith, e))) refl

transposed-empty : (k : ℕ) → transposed 0 (replicate k []) ≡ []
transposed-empty zero = refl
transposed-empty (suc k) = refl

pub transposed-twice : (k : ℕ) (w : List (List ℕ)) → AreLong k w → transposed (length w) (transposed k w) ≡ w
transposed-twice k [] a = transposed-empty k
transposed-twice k (x ∷ w) a = transposed-fronted (length w) x (transposed k w) (level-transposed k x w a) ∙ ap (λ u. x ∷ u) (transposed-twice k w a.1)

-- sums of the lines, and over the lines

abbrev pub across : ℕ → List (List ℕ) → List ℕ
across k [] = replicate k 0
across k (x ∷ w) = plus x (across k w)

totals-empty : (k : ℕ) → map total (replicate k []) ≡ replicate k 0
totals-empty zero = refl
totals-empty (suc k) = ap (λ v. 0 ∷ v) (totals-empty k)

totals-fronted : (x : List ℕ) (lines : List (List ℕ)) → length x ≡ length lines → map total (fronted x lines) ≡ plus x (map total lines)
totals-fronted [] [] e = refl
totals-fronted [] (line ∷ lines) e = absurd (omega (arith, e))
totals-fronted (a ∷ x) [] e = absurd (omega (arith, e))
totals-fronted (a ∷ x) (line ∷ lines) e = ap (λ v. (a + total line) ∷ v) (totals-fronted x lines (omega (arith, e)))

pub totals-transposed : (k : ℕ) (w : List (List ℕ)) → AreLong k w → map total (transposed k w) ≡ across k w
totals-transposed k [] a = totals-empty k
totals-transposed k (x ∷ w) a = totals-fronted x (transposed k w) (level-transposed k x w a) ∙ ap (plus x) (totals-transposed k w a.1)

across-empty : (k : ℕ) → across 0 (replicate k []) ≡ []
across-empty zero = refl
across-empty (suc k) = refl

pub across-fronted : (n : ℕ) (x : List ℕ) (lines : List (List ℕ)) → length x ≡ length lines → across (suc n) (fronted x lines) ≡ total x ∷ across n lines
across-fronted n [] [] e = refl
across-fronted n [] (line ∷ lines) e = absurd (omega (arith, e))
across-fronted n (a ∷ x) [] e = absurd (omega (arith, e))
across-fronted n (a ∷ x) (line ∷ lines) e = rw (across-fronted n x lines (omega (arith, e))) refl

pub across-transposed : (k : ℕ) (w : List (List ℕ)) → AreLong k w → across (length w) (transposed k w) ≡ map total w
across-transposed k [] a = across-empty k
across-transposed k (x ∷ w) a = across-fronted (length w) x (transposed k w) (level-transposed k x w a) ∙ ap (λ v. total x ∷ v) (across-transposed k w a.1)

-- the factorials of all cells, multiplied

abbrev pub cell_factorials : List (List ℕ) → ℕ
cell_factorials [] = 1
cell_factorials (x ∷ w) = factorials x * cell_factorials w

cells-empty : (k : ℕ) → cell_factorials (replicate k []) ≡ 1
cells-empty zero = refl
cells-empty (suc k) = omega (arith, cells-empty k)

cells-fronted : (x : List ℕ) (lines : List (List ℕ)) → length x ≡ length lines → cell_factorials (fronted x lines) ≡ factorials x * cell_factorials lines
cells-fronted [] [] e = refl
cells-fronted [] (line ∷ lines) e = absurd (omega (arith, e))
cells-fronted (a ∷ x) [] e = absurd (omega (arith, e))
cells-fronted (a ∷ x) (line ∷ lines) e = rw (cells-fronted x lines (omega (arith, e))) (regroup (factorial a) (factorials line) (factorials x) (cell_factorials lines))
  where
    regroup : (a l x c : ℕ) → (a * l) * (x * c) ≡ (a * x) * (l * c)
    regroup a l x c = grind arith

pub cells-transposed : (k : ℕ) (w : List (List ℕ)) → AreLong k w → cell_factorials (transposed k w) ≡ cell_factorials w
cells-transposed k [] a = cells-empty k
cells-transposed k (x ∷ w) a = cells-fronted x (transposed k w) (level-transposed k x w a) ∙ ap (λ n. factorials x * n) (cells-transposed k w a.1)
