-- Counts moved behind the others where none of some sizes remain: what choices, weights and pairs
-- of the sizes are of the sizes without the zeros.
use Rattle.std.proofs.Common.{◌≡◌, ℕ, zero, suc, ◌+◌, ◌-◌, ◌*◌, ◌≤◌, List, [], ◌∷◌, ◌++◌, map, length, min, Bool, true, false, cond, refl, sym, ◌∙◌, ap, arith, nat_eq, nat_le, length-append, append-nil, append_assoc, one-mul}
use Rattle.std.specs.Prelude.{replicate}
use Rattle.std.specs.List.{flat_map, sum, range_with_len}
use Rattle.std.proofs.lemmas.List.{map-append, replicate-append-replicate}
use Rattle.std.proofs.lemmas.List.Sums.{sum_by-append}
use Rattle.weights.specs.Grouped.{choices, fits, minus}
use Rattle.weights.specs.Numbers.{binomial}
use Rattle.std.proofs.lemmas.Bool.{leb-true}
use Rattle.weights.specs.Labellings.{number_of_labellings}
use Rattle.weights.proofs.Binomials.{binomial-zero, number_of_labellings-cons}
use Rattle.weights.proofs.Sized.{first_and}
use Rattle.kendall_test.specs.KendallNetwork.{concordant_pairs}
use Rattle.kendall_test.proofs.CodeLaws.{padded, some, some-long, sum-first, sum-some}

-- x with what stands where r is 0 moved to the end
abbrev pub arranged : List ℕ → List ℕ → List ℕ
arranged [] x = x
arranged (r ∷ rs) [] = []
arranged (zero ∷ rs) (a ∷ x) = arranged rs x ++ a ∷ []
arranged (suc r ∷ rs) (a ∷ x) = a ∷ arranged rs x

pub length-arranged : (r x : List ℕ) → length x ≡ length r → length (arranged r x) ≡ length r
length-arranged [] x e = e
length-arranged (r ∷ rs) [] e = absurd (omega (arith, e))
length-arranged (zero ∷ rs) (a ∷ x) e = omega (arith, length-append (arranged rs x) (a ∷ []), length-arranged rs x (omega (arith, e)))
length-arranged (suc r ∷ rs) (a ∷ x) e = ap suc (length-arranged rs x (omega (arith, e)))

-- zeros behind the counts that are not 0

pub padded-some : (r : List ℕ) → padded (length r) (some r) ≡ arranged r r
padded-some [] = refl
padded-some (zero ∷ rs) =
    let long : suc (length rs) - length (some rs) ≡ (length rs - length (some rs)) + 1 = omega (arith, some-long rs) in
    ap (λ n. some rs ++ replicate n 0) long
    ∙ ap (λ zs. some rs ++ zs) (sym (replicate-append-replicate (length rs - length (some rs)) 1 0))
    ∙ sym (append_assoc (some rs) (replicate (length rs - length (some rs)) 0) (0 ∷ []))
    ∙ ap (λ zs. zs ++ 0 ∷ []) (padded-some rs)
padded-some (suc r ∷ rs) =
    let long : suc (length rs) - suc (length (some rs)) ≡ length rs - length (some rs) = omega arith in
    ap (λ n. suc r ∷ (some rs ++ replicate n 0)) long ∙ ap (λ zs. suc r ∷ zs) (padded-some rs)

-- choices

one-zero : (c : ℕ) (rs : List ℕ) → choices c (0 ∷ rs) ≡ map (λ y. 0 ∷ y) (choices c rs)
one-zero c rs =
    let none : min c 0 + 1 ≡ 1 = omega arith in
    let all : c - 0 ≡ c = omega arith in
    ap (λ n. flat_map (λ a. map (λ y. a ∷ y) (choices (c - a) rs)) (range_with_len 0 n)) none
    ∙ append-nil (map (λ y. 0 ∷ y) (choices (c - 0) rs))
    ∙ ap (λ d. map (λ y. 0 ∷ y) (choices d rs)) all

front-map : (a : ℕ) (f F : List ℕ → List ℕ) → ((y : List ℕ) → F (a ∷ y) ≡ a ∷ f y) → (ys : List (List ℕ)) → map (λ y. a ∷ y) (map f ys) ≡ map F (map (λ y. a ∷ y) ys)
front-map a f F e [] = refl
front-map a f F e (y ∷ ys) = rw (e y, front-map a f F e ys) refl

fronts-map : (h k : ℕ → List (List ℕ)) (f F : List ℕ → List ℕ) → ((a : ℕ) (y : List ℕ) → F (a ∷ y) ≡ a ∷ f y) → ((a : ℕ) → h a ≡ map f (k a)) → (ps : List ℕ)
    → flat_map (λ a. map (λ y. a ∷ y) (h a)) ps ≡ map F (flat_map (λ a. map (λ y. a ∷ y) (k a)) ps)
fronts-map h k f F e same [] = refl
fronts-map h k f F e same (a ∷ ps) =
    ap (λ ys. map (λ y. a ∷ y) ys ++ flat_map (λ a. map (λ y. a ∷ y) (h a)) ps) (same a)
    ∙ ap (λ ys. ys ++ flat_map (λ a. map (λ y. a ∷ y) (h a)) ps) (front-map a f F (e a) (k a))
    ∙ ap (λ ys. map F (map (λ y. a ∷ y) (k a)) ++ ys) (fronts-map h k f F e same ps)
    ∙ sym (map-append F (map (λ y. a ∷ y) (k a)) (flat_map (λ a. map (λ y. a ∷ y) (k a)) ps))

choices-end : (c : ℕ) (xs : List ℕ) → choices c (xs ++ 0 ∷ []) ≡ map (λ y. y ++ 0 ∷ []) (choices c xs)
choices-end c [] = one-zero c [] ∙ by (nat_eq c 0)
  where
    by : (b : Bool) → map (λ (y : List ℕ). 0 ∷ y) (cond b ([] ∷ []) []) ≡ map (λ (y : List ℕ). y ++ 0 ∷ []) (cond b ([] ∷ []) [])
    by true = refl
    by false = refl
choices-end c (x ∷ xs) =
    fronts-map (λ a. choices (c - a) (xs ++ 0 ∷ [])) (λ a. choices (c - a) xs) (λ y. y ++ 0 ∷ []) (λ y. y ++ 0 ∷ []) (λ a y. refl) (λ a. choices-end (c - a) xs) (range_with_len 0 (min c x + 1))

ends-map : (f : List ℕ → List ℕ) (F : List ℕ → List ℕ) → ((y : List ℕ) → F (0 ∷ y) ≡ f y ++ 0 ∷ []) → (ys : List (List ℕ)) → map (λ y. y ++ 0 ∷ []) (map f ys) ≡ map F (map (λ y. 0 ∷ y) ys)
ends-map f F e [] = refl
ends-map f F e (y ∷ ys) = rw (e y, ends-map f F e ys) refl

-- the choices of the sizes with the zeros behind are the choices of the sizes, moved like them
pub choices-arranged : (c : ℕ) (r : List ℕ) → choices c (arranged r r) ≡ map (arranged r) (choices c r)
choices-arranged c [] = by (nat_eq c 0)
  where
    by : (b : Bool) → cond b ([] ∷ []) [] ≡ map (arranged []) (cond b ([] ∷ []) [])
    by true = refl
    by false = refl
choices-arranged c (zero ∷ rs) =
    choices-end c (arranged rs rs)
    ∙ ap (map (λ y. y ++ 0 ∷ [])) (choices-arranged c rs)
    ∙ ends-map (arranged rs) (arranged (0 ∷ rs)) (λ y. refl) (choices c rs)
    ∙ ap (map (arranged (0 ∷ rs))) (sym (one-zero c rs))
choices-arranged c (suc r ∷ rs) =
    fronts-map (λ a. choices (c - a) (arranged rs rs)) (λ a. choices (c - a) rs) (arranged rs) (arranged (suc r ∷ rs)) (λ a y. refl) (λ a. choices-arranged (c - a) rs) (range_with_len 0 (min c (suc r) + 1))

-- what is moved is 0

pub none-fits : (a : ℕ) (x rs : List ℕ) → fits (suc a ∷ x) (0 ∷ rs) ≡ true → ⊥
none-fits a x rs f = (let most : suc a ≤ 0 = leb-true (suc a) 0 (first_and (nat_le (suc a) 0) (fits x rs) f).0 in omega (arith, most))

some-end : (xs : List ℕ) → some (xs ++ 0 ∷ []) ≡ some xs
some-end [] = refl
some-end (zero ∷ xs) = some-end xs
some-end (suc x ∷ xs) = ap (λ ys. suc x ∷ ys) (some-end xs)

pub some-arranged : (r x : List ℕ) → fits x r ≡ true → some (arranged r x) ≡ some x
some-arranged [] x f = refl
some-arranged (r ∷ rs) [] f = absurd (cc f)
some-arranged (zero ∷ rs) (zero ∷ x) f = some-end (arranged rs x) ∙ some-arranged rs x (first_and (nat_le 0 0) (fits x rs) f).1
some-arranged (zero ∷ rs) (suc a ∷ x) f = absurd (none-fits a x rs f)
some-arranged (suc r ∷ rs) (zero ∷ x) f = some-arranged rs x (first_and (nat_le 0 (suc r)) (fits x rs) f).1
some-arranged (suc r ∷ rs) (suc a ∷ x) f = ap (λ ys. suc a ∷ ys) (some-arranged rs x (first_and (nat_le (suc a) (suc r)) (fits x rs) f).1)

pub sum-arranged : (r x : List ℕ) → fits x r ≡ true → sum (arranged r x) ≡ sum x
sum-arranged r x f = sym (sum-some (arranged r x)) ∙ ap sum (some-arranged r x f) ∙ sum-some x

-- what remains

minus-end : (xs ys : List ℕ) (a b : ℕ) → length xs ≡ length ys → minus (xs ++ a ∷ []) (ys ++ b ∷ []) ≡ minus xs ys ++ (a - b) ∷ []
minus-end [] [] a b e = refl
minus-end [] (y ∷ ys) a b e = absurd (omega (arith, e))
minus-end (x ∷ xs) [] a b e = absurd (omega (arith, e))
minus-end (x ∷ xs) (y ∷ ys) a b e = ap (λ zs. (x - y) ∷ zs) (minus-end xs ys a b (omega (arith, e)))

pub minus-arranged : (r s x : List ℕ) → length s ≡ length r → length x ≡ length r → minus (arranged r s) (arranged r x) ≡ arranged r (minus s x)
minus-arranged [] s x e f = refl
minus-arranged (r ∷ rs) [] x e f = absurd (omega (arith, e))
minus-arranged (r ∷ rs) (b ∷ s) [] e f = absurd (omega (arith, f))
minus-arranged (zero ∷ rs) (b ∷ s) (a ∷ x) e f =
    minus-end (arranged rs s) (arranged rs x) b a (length-arranged rs s (omega (arith, e)) ∙ sym (length-arranged rs x (omega (arith, f))))
    ∙ ap (λ zs. zs ++ (b - a) ∷ []) (minus-arranged rs s x (omega (arith, e)) (omega (arith, f)))
minus-arranged (suc r ∷ rs) (b ∷ s) (a ∷ x) e f = ap (λ zs. (b - a) ∷ zs) (minus-arranged rs s x (omega (arith, e)) (omega (arith, f)))

-- weights

pub labellings-some : (xs : List ℕ) → number_of_labellings (some xs) ≡ number_of_labellings xs
labellings-some [] = refl
labellings-some (zero ∷ xs) = labellings-some xs ∙ sym (number_of_labellings-cons 0 xs ∙ ap (λ b. b * number_of_labellings xs) (binomial-zero (0 + sum xs)) ∙ one-mul (number_of_labellings xs))
labellings-some (suc c ∷ xs) = number_of_labellings-cons (suc c) (some xs) ∙ ap (λ s. binomial (suc c + s) (suc c) * number_of_labellings (some xs)) (sum-some xs) ∙ ap (λ n. binomial (suc c + sum xs) (suc c) * n) (labellings-some xs) ∙ sym (number_of_labellings-cons (suc c) xs)

pub labellings-arranged : (r x : List ℕ) → fits x r ≡ true → number_of_labellings (arranged r x) ≡ number_of_labellings x
labellings-arranged r x f = sym (labellings-some (arranged r x)) ∙ ap number_of_labellings (some-arranged r x f) ∙ labellings-some x

-- pairs

pub sum-end : (xs : List ℕ) → sum (xs ++ 0 ∷ []) ≡ sum xs
sum-end xs = omega (arith, sum_by-append (λ v. v) xs (0 ∷ []), sum-first 0 [])

concordant-end : (xs ys : List ℕ) → length xs ≡ length ys → concordant_pairs (xs ++ 0 ∷ []) (ys ++ 0 ∷ []) ≡ concordant_pairs xs ys
concordant-end [] [] e = refl
concordant-end [] (y ∷ ys) e = absurd (omega (arith, e))
concordant-end (x ∷ xs) [] e = absurd (omega (arith, e))
concordant-end (x ∷ xs) (y ∷ ys) e = rw (sum-end ys, concordant-end xs ys (omega (arith, e))) refl

pub concordant-arranged : (r x y : List ℕ) → length x ≡ length r → length y ≡ length r → fits x r ≡ true → fits y r ≡ true → concordant_pairs (arranged r x) (arranged r y) ≡ concordant_pairs x y
concordant-arranged [] x y e g f h = refl
concordant-arranged (r ∷ rs) [] y e g f h = absurd (omega (arith, e))
concordant-arranged (r ∷ rs) (a ∷ x) [] e g f h = absurd (omega (arith, g))
concordant-arranged (zero ∷ rs) (suc a ∷ x) (b ∷ y) e g f h = absurd (none-fits a x rs f)
concordant-arranged (zero ∷ rs) (zero ∷ x) (suc b ∷ y) e g f h = absurd (none-fits b y rs h)
concordant-arranged (zero ∷ rs) (zero ∷ x) (zero ∷ y) e g f h =
    let one : fits x rs ≡ true = (first_and (nat_le 0 0) (fits x rs) f).1 in
    let two : fits y rs ≡ true = (first_and (nat_le 0 0) (fits y rs) h).1 in
    concordant-end (arranged rs x) (arranged rs y) (length-arranged rs x (omega (arith, e)) ∙ sym (length-arranged rs y (omega (arith, g))))
    ∙ concordant-arranged rs x y (omega (arith, e)) (omega (arith, g)) one two
    ∙ omega arith
concordant-arranged (suc r ∷ rs) (a ∷ x) (b ∷ y) e g f h =
    let one : fits x rs ≡ true = (first_and (nat_le a (suc r)) (fits x rs) f).1 in
    let two : fits y rs ≡ true = (first_and (nat_le b (suc r)) (fits y rs) h).1 in
    rw (sum-arranged rs y two, concordant-arranged rs x y (omega (arith, e)) (omega (arith, g)) one two) refl
