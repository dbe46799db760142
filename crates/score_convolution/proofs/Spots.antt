-- Draws that are kept by their places alone: their sums, the cells that tell the same, and pairs of two lists.
use Rattle.std.proofs.Common.{◌≡◌, ℕ, zero, suc, ◌+◌, ◌-◌, ◌*◌, ◌<◌, ◌≤◌, inl, inr, List, [], ◌∷◌, ◌++◌, length, take, drop, get_or, replicate, Bool, true, false, cond, refl, sym, ◌∙◌, ap, arith}
use Rattle.std.specs.Prelude.{ℤ, pos, ◌+ℤ◌, nat_le}
use Rattle.std.specs.List.{sum}
use Rattle.std.proofs.lemmas.Bool.{cases_lt}
use Rattle.std.proofs.lemmas.Bool.Decides.{nat_tests}
use Rattle.std.proofs.lemmas.Nat.{mul-le}
use Rattle.node_pool.specs.Nodes.{weighted}
use Rattle.count_arrays.specs.Rows.{IsPoured, row_nodes, stepped}
use Rattle.count_arrays.proofs.RowSums.{row_sum, stepped-far, stepped-more, sum-cons, weighted-row}
use Rattle.score_convolution.specs.Places.{AllEnough, AllNear, Rise, behind, cells_from, draws_of, enough, placed_pairs, spots_sum}
use Rattle.score_convolution.specs.declared.lists.Spot.{Spot}

-- ---- sums

pub spots-same : (f g : ℕ → ℕ) → ((p : ℕ) → f p ≡ g p) → (spots : List Spot) → spots_sum f spots ≡ spots_sum g spots
spots-same f g e [] = refl
spots-same f g e (s ∷ spots) = rw (e s.place, spots-same f g e spots) refl

pub spots-le : (f g : ℕ → ℕ) → ((p : ℕ) → f p ≤ g p) → (spots : List Spot) → spots_sum f spots ≤ spots_sum g spots
spots-le f g e [] = omega arith
spots-le f g e (s ∷ spots) = omega (arith, mul-le s.draws (f s.place) s.draws (g s.place) (omega arith) (e s.place), spots-le f g e spots)

spots-steady : (m : ℕ) (spots : List Spot) → spots_sum (λ p. m) spots ≡ draws_of spots * m
spots-steady m [] = omega arith
spots-steady m (s ∷ spots) =
    let spread : (s.draws * 1 + draws_of spots) * m ≡ s.draws * m + draws_of spots * m = grind arith in
    omega (arith, spread, spots-steady m spots)

pub spots-push : (f : ℕ → ℕ) (spots : List Spot) (s : Spot) → spots_sum f (spots ++ s ∷ []) ≡ spots_sum f spots + s.draws * f s.place
spots-push f [] s = omega arith
spots-push f (first ∷ spots) s = omega (arith, spots-push f spots s)

pub spots-take : (f : ℕ → ℕ) (spots : List Spot) (i : ℕ) (d : Spot) → i < length spots → spots_sum f (take (i + 1) spots) ≡ spots_sum f (take i spots) + (get_or spots i d).draws * f (get_or spots i d).place
spots-take f [] i d h = absurd (omega (arith, h))
spots-take f (s ∷ spots) zero d h = omega arith
spots-take f (s ∷ spots) (suc i) d h =
    let one : suc i + 1 ≡ suc (i + 1) = omega arith in
    rw one (omega (arith, spots-take f spots i d (omega (arith, h))))

pub spots-first : (f : ℕ → ℕ) (spots : List Spot) (i : ℕ) → spots_sum f (take i spots) ≤ spots_sum f spots
spots-first f spots zero = omega arith
spots-first f [] (suc i) = omega arith
spots-first f (s ∷ spots) (suc i) = omega (arith, spots-first f spots i)

-- from an index on
pub spots-drop : (f : ℕ → ℕ) (spots : List Spot) (i : ℕ) (d : Spot) → i < length spots → spots_sum f (drop i spots) ≡ (get_or spots i d).draws * f (get_or spots i d).place + spots_sum f (drop (i + 1) spots)
spots-drop f [] i d h = absurd (omega (arith, h))
spots-drop f (s ∷ spots) zero d h = refl
spots-drop f (s ∷ spots) (suc i) d h =
    let one : suc i + 1 ≡ suc (i + 1) = omega arith in
    rw one (spots-drop f spots i d (omega (arith, h)))

pub spots-last : (f : ℕ → ℕ) (spots : List Spot) (i : ℕ) → spots_sum f (drop i spots) ≤ spots_sum f spots
spots-last f spots zero = omega arith
spots-last f [] (suc i) = omega arith
spots-last f (s ∷ spots) (suc i) = omega (arith, spots-last f spots i)

-- ---- rising places

-- where the first stands further on, so do all
pub rise-first : (n m : ℕ) (spots : List Spot) (i : ℕ) → Rise n (drop i spots) → ((d : Spot) → i < length spots → m ≤ (get_or spots i d).place) → Rise m (drop i spots)
rise-first n m [] zero r first = tt
rise-first n m [] (suc i) r first = tt
rise-first n m (s ∷ spots) zero r first = (first s (omega arith), r.1)
rise-first n m (s ∷ spots) (suc i) r first = rise-first n m spots i r (λ d h. first d (omega (arith, h)))

-- the first of those from an index on, and the others
pub rise-at : (n : ℕ) (spots : List Spot) (i : ℕ) (d : Spot) → i < length spots → Rise n (drop i spots) → (n ≤ (get_or spots i d).place) × Rise ((get_or spots i d).place + 1) (drop (i + 1) spots)
rise-at n [] i d h r = absurd (omega (arith, h))
rise-at n (s ∷ spots) zero d h r = r
rise-at n (s ∷ spots) (suc i) d h r =
    let one : suc i + 1 ≡ suc (i + 1) = omega arith in
    rw one (rise-at n spots i d (omega (arith, h)) r)

pub rise-between : (n : ℕ) (spots : List Spot) (i j : ℕ) (d e : Spot) → Rise n spots → i < j → j < length spots → (get_or spots i d).place < (get_or spots j e).place
rise-between n [] i j d e r h k = absurd (omega (arith, k))
rise-between n (s ∷ spots) i zero d e r h k = absurd (omega (arith, h))
rise-between n (s ∷ spots) zero (suc j) d e r h k = omega (arith, above (s.place + 1) spots j r.1 (omega (arith, k)))
  where
    above : (m : ℕ) (xs : List Spot) (j : ℕ) → Rise m xs → j < length xs → m ≤ (get_or xs j e).place
    above m [] j r h = absurd (omega (arith, h))
    above m (x ∷ xs) zero r h = r.0
    above m (x ∷ xs) (suc j) r h = omega (arith, r.0, above (x.place + 1) xs j r.1 (omega (arith, h)))
rise-between n (s ∷ spots) (suc i) (suc j) d e r h k = rise-between (s.place + 1) spots i j d e r.1 (omega (arith, h)) (omega (arith, k))

-- a spot more
pub rise-push : (n : ℕ) (spots : List Spot) (s : Spot) → Rise n spots → behind n spots ≤ s.place → Rise n (spots ++ s ∷ [])
rise-push n [] s r h = (h, tt)
rise-push n (first ∷ spots) s r h = (r.0, rise-push (first.place + 1) spots s r.1 h)

pub behind-push : (n : ℕ) (spots : List Spot) (s : Spot) → behind n (spots ++ s ∷ []) ≡ s.place + 1
behind-push n [] s = refl
behind-push n (first ∷ spots) s = behind-push (first.place + 1) spots s

behind-from : (n : ℕ) (spots : List Spot) → Rise n spots → n ≤ behind n spots
behind-from n [] r = omega arith
behind-from n (s ∷ spots) r = omega (arith, r.0, behind-from (s.place + 1) spots r.1)

-- each place is before the end
pub behind-at : (n : ℕ) (spots : List Spot) (i : ℕ) (d : Spot) → Rise n spots → i < length spots → (get_or spots i d).place < behind n spots
behind-at n [] i d r h = absurd (omega (arith, h))
behind-at n (s ∷ spots) zero d r h = omega (arith, behind-from (s.place + 1) spots r.1)
behind-at n (s ∷ spots) (suc i) d r h = behind-at (s.place + 1) spots i d r.1 (omega (arith, h))

pub all-near : (limit by n : ℕ) (spots : List Spot) → Rise n spots → by + behind n spots ≤ limit + 1 → AllNear limit by spots
all-near limit by n [] r h = tt
all-near limit by n (s ∷ spots) r h = (omega (arith, behind-from (s.place + 1) spots r.1, h), all-near limit by (s.place + 1) spots r.1 h)

-- ---- places that are enough

pub enough-fewer : (least less : ℕ) (spots : List Spot) → less ≤ least → AllEnough least spots → AllEnough less spots
enough-fewer least less [] h all = tt
enough-fewer least less (s ∷ spots) h all = (omega (arith, h, all.0), enough-fewer least less spots h all.1)

is-enough : (least p : ℕ) → least ≤ p → enough least p ≡ 1
is-enough least p h =
    let e : nat_le least p ≡ true = grind (arith, nat_tests, h) in
    ap (λ b. cond b 1 0) e

not-enough : (least p : ℕ) → p < least → enough least p ≡ 0
not-enough least p h =
    let e : nat_le least p ≡ false = grind (arith, nat_tests, h) in
    ap (λ b. cond b 1 0) e

pub few-enough : (least p : ℕ) → enough least p ≤ 1
few-enough least p = by (nat_le least p)
  where
    by : (b : Bool) → cond b 1 0 ≤ 1
    by true = omega arith
    by false = omega arith

all-enough : (least : ℕ) (spots : List Spot) → AllEnough least spots → draws_of spots ≡ spots_sum (enough least) spots
all-enough least [] all = refl
all-enough least (s ∷ spots) all = rw (is-enough least s.place all.0) (omega (arith, all-enough least spots all.1))

-- from the index on they are, and before it none is
pub upper-is : (least n : ℕ) (spots : List Spot) (i : ℕ) (d : Spot) → Rise n spots → AllEnough least (drop i spots) → ((j : ℕ) → i ≡ suc j → i ≤ length spots → (get_or spots j d).place < least) → i ≤ length spots → draws_of (drop i spots) ≡ spots_sum (enough least) spots
upper-is least n spots zero d r all stop h = all-enough least spots all
upper-is least n [] (suc i) d r all stop h = refl
upper-is least n (s ∷ spots) (suc i) d r all stop h =
    let rest = upper-is least (s.place + 1) spots i d r.1 all (λ j e k. stop (suc j) (ap suc e) h) (omega (arith, h)) in
    rw (not-enough least s.place (low i refl)) (omega (arith, rest))
  where
    low : (m : ℕ) → i ≡ m → s.place < least
    low zero e = stop 0 (ap suc e) h
    low (suc m) e = omega (arith, stop (suc m) (ap suc e) h, rise-between n (s ∷ spots) 0 (suc m) d d r (omega arith) (omega (arith, h, e)))

-- ---- cells

zeros : (f : List ℤ → ℕ) (lowest stride : ℤ) (k : ℕ) (cells : List ℕ) → row_sum f lowest stride (replicate k 0 ++ cells) ≡ row_sum f (stepped lowest stride k) stride cells
zeros f lowest stride zero cells = refl
zeros f lowest stride (suc k) cells = omega (arith, zeros f (lowest +ℤ stride) stride k cells)

-- the cells say of each place what the spots do
told : (f : List ℤ → ℕ) (lowest stride : ℤ) (p : ℕ) (spots : List Spot) → Rise p spots → row_sum f (stepped lowest stride p) stride (cells_from p spots) ≡ spots_sum (λ q. f (stepped lowest stride q ∷ [])) spots
told f lowest stride p [] r = refl
told f lowest stride p (s ∷ spots) r =
    let gap : p + (s.place - p) ≡ s.place = omega (arith, r.0) in
    let here : stepped (stepped lowest stride p) stride (s.place - p) ≡ stepped lowest stride s.place = sym (stepped-more lowest stride p (s.place - p)) ∙ ap (stepped lowest stride) gap in
    let next : stepped lowest stride (s.place + 1) ≡ stepped lowest stride s.place +ℤ stride = stepped-more lowest stride s.place 1 in
    zeros f (stepped lowest stride p) stride (s.place - p) (s.draws ∷ cells_from (s.place + 1) spots)
    ∙ ap (λ z. row_sum f z stride (s.draws ∷ cells_from (s.place + 1) spots)) here
    ∙ ap (λ z. s.draws * f (stepped lowest stride s.place ∷ []) + row_sum f z stride (cells_from (s.place + 1) spots)) (sym next)
    ∙ ap (λ m. s.draws * f (stepped lowest stride s.place ∷ []) + m) (told f lowest stride (s.place + 1) spots r.1)

-- one list is poured into another
pub spots-poured : (place : ℕ) (from old new : List Spot) → Rise 0 from → Rise 0 old → Rise 0 new
    → ((f : ℕ → ℕ) → spots_sum f new ≡ spots_sum f old + spots_sum (λ p. f (place + p)) from) → IsPoured (cells_from 0 from) 1 place 1 (cells_from 0 old) (cells_from 0 new)
spots-poured place from old new r s t added f lowest stride =
    let g : ℕ → ℕ = λ q. f (stepped lowest stride q ∷ []) in
    let small : ℤ = stepped (pos 0) stride 1 in
    let on : (q : ℕ) → stepped (stepped lowest stride place) small q ≡ stepped lowest stride (place + q) =
    λ q. stepped-far (stepped lowest stride place) stride 1 q ∙ ap (stepped (stepped lowest stride place) stride) (let e : q * 1 ≡ q = omega arith in e) ∙ sym (stepped-more lowest stride place q) in
    let one : weighted f (row_nodes (stepped lowest stride place) small (cells_from 0 from)) ≡ spots_sum (λ p. g (place + p)) from =
    weighted-row f (stepped lowest stride place) small (cells_from 0 from)
    ∙ told f (stepped lowest stride place) small 0 from r
    ∙ spots-same (λ q. f (stepped (stepped lowest stride place) small q ∷ [])) (λ p. g (place + p)) (λ q. ap (λ z. f (z ∷ [])) (on q)) from in
    omega (
      arith,
      weighted-row f lowest stride (cells_from 0 new) ∙ told f lowest stride 0 new t,
      weighted-row f lowest stride (cells_from 0 old) ∙ told f lowest stride 0 old s,
      one,
      added g,
    )

zeros-long : (k : ℕ) (cells : List ℕ) → length (replicate k 0 ++ cells) ≡ k + length cells
zeros-long zero cells = omega arith
zeros-long (suc k) cells = omega (arith, zeros-long k cells)

pub cells-long : (p : ℕ) (spots : List Spot) → Rise p spots → p + length (cells_from p spots) ≡ behind p spots
cells-long p [] r = omega arith
cells-long p (s ∷ spots) r = omega (arith, r.0, zeros-long (s.place - p) (s.draws ∷ cells_from (s.place + 1) spots), cells-long (s.place + 1) spots r.1)

pub cells-end : (spots : List Spot) → Rise 0 spots → length (cells_from 0 spots) ≡ behind 0 spots
cells-end spots r = omega (arith, cells-long 0 spots r)

-- ---- pairs

drop-zeros : (m k : ℕ) (cells : List ℕ) → sum (drop m (replicate k 0 ++ cells)) ≡ sum (drop (m - k) cells)
drop-zeros zero zero cells = ap (λ n. sum (drop n cells)) (let e : 0 ≡ 0 - 0 = omega arith in e)
drop-zeros zero (suc k) cells = omega (arith, sum-cons 0 (replicate k 0 ++ cells), drop-zeros zero k cells, ap (λ n. sum (drop n cells)) (let e : 0 - suc k ≡ 0 - k = omega arith in e))
drop-zeros (suc m) zero cells = ap (λ n. sum (drop n cells)) (let e : suc m ≡ suc m - 0 = omega arith in e)
drop-zeros (suc m) (suc k) cells = drop-zeros m k cells ∙ ap (λ n. sum (drop n cells)) (let e : m - k ≡ suc m - suc k = omega arith in e)

-- the cells from a place on have the draws that are enough
rest-is : (m p : ℕ) (spots : List Spot) → Rise p spots → sum (drop (m - p) (cells_from p spots)) ≡ spots_sum (enough m) spots
rest-is m p [] r = none (m - p)
  where
    none : (n : ℕ) → sum (drop n []) ≡ 0
    none zero = refl
    none (suc n) = refl
rest-is m p (s ∷ spots) r =
    let cells : List ℕ = cells_from (s.place + 1) spots in
    let left : (m - p) - (s.place - p) ≡ m - s.place = omega (arith, r.0) in
    let rest = rest-is m (s.place + 1) spots r.1 in
    drop-zeros (m - p) (s.place - p) (s.draws ∷ cells)
    ∙ ap (λ n. sum (drop n (s.draws ∷ cells))) left
    ∙ elim (cases_lt s.place m) [
      | inl h ↦ (let on : m - s.place ≡ suc (m - (s.place + 1)) = omega (arith, h) in ap (λ n. sum (drop n (s.draws ∷ cells))) on ∙ rest ∙ (rw (not-enough m s.place h) (omega arith)))
      | inr h ↦ (let all : m - s.place ≡ 0 = omega (arith, h) in let none : m - (s.place + 1) ≡ 0 = omega (arith, h) in
          ap (λ n. sum (drop n (s.draws ∷ cells))) all
          ∙ (rw (is-enough m s.place h) (omega (arith, sum-cons s.draws cells, rest, ap (λ n. sum (drop n cells)) none))))
    ]

pairs-zeros : (n k : ℕ) (cells others : List ℕ) → placed_pairs n (replicate k 0 ++ cells) others ≡ placed_pairs (n - k) cells others
pairs-zeros n zero cells others = ap (λ m. placed_pairs m cells others) (let e : n ≡ n - 0 = omega arith in e)
pairs-zeros n (suc k) cells others = omega (arith, pairs-zeros (n - 1) k cells others, ap (λ m. placed_pairs m cells others) (let e : (n - 1) - k ≡ n - suc k = omega arith in e))

pairs-are : (n p : ℕ) (ones others : List Spot) → Rise p ones → Rise 0 others → placed_pairs (n - p) (cells_from p ones) (cells_from 0 others) ≡ spots_sum (λ q. spots_sum (enough (n - q)) others) ones
pairs-are n p [] others r t = refl
pairs-are n p (s ∷ ones) others r t =
    let left : (n - p) - (s.place - p) ≡ n - s.place = omega (arith, r.0) in
    let less : (n - s.place) - 1 ≡ n - (s.place + 1) = omega arith in
    let here : sum (drop (n - s.place) (cells_from 0 others)) ≡ spots_sum (enough (n - s.place)) others = ap (λ m. sum (drop m (cells_from 0 others))) (let e : n - s.place ≡ (n - s.place) - 0 = omega arith in e) ∙ rest-is (n - s.place) 0 others t in
    pairs-zeros (n - p) (s.place - p) (s.draws ∷ cells_from (s.place + 1) ones) (cells_from 0 others)
    ∙ ap (λ m. placed_pairs m (s.draws ∷ cells_from (s.place + 1) ones) (cells_from 0 others)) left
    ∙ omega (
      arith,
      ap (λ m. s.draws * m) here,
      ap (λ m. placed_pairs m (cells_from (s.place + 1) ones) (cells_from 0 others)) less,
      pairs-are n (s.place + 1) ones others r.1 t,
    )

pub spots-paired : (n : ℕ) (ones others : List Spot) → Rise 0 ones → Rise 0 others → spots_sum (λ q. spots_sum (enough (n - q)) others) ones ≡ placed_pairs n (cells_from 0 ones) (cells_from 0 others)
spots-paired n ones others r t = sym (pairs-are n 0 ones others r t) ∙ ap (λ m. placed_pairs m (cells_from 0 ones) (cells_from 0 others)) (let e : n - 0 ≡ n = omega arith in e)

-- the cells hold the draws
pub cells-draws : (spots : List Spot) → Rise 0 spots → sum (cells_from 0 spots) ≡ draws_of spots
cells-draws spots r = rest-is 0 0 spots r ∙ sym (all-enough 0 spots (every spots))
  where
    every : (xs : List Spot) → AllEnough 0 xs
    every [] = tt
    every (x ∷ xs) = (omega arith, every xs)

-- pairs are no more than all
pub pairs-few : (n : ℕ) (ones others : List Spot) (i : ℕ) → spots_sum (λ q. spots_sum (enough (n - q)) others) (take i ones) ≤ draws_of ones * draws_of others
pairs-few n ones others i = omega (
  arith,
  spots-first (λ q. spots_sum (enough (n - q)) others) ones i,
  spots-le (λ q. spots_sum (enough (n - q)) others) (λ q. draws_of others) (λ q. spots-le (enough (n - q)) (λ p. 1) (few-enough (n - q)) others) ones,
  spots-steady (draws_of others) ones,
)
