-- Choices listed row by row: what one more row leaves to list, and that no other count of it is left out.
use Rattle.std.proofs.Common.{◌≡◌, ℕ, zero, suc, ◌+◌, ◌-◌, ◌*◌, ◌/◌, ◌^◌, ◌<◌, ◌≤◌, List, [], ◌∷◌, ◌++◌, drop, length, map, min, max, Bool, true, false, cond, not, ◌&&◌, refl, sym, ◌∙◌, ap, subst, arith, add-one, append_assoc, mul_assoc, mul-one, nat_eq, zero-add, eq-eqb, inl, inr}
use Rattle.std.specs.Prelude.{pos}
use Rattle.std.specs.List.{AllByRecursion, Contains, filter, range_with_len, sum}
use Rattle.std.proofs.lemmas.Bool.{both_ways, cases_Bool, le-leb}
use Rattle.std.proofs.lemmas.Grind.{pow_more}
use Rattle.std.proofs.lemmas.Nat.{le-div}
use Rattle.std.proofs.lemmas.List.{append-nil, map-append}
use Rattle.std.proofs.lemmas.List.Sums.{sum_by-cons}
use Rattle.std.proofs.Math.Nat.{div-mul-le_self, lt-div-mul-add, mul-le-mul_left, mul-le-mul_right, one-le-mul, one-le-pow}
use Rattle.completion_bounds.proofs.Factorials.{no_labellings}
use Rattle.label_network.specs.ChoiceOrder.{later_choices}
use Rattle.weights.specs.declared.lines.Line.{Line}
use Rattle.weights.specs.declared.TheConstants.{MAX}
use Rattle.weights.specs.Grouped.{choices, minus}
use Rattle.weights.specs.Labellings.{number_of_labellings}
use Rattle.weights.specs.Numbers.{binomial}
use Rattle.weights.proofs.Binomials.{binomial-all, binomial-positive, number_of_labellings-cons}
use Rattle.weights.proofs.ChoiceLists.{IsChoice, choices-each}
use Rattle.weights.proofs.Filters.{all_weaker, map-same_where, all_filter}
use Rattle.weights.proofs.FirstLabel.{number_of_labellings-positive}
use Rattle.weights.proofs.Members.{range-below}
use Rattle.weights.proofs.Sized.{sum-minus}
use Rattle.label_network.specs.LabelSteps.{IsHeld}
use Rattle.label_network.proofs.Narrowing.{chosen}
use Rattle.sorted_tables.specs.GatheredChoices.{gets_less}
use Rattle.sorted_tables.specs.FrontSteps.{IsNext, IsFront, alike_orders, alike_with, last_alike, front_line, front_lines, split_ways, with_row}
use Rattle.sorted_tables.specs.SortedSteps.{fits_behind, kept, raised, run, run_from}
use Rattle.sorted_tables.specs.declared.fronts.Front.{Front}
use Rattle.sorted_tables.proofs.GatheredForms.{gathered-risen, less-here, less-parts}
use Rattle.sorted_tables.proofs.GatheredSums.{choice-among}
use Rattle.sorted_tables.proofs.RisingChoices.{IsLeast, flat_map-none, least-is, raised-first, kept-few, kept-range, kept-split, kept_front, kept_with, no-front, one-more, raised-choice}

map-map : {X Y Z : Type 0} (g : Y → Z) (f : X → Y) (xs : List X) → map g (map f xs) ≡ map (λ x. g (f x)) xs
map-map g f [] = refl
map-map g f (x ∷ xs) = rw (map-map g f xs) refl

range-both : (s n : ℕ) → AllByRecursion (λ d. (s ≤ d) × (d < s + n)) (range_with_len s n)
range-both s zero = tt
range-both s (suc n) = ((omega arith, omega arith), all_weaker (λ d. (s + 1 ≤ d) × (d < (s + 1) + n)) (λ d. (s ≤ d) × (d < s + suc n)) (λ d h. (omega (arith, h.0), omega (arith, h.1))) (range_with_len (s + 1) n) (range-both (s + 1) n))

-- a choice with one more count
longer : (c r b : ℕ) (rs x : List ℕ) → b ≤ c → b ≤ r → IsChoice (c - b) rs x → IsChoice c (r ∷ rs) (b ∷ x)
longer c r b rs x l h o = record {
  long = ap suc o.long;
  whole = sum_by-cons (λ v. v) b x ∙ omega (arith, o.whole, l);
  fitting = rw (le-leb b r h, o.fitting) refl;
}

split-cons : (c o r b : ℕ) (rs x : List ℕ) → b ≤ c → b ≤ r → c + o ≡ sum (r ∷ rs) → IsChoice (c - b) rs x → split_ways (r ∷ rs) (b ∷ x) ≡ (binomial c b * binomial o (r - b)) * split_ways rs x
split-cons c o r b rs x l h level choice =
    let here : b + sum x ≡ c = omega (arith, choice.whole, l) in
    let there : (r - b) + sum (minus rs x) ≡ o = omega (arith, sum-minus rs x choice.fitting, choice.whole, l, h, level, sum_by-cons (λ v. v) r rs) in
    let own : number_of_labellings (b ∷ x) ≡ binomial c b * number_of_labellings x = number_of_labellings-cons b x ∙ ap (λ n. binomial n b * number_of_labellings x) here in
    let left : number_of_labellings ((r - b) ∷ minus rs x) ≡ binomial o (r - b) * number_of_labellings (minus rs x) = number_of_labellings-cons (r - b) (minus rs x) ∙ ap (λ n. binomial n (r - b) * number_of_labellings (minus rs x)) there in
    ap (λ n. n * number_of_labellings ((r - b) ∷ minus rs x)) own
    ∙ ap (λ n. (binomial c b * number_of_labellings x) * n) left
    ∙ turned (binomial c b) (binomial o (r - b)) (number_of_labellings x) (number_of_labellings (minus rs x))
  where
    turned : (p q n m : ℕ) → (p * n) * (q * m) ≡ (p * q) * (n * m)
    turned p q n m = grind arith

-- what is known of a count between the least and the most
pub record IsBetween (q a c r : ℕ) (rs : List ℕ) (b : ℕ) : Type 0 where
  pub kept_here : gets_less r b q a ≡ false
  pub fits : b ≤ r
  pub few : b ≤ c
  pub enough : b * run r rs ≤ c - b
  pub most : c - b ≤ sum rs

abbrev pub most_of : ℕ → ℕ → List ℕ → ℕ
most_of c r rs = min r (c / run_from (r ∷ rs))

pub between : (q a c r : ℕ) (rs : List ℕ) (least b : ℕ) → IsLeast q a c r rs least → least ≤ b → b ≤ most_of c r rs → IsBetween q a c r rs b
between q a c r rs least b i low high =
    let most : b ≤ c / (run r rs + 1) = omega (arith, high) in
    let product : b * (run r rs + 1) ≤ c / (run r rs + 1) * (run r rs + 1) = mul-le-mul_right (run r rs + 1) most in
    let all : b * (run r rs + 1) ≡ b * run r rs + b = grind arith in
    let wide : b * run r rs + b ≤ c = omega (arith, product, all, div-mul-le_self c (run r rs + 1)) in
    record {
      kept_here = elim (cases_Bool (gets_less r b q a)) [
        | inl t ↦ (let less = less-parts r b q a t in absurd (both_ways (gets_less r least q a) i.kept_here (ap (λ s. gets_less s least q a) less.0 ∙ less-here q least a (omega (arith, less.1, low)))))
        | inr t ↦ t
      ];
      fits = omega (arith, high);
      few = omega (arith, wide);
      enough = omega (arith, wide);
      most = omega (arith, i.most, low);
    }

-- with a greater count no choice is kept
beyond : (q a c r : ℕ) (rs : List ℕ) (b : ℕ) → most_of c r rs < b → b ≤ min c r → kept_front q a c r rs b ≡ []
beyond q a c r rs b high few =
    let more : c / (run r rs + 1) + 1 ≤ b = omega (arith, high, few) in
    let product : (c / (run r rs + 1) + 1) * (run r rs + 1) ≤ b * (run r rs + 1) = mul-le-mul_right (run r rs + 1) more in
    let next : (c / (run r rs + 1) + 1) * (run r rs + 1) ≡ c / (run r rs + 1) * (run r rs + 1) + (run r rs + 1) = grind arith in
    let all : b * (run r rs + 1) ≡ b * run r rs + b = grind arith in
    let past : c < c / (run r rs + 1) * (run r rs + 1) + (run r rs + 1) = lt-div-mul-add (omega arith) in
    no-front q a c r b rs (kept-few r b (c - b) rs (omega (arith, product, next, all, past, few)))

-- how many rows are alike
alike-most : (q a k r b : ℕ) → alike_with q a k r b ≤ k + 1
alike-most q a k r b = by (nat_eq r q && nat_eq b a)
  where
    by : (t : Bool) → cond t (k + 1) 1 ≤ k + 1
    by true = omega arith
    by false = omega arith

alike-some : (q a k r b : ℕ) → 1 ≤ alike_with q a k r b
alike-some q a k r b = by (nat_eq r q && nat_eq b a)
  where
    by : (t : Bool) → 1 ≤ cond t (k + 1) 1
    by true = omega arith
    by false = omega arith

module _ (width orders r b : ℕ) (rs : List ℕ) (front : Front) (is : IsFront width orders (r ∷ rs) front) (row : IsBetween front.size front.count front.column r rs b) where
  abbrev next : Front
  next = with_row front r b

  left_few : r - b ≤ front.others
  left_few = omega (arith, is.level, sum_by-cons (λ v. v) r rs, row.most, row.few, row.fits)

  ways-on : (x : List ℕ) → IsChoice (front.column - b) rs x → front.ways * split_ways (r ∷ rs) (b ∷ x) ≡ next.ways * split_ways rs x
  ways-on x o =
      ap (λ n. front.ways * n) (split-cons front.column front.others r b rs x row.few row.fits is.level o)
      ∙ sym (mul_assoc front.ways (binomial front.column b * binomial front.others (r - b)) (split_ways rs x))

  alike-on : (x : List ℕ) → front.orders * alike_orders front.size front.count front.alike (r ∷ rs) (b ∷ x) ≡ next.orders * alike_orders next.size next.count next.alike rs x
  alike-on x = sym (mul_assoc front.orders next.alike (alike_orders r b next.alike rs x))

  line-on : (x : List ℕ) → IsChoice (front.column - b) rs x → front_line orders front (r ∷ rs) (b ∷ x) ≡ front_line orders next rs x
  line-on x o = rw (ways-on x o, alike-on x) refl

  fits-on : (x : List ℕ) → length x ≡ length rs → fits_behind front.size front.count (r ∷ rs) (b ∷ x) ≡ fits_behind r b rs x
  fits-on x l = one-more front.size front.count r b rs x l ∙ ap (λ t. not t && fits_behind r b rs x) row.kept_here

  held-on : IsHeld width rs
  held-on = record {
    each = λ i l w. (let later : suc i + 1 ≡ suc (i + 1) = omega arith in subst (λ n. sum (drop n (r ∷ rs)) < width) later (is.held.each (suc i) (omega (arith, l)) w));
  }

  few-orders : next.orders * 8 ^ length rs ≤ 8 ^ 8
  few-orders =
      let more : next.alike ≤ 8 = omega (arith, alike-most front.size front.count front.alike r b, is.few) in
      let all : (front.orders * next.alike) * 8 ^ length rs ≤ (front.orders * 8) * 8 ^ length rs = mul-le-mul_right (8 ^ length rs) (mul-le-mul_left front.orders more) in
      let same : (front.orders * 8) * 8 ^ length rs ≡ front.orders * (8 ^ length rs * 8) = grind arith in
      let power : 8 ^ suc (length rs) ≡ 8 ^ length rs * 8 = ap (λ n. 8 ^ n) (sym (add-one (length rs))) ∙ pow_more 8 (length rs) in
      omega (arith, all, same, subst (λ p. front.orders * p ≤ 8 ^ 8) power is.few_orders)

  some-ways : 1 ≤ next.ways
  some-ways = one-le-mul is.some (one-le-mul (binomial-positive front.column b row.few) (binomial-positive front.others (r - b) left_few))

  value-on : (x : List ℕ) → Contains (choices (front.column - b) rs) x → next.ways * split_ways rs x ≤ MAX
  value-on x e =
      let o : IsChoice (front.column - b) rs x = chosen (front.column - b) rs x e in
      omega (arith, ways-on x o, is.fits (b ∷ x) (choice-among front.column (r ∷ rs) (b ∷ x) (longer front.column r b rs x row.few row.fits o)))

  weight-on : (x : List ℕ) → Contains (choices (front.column - b) rs) x → fits_behind r b rs x ≡ true → (front_line orders next rs x).weight ≤ MAX
  weight-on x e f =
      let o : IsChoice (front.column - b) rs x = chosen (front.column - b) rs x e in
      subst (λ (l : Line). l.weight ≤ MAX) (line-on x o) (is.line_fits (b ∷ x) (choice-among front.column (r ∷ rs) (b ∷ x) (longer front.column r b rs x row.few row.fits o)) (fits-on x o.long ∙ f))

  -- one more row leaves a front
  pub front-on : IsFront width orders rs next
  front-on = record {
    few = omega (arith, alike-most front.size front.count front.alike r b, is.few);
    few_orders = few-orders;
    some_orders = one-le-mul is.some_orders (alike-some front.size front.count front.alike r b);
    some = some-ways;
    level = omega (arith, is.level, sum_by-cons (λ v. v) r rs, row.most, row.few, row.fits);
    small = omega (arith, is.small, sum_by-cons (λ v. v) r rs);
    held = held-on;
    least = row.fits;
    enough = row.enough;
    fits = value-on;
    line_fits = weight-on;
  }

  -- and its ways are few enough, as there is a choice behind it
  ways-few : next.ways ≤ MAX
  ways-few =
      let x : List ℕ = raised r b (front.column - b) rs in
      let o : IsChoice (front.column - b) rs x = raised-choice r b (front.column - b) rs row.fits row.enough row.most in
      let some : 1 ≤ split_ways rs x = one-le-mul (number_of_labellings-positive x) (number_of_labellings-positive (minus rs x)) in
      omega (arith, mul-le-mul_left next.ways some, value-on x (choice-among (front.column - b) rs x o))

  pub next-count : IsNext width front r b
  next-count = record {
    few = row.fits;
    within = row.few;
    left = left_few;
    held = λ w. omega (arith, is.held.each 0 (omega arith) (omega (arith, w, row.fits)), row.most);
    held_left = λ w. omega (arith, is.held.each 0 (omega arith) (omega (arith, w)), is.level, sum_by-cons (λ v. v) r rs, row.most, row.few, row.fits);
    some = is.some;
    fits = ways-few;
    alike = omega (arith, is.few);
    orders = omega (arith, mul-le-mul_left front.orders (one-le-pow (suc (length rs)) 8 (omega arith)), is.few_orders);
  }

  -- what it leaves to list are the choices with this count
  pub lines-on : map (front_line orders front (r ∷ rs)) (kept_front front.size front.count front.column r rs b) ≡ front_lines orders next rs
  lines-on =
      ap (λ t. map (front_line orders front (r ∷ rs)) (cond t [] (map (λ y. b ∷ y) (kept r b (front.column - b) rs)))) row.kept_here
      ∙ map-map (front_line orders front (r ∷ rs)) (λ y. b ∷ y) (kept r b (front.column - b) rs)
      ∙ map-same_where (IsChoice (front.column - b) rs) _ (front_line orders next rs) line-on (kept r b (front.column - b) rs) (all_filter (IsChoice (front.column - b) rs) (fits_behind r b rs) (choices (front.column - b) rs) (choices-each (front.column - b) rs))

-- the choices with fewer than so many for the next row are listed
abbrev pub lines_to : ℕ → Front → ℕ → List ℕ → ℕ → List Line
lines_to orders front r rs count = map (front_line orders front (r ∷ rs)) (kept_with front.size front.count front.column r rs 0 count)

abbrev pub least_count : Front → ℕ → List ℕ → ℕ
least_count front r rs = max (cond (nat_eq r front.size) front.count 0) (front.column - sum rs)

pub record IsListed (orders : ℕ) (front : Front) (r : ℕ) (rs : List ℕ) (most count : ℕ) (before lines : List Line) : Type 0 where
  pub least : least_count front r rs ≤ count
  pub within : count ≤ most
  pub listed : lines ≡ before ++ lines_to orders front r rs count

next-least : {width orders r : ℕ} {rs : List ℕ} {front : Front} → IsFront width orders (r ∷ rs) front → IsLeast front.size front.count front.column r rs (least_count front r rs)
next-least {r = r} {rs = rs} {front = front} is = least-is front.size front.count front.column r rs is.least is.enough (omega (arith, is.level))

pub listed-first : {width orders r : ℕ} {rs : List ℕ} {front : Front} → IsFront width orders (r ∷ rs) front → (most count : ℕ) (before : List Line) → most ≡ most_of front.column r rs → count ≡ max (cond (nat_eq r front.size) front.count 0) (front.column - (front.column + front.others - r)) → IsListed orders front r rs most count before before
listed-first {orders = orders} {r = r} {rs = rs} {front = front} is most count before most_is count_is =
    let later : front.column + front.others - r ≡ sum rs = omega (arith, is.level, sum_by-cons (λ v. v) r rs) in
    let least : count ≡ least_count front r rs = count_is ∙ ap (λ n. max (cond (nat_eq r front.size) front.count 0) (front.column - n)) later in
    let i : IsLeast front.size front.count front.column r rs (least_count front r rs) = next-least is in
    let all : least_count front r rs * (run r rs + 1) ≡ least_count front r rs * run r rs + least_count front r rs = grind arith in
    let few : least_count front r rs ≤ front.column / (run r rs + 1) = le-div (least_count front r rs) front.column (run r rs + 1) (omega arith) (omega (arith, all, i.enough, i.few)) in
    let none : kept_with front.size front.count front.column r rs 0 (least_count front r rs) ≡ [] = flat_map-none (λ d. d < 0 + least_count front r rs) (kept_front front.size front.count front.column r rs) (λ d l. i.below d (omega (arith, l))) (range_with_len 0 (least_count front r rs)) (range-below 0 (least_count front r rs)) in
    record {
      least = omega (arith, least);
      within = omega (arith, least, most_is, few, i.few);
      listed = sym (append-nil before) ∙ ap (λ ys. before ++ map (front_line orders front (r ∷ rs)) ys) (sym none ∙ ap (kept_with front.size front.count front.column r rs 0) (sym least));
    }

pub listed-between : {width orders r most count : ℕ} {rs : List ℕ} {front : Front} {before lines : List Line} → IsFront width orders (r ∷ rs) front → IsListed orders front r rs most count before lines → most ≡ most_of front.column r rs → IsBetween front.size front.count front.column r rs count
listed-between {r = r} {count = count} {rs = rs} {front = front} is listed most_is =
    between front.size front.count front.column r rs (least_count front r rs) count (next-least is) listed.least (omega (arith, listed.within, most_is))

listed-next : (orders : ℕ) (front : Front) (r : ℕ) (rs : List ℕ) (count : ℕ) (before lines more : List Line) → lines ≡ before ++ lines_to orders front r rs count → map (front_line orders front (r ∷ rs)) (kept_front front.size front.count front.column r rs count) ≡ more → lines ++ more ≡ before ++ lines_to orders front r rs (count + 1)
listed-next orders front r rs count before lines more listed here =
    let line : List ℕ → Line = front_line orders front (r ∷ rs) in
    let begun : ℕ → List (List ℕ) = kept_front front.size front.count front.column r rs in
    let one : lines_to orders front r rs (count + 1) ≡ lines_to orders front r rs count ++ more =
    ap (map line) (kept-split front.size front.count front.column r rs 0 count 1)
    ∙ map-append line (kept_with front.size front.count front.column r rs 0 count) (kept_with front.size front.count front.column r rs (0 + count) 1)
    ∙ ap (λ ys. lines_to orders front r rs count ++ map line ys) (append-nil (begun (0 + count)) ∙ ap begun (zero-add count))
    ∙ ap (λ ys. lines_to orders front r rs count ++ ys) here in
    ap (λ ys. ys ++ more) listed ∙ append_assoc before (lines_to orders front r rs count) more ∙ ap (λ ys. before ++ ys) (sym one)

pub listed-on : {width orders r most count : ℕ} {rs : List ℕ} {front : Front} {before lines : List Line} → IsFront width orders (r ∷ rs) front → IsListed orders front r rs most count before lines → most ≡ most_of front.column r rs → lines ++ front_lines orders (with_row front r count) rs ≡ before ++ lines_to orders front r rs (count + 1)
listed-on {width = width} {orders = orders} {r = r} {count = count} {rs = rs} {front = front} {before = before} {lines = lines} is listed most_is =
    listed-next orders front r rs count before lines (front_lines orders (with_row front r count) rs) listed.listed (lines-on width orders r count rs front is (listed-between is listed most_is))

pub listed-more : {width orders r most count : ℕ} {rs : List ℕ} {front : Front} {before lines : List Line} → IsFront width orders (r ∷ rs) front → IsListed orders front r rs most count before lines → most ≡ most_of front.column r rs → count < most → (new : List Line) → new ≡ lines ++ front_lines orders (with_row front r count) rs → IsListed orders front r rs most (count + 1) before new
listed-more is listed most_is more new pushed = record {
  least = omega (arith, listed.least);
  within = omega (arith, more);
  listed = pushed ∙ listed-on is listed most_is;
}

-- and at last all are
to-all : (orders : ℕ) (front : Front) (r : ℕ) (rs : List ℕ) → most_of front.column r rs ≤ min front.column r → lines_to orders front r rs (most_of front.column r rs + 1) ≡ front_lines orders front (r ∷ rs)
to-all orders front r rs within =
    let q : ℕ = front.size in
    let a : ℕ = front.count in
    let c : ℕ = front.column in
    let most : ℕ = most_of c r rs in
    let rest : ℕ = min c r - most in
    let parts : min c r + 1 ≡ (most + 1) + rest = omega (arith, within) in
    let none : kept_with q a c r rs (0 + (most + 1)) rest ≡ [] = flat_map-none (λ d. (0 + (most + 1) ≤ d) × (d < (0 + (most + 1)) + rest)) (kept_front q a c r rs) (λ d l. beyond q a c r rs d (omega (arith, l.0)) (omega (arith, l.1, parts))) (range_with_len (0 + (most + 1)) rest) (range-both (0 + (most + 1)) rest) in
    ap (map (front_line orders front (r ∷ rs)))
    (sym (append-nil (kept_with q a c r rs 0 (most + 1)))
    ∙ ap (λ ys. kept_with q a c r rs 0 (most + 1) ++ ys) (sym none)
    ∙ sym (kept-split q a c r rs 0 (most + 1) rest)
    ∙ ap (kept_with q a c r rs 0) (sym parts)
    ∙ sym (kept-range q a c r rs 0 (min c r + 1)))

pub listed-all : {width orders r most count : ℕ} {rs : List ℕ} {front : Front} {before lines : List Line} → IsFront width orders (r ∷ rs) front → IsListed orders front r rs most count before lines → most ≡ most_of front.column r rs → most ≤ count → lines ++ front_lines orders (with_row front r count) rs ≡ before ++ front_lines orders front (r ∷ rs)
listed-all {orders = orders} {r = r} {count = count} {rs = rs} {front = front} {before = before} is listed most_is last =
    let row : IsBetween front.size front.count front.column r rs count = listed-between is listed most_is in
    let all : count ≡ most_of front.column r rs = omega (arith, last, listed.within, most_is) in
    let within : most_of front.column r rs ≤ min front.column r = omega (arith, all, row.few, row.fits) in
    listed-on is listed most_is ∙ ap (λ n. before ++ lines_to orders front r rs (n + 1)) all ∙ ap (λ ys. before ++ ys) (to-all orders front r rs within)

-- a factor of a product that is not 0 is no more than it
pub first-factor : (w a b : ℕ) → 1 ≤ w → 1 ≤ b → a ≤ w * (a * b)
first-factor w a b h k = omega (arith, mul-le-mul_left a k, mul-le-mul_right (a * b) h)

pub second-factor : (w a b : ℕ) → 1 ≤ w → 1 ≤ a → b ≤ w * (a * b)
second-factor w a b h k = omega (arith, mul-le-mul_right b k, mul-le-mul_right (a * b) h)

-- where one row is left it gets all, and where none is nothing

abbrev pub last_line : ℕ → Front → ℕ → Line
last_line orders front alike = record { value = pos front.ways; weight = front.ways * (orders / (front.orders * alike)) }

pub record IsLast (orders : ℕ) (front : Front) (rows : List ℕ) (alike : ℕ) : Type 0 where
  pub one : front_lines orders front rows ≡ last_line orders front alike ∷ []
  pub few : front.ways ≤ MAX
  pub light : (last_line orders front alike).weight ≤ MAX

only-choice : {width orders : ℕ} {rows : List ℕ} {front : Front} → IsFront width orders rows front → (x : List ℕ) (alike : ℕ) → IsChoice front.column rows x → fits_behind front.size front.count rows x ≡ true → kept front.size front.count front.column rows ≡ x ∷ [] → split_ways rows x ≡ 1 → alike_orders front.size front.count front.alike rows x ≡ alike → IsLast orders front rows alike
only-choice {orders = orders} {rows = rows} {front = front} is x alike o f only ways orders_are =
    let among : Contains (choices front.column rows) x = choice-among front.column rows x o in
    let once : front.ways * split_ways rows x ≡ front.ways = ap (λ n. front.ways * n) ways ∙ mul-one front.ways in
    let line : front_line orders front rows x ≡ last_line orders front alike = rw (once, orders_are) refl in
    record {
      one = ap (map (front_line orders front rows)) only ∙ ap (λ l. l ∷ []) line;
      few = omega (arith, once, is.fits x among);
      light = subst (λ (l : Line). l.weight ≤ MAX) line (is.line_fits x among f);
    }

none-left : {width orders : ℕ} {front : Front} → IsFront width orders [] front → IsLast orders front [] 1
none-left {front = front} is =
    let none : front.column ≡ 0 = omega (arith, is.level) in
    let same : nat_eq front.count front.count ≡ true = eq-eqb front.count front.count refl in
    only-choice is [] 1 (record { long = refl; whole = sym none; fitting = refl }) (rw same refl) (rw (none, same) refl) (rw no_labellings refl) refl

whole-row : (m : ℕ) → number_of_labellings (m ∷ []) ≡ 1
whole-row m =
    let all : m + sum [] ≡ m = omega arith in
    number_of_labellings-cons m [] ∙ rw (all, binomial-all m, no_labellings) refl

one-left : {width orders r : ℕ} {front : Front} → IsFront width orders (r ∷ []) front → IsLast orders front (r ∷ []) (alike_with front.size front.count front.alike r front.column)
one-left {r = r} {front = front} is =
    let c : ℕ = front.column in
    let within : c ≤ r = omega (arith, is.level, sum_by-cons (λ v. v) r []) in
    let i : IsLeast front.size front.count c r [] (least_count front r []) = next-least is in
    let all : least_count front r [] ≡ c = omega (arith, i.few) in
    let o : IsChoice c (r ∷ []) (c ∷ []) = record { long = refl; whole = sum_by-cons (λ v. v) c [] ∙ omega arith; fitting = rw (le-leb c r within) refl } in
    let risen : gets_less r c front.size front.count ≡ false = ap (λ n. gets_less r n front.size front.count) (sym all) ∙ i.kept_here in
    let none : min c r - c ≡ 0 = omega arith in
    let rest : later_choices c (r ∷ []) (c ∷ []) ≡ [] = rw none refl in
    let only : kept front.size front.count c (r ∷ []) ≡ (c ∷ []) ∷ [] =
    raised-first front.size front.count c (r ∷ []) is.least is.enough (omega (arith, is.level, sum_by-cons (λ v. v) r []))
    ∙ ap (λ n. (n ∷ []) ∷ filter (fits_behind front.size front.count (r ∷ [])) (later_choices c (r ∷ []) (n ∷ []))) all
    ∙ ap (λ ys. (c ∷ []) ∷ filter (fits_behind front.size front.count (r ∷ [])) ys) rest in
    only-choice is (c ∷ []) (alike_with front.size front.count front.alike r c) o (gathered-risen (front.size ∷ r ∷ []) (front.count ∷ c ∷ []) refl (risen, tt)) only (rw (whole-row c, whole-row (r - c)) refl) (mul-one (alike_with front.size front.count front.alike r c))

pub last-left : {width orders : ℕ} (rows : List ℕ) {front : Front} → IsFront width orders rows front → length rows ≤ 1 → IsLast orders front rows (last_alike front rows)
last-left [] is l = none-left is
last-left (r ∷ []) is l = one-left is
last-left (r ∷ s ∷ rs) is l = absurd (omega (arith, l))
