-- What the choices of a column come to with what they leave: the tables of two columns.
use Rattle.std.proofs.Common.{◌≡◌, ℕ, ◌+◌, ◌-◌, ◌*◌, ◌≤◌, List, [], ◌∷◌, filter, Bool, true, false, cond, refl, sym, ◌∙◌, ap, arith, nat_eq, nat_le, mul_assoc, mul-one}
use Rattle.std.specs.Prelude.{ℤ, pos}
use Rattle.std.specs.List.{sum, sum_by, AllByRecursion, Contains}
use Rattle.std.specs.Cmp.Lexicographic.{pointwise}
use Rattle.std.proofs.lemmas.Bool.{leb-true}
use Rattle.std.proofs.lemmas.List.Sums.{sum_by-cons}
use Rattle.std.proofs.Math.Nat.{mul-le-mul_left}
use Rattle.weights.specs.declared.lines.Line.{Line}
use Rattle.weights.specs.declared.TheConstants.{MAX}
use Rattle.weights.specs.Grouped.{choices, fits, minus}
use Rattle.weights.specs.Labellings.{labellings, number_of_labellings}
use Rattle.weights.proofs.ChoiceLists.{IsChoice, choices-each}
use Rattle.weights.proofs.Chosen.{one_if}
use Rattle.weights.proofs.FirstLabel.{number_of_labellings-positive}
use Rattle.weights.proofs.GroupingLaw.{by_columns, by_columns-step, grouping}
use Rattle.weights.proofs.Members.{Contains-filter, same_refl}
use Rattle.weights.proofs.Sized.{first_and, sum-minus}
use Rattle.weights.proofs.Sums.{sum_by-map, sum_by-one, sum_by-same, sum_by-same_where, sum_by-scaled}
use Rattle.weights.proofs.Filters.{all_filter}
use Rattle.completion_bounds.specs.Fillings.{falling, is_at_least}
use Rattle.completion_bounds.proofs.TableWeights.{sum-falling}
use Rattle.networks.proofs.Elements.{term-le-sum_by}
use Rattle.label_network.specs.Meanings.{sizes_in}
use Rattle.label_network.proofs.ChoiceSwaps.{labellings-swap}
use Rattle.label_network.proofs.Narrowing.{chosen, fits-self}
use Rattle.label_network.proofs.Sizes.{held-within}
use Rattle.sorted_tables.specs.ChoiceLines.{choice_line, choice_lines}
use Rattle.sorted_tables.specs.GatheredChoices.{gathered, gathered_weight, is_gathered}
use Rattle.sorted_tables.specs.SortedSteps.{ChoiceSeat, IsGatheredChoice, IsRoomFor}
use Rattle.sorted_tables.proofs.GatheredSums.{labellings-gathered, left-gathered, once, sum-weights}
use Rattle.sorted_tables.proofs.Reordering.{even-order}

-- the number of labellings does not see the order of the sizes
pub labellings-falling : (r : List ℕ) → number_of_labellings (falling r) ≡ number_of_labellings r
labellings-falling r = even-order is_at_least number_of_labellings labellings-swap r

-- The tables of columns over sizes that fall, each with its weight times what f says of the product of its columns' numbers of labellings.
abbrev pub completed : (ℕ → ℕ) → List ℕ → List ℕ → ℕ
completed f [] r = f 1
completed f (c ∷ cs) r = sum_by (λ x. gathered_weight r x * completed (λ v. f (number_of_labellings x * v)) cs (falling (minus r x))) (filter (is_gathered r) (choices c r))

pub completed-same : (f h : ℕ → ℕ) → ((v : ℕ) → f v ≡ h v) → (cs r : List ℕ) → completed f cs r ≡ completed h cs r
completed-same f h same [] r = same 1
completed-same f h same (c ∷ cs) r =
    sum_by-same _ _ (λ x. ap (λ n. gathered_weight r x * n) (completed-same (λ v. f (number_of_labellings x * v)) (λ v. h (number_of_labellings x * v)) (λ v. same (number_of_labellings x * v)) cs (falling (minus r x)))) (filter (is_gathered r) (choices c r))

-- all that is left is one choice
whole-choice : (r x : List ℕ) → fits x r ≡ true → sum x ≡ sum r → x ≡ r
whole-choice [] [] f e = refl
whole-choice [] (a ∷ x) f e = absurd (cc f)
whole-choice (q ∷ r) [] f e = absurd (cc f)
whole-choice (q ∷ r) (a ∷ x) f e =
    let both = first_and (nat_le a q) (fits x r) f in
    let less : sum x ≤ sum r = omega (arith, sum-minus r x both.1) in
    let here : a ≡ q = omega (arith, e, sum_by-cons (λ v. v) a x, sum_by-cons (λ v. v) q r, leb-true a q both.0, less) in
    let rest : sum x ≡ sum r = omega (arith, e, sum_by-cons (λ v. v) a x, sum_by-cons (λ v. v) q r, here) in
    rw (here, whole-choice r x both.1 rest) refl

last-each : (f : ℕ → ℕ) (c : ℕ) (r : List ℕ) → sum r ≡ c → (x : List ℕ) → IsChoice c r x → number_of_labellings x * f (number_of_labellings (gathered r x) * 1) ≡ (number_of_labellings r * f (number_of_labellings r)) * one_if (pointwise nat_eq r x)
last-each f c r e x o =
    let all : ℕ = number_of_labellings r * f (number_of_labellings r) in
    let same : x ≡ r = whole-choice r x o.fitting (o.whole ∙ sym e) in
    let weight : number_of_labellings (gathered r x) * 1 ≡ number_of_labellings r = mul-one (number_of_labellings (gathered r x)) ∙ labellings-gathered r x ∙ ap number_of_labellings same in
    let shown : one_if (pointwise nat_eq r x) ≡ 1 = ap (λ y. one_if (pointwise nat_eq r y)) same ∙ ap one_if (same_refl r) in
    ap (λ n. number_of_labellings x * f n) weight
    ∙ ap (λ n. n * f (number_of_labellings r)) (ap number_of_labellings same)
    ∙ sym (ap (λ k. all * k) shown ∙ mul-one all)

-- so the last column has one table
pub last-column : (f : ℕ → ℕ) (c : ℕ) (r : List ℕ) → sum r ≡ c → completed f (c ∷ []) r ≡ number_of_labellings r * f (number_of_labellings r)
last-column f c r e =
    let all : ℕ = number_of_labellings r * f (number_of_labellings r) in
    sum-weights c r (λ y. f (number_of_labellings y * 1))
    ∙ sum_by-same_where (IsChoice c r) _ (λ x. all * one_if (pointwise nat_eq r x)) (last-each f c r e) (choices c r) (choices-each c r)
    ∙ sum_by-scaled all (λ x. one_if (pointwise nat_eq r x)) (choices c r)
    ∙ ap (λ k. all * k) (once c r r (record { long = refl; whole = e; fitting = fits-self r }))
    ∙ mul-one all

two-each : (f : ℕ → ℕ) (a b : ℕ) (r : List ℕ) → sum r ≡ a + b → (x : List ℕ) → IsChoice a r x → gathered_weight r x * completed (λ v. f (number_of_labellings x * v)) (b ∷ []) (falling (minus r x)) ≡ (gathered_weight r x * number_of_labellings (minus r x)) * f (number_of_labellings x * number_of_labellings (minus r x))
two-each f a b r e x o =
    let left : sum (falling (minus r x)) ≡ b = omega (arith, sum-falling (minus r x), sum-minus r x o.fitting, o.whole, e) in
    let last = last-column (λ v. f (number_of_labellings x * v)) b (falling (minus r x)) left in
    ap (λ n. gathered_weight r x * n) (last ∙ ap (λ n. n * f (number_of_labellings x * n)) (labellings-falling (minus r x)))
    ∙ sym (mul_assoc (gathered_weight r x) (number_of_labellings (minus r x)) (f (number_of_labellings x * number_of_labellings (minus r x))))

-- and the lines of a column's choices are the tables of two columns
pub lines-completed : (h : ℤ → ℕ) (a b : ℕ) (r : List ℕ) → sum r ≡ a + b → sum_by (λ (l : Line). l.weight * h l.value) (choice_lines a r) ≡ completed (λ v. h (pos v)) (a ∷ b ∷ []) r
lines-completed h a b r e =
    sum_by-map (λ (l : Line). l.weight * h l.value) (choice_line r) (filter (is_gathered r) (choices a r))
    ∙ sym (sum_by-same_where (IsChoice a r) _ _ (two-each (λ v. h (pos v)) a b r e) (filter (is_gathered r) (choices a r)) (all_filter (IsChoice a r) (is_gathered r) (choices a r) (choices-each a r)))

-- none of them passes the number of all labellings

ways : (cs r : List ℕ) → sum cs ≡ sum r → by_columns cs r (λ w. 1) ≡ number_of_labellings r
ways cs r e = grouping cs r (λ w. 1) e ∙ sum_by-one (labellings r)

module _ (a : ℕ) (r : List ℕ) (enough : a ≤ sum r) where
  last-left : (x : List ℕ) → IsChoice a r x → sum ((sum r - a) ∷ []) ≡ sum (minus r x)
  last-left x o = omega (arith, sum_by-cons (λ v. v) (sum r - a) [], sum-minus r x o.fitting, o.whole, enough)

  two-whole : sum (a ∷ (sum r - a) ∷ []) ≡ sum r
  two-whole = omega (arith, sum_by-cons (λ v. v) a ((sum r - a) ∷ []), sum_by-cons (λ v. v) (sum r - a) [], enough)

  all-ways : sum_by (λ x. number_of_labellings x * number_of_labellings (minus r x)) (choices a r) ≡ number_of_labellings r
  all-ways =
      sum_by-same_where (IsChoice a r) _ _ (λ x o. ap (λ n. number_of_labellings x * n) (sym (ways ((sum r - a) ∷ []) (minus r x) (last-left x o)))) (choices a r) (choices-each a r)
      ∙ sym (by_columns-step a ((sum r - a) ∷ []) r (λ w. 1))
      ∙ ways (a ∷ (sum r - a) ∷ []) r two-whole

  left-alike : (x : List ℕ) → IsChoice a r x → number_of_labellings (minus r (gathered r x)) ≡ number_of_labellings (minus r x)
  left-alike x o =
      sym (labellings-falling (minus r (gathered r x)))
      ∙ ap number_of_labellings (left-gathered r x o.long)
      ∙ labellings-falling (minus r x)

  gathered-ways : sum_by (λ y. gathered_weight r y * number_of_labellings (minus r y)) (filter (is_gathered r) (choices a r)) ≡ number_of_labellings r
  gathered-ways =
      sum-weights a r (λ y. number_of_labellings (minus r y))
      ∙ sum_by-same_where (IsChoice a r) _ _ (λ x o. ap (λ n. number_of_labellings x * n) (left-alike x o)) (choices a r) (choices-each a r)
      ∙ all-ways

  pub line-fits : (y : List ℕ) → Contains (choices a r) y → is_gathered r y ≡ true → gathered_weight r y * number_of_labellings (minus r y) ≤ number_of_labellings r
  line-fits y o g =
      omega (
        arith,
        term-le-sum_by (λ z. gathered_weight r z * number_of_labellings (minus r z)) (filter (is_gathered r) (choices a r)) y (Contains-filter (is_gathered r) y (choices a r) o g),
        gathered-ways,
      )

  -- so all of them weigh as much as there are labellings
  pub lines-weigh : sum_by (λ (l : Line). l.weight * 1) (choice_lines a r) ≡ number_of_labellings r
  lines-weigh =
      sum_by-map (λ (l : Line). l.weight * 1) (choice_line r) (filter (is_gathered r) (choices a r))
      ∙ sum_by-same _ _ (λ y. mul-one (gathered_weight r y * number_of_labellings (minus r y))) (filter (is_gathered r) (choices a r))
      ∙ gathered-ways

pub record StandsFor (column : ℕ) (r x : List ℕ) : Type 0 where
  pub choice : IsChoice column r x
  pub stands : is_gathered r x ≡ true

pub stand-for : (column : ℕ) (r : List ℕ) (xs : List (List ℕ)) → AllByRecursion (IsChoice column r) xs → AllByRecursion (StandsFor column r) (filter (is_gathered r) xs)
stand-for column r [] a = tt
stand-for column r (x ∷ xs) a = by (is_gathered r x) refl a.0 (stand-for column r xs a.1)
  where
    by : (b : Bool) → is_gathered r x ≡ b → IsChoice column r x → AllByRecursion (StandsFor column r) (filter (is_gathered r) xs) → AllByRecursion (StandsFor column r) (cond b (x ∷ filter (is_gathered r) xs) (filter (is_gathered r) xs))
    by true e o rest = (record { choice = o; stands = e }, rest)
    by false e o rest = rest

-- what is known of a choice
pub choice-seat : (width column : ℕ) (room : List ℤ) (x : List ℕ) → IsRoomFor width column room → IsGatheredChoice column room x → ChoiceSeat width column room x
choice-seat width column room x h o =
    let sizes : List ℕ = sizes_in room in
    let left : List ℕ = minus sizes x in
    let c : IsChoice column sizes x = chosen column sizes x o.allowed in
    let line : gathered_weight sizes x * number_of_labellings left ≤ MAX = omega (arith, line-fits column sizes h.enough x o.allowed o.gathered, h.fits) in
    record {
      whole = sym c.whole;
      fitting = c.fitting;
      held = held-within width sizes x c.fitting h.held;
      gathered_few = omega (arith, mul-le-mul_left (gathered_weight sizes x) (number_of_labellings-positive left), line);
    }
