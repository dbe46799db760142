-- What holds of a test of blocks of a file, and of one whose total passes no limit.
use Rattle.std.proofs.Common.{◌≡◌, true, if◌then◌else◌, ℕ, zero, suc, ◌+◌, ◌*◌, ◌<◌, ◌≤◌, List, [], ◌∷◌, ◌++◌, length, map, ◌⊎◌, inl, inr, refl, sym, ◌∙◌, ap, subst, arith, lit≤, length-append}
use Rattle.std.specs.Prelude.{ℤ, pos, ◌^◌, Contains}
use Rattle.std.specs.List.{All, AllByRecursion, concat, sum, sum_by}
use Rattle.std.proofs.Math.Nat.{mul-le-mul, mul-le-mul_right}
use Rattle.std.proofs.lemmas.Int.{ints}
use Rattle.std.proofs.lemmas.List.{length-map}
use Rattle.std.proofs.lemmas.List.Elements.{All-contains, All-from_recursion}
use Rattle.std.proofs.lemmas.List.Sums.{sum_by-append, sum_by-cons}
use Rattle.weights.specs.declared.tails.Tail.{Tail}
use Rattle.weights.specs.declared.tails.Tail.TheVariants.{Less, Greater, Two}
use Rattle.networks.specs.Judged.{judge_of}
use Rattle.networks.proofs.Following.{judge-fits}
use Rattle.networks.specs.declared.verdicts.Judge.{Judge}
use Rattle.weights.specs.declared.rules.Rule.TheVariants.{Far}
use Rattle.weights.specs.declared.TheConstants.{MAX}
use Rattle.weights.specs.Conditional.{by_distance, total}
use Rattle.weights.specs.Labellings.{labellings, number_of_labellings, product}
use Rattle.weights.specs.Rules.{RuleFits, measured}
use Rattle.weights.proofs.Centred.{IsCentred, far-fits, measured-is, no_factor-fits, rule-fits}
use Rattle.weights.proofs.Filters.{all_append, all_map, all_weaker}
use Rattle.weights.proofs.FirstLabel.{number_of_labellings-positive}
use Rattle.weights.proofs.Members.{IsLabelling}
use Rattle.weights.proofs.Sums.{sum_by-flat_map, sum_by-map, sum_by-same}
use Rattle.sample_reader.specs.Data.{block_data_of}
use Rattle.sample_reader.specs.declared.samples.Blocks.{Blocks}
use Rattle.enumerate.proofs.JoinedMembers.{all-joined, each-labelling, joined-front}
use Rattle.networks.specs.declared.additive.CentredSquares.{CentredSquares}
use Rattle.networks.specs.Addends.{Addends, additive_network, from_zero}
use Rattle.networks.specs.Network.{Network}
use Rattle.networks.specs.Follows.{Follows}
use Rattle.networks.specs.GoesOn.{GoesOnAlike}
use Rattle.networks.proofs.GoingOn.{judged-alike}
use Rattle.networks.proofs.AdditiveFollows.{additive_follows}
use Rattle.labelled.specs.UnweightedTests.{CanBeAnswered}
use Rattle.labelled.proofs.UnweightedLaws.{can-be-answered}
use Rattle.rank_assignments.specs.BoundSteps.{IsSmall}
use Rattle.networks.specs.Distances.{squared}
use Rattle.block_tests.specs.BlockNetworks.{addends_of, first_arrangement, line_addends, network_by, running_addends, square_addends}
use Rattle.block_tests.specs.BlockSteps.{AreSquares, AreStages, IsWhole, cells_sum, ways_of}
use Rattle.block_tests.specs.BlockTests.{BlockTests, TakesCells, block_counts, block_statistic, block_test, blocks_for, bound_of, cells_in, cell_counts, cut, has_tail, measure, observed_cells, page_sum, rearrangements, rows, sides_of, square_sum, treatment_sums}
use Rattle.block_tests.specs.PreparedSteps.{AreBlocks, AreFitting}
use Rattle.block_tests.specs.declared.kinds.BlockKind.{BlockKind}
use Rattle.block_tests.specs.declared.kinds.BlockKind.TheVariants.{Friedman, Page, Cochran}
use Rattle.block_tests.proofs.PageImages.{runs-for}
use Rattle.block_tests.proofs.PageLaws.{page-measured, page-stages, page_additive, page_pieces}
use Rattle.block_tests.proofs.Rows.{each-row, each-taken, length-cells, length-cut, midranks-sum, row-small, row-sum, row-whole}
use Rattle.block_tests.proofs.SquareLaws.{square-stages, square_additive, square_pieces, squares-from-zero, squares-measured}
use Rattle.block_tests.proofs.Staged.{IsArranged, each-weighs, parts-arranged}
use Rattle.block_tests.proofs.TreatmentSums.{length-sums, page-within, squares-within, sums-within}

-- ---- how many rearrangements

product-length : (lists : List (List ℕ)) → sum_by (λ xs. 1) (product (map labellings lists)) ≡ ways_of lists
product-length [] = refl
product-length (counts ∷ lists) =
    let rest : List (List (List ℕ)) = product (map labellings lists) in
    sum_by-flat_map (λ xs. 1) (λ x. map (λ others. x ∷ others) rest) (labellings counts)
    ∙ sum_by-same (λ x. sum_by (λ xs. 1) (map (λ others. x ∷ others) rest)) (λ x. ways_of lists) (λ x. sum_by-map (λ xs. 1) (λ others. x ∷ others) rest ∙ product-length lists) (labellings counts)
    ∙ times (labellings counts) (ways_of lists)
  where
    times : (xs : List (List ℕ)) (n : ℕ) → sum_by (λ x. n) xs ≡ length xs * n
    times [] n = omega arith
    times (x ∷ xs) n = omega (arith, sum_by-cons (λ x. n) x xs, times xs n)

pub total-is : (tests : BlockTests) → total (block_test tests) ≡ ways_of (block_counts tests)
total-is tests = sum_by-map (λ r. 1) concat (product (map labellings (block_counts tests))) ∙ product-length (block_counts tests)

pub ways-some : (blocks : List (List ℕ)) → 1 ≤ ways_of blocks
ways-some [] = omega arith
ways-some (counts ∷ blocks) = (let one : 1 * 1 ≤ number_of_labellings counts * ways_of blocks = mul-le-mul (number_of_labellings-positive counts) (ways-some blocks) in omega (arith, one))

total-some : (tests : BlockTests) → 1 ≤ total (block_test tests)
total-some tests = omega (arith, total-is tests, ways-some (block_counts tests))

-- ---- each rearrangement

pub record IsMember (n m : ℕ) (r : List ℕ) : Type 0 where
  pub long : length r ≡ n
  pub small : AllByRecursion (λ z. z ≤ m) r

pub members-are : (k : ℕ) (blocks : List (List ℕ)) → AllByRecursion (IsWhole k) blocks → AllByRecursion (IsMember (length blocks * k) 16) (rearrangements blocks)
members-are k [] a = (record { long = (let e : 0 ≡ 0 * k = omega arith in e); small = tt }, tt)
members-are k (counts ∷ blocks) a =
    subst (AllByRecursion (IsMember (length (counts ∷ blocks) * k) 16)) (sym (joined-front counts blocks))
    (all-joined (IsLabelling counts) (IsMember (length blocks * k) 16) (IsMember (length (counts ∷ blocks) * k) 16)
    (λ x y l r. record {
      long = (let e : length (x ++ y) ≡ length x + length y = length-append x y in let w : length x ≡ k = l.over.long ∙ a.0.treatments in let n : suc (length blocks) * k ≡ k + length blocks * k = omega arith in omega (arith, e, w, r.long, n));
      small = all_append (λ z. z ≤ 16) x y (all_weaker (λ z. z < length counts) (λ z. z ≤ 16) (λ z h. omega (arith, h, a.0.few)) x l.over.below) r.small;
    })
    (labellings counts) (rearrangements blocks) (each-labelling counts) (members-are k blocks a.1))

-- ---- the statistic

pub statistic-small : (kind : BlockKind) (n k : ℕ) (r : List ℕ) → n ≤ 10000 → k ≤ 8 → AllByRecursion (λ z. z ≤ 255) r → IsSmall (block_statistic kind n k r)
statistic-small kind n k r few narrow small =
    (omega (arith, ints), (let top : measure kind (treatment_sums k (cut k n r)) ≤ 2 ^ 60 = by kind in omega (arith, ints, top)))
  where
    long : length (treatment_sums k (cut k n r)) ≡ k
    long = length-sums k n r

    within : AllByRecursion (λ s. s ≤ 2550000) (treatment_sums k (cut k n r))
    within = (let room : n * 255 ≤ 2550000 = omega (arith, few) in all_weaker (λ s. s ≤ n * 255) (λ s. s ≤ 2550000) (λ s h. omega (arith, h, room)) (treatment_sums k (cut k n r)) (sums-within 255 k n r small))

    squares : square_sum (treatment_sums k (cut k n r)) ≤ 2 ^ 60
    squares =
        let most = squares-within 2550000 (treatment_sums k (cut k n r)) within in
        let eight : length (treatment_sums k (cut k n r)) ≤ 8 = omega (arith, long, narrow) in
        let all : length (treatment_sums k (cut k n r)) * (2550000 * 2550000) ≤ 8 * (2550000 * 2550000) = mul-le-mul_right (2550000 * 2550000) eight in
        omega (arith, most, all)

    page : page_sum 1 (treatment_sums k (cut k n r)) ≤ 2 ^ 60
    page =
        let most = page-within 2550000 1 9 (treatment_sums k (cut k n r)) within (omega (arith, long, narrow)) in
        let eight : length (treatment_sums k (cut k n r)) ≤ 8 = omega (arith, long, narrow) in
        let all : length (treatment_sums k (cut k n r)) * (9 * 2550000) ≤ 8 * (9 * 2550000) = mul-le-mul_right (9 * 2550000) eight in
        omega (arith, most, all)

    by : (kind : BlockKind) → measure kind (treatment_sums k (cut k n r)) ≤ 2 ^ 60
    by Friedman = squares
    by Page = page
    by Cochran = squares

-- ---- the sides

abbrev pub factor : BlockKind → ℕ
factor Friedman = 0
factor Page = 2
factor Cochran = 0

abbrev pub centre : BlockKind → ℕ → ℕ → ℕ
centre Friedman n k = 0
centre Page n k = n * k * squared (k + 1)
centre Cochran n k = 0

pub sides-are : (kind : BlockKind) (n k : ℕ) → sides_of kind n k ≡ by_distance (factor kind) (pos (centre kind n k))
sides-are Friedman n k = refl
sides-are Page n k = refl
sides-are Cochran n k = refl

centre-small : (n k : ℕ) → n ≤ 10000 → k ≤ 8 → n * k * squared (k + 1) ≤ 2 ^ 60
centre-small n k few narrow =
    let next : k + 1 ≤ 9 = omega arith in
    let all : n * k * squared (k + 1) ≤ 10000 * 8 * (9 * 9) = mul-le-mul (mul-le-mul few narrow) (mul-le-mul next next) in
    omega (arith, all)

value-fits : (kind : BlockKind) (n k : ℕ) (v : ℤ) → n ≤ 10000 → k ≤ 8 → IsSmall v → RuleFits (Far (factor kind) (pos (centre kind n k)) 0) v
value-fits Friedman n k v few narrow h = no_factor-fits v
value-fits Page n k v few narrow h = far-fits 2 (pos (n * k * squared (k + 1))) v (lit≤ tt) (omega (arith, ints, centre-small n k few narrow, h.0, h.1))
value-fits Cochran n k v few narrow h = no_factor-fits v

pub measured_at : (tests : BlockTests) (tail : Tail) (r : List ℕ) → measured (block_test tests) tail r ≡ block_statistic tests.kind tests.blocks.blocks tests.blocks.treatments r
measured_at tests = measured-is (block_test tests) (sides-are tests.kind tests.blocks.blocks tests.blocks.treatments)

-- the first of the tails that a kind of test has
has-first : (kind : BlockKind) → has_tail kind (if has_tail kind Less then Less else (if has_tail kind Greater then Greater else Two)) ≡ true
has-first Friedman = refl
has-first Page = refl
has-first Cochran = refl

-- ---- blocks of a file

module _ (tests : BlockTests) (b : AreBlocks tests) where
  rows-long : AllByRecursion (λ row. length row ≡ tests.blocks.treatments) (rows tests.blocks)
  rows-long = each-row tests.blocks.treatments tests.blocks.blocks tests.blocks.cells b.one_each

  each-whole : AllByRecursion (IsWhole tests.blocks.treatments) (block_counts tests)
  each-whole = all_map (IsWhole tests.blocks.treatments) (cell_counts tests.kind tests.blocks.treatments) (rows tests.blocks) (wholes (rows tests.blocks) rows-long (each-taken tests.kind tests.blocks.treatments tests.blocks.blocks tests.blocks.cells b.taken))
    where
      wholes : (rs : List (List ℤ)) → AllByRecursion (λ row. length row ≡ tests.blocks.treatments) rs → AllByRecursion (TakesCells tests.kind) rs → AllByRecursion (λ row. IsWhole tests.blocks.treatments (cell_counts tests.kind tests.blocks.treatments row)) rs
      wholes [] l t = tt
      wholes (r ∷ rs) l t = (row-whole tests.kind tests.blocks.treatments r b.at_most_eight l.0 t.0, wholes rs l.1 t.1)

  pub blocks-many : length (block_counts tests) ≡ tests.blocks.blocks
  blocks-many = length-map (rows tests.blocks) (cell_counts tests.kind tests.blocks.treatments) ∙ length-cut tests.blocks.treatments tests.blocks.blocks tests.blocks.cells

  pub blocks-whole : AllByRecursion (IsWhole tests.blocks.treatments) (block_counts tests)
  blocks-whole = each-whole

  pub members-of : AllByRecursion (IsMember (tests.blocks.blocks * tests.blocks.treatments) 16) (rearrangements (block_counts tests))
  members-of = subst (λ n. AllByRecursion (IsMember (n * tests.blocks.treatments) 16) (rearrangements (block_counts tests))) blocks-many (members-are tests.blocks.treatments (block_counts tests) each-whole)

  pub member-of : (r : List ℕ) → Contains (rearrangements (block_counts tests)) r → IsMember (tests.blocks.blocks * tests.blocks.treatments) 16 r
  member-of r m = All-contains (IsMember (tests.blocks.blocks * tests.blocks.treatments) 16) (rearrangements (block_counts tests)) r (All-from_recursion (IsMember (tests.blocks.blocks * tests.blocks.treatments) 16) (rearrangements (block_counts tests)) members-of) m

  -- the cells as they are
  cells-of : (n : ℕ) (rs : List (List ℤ)) → length rs ≡ n → AllByRecursion (λ row. length row ≡ tests.blocks.treatments) rs → AllByRecursion (TakesCells tests.kind) rs → IsMember (n * tests.blocks.treatments) 16 (concat (map (cells_in tests.kind) rs))
  cells-of zero [] e l t = record { long = (let z : 0 ≡ 0 * tests.blocks.treatments = omega arith in z); small = tt }
  cells-of (suc n) [] e l t = absurd (omega arith)
  cells-of zero (r ∷ rs) e l t = absurd (omega arith)
  cells-of (suc n) (r ∷ rs) e l t =
      let rest = cells-of n rs (omega arith) l.1 t.1 in
      let own : length (cells_in tests.kind r) ≡ tests.blocks.treatments = length-cells tests.kind r ∙ l.0 in
      record {
        long = (let joined_long : length (cells_in tests.kind r ++ concat (map (cells_in tests.kind) rs)) ≡ length (cells_in tests.kind r) + length (concat (map (cells_in tests.kind) rs)) = length-append (cells_in tests.kind r) (concat (map (cells_in tests.kind) rs)) in let all : suc n * tests.blocks.treatments ≡ tests.blocks.treatments + n * tests.blocks.treatments = omega arith in omega (arith, joined_long, own, rest.long, all));
        small = all_append (λ z. z ≤ 16) (cells_in tests.kind r) (concat (map (cells_in tests.kind) rs)) (row-small tests.kind tests.blocks.treatments r b.at_most_eight l.0 t.0) rest.small;
      }

  pub observed-of : IsMember (tests.blocks.blocks * tests.blocks.treatments) 16 (observed_cells tests)
  observed-of = cells-of tests.blocks.blocks (rows tests.blocks) (length-cut tests.blocks.treatments tests.blocks.blocks tests.blocks.cells) rows-long (each-taken tests.kind tests.blocks.treatments tests.blocks.blocks tests.blocks.cells b.taken)

  statistic-of : (r : List ℕ) → AllByRecursion (λ z. z ≤ 16) r → IsSmall (block_statistic tests.kind tests.blocks.blocks tests.blocks.treatments r)
  statistic-of r small = statistic-small tests.kind tests.blocks.blocks tests.blocks.treatments r b.few_enough b.at_most_eight (all_weaker (λ z. z ≤ 16) (λ z. z ≤ 255) (λ z h. omega (arith, h)) r small)

  pub small-fits : (v : ℤ) → IsSmall v → RuleFits (Far (factor tests.kind) (pos (centre tests.kind tests.blocks.blocks tests.blocks.treatments)) 0) v
  small-fits v h = value-fits tests.kind tests.blocks.blocks tests.blocks.treatments v b.few_enough b.at_most_eight h

  pub centred : IsCentred (block_test tests) (factor tests.kind) (pos (centre tests.kind tests.blocks.blocks tests.blocks.treatments))
  centred = record {
    by = sides-are tests.kind tests.blocks.blocks tests.blocks.treatments;
    observed = small-fits _ (statistic-of (observed_cells tests) observed-of.small);
    each = λ r m. small-fits _ (statistic-of r (member-of r m).small);
  }

  -- ---- the bound

  row-sums : (rs : List (List ℤ)) → AllByRecursion (λ row. length row ≡ tests.blocks.treatments) rs → AllByRecursion (TakesCells tests.kind) rs → cells_sum (map (cell_counts tests.kind tests.blocks.treatments) rs) ≡ sum (concat (map (cells_in tests.kind) rs))
  row-sums [] l t = refl
  row-sums (r ∷ rs) l t =
      omega (
        arith,
        sum_by-cons (λ counts. sum (first_arrangement counts)) (cell_counts tests.kind tests.blocks.treatments r) (map (cell_counts tests.kind tests.blocks.treatments) rs),
        row-sum tests.kind tests.blocks.treatments r b.at_most_eight l.0 t.0,
        row-sums rs l.1 t.1,
        sum_by-append (λ v. v) (cells_in tests.kind r) (concat (map (cells_in tests.kind) rs)),
      )

  pub cells-sum : cells_sum (block_counts tests) ≡ sum (observed_cells tests)
  cells-sum = row-sums (rows tests.blocks) rows-long (each-taken tests.kind tests.blocks.treatments tests.blocks.blocks tests.blocks.cells b.taken)

-- each block of doubled ranks adds k (k + 1)
ranks-sum : (k n : ℕ) (rs : List (List ℤ)) → length rs ≡ n → AllByRecursion (λ row. length row ≡ k) rs → sum (concat (map (cells_in Friedman) rs)) ≡ n * (k * (k + 1))
ranks-sum k zero [] e l = (let z : 0 ≡ 0 * (k * (k + 1)) = omega arith in z)
ranks-sum k (suc n) [] e l = absurd (omega arith)
ranks-sum k zero (r ∷ rs) e l = absurd (omega arith)
ranks-sum k (suc n) (r ∷ rs) e l =
    let own : sum (cells_in Friedman r) ≡ k * (k + 1) = midranks-sum r ∙ ap (λ n. n * (n + 1)) l.0 in
    let rest = ranks-sum k n rs (omega arith) l.1 in
    let all : suc n * (k * (k + 1)) ≡ k * (k + 1) + n * (k * (k + 1)) = omega arith in
    omega (arith, sum_by-append (λ v. v) (cells_in Friedman r) (concat (map (cells_in Friedman) rs)), own, rest, all)

HasSquares : BlockKind → Type 0
HasSquares Friedman = Unit {0}
HasSquares Page = ⊥
HasSquares Cochran = Unit {0}

bounded-by : (tests : BlockTests) (b : AreBlocks tests) (kind : BlockKind) → tests.kind ≡ kind → HasSquares kind → squared (sum (observed_cells tests)) ≤ bound_of tests.kind tests.blocks.blocks tests.blocks.treatments (observed_cells tests)
unfolding HasSquares
bounded-by tests b Friedman e h =
    let n : ℕ = tests.blocks.blocks in
    let k : ℕ = tests.blocks.treatments in
    let all : sum (observed_cells tests) ≡ n * (k * (k + 1)) = rw e (ranks-sum k n (rows tests.blocks) (length-cut k n tests.blocks.cells) (each-row k n tests.blocks.cells b.one_each)) in
    let same : n * (k * (k + 1)) ≡ n * k * (k + 1) = omega arith in
    let squares : squared (sum (observed_cells tests)) ≡ squared (n * k * (k + 1)) = ap squared (all ∙ same) in
    rw (squares, e) (omega arith)
bounded-by tests b Page e h = absurd h
bounded-by tests b Cochran e h = rw e (omega arith)

pub bounded : (tests : BlockTests) → AreBlocks tests → (tests.kind ≡ Friedman) ⊎ (tests.kind ≡ Cochran) → squared (cells_sum (block_counts tests)) ≤ (block_test tests).bound
unfolding HasSquares
bounded tests b (inl e) = rw (cells-sum tests b) (bounded-by tests b Friedman e tt)
bounded tests b (inr e) = rw (cells-sum tests b) (bounded-by tests b Cochran e tt)

sum-within : (m : ℕ) (xs : List ℕ) → AllByRecursion (λ x. x ≤ m) xs → sum xs ≤ length xs * m
sum-within m [] a = omega arith
sum-within m (x ∷ xs) a = omega (arith, sum_by-cons (λ v. v) x xs, a.0, sum-within m xs a.1)

bound-small : (kind : BlockKind) (n k : ℕ) (cells : List ℕ) → n ≤ 10000 → k ≤ 8 → sum cells ≤ 1280000 → bound_of kind n k cells ≤ 2 ^ 60
bound-small Friedman n k cells few narrow top =
    let next : k + 1 ≤ 9 = omega arith in
    let one : n * k * (k + 1) ≤ 10000 * 8 * 9 = mul-le-mul (mul-le-mul few narrow) next in
    let all : squared (n * k * (k + 1)) ≤ (10000 * 8 * 9) * (10000 * 8 * 9) = mul-le-mul one one in
    omega (arith, all)
bound-small Page n k cells few narrow top =
    let next : k + 1 ≤ 9 = omega arith in
    let some : 2 * n ≤ 2 * 10000 = omega arith in
    let all : 2 * n * squared k * (k + 1) ≤ 2 * 10000 * (8 * 8) * 9 = mul-le-mul (mul-le-mul some (mul-le-mul narrow narrow)) next in
    omega (arith, all)
bound-small Cochran n k cells few narrow top =
    let all : squared (sum cells) ≤ 1280000 * 1280000 = mul-le-mul top top in
    omega (arith, all)

-- ---- blocks whose total passes no limit

module _ (tests : BlockTests) (f : AreFitting tests) where
  whole-all : All (IsWhole tests.blocks.treatments) (block_counts tests)
  whole-all = All-from_recursion (IsWhole tests.blocks.treatments) (block_counts tests) (blocks-whole tests f.blocks)

  pub are-stages : AreStages tests.blocks.treatments (block_counts tests) (judge_of (block_test tests))
  are-stages = record {
    some = omega (arith, f.blocks.at_least_two);
    narrow = f.blocks.at_most_eight;
    few = omega (arith, blocks-many tests f.blocks, f.blocks.few_enough);
    whole = whole-all;
    ways_fit = omega (arith, total-is tests, f.total_fits);
    judge_fits = λ v h. judge-fits (block_test tests) (judge_of (block_test tests)) refl v (λ tail. rule-fits (block_test tests) (centred tests f.blocks) tail v (small-fits tests f.blocks v h));
  }

  pub bound-fits : (block_test tests).bound ≤ MAX
  bound-fits =
      let o = observed-of tests f.blocks in
      let sum_small : sum (observed_cells tests) ≤ length (observed_cells tests) * 16 = sum-within 16 (observed_cells tests) o.small in
      let cells : tests.blocks.blocks * tests.blocks.treatments ≤ 10000 * 8 = mul-le-mul f.blocks.few_enough f.blocks.at_most_eight in
      let top : sum (observed_cells tests) ≤ 1280000 = omega (arith, sum_small, o.long, cells) in
      omega (arith, bound-small tests.kind tests.blocks.blocks tests.blocks.treatments (observed_cells tests) f.blocks.few_enough f.blocks.at_most_eight top)

  -- ---- the network

  pub squares-follow : (x : CentredSquares) → AreSquares tests.blocks.treatments (block_counts tests) x → (tail : Tail) → (tests.kind ≡ Friedman) ⊎ (tests.kind ≡ Cochran)
      → Follows (block_test tests) tail (additive_network (square_addends x tests.blocks.treatments (block_counts tests) (judge_of (block_test tests))))
  squares-follow x r tail e =
      let k : ℕ = tests.blocks.treatments in
      let blocks : List (List ℕ) = block_counts tests in
      let judge : Judge = judge_of (block_test tests) in
      let a : Addends = square_addends x k blocks judge in
      additive_follows (block_test tests) tail a square_pieces (IsArranged (length blocks) k) (map labellings blocks)
      (square_additive x k blocks judge are-stages r)
      (record {
        reference = refl;
        judge_is = refl;
        counted = length-map blocks labellings;
        stages = square-stages x k blocks judge whole-all;
        each = parts-arranged k blocks whole-all blocks 0 refl;
        joined = record {
          measures = λ xs all. measured_at tests tail (concat xs) ∙ squared-is e (concat xs) ∙ ap (λ n. pos (square_sum (treatment_sums k (cut k n (concat xs))))) (sym (blocks-many tests f.blocks)) ∙ squares-measured (length blocks) k xs all;
          weighs = λ xs all. each-weighs 0 xs;
        };
      })
    where
      squared-is : (tests.kind ≡ Friedman) ⊎ (tests.kind ≡ Cochran) → (r : List ℕ) → block_statistic tests.kind tests.blocks.blocks tests.blocks.treatments r ≡ pos (square_sum (treatment_sums tests.blocks.treatments (cut tests.blocks.treatments tests.blocks.blocks r)))
      squared-is (inl e) r = rw e refl
      squared-is (inr e) r = rw e refl

  page-follows : (tail : Tail) → tests.kind ≡ Page → Follows (block_test tests) tail (additive_network (line_addends (block_counts tests) (judge_of (block_test tests))))
  page-follows tail e =
      let k : ℕ = tests.blocks.treatments in
      let blocks : List (List ℕ) = block_counts tests in
      let judge : Judge = judge_of (block_test tests) in
      let a : Addends = line_addends blocks judge in
      additive_follows (block_test tests) tail a page_pieces (IsArranged (length blocks) k) (map labellings blocks)
      (page_additive k blocks judge are-stages)
      (record {
        reference = refl;
        judge_is = refl;
        counted = length-map blocks labellings;
        stages = page-stages blocks judge;
        each = parts-arranged k blocks whole-all blocks 0 refl;
        joined = record {
          measures = λ xs all. measured_at tests tail (concat xs) ∙ paged e (concat xs) ∙ ap (λ n. pos (page_sum 1 (treatment_sums k (cut k n (concat xs))))) (sym (blocks-many tests f.blocks)) ∙ page-measured (length blocks) k xs all;
          weighs = λ xs all. each-weighs 0 xs;
        };
      })
    where
      paged : tests.kind ≡ Page → (r : List ℕ) → block_statistic tests.kind tests.blocks.blocks tests.blocks.treatments r ≡ pos (page_sum 1 (treatment_sums tests.blocks.treatments (cut tests.blocks.treatments tests.blocks.blocks r)))
      paged e r = rw e refl

  -- as they are written
  from-zero-follow : (tail : Tail) → (tests.kind ≡ Friedman) ⊎ (tests.kind ≡ Cochran) → Follows (block_test tests) tail (additive_network (square_addends (from_zero (block_test tests).bound) tests.blocks.treatments (block_counts tests) (judge_of (block_test tests))))
  from-zero-follow tail e = squares-follow (from_zero (block_test tests).bound) (squares-from-zero tests.blocks.treatments (block_test tests).bound (block_counts tests) (bounded tests f.blocks e) bound-fits) tail e

  -- by distances from another centre, it goes on from their keys as they are
  squares-alike : (x : CentredSquares) → AreSquares tests.blocks.treatments (block_counts tests) x → (tests.kind ≡ Friedman) ⊎ (tests.kind ≡ Cochran)
      → GoesOnAlike (additive_network (square_addends (from_zero (block_test tests).bound) tests.blocks.treatments (block_counts tests) (judge_of (block_test tests)))) (additive_network (square_addends x tests.blocks.treatments (block_counts tests) (judge_of (block_test tests))))
  squares-alike x r e =
      let judge : Judge = judge_of (block_test tests) in
      let written : Addends = square_addends (from_zero (block_test tests).bound) tests.blocks.treatments (block_counts tests) judge in
      let other : Addends = square_addends x tests.blocks.treatments (block_counts tests) judge in
      judged-alike (additive_network written) (additive_network other).verdict judge (from-zero-follow Greater e).intervals (squares-follow x r Greater e).intervals

  of_kind : BlockKind → Network
  of_kind kind = additive_network (running_addends kind (block_test tests).bound tests.blocks.treatments (block_counts tests) (judge_of (block_test tests)))

  follows : (tail : Tail) → Follows (block_test tests) tail (network_by running_addends tests)
  unfolding of_kind
  follows tail = by tests.kind refl
    where
      by : (kind : BlockKind) → tests.kind ≡ kind → Follows (block_test tests) tail (network_by running_addends tests)
      by Friedman e = subst (λ kind. Follows (block_test tests) tail (of_kind kind)) (sym e) (from-zero-follow tail (inl e))
      by Page e = subst (λ kind. Follows (block_test tests) tail (of_kind kind)) (sym e) (page-follows tail e)
      by Cochran e = subst (λ kind. Follows (block_test tests) tail (of_kind kind)) (sym e) (from-zero-follow tail (inr e))

  pub squares-go_on : (x : CentredSquares) → AreSquares tests.blocks.treatments (block_counts tests) x → (tests.kind ≡ Friedman) ⊎ (tests.kind ≡ Cochran)
      → GoesOnAlike (network_by running_addends tests) (additive_network (square_addends x tests.blocks.treatments (block_counts tests) (judge_of (block_test tests))))
  unfolding of_kind
  squares-go_on x r (inl e) = subst (λ kind. GoesOnAlike (of_kind kind) (additive_network (square_addends x tests.blocks.treatments (block_counts tests) (judge_of (block_test tests))))) (sym e) (squares-alike x r (inl e))
  squares-go_on x r (inr e) = subst (λ kind. GoesOnAlike (of_kind kind) (additive_network (square_addends x tests.blocks.treatments (block_counts tests) (judge_of (block_test tests))))) (sym e) (squares-alike x r (inr e))

  pub can-be : CanBeAnswered (block_test tests) (network_by running_addends tests) (network_by addends_of tests)
  can-be = can-be-answered (block_test tests) (centred tests f.blocks) (λ r. refl) (has-first tests.kind) (total-some tests) f.total_fits follows (runs-for tests)

-- ---- blocks that are read, and their answer

pub blocks-read : (kind : BlockKind) (blocks : Blocks) → TakesCells kind blocks.cells → AreBlocks (blocks_for kind (block_data_of blocks))
blocks-read kind blocks taken = record {
  not_empty = blocks.not_empty;
  few_enough = blocks.few_enough;
  at_least_two = blocks.at_least_two;
  at_most_eight = blocks.at_most_eight;
  one_each = blocks.one_each;
  taken = taken;
}
