-- A walk from member to member, and the lines that are made on the way.
use Rattle.std.proofs.Common.{◌≡◌, ℕ, ◌+◌, ◌≤◌, List, [], ◌∷◌, Bool, true, cond, filter, sym, ◌∙◌, ap, arith}
use Rattle.std.specs.Prelude.{ℤ, Contains}
use Rattle.std.specs.List.{sum_by, AllByRecursion}
use Rattle.weights.specs.declared.lines.Line.{Line}
use Rattle.weights.specs.Conditional.{ConditionalTest, total}
use Rattle.weights.proofs.Sums.{sum_by-filter-≤}
use Rattle.enumerate.specs.Walk.{members_after, BeginsWith}
use Rattle.enumerate.proofs.Walking.{Contains-first, Contains-next}
use Rattle.networks.specs.Lines.{with_weight, line_sum, every, IsAscending, IsSpreadOf}
use Rattle.networks.specs.Follows.{statistic_sums}
use Rattle.networks.proofs.LineSums.{with-sum, with-ascending, with-positive}
use Rattle.stage_network.proofs.DistributionLines.{filter-cons}

-- the summed weight of some members whose statistics pass
abbrev pub member_sums : ConditionalTest → (ℤ → Bool) → List (List ℕ) → ℕ
member_sums test p members = sum_by test.weight (filter (λ r. p (test.statistic r)) members)

-- the lines and some members that are left give all
pub record Leaves (test : ConditionalTest) (lines : List Line) (left : List (List ℕ)) : Type 0 where
  pub ascending : IsAscending lines
  pub positive : AllByRecursion (λ l. 1 ≤ l.weight) lines
  pub told : (p : ℤ → Bool) → line_sum p lines + member_sums test p left ≡ statistic_sums test p

pub record IsAtLines (test : ConditionalTest) (lines : List Line) (labels : List ℕ) : Type 0 where
  pub member : Contains test.reference labels
  pub leaves : Leaves test lines (labels ∷ members_after labels test.reference)

pub started : (test : ConditionalTest) (labels : List ℕ) → BeginsWith test.reference labels → IsAtLines test [] labels
started test labels b = record {
  member = Contains-first labels test.reference b;
  leaves = record { ascending = tt; positive = tt; told = λ p. ap (λ ms. 0 + member_sums test p ms) (sym b) ∙ zero-more (statistic_sums test p) };
}
  where
    zero-more : (x : ℕ) → 0 + x ≡ x
    zero-more x = omega arith

member_sums-cons : (test : ConditionalTest) (p : ℤ → Bool) (r : List ℕ) (rs : List (List ℕ)) → member_sums test p (r ∷ rs) ≡ cond (p (test.statistic r)) (test.weight r) 0 + member_sums test p rs
member_sums-cons test p r rs = filter-cons test.weight (λ s. p (test.statistic s)) r rs

pub room : (test : ConditionalTest) (lines : List Line) (r : List ℕ) (rs : List (List ℕ)) → Leaves test lines (r ∷ rs) → line_sum every lines + test.weight r ≤ total test
room test lines r rs at = omega (arith, at.told every, member_sums-cons test every r rs, sum_by-filter-≤ test.weight (λ r. true) test.reference)

pub added : (test : ConditionalTest) (lines : List Line) (r : List ℕ) (rs : List (List ℕ)) → Leaves test lines (r ∷ rs) → Leaves test (with_weight (test.statistic r) (test.weight r) lines) rs
added test lines r rs at = record {
  ascending = with-ascending (test.statistic r) (test.weight r) lines at.ascending;
  positive = with-positive (test.statistic r) (test.weight r) lines at.positive;
  told = λ p. omega (arith, at.told p, member_sums-cons test p r rs, with-sum p (test.statistic r) (test.weight r) lines);
}

pub onward : (test : ConditionalTest) (lines : List Line) (old new : List ℕ) → Leaves test lines (members_after old test.reference) → members_after old test.reference ≡ new ∷ members_after new test.reference → IsAtLines test lines new
onward test lines old new leaves next = record { member = Contains-next old new test.reference next; leaves = rw next at leaves }

pub done : (test : ConditionalTest) (lines : List Line) (old : List ℕ) → Leaves test lines (members_after old test.reference) → members_after old test.reference ≡ [] → IsSpreadOf (statistic_sums test) lines
done test lines old leaves none =
    let all : Leaves test lines [] = rw none at leaves in
    record { ascending = all.ascending; positive = all.positive; told = λ p. omega (arith, all.told p) }
