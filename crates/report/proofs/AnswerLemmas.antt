-- The answer of a test can be reported.
use Rattle.std.proofs.Common.{◌≡◌, ◌<◌, ◌≤◌, ◌++◌, ◌∙◌, [], ℕ, Bool, true, false, Option, Some, None, append-nil, if◌then◌else◌, refl, subst, sym}
use Rattle.weights.specs.declared.TheConstants.{MAX}
use Rattle.weights.specs.declared.tails.Tail.{Tail}
use Rattle.weights.specs.declared.tails.Tail.TheVariants.{Less, Greater, Two}
use Rattle.weights.specs.declared.tails.Tails.{Tails}
use Rattle.weights.specs.Conditional.{ConditionalTest, is_extreme, numerator, observed_statistic, total}
use Rattle.weights.proofs.Sums.{sum_by-filter-≤}
use Rattle.networks.specs.Follows.{answer_of, asked_tail, tail_of}
use Rattle.networks.specs.declared.answers.Answer.{Answer}
use Rattle.networks.specs.declared.answers.Way.{Way}
use Rattle.networks.specs.declared.tail_sums.TailSum.{TailSum}
use Rattle.report.specs.declared.headings.Extra.{Extra}
use Rattle.report.specs.declared.headings.Sizes.{Sizes}
use Rattle.report.specs.declared.headings.Title.{Title}
use Rattle.report.specs.Report.{HasQuotients, IsPart, answer_lines, head_text, merged_text, numerator_in, report_text, spread_lines}

asked-is_part : (all : ℕ) (sum : TailSum) → sum.sum ≤ all → (asked : Bool) → IsPart all (numerator_in (asked_tail asked sum))
asked-is_part all sum most true = λ found is. let same : sum.sum ≡ found = cc in subst (λ n. n ≤ all) same most
asked-is_part all sum most false = λ found is. absurd (let none : ⊥ = cc in none)

-- where a test's total is at least 1 and fits, each numerator over it is a quotient of at most 1
pub answer_of-has_quotients : (test : ConditionalTest) (opened : Tail → ℕ) (tails : Tails) (by : Way) → 0 < total test → total test ≤ MAX → HasQuotients (answer_of test opened tails by)
answer_of-has_quotients test opened tails by some fits = record {
  some = some;
  fits = fits;
  less_part = asked-is_part (total test) (tail_of test opened Less by) (part Less) tails.less;
  greater_part = asked-is_part (total test) (tail_of test opened Greater by) (part Greater) tails.greater;
  two_part = asked-is_part (total test) (tail_of test opened Two by) (part Two) tails.two;
}
  where
    part : (tail : Tail) → (tail_of test opened tail by).sum ≤ total test
    part tail = sum_by-filter-≤ test.weight (is_extreme test tail) test.reference

-- the lines of an answer's report down to its total, with its numerators, are the report without
-- open keys and distribution
pub merged_text-report : (title : Title) (sizes : Sizes) (dropped : Option ℕ) (extra : Extra) (answer : Answer)
    → merged_text (head_text title sizes dropped extra answer.statistic answer.scale answer.total) answer.total (numerator_in answer.less) (numerator_in answer.greater) (numerator_in answer.two)
    ≡ report_text title sizes dropped extra answer false None
unfolding merged_text report_text spread_lines
merged_text-report title sizes dropped extra answer =
    let lines = head_text title sizes dropped extra answer.statistic answer.scale answer.total ++ answer_lines answer in
    sym (append-nil lines) ∙ sym (append-nil (lines ++ []))

numerator_in-asked : (asked : Bool) (sum : TailSum) → (if asked then Some sum.sum else None) ≡ numerator_in (asked_tail asked sum)
numerator_in-asked true sum = refl
numerator_in-asked false sum = refl

-- the same of the answer of a test: its numerators are those of the asked tails
pub merged_text-answer_of : (title : Title) (sizes : Sizes) (dropped : Option ℕ) (extra : Extra) (test : ConditionalTest) (opened : Tail → ℕ) (tails : Tails) (by : Way)
    → merged_text (head_text title sizes dropped extra (observed_statistic test) test.scale (total test)) (total test)
    (if tails.less then Some (numerator test Less) else None) (if tails.greater then Some (numerator test Greater) else None) (if tails.two then Some (numerator test Two) else None)
    ≡ report_text title sizes dropped extra (answer_of test opened tails by) false None
merged_text-answer_of title sizes dropped extra test opened tails by =
    rw (numerator_in-asked tails.less (tail_of test opened Less by), numerator_in-asked tails.greater (tail_of test opened Greater by), numerator_in-asked tails.two (tail_of test opened Two by))
    (merged_text-report title sizes dropped extra (answer_of test opened tails by))
