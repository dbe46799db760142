-- What a stranger spells out is what the calls ask.
use Rattle.std.proofs.Common.{◌≡◌, ◌≢◌, ℕ, ◌≤◌, List, length, All, AllPairs, Bool, true, false, Option, Some, None, arith, refl, subst}
use Rattle.std.specs.Prelude.{IfSome}
use Rattle.weights.specs.Conditional.{ConditionalTest}
use Rattle.weights.specs.declared.TheConstants.{MAX}
use Rattle.weights.specs.declared.tails.Tail.TheVariants.{Less, Greater, Two}
use Rattle.weights.specs.declared.tails.Tails.{Tails}
use Rattle.networks.specs.Follows.{HasTails}
use Rattle.networks.specs.declared.answers.Answer.{Answer}
use Rattle.networks.specs.declared.tail_sums.TailSum.{TailSum}
use Rattle.record_reader.specs.Layouts.{MayPick}
use Rattle.record_reader.specs.declared.picks.Picks.{Picks}
use Rattle.record_reader.specs.declared.picks.Picks.TheVariants.{Natural, Listed}
use Rattle.table_reader.specs.TableLayout.{table_shape}
use Rattle.piece_texts.specs.PieceTexts.{TailFits}
use Rattle.piece_texts.specs.declared.piece.PieceSum.{PieceSum}
use Rattle.report.specs.Report.{AreQuotients, HasQuotients, IsPart, numerator_in}

pub has-tails : (test : ConditionalTest) (tails : Tails) → (tails.less ≡ true → test.has_tail Less ≡ true) → (tails.greater ≡ true → test.has_tail Greater ≡ true) → (tails.two ≡ true → test.has_tail Two ≡ true)
    → HasTails test tails
has-tails test tails less greater two Less asked = less asked
has-tails test tails less greater two Greater asked = greater asked
has-tails test tails less greater two Two asked = two asked

-- ---- picked fields

pub may-pick : (least most : ℕ) (picks : Picks) → ((fields : List ℕ) → picks ≡ Listed fields → least ≤ length fields) → ((fields : List ℕ) → picks ≡ Listed fields → length fields ≤ most)
    → ((fields : List ℕ) → picks ≡ Listed fields → All (λ field. 1 ≤ field) fields) → ((fields : List ℕ) → picks ≡ Listed fields → AllPairs ◌≢◌ fields) → MayPick least most picks
may-pick least most Natural wide narrow one apart = tt
may-pick least most (Listed fields) wide narrow one apart = record { wide_enough = wide fields refl; narrow_enough = narrow fields refl; from_one = one fields refl; distinct = apart fields refl }

pub may-pick-just : (many : ℕ) (picks : Picks) → ((fields : List ℕ) → picks ≡ Listed fields → length fields ≡ many)
    → ((fields : List ℕ) → picks ≡ Listed fields → All (λ field. 1 ≤ field) fields) → ((fields : List ℕ) → picks ≡ Listed fields → AllPairs ◌≢◌ fields) → MayPick many many picks
may-pick-just many picks just = may-pick many many picks (λ fields is. omega (arith, just fields is)) (λ fields is. omega (arith, just fields is))

pub may-pick-table : (two_by_two : Bool) (picks : Picks) → ((fields : List ℕ) → picks ≡ Listed fields → 2 ≤ length fields) → ((fields : List ℕ) → picks ≡ Listed fields → two_by_two ≡ false → length fields ≤ 64)
    → ((fields : List ℕ) → picks ≡ Listed fields → two_by_two ≡ true → length fields ≤ 2)
    → ((fields : List ℕ) → picks ≡ Listed fields → All (λ field. 1 ≤ field) fields) → ((fields : List ℕ) → picks ≡ Listed fields → AllPairs ◌≢◌ fields)
    → MayPick (table_shape two_by_two).narrowest (table_shape two_by_two).widest picks
may-pick-table true picks least most square = may-pick 2 2 picks least (λ fields is. square fields is refl)
may-pick-table false picks least most square = may-pick 2 64 picks least (λ fields is. most fields is refl)

-- ---- quotients and sums

part-of : (total : ℕ) (number : Option ℕ) → IfSome number (λ numerator. numerator ≤ total) → IsPart total number
part-of total None is = λ x same. absurd cc
part-of total (Some number) is = λ x same. (let equal : number ≡ x = cc in subst (λ (n : ℕ). n ≤ total) equal is)

pub are-quotients : (total : ℕ) (less greater two : Option ℕ) → 1 ≤ total → total ≤ MAX → IfSome less (λ numerator. numerator ≤ total) → IfSome greater (λ numerator. numerator ≤ total) → IfSome two (λ numerator. numerator ≤ total)
    → AreQuotients total less greater two
are-quotients total less greater two some fits l g t = record { some = omega (arith, some); fits = fits; less_part = part-of total less l; greater_part = part-of total greater g; two_part = part-of total two t }

sum-part : (total : ℕ) (tail : Option TailSum) → IfSome tail (λ tail. tail.sum ≤ total) → IfSome (numerator_in tail) (λ numerator. numerator ≤ total)
sum-part total None is = tt
sum-part total (Some tail) is = is

pub answer-quotients : (answer : Answer) → 1 ≤ answer.total → answer.total ≤ MAX → IfSome answer.less (λ tail. tail.sum ≤ answer.total) → IfSome answer.greater (λ tail. tail.sum ≤ answer.total) → IfSome answer.two (λ tail. tail.sum ≤ answer.total)
    → HasQuotients answer
answer-quotients answer some fits l g t =
    are-quotients answer.total (numerator_in answer.less) (numerator_in answer.greater) (numerator_in answer.two) some fits (sum-part answer.total answer.less l) (sum-part answer.total answer.greater g) (sum-part answer.total answer.two t)

pub sums-fit : (tail : Option PieceSum) → IfSome tail (λ s. (s.closed ≤ MAX) × (s.sum ≤ MAX)) → TailFits tail
sums-fit None is = tt
sums-fit (Some sums) is = record { closed = is.0; sum = is.1 }
