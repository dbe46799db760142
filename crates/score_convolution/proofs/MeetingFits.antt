-- The rows of both parts of the subjects may meet.
use Rattle.std.proofs.Common.{◌≡◌, ℕ, ◌+◌, ◌-◌, ◌*◌, ◌≤◌, List, ◌++◌, length, ap, arith, length-append}
use Rattle.std.specs.Prelude.{ℤ, pos, unsigned_abs}
use Rattle.weights.specs.Numbers.{absolute_sum, binomial}
use Rattle.weights.specs.declared.TheConstants.{MAX}
use Rattle.score_convolution.specs.Sides.{is_in, sides_for}
use Rattle.score_convolution.specs.declared.sides.TailSides.{TailSides}
use Rattle.score_convolution.specs.Subjects.{least}
use Rattle.score_convolution.specs.DrawRows.{AreDraws, AreSubjects}
use Rattle.score_convolution.specs.Meetings.{MayMeet}
use Rattle.score_convolution.specs.declared.rows.DrawRow.{DrawRow}
use Rattle.score_convolution.proofs.BothParts.{all-met}
use Rattle.score_convolution.proofs.Counted.{binomial-parts, drawn-within}
use Rattle.score_convolution.proofs.ScoreTotals.{absolute-append, part-size}

-- the lowest sums of two rows
lowest-small : (one other : ℤ) (n m : ℕ) (first second : List ℤ) → absolute_sum (first ++ second) ≤ MAX → one ≡ least n first → other ≡ least m second → unsigned_abs one + unsigned_abs other ≤ MAX
lowest-small one other n m first second h e k = rw (e, k) (omega (arith, h, absolute-append first second, part-size n first, part-size m second))

-- and how many pairs they have
pairs-fit : (drawn n one other : ℕ) (first second : List ℤ) → n ≤ drawn → binomial (length (first ++ second)) drawn ≤ MAX → one ≡ binomial (length first) n → other ≡ binomial (length second) (drawn - n)
    → one * other ≤ MAX
pairs-fit drawn n one other first second h fits e k =
    let whole : n + (drawn - n) ≡ drawn = omega (arith, h) in
    rw (e, k) (omega (
      arith,
      fits,
      binomial-parts (length first) (length second) n (drawn - n),
      ap (binomial (length first + length second)) whole,
      ap (λ l. binomial l drawn) (length-append first second),
    ))

module _ {K : Type 0} (cells_of : K → List ℕ) (limit drawn stride : ℕ) (sides : TailSides) where
  pub may-meet : (first second : List ℤ) (rows others : List (DrawRow K)) → AreSubjects stride (first ++ second) → binomial (length (first ++ second)) drawn ≤ MAX
      → AreDraws cells_of limit drawn stride first rows → AreDraws cells_of limit drawn stride second others → MayMeet cells_of limit drawn stride sides rows others
  may-meet first second rows others subjects fits front behind = record {
    few = λ n d low within left.
        let one = front.rows_are.each n d low in
        let other = behind.rows_are.each (drawn - n) d left in
        record {
          first = one.row_is;
          second = other.row_is;
          fits = pairs-fit drawn n _ _ first second within fits one.total other.total;
          small = lowest-small _ _ n (drawn - n) first second subjects.small one.lowest other.lowest;
        };
    fit = λ t.
        let p = is_in (sides_for sides t) in
        omega (arith, fits, all-met cells_of limit stride drawn p first second rows others front behind, drawn-within p drawn (pos 0) (first ++ second));
  }
