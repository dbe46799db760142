-- What is read in the tables of later scores.
use Rattle.std.proofs.Common.{◌≡◌, ℕ, ◌+◌, ◌-◌, ◌≤◌, List, length, refl, arith}
use Rattle.std.specs.Prelude.{ℤ, ◌+ℤ◌, ◌-ℤ◌}
use Rattle.std.specs.Int.RustNames.{FitsSigned}
use mir.Syntax.{w128}
use Rattle.std.proofs.lemmas.Int.{ints}
use Rattle.later_scores.specs.LaterSums.{total_score, part_sum, later_scores}
use Rattle.later_scores.specs.LaterTables.{IsLater}
use Rattle.later_scores.specs.LaterSteps.{better_of, other_end}
use Rattle.later_scores.specs.declared.ends.End.{End}
use Rattle.later_scores.specs.declared.ends.End.TheVariants.{Least, Greatest}
use Rattle.later_scores.proofs.LaterArcs.{complement}
use Rattle.later_scores.proofs.Absolute.{part-size}
use Rattle.later_scores.proofs.Stages.{later-small}
use Rattle.later_scores.proofs.TakenScores.{fits-size}

module _ (scores : List ℤ) (columns : List ℕ) (width : ℕ) (least greatest totals : List ℤ) (counts : List ℕ) (r : IsLater scores columns width least greatest totals counts) (stage : ℕ) (within : stage ≤ length columns) where
  pub part-fits : (e : End) (j : ℕ) → FitsSigned w128 (part_sum (better_of e) j (later_scores scores columns stage))
  part-fits e j = fits-size _ _ (part-size e j (later_scores scores columns stage)) (later-small scores columns r.long stage _ r.small)

  -- all but those of the other end
  pub part-rest : (e : End) (take k : ℕ) (a b : ℤ) → take ≤ length (later_scores scores columns stage) → k ≡ length (later_scores scores columns stage) → a ≡ total_score (later_scores scores columns stage) → b ≡ part_sum (better_of (other_end e)) (k - take) (later_scores scores columns stage) → a -ℤ b ≡ part_sum (better_of e) take (later_scores scores columns stage)
  part-rest e take k a b few f one two =
      let whole = both-ends e take (k - take) (later_scores scores columns stage) (omega (arith, f, few)) in
      omega (arith, ints, whole, one, two)
    where
      both-ends : (e : End) (j i : ℕ) (xs : List ℤ) → j + i ≡ length xs → part_sum (better_of e) j xs +ℤ part_sum (better_of (other_end e)) i xs ≡ total_score xs
      both-ends Least j i xs h = complement (length xs) j i xs refl h
      both-ends Greatest j i xs h = (let l = complement (length xs) i j xs refl (omega (arith, h)) in omega (arith, ints, l))
