-- What a function answers with a fault, from what is known of the fault.
use Rattle.std.proofs.Common.{◌≡◌, ◌<◌, ◌≤◌, ℕ, ℤ, true, false, List, map, Result, Ok, Err, refl}
use Rattle.std.specs.Prelude.{IfOk, IsErr, OnOk}
use Rattle.weights.specs.declared.TheConstants.{MAX}
use Rattle.scores.specs.Scores.{AreTieScores, score_of, score_sum, scale_of}
use Rattle.weights.specs.Numbers.{absolute_sum}
use Rattle.scores.specs.ScoreSteps.{AreScoredBy}
use Rattle.scores.specs.declared.kinds.ScoreKind.{ScoreKind}
use Rattle.scores.specs.declared.kinds.ScoreFault.{ScoreFault}
use Rattle.scores.specs.declared.kinds.ScoreFault.TheVariants.{TooWide, NoMemory}
use Rattle.scores.specs.declared.kinds.TieScores.{TieScores}

-- any fault will do where the sum is too wide
pub fault-where_wide : (f : ℤ → ℤ) (scale : ℕ) (values : List ℤ) (r : Result TieScores ScoreFault) → IsErr r → MAX < absolute_sum (map f values) → AreScoredBy f scale values r
fault-where_wide f scale values (Ok g) e wide = let bad : false ≡ true = e in cc
fault-where_wide f scale values (Err TooWide) e wide = wide
fault-where_wide f scale values (Err NoMemory) e wide = tt

-- a fault that says too wide only where the sum is
pub fault-known : (f : ℤ → ℤ) (scale : ℕ) (values : List ℤ) (e : ScoreFault) → (e ≡ TooWide → MAX < absolute_sum (map f values)) → AreScoredBy f scale values (Err e)
fault-known f scale values TooWide known = known refl
fault-known f scale values NoMemory known = tt

-- what is scored as a kind says is scored by it
module _ (kind : ScoreKind) (values : List ℤ) where
  abbrev pub IsBy : Result TieScores ScoreFault → Type 0
  IsBy r = AreScoredBy (score_of kind values) (scale_of kind values) values r

  pub scored-list : (r : Result TieScores ScoreFault) → IsBy r → IfOk r (AreTieScores kind values)
  scored-list (Ok g) is = record {
    ties = is.0;
    scores = is.1;
    all = record { list = is.2.0; scale = is.2.1; sum = is.2.2 };
  }
  scored-list (Err e) is = tt

  pub scored-fits : (r : Result TieScores ScoreFault) → IsBy r → OnOk r (score_sum kind values ≤ MAX)
  scored-fits (Ok g) is = is.2.3
  scored-fits (Err e) is = tt

  pub scored-wide : (r : Result TieScores ScoreFault) → IsBy r → r ≡ Err TooWide → MAX < score_sum kind values
  scored-wide (Ok g) is e = cc
  scored-wide (Err TooWide) is e = is
  scored-wide (Err NoMemory) is e = cc
