-- The text of a report of a shift, line by line.
use Rattle.std.specs.Prelude.{◌≤◌, ◌<◌, ℕ, ℤ, ◌*◌, ◌^◌, List, ◌++◌, codes, decimal, Option, Some, None}
use Rattle.std.specs.Fmt.{signed_decimal}
use Rattle.weights.specs.declared.TheConstants.{MAX}
use Rattle.weights.specs.declared.limits.Limits.{Limits}
use Rattle.report.specs.Decimals.{six_decimals}
use Rattle.report.specs.Report.{dropped_line, line, size_lines, total_line}
use Rattle.report.specs.declared.headings.Sizes.{Sizes}

unfoldable pub differences_line : ℕ → List ℕ
differences_line differences = line (codes "differences " ++ decimal differences)

-- half the sum of the two middle differences
unfoldable pub estimate_line : ℤ → ℕ → List ℕ
estimate_line middle places =
    line (codes "estimate " ++ signed_decimal middle ++ codes "/" ++ decimal (2 * places))

-- a limit, where there is one
unfoldable pub limit_line : List ℕ → Option ℤ → ℕ → List ℕ
limit_line word None places = line (word ++ codes " none")
limit_line word (Some limit) places =
    line (word ++ codes " " ++ signed_decimal limit ++ codes "/" ++ decimal places)

-- how many labellings the limits miss over the total, and the quotient
unfoldable pub miss_line : ℕ → ℕ → List ℕ
miss_line missed total =
    line (codes "miss " ++ decimal missed ++ codes "/" ++ decimal total ++ codes " "
    ++ six_decimals missed total)

-- the lines of what is said of a shift
unfoldable pub limits_lines : Limits → List ℕ
limits_lines limits =
    differences_line limits.differences
    ++ estimate_line limits.middle limits.places
    ++ limit_line (codes "lower") limits.lower limits.places
    ++ limit_line (codes "upper") limits.upper limits.places
    ++ total_line limits.total
    ++ miss_line limits.missed limits.total

-- the report of a shift
unfoldable pub shift_text : Sizes → Option ℕ → Limits → List ℕ
shift_text sizes dropped limits =
    line (codes "shift") ++ size_lines sizes ++ dropped_line dropped ++ limits_lines limits

-- what is missed over the total is a quotient of at most 1, and twice the places are a number
pub record IsShowable (limits : Limits) : Type 0 where
  pub some : 0 < limits.total
  pub fits : limits.total ≤ MAX
  pub part : limits.missed ≤ limits.total
  pub places : limits.places ≤ 10 ^ 18
