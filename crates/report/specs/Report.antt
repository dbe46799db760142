-- The text of a report, line by line.
use Rattle.std.specs.Prelude.{◌≤◌, ◌<◌, ℕ, ℤ, List, [], ◌∷◌, ◌++◌, ◌||◌, Bool, map, nat_eq, nat_lt, codes, decimal, if◌then◌else◌, Option, Some, None, option_map}
use Rattle.std.specs.Fmt.{signed_decimal}
use Rattle.std.specs.List.{flat_map, zip}
use Rattle.std.specs.Option.{ForSome}
use Rattle.weights.specs.declared.TheConstants.{MAX}
use Rattle.weights.specs.declared.tails.Tail.{Tail}
use Rattle.weights.specs.declared.tails.Tail.TheVariants.{Less, Greater, Two}
use Rattle.weights.specs.declared.lines.Line.{Line}
use Rattle.networks.specs.declared.tail_sums.TailSum.{TailSum}
use Rattle.networks.specs.declared.answers.Answer.{Answer}
use Rattle.settings.specs.Names.{score_word, test_word}
use Rattle.report.specs.Decimals.{six_decimals}
use Rattle.report.specs.declared.headings.Title.{Title}
use Rattle.report.specs.declared.headings.Title.TheVariants.{Test, Drill}
use Rattle.report.specs.declared.headings.Sizes.{Sizes}
use Rattle.report.specs.declared.headings.Sizes.TheVariants.{Pairs, Groups, Blocks, Table, Strata}
use Rattle.report.specs.declared.headings.Extra.{Extra}
use Rattle.report.specs.declared.headings.Extra.TheVariants as extra

-- every line ends with a line feed
abbrev pub line : List ℕ → List ℕ
line text = text ++ 10 ∷ []

-- what was run
unfoldable pub title_line : Title → List ℕ
title_line (Test name) = line (codes "test " ++ test_word name)
title_line (Drill number) = line (codes "test drill " ++ decimal number)

-- a control character is shown as a question mark
abbrev pub printed_byte : ℕ → ℕ
printed_byte byte = if nat_lt byte 32 || nat_eq byte 127 then 63 else byte

abbrev pub printed : List ℕ → List ℕ
printed label = map printed_byte label

unfoldable pub group_line : ℕ → List ℕ → List ℕ
group_line size label = line (codes "group " ++ decimal size ++ codes " " ++ printed label)

-- a line for each group, in the order used
unfoldable pub group_lines : List ℕ → List (List ℕ) → List ℕ
group_lines sizes labels = flat_map (λ group. group_line group.0 group.1) (zip sizes labels)

-- the sizes of the data
unfoldable pub size_lines : Sizes → List ℕ
size_lines (Pairs rows used) =
    line (codes "rows " ++ decimal rows ++ codes " used " ++ decimal used)
size_lines (Groups labels sizes) = group_lines sizes labels
size_lines (Blocks blocks treatments) =
    line (codes "blocks " ++ decimal blocks ++ codes " treatments " ++ decimal treatments)
size_lines (Table rows columns sum) =
    line (codes "table " ++ decimal rows ++ codes " by " ++ decimal columns ++ codes " sum "
    ++ decimal sum)
size_lines (Strata strata sum) =
    line (codes "strata " ++ decimal strata ++ codes " sum " ++ decimal sum)

-- how many rows with a missing field were left out, where they are
unfoldable pub dropped_line : Option ℕ → List ℕ
dropped_line None = []
dropped_line (Some dropped) = line (codes "dropped " ++ decimal dropped)

-- what a test has beside the sizes
unfoldable pub extra_lines : Extra → List ℕ
extra_lines extra.None = []
extra_lines (extra.Scores kind) = line (codes "scores " ++ score_word kind)
extra_lines (extra.Peak peak) = line (codes "peak " ++ decimal peak)

-- the observed statistic over its scale
unfoldable pub statistic_line : ℤ → ℕ → List ℕ
statistic_line statistic scale =
    line (codes "statistic " ++ signed_decimal statistic ++ codes "/" ++ decimal scale)

unfoldable pub total_line : ℕ → List ℕ
total_line total = line (codes "total " ++ decimal total)

abbrev pub tail_word : Tail → List ℕ
tail_word Less = codes "less"
tail_word Greater = codes "greater"
tail_word Two = codes "two"

-- a tail's numerator over the total, and the quotient; nothing of a tail that is not asked
unfoldable pub tail_line : ℕ → Tail → Option ℕ → List ℕ
tail_line total tail None = []
tail_line total tail (Some numerator) =
    line (tail_word tail ++ codes " " ++ decimal numerator ++ codes "/" ++ decimal total
    ++ codes " " ++ six_decimals numerator total)

-- a line for each tail that is asked, by its numerator
unfoldable pub tail_lines : ℕ → Option ℕ → Option ℕ → Option ℕ → List ℕ
tail_lines total less greater two =
    tail_line total Less less ++ tail_line total Greater greater ++ tail_line total Two two

-- the numerator of a tail that is asked
abbrev pub numerator_in : Option TailSum → Option ℕ
numerator_in = option_map (λ found. found.sum)

-- how many keys of a tail were open
unfoldable pub node_line : Tail → Option TailSum → List ℕ
node_line tail None = []
node_line tail (Some found) =
    line (codes "nodes " ++ tail_word tail ++ codes " " ++ decimal found.opened)

unfoldable pub node_lines : Answer → List ℕ
node_lines answer =
    node_line Less answer.less ++ node_line Greater answer.greater ++ node_line Two answer.two

-- an attained value and its weight
unfoldable pub value_line : Line → List ℕ
value_line attained =
    line (codes "at " ++ signed_decimal attained.value ++ codes " " ++ decimal attained.weight)

-- the lines of a distribution, where it is asked
unfoldable pub spread_lines : Option (List Line) → List ℕ
spread_lines None = []
spread_lines (Some lines) = flat_map value_line lines

-- the lines of a report down to its total
unfoldable pub head_text : Title → Sizes → Option ℕ → Extra → ℤ → ℕ → ℕ → List ℕ
head_text title sizes dropped extra statistic scale total =
    title_line title
    ++ size_lines sizes
    ++ dropped_line dropped
    ++ extra_lines extra
    ++ statistic_line statistic scale
    ++ total_line total

-- the report that these lines and the numerators of the asked tails make
unfoldable pub merged_text : List ℕ → ℕ → Option ℕ → Option ℕ → Option ℕ → List ℕ
merged_text head total less greater two = head ++ tail_lines total less greater two

-- the lines of the asked tails of an answer
abbrev pub answer_lines : Answer → List ℕ
answer_lines answer =
    tail_lines answer.total (numerator_in answer.less) (numerator_in answer.greater)
    (numerator_in answer.two)

-- the report of an answer
unfoldable pub report_text : Title → Sizes → Option ℕ → Extra → Answer → Bool → Option (List Line)
    → List ℕ
report_text title sizes dropped extra answer nodes spread =
    head_text title sizes dropped extra answer.statistic answer.scale answer.total
    ++ answer_lines answer
    ++ (if nodes then node_lines answer else [])
    ++ spread_lines spread

-- a tail's numerator, where it is asked, is at most the total
abbrev pub IsPart : ℕ → Option ℕ → Type 0
IsPart total tail = ForSome tail (λ numerator. numerator ≤ total)

-- the numerators of the asked tails over a total are quotients of at most 1
pub record AreQuotients (total : ℕ) (less greater two : Option ℕ) : Type 0 where
  pub some : 0 < total
  pub fits : total ≤ MAX
  pub less_part : IsPart total less
  pub greater_part : IsPart total greater
  pub two_part : IsPart total two

-- those of an answer are
abbrev pub HasQuotients : Answer → Type 0
HasQuotients answer =
    AreQuotients answer.total (numerator_in answer.less) (numerator_in answer.greater)
    (numerator_in answer.two)
