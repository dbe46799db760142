-- What the words and the bytes of the file that they name come to: the text of a report, or the
-- first refusal.
use Rattle.std.specs.Prelude.{◌<◌, ◌≤◌, ℕ, List, Bool, true, false, Option, Some, None, IfSome, Result, Ok, Err, length, nat_lt, if◌then◌else◌}
use Rattle.std.specs.Option.{option_map}
use Rattle.outside.specs.declared.source.TheConstants.{LONGEST_FILE}
use Rattle.weights.specs.Conditional.{ConditionalTest, distribution, observed_statistic, total}
use Rattle.weights.specs.Wide.{too_wide}
use Rattle.weights.specs.declared.lines.Line.{Line}
use Rattle.weights.specs.declared.tails.Tail.{Tail}
use Rattle.weights.specs.declared.tails.Tail.TheVariants as tail
use Rattle.weights.specs.declared.tails.Tails.{Tails}
use Rattle.weights.specs.declared.wide.WideOf.{WideOf}
use Rattle.networks.specs.Follows.{answer_of, open_keys}
use Rattle.networks.specs.declared.answers.Way.{Way}
use Rattle.networks.specs.declared.answers.Way.TheVariants as way
use Rattle.weights.specs.Results.{and_then}
use Rattle.record_reader.specs.Records.{records_of}
use Rattle.settings.specs.Help.{help}
use Rattle.settings.specs.Meaning.{meaning_of}
use Rattle.settings.specs.declared.command_line.CommandLine.{CommandLine}
use Rattle.settings.specs.declared.command_line.CommandLine.TheVariants as command
use Rattle.settings.specs.declared.names.OptionName.TheVariants as option
use Rattle.settings.specs.declared.names.TestName.{TestName}
use Rattle.settings.specs.declared.names.UsageFault.{UsageFault}
use Rattle.settings.specs.declared.names.UsageFault.TheVariants as usage
use Rattle.settings.specs.declared.settings.Settings.{Settings}
use Rattle.settings.specs.declared.pieces.PieceOf.{PieceOf}
use Rattle.networks.specs.Network.{Network}
use Rattle.settings.specs.declared.tails.TailChoice.{TailChoice}
use Rattle.settings.specs.declared.tails.TailChoice.TheVariants as choice
use Rattle.piece_texts.specs.PieceTexts.{IsName, piece_text}
use Rattle.piece_texts.specs.RunNames.{run_name}
use Rattle.piece_texts.specs.declared.piece.Piece.{Piece}
use Rattle.piece_texts.specs.declared.piece.PieceSum.{PieceSum}
use Rattle.pieces.specs.Cuts.{piece_sum}
use Rattle.report.specs.Report.{head_text, report_text}
use Rattle.report.specs.declared.headings.Title.TheVariants as title
use Rattle.report.specs.declared.refusals.Refusal.{Refusal}
use Rattle.report.specs.declared.refusals.Refusal.TheVariants as refusal
use Rattle.run_outcome.specs.Question.{Question}
use Rattle.run_outcome.specs.Questions.{Questions, is_shift}
use Rattle.run_outcome.specs.declared.reports.Asking.{Asking}
use Rattle.run_outcome.specs.declared.parts.PartOf.{PartOf}

-- the text of the report, or why there is none
abbrev pub Outcome : Type 0
Outcome = Result (List ℕ) Refusal

-- ---- a question

-- the tails of which this holds
abbrev pub tails_by : (Tail → Bool) → Tails
tails_by has = record { less = has tail.Less; greater = has tail.Greater; two = has tail.Two }

-- the tails that a test has
abbrev pub tails_in : ConditionalTest → Tails
tails_in test = tails_by test.has_tail

-- only that of small values is asked
abbrev pub less_alone : Tails
less_alone = record { less = true; greater = false; two = false }

-- only that of great values is asked
abbrev pub greater_alone : Tails
greater_alone = record { less = false; greater = true; two = false }

-- only that on both sides is asked
abbrev pub two_alone : Tails
two_alone = record { less = false; greater = false; two = true }

-- these tails, where the test has them
abbrev pub only : Bool → Tails → Option Tails
only has tails = if has then Some tails else None

-- the tails that are asked of those that a test has
abbrev pub asked : TailChoice → Tails → Option Tails
asked choice.All has = Some has
asked choice.Less has = only has.less less_alone
asked choice.Greater has = only has.greater greater_alone
asked choice.Two has = only has.two two_alone

-- open keys are counted where they are shown
abbrev pub way_of : Bool → Way
way_of counts = if counts then way.Network else way.Plain

-- the distribution, where it is asked
abbrev pub spread_of : Bool → ConditionalTest → Option (List Line)
spread_of shown test = if shown then Some (distribution test) else None

-- which part of a divided run is asked: the name of the run is that of its words and of its file
abbrev pub part_of : List ℕ → PieceOf → PartOf
part_of bytes piece = record {
  at = piece.at;
  parts = piece.parts;
  part = piece.part;
  name = run_name piece.given bytes;
}

-- what the settings ask of a report on a file's bytes
abbrev pub asking_of : Settings → List ℕ → Asking
asking_of settings bytes = record {
  title = title.Test settings.test;
  tail = settings.tail;
  distribution = settings.distribution;
  plain = settings.plain;
  nodes = settings.nodes;
  piece = option_map (part_of bytes) settings.piece;
}

-- one of the parts, of which there are 1 to 64, of a run with a name
pub record IsPartOf (part : PartOf) : Type 0 where
  pub name : IsName part.name
  pub some : 1 ≤ part.parts
  pub few : part.parts ≤ 64
  pub below : part.part < part.parts

-- what is asked is one of the parts of a run, where a part is asked
abbrev pub HasParts : Asking → Type 0
HasParts asking = IfSome asking.piece IsPartOf

-- what is asked of the report on made data: all tails
abbrev pub asking_of_made : ℕ → Asking
asking_of_made number = record {
  title = title.Drill number;
  tail = choice.All;
  distribution = false;
  plain = false;
  nodes = false;
  piece = None;
}

-- the report of a question for some tails
abbrev pub report_for : Asking → Tails → Question → List ℕ
report_for asking tails question =
    report_text asking.title question.sizes question.dropped question.extra
    (answer_of question.test (open_keys question.network) tails (way_of asking.nodes))
    asking.nodes (spread_of asking.distribution question.test)

-- the lines of the report to the total
abbrev pub head_for : Asking → Question → List ℕ
head_for asking question =
    head_text asking.title question.sizes question.dropped question.extra
    (observed_statistic question.test) question.test.scale (total question.test)

-- what a cut of the network of a tail closes, and what a part of its open keys comes to
abbrev pub tail_piece : PartOf → (Tail → Network) → Tail → Bool → Option PieceSum
tail_piece part network tail is_asked =
    if is_asked then Some (piece_sum (network tail) tail part.at part.parts part.part) else None

-- the piece of a part of a divided run
abbrev pub piece_for : PartOf → Asking → Tails → Question → Piece
piece_for part asking tails question = record {
  name = part.name;
  parts = part.parts;
  part = part.part;
  head = head_for asking question;
  total = total question.test;
  less = tail_piece part question.network tail.Less tails.less;
  greater = tail_piece part question.network tail.Greater tails.greater;
  two = tail_piece part question.network tail.Two tails.two;
}

-- the report, or the text of the part that is asked
abbrev pub text_by : Option PartOf → Asking → Tails → Question → List ℕ
text_by None asking tails question = report_for asking tails question
text_by (Some part) asking tails question = piece_text (piece_for part asking tails question)

abbrev pub text_for : Asking → Tails → Question → List ℕ
text_for asking tails question = text_by asking.piece asking tails question

-- what is too wide is refused
abbrev pub told : Asking → Tails → Option WideOf → Question → Outcome
told asking tails (Some what) question = Err (refusal.TooWide what)
told asking tails None question = Ok (text_for asking tails question)

-- tails that the test does not have are refused before
abbrev pub outcome_of_asked : Asking → Option Tails → Question → Outcome
outcome_of_asked asking None question = Err (refusal.Unfit option.Tail)
outcome_of_asked asking (Some tails) question =
    told asking tails (too_wide question.test) question

-- The order of refusals, for all tests: tails that do not fit, then the total, then the bound.
abbrev pub outcome_of_question : Asking → Question → Outcome
outcome_of_question asking question =
    outcome_of_asked asking (asked asking.tail (tails_in question.test)) question

-- ---- a file

-- of a shift, or else of a test: of this, faults of the data, and other options that do not fit
-- them, are refused before
abbrev pub outcome_where : Bool → Questions → TestName → Asking → Settings
    → List (List (List ℕ)) → Outcome
outcome_where true questions name asking settings rows = questions.shift_of settings rows
outcome_where false questions name asking settings rows =
    and_then (outcome_of_question asking) (questions.question_for name settings rows)

abbrev pub outcome_for : Questions → TestName → Asking → Settings → List (List (List ℕ))
    → Outcome
outcome_for questions name = outcome_where (is_shift name) questions name

-- what the settings ask of the rows
abbrev pub outcome_of_rows : Questions → Asking → Settings → List (List (List ℕ)) → Outcome
outcome_of_rows questions asking settings rows =
    outcome_for questions settings.test asking settings rows

-- and the length of the file before these
unfoldable pub outcome_of_bytes : Questions → Settings → List ℕ → Outcome
outcome_of_bytes questions settings bytes =
    if nat_lt LONGEST_FILE (length bytes) then Err refusal.TooLong
    else outcome_of_rows questions (asking_of settings bytes) settings
    (records_of settings.separator bytes)

-- ---- words

-- the refusal of words
abbrev pub usage_refusal : UsageFault → Refusal
usage_refusal usage.NoMemory = refusal.NoMemory
usage_refusal fault = refusal.Usage fault

-- the outcome of a command line; what pieces come to is said by itself
abbrev pub outcome_of_command : Questions → Result CommandLine UsageFault
    → (List ℕ → Option (List ℕ)) → Option Outcome
outcome_of_command questions (Err fault) held = Some (Err (usage_refusal fault))
outcome_of_command questions (Ok command.Help) held = Some (Ok help)
outcome_of_command questions (Ok (command.Test settings)) held =
    option_map (outcome_of_bytes questions settings) (held settings.file)
outcome_of_command questions (Ok (command.Shift settings)) held =
    option_map (outcome_of_bytes questions settings) (held settings.file)
outcome_of_command questions (Ok (command.Merge file)) held = None
outcome_of_command questions (Ok (command.Drill number)) held =
    Some (outcome_of_question (asking_of_made number) (questions.made_question number))

-- the outcome of words and of a source, where the words alone decide it or the source tells what it
-- holds
abbrev pub outcome_of : Questions → List (List ℕ) → (List ℕ → Option (List ℕ))
    → Option Outcome
outcome_of questions words held = outcome_of_command questions (meaning_of words) held

-- the words name a file that is read
abbrev pub names_file : Result CommandLine UsageFault → Bool
names_file (Ok (command.Test settings)) = true
names_file (Ok (command.Shift settings)) = true
names_file (Ok (command.Merge file)) = true
names_file _ = false
