use Rattle.std.proofs.Common.{◌≡◌, ◌∙◌, map, string_bytes, Result, Ok, sym}
use Rattle.settings.specs.Meaning.{meaning_of}
use Rattle.settings.specs.declared.command_line.CommandLine.{CommandLine}
use Rattle.settings.specs.declared.names.UsageFault.{UsageFault}
use Rattle.run_outcome.proofs.PartAnswered.{words-no-shift}
use Rattle.run_outcome.proofs.Words.{refused-words}
use Rattle.run_outcome.proofs.command.text_for.Goals as goal

pub returns-in-Err-clause-words : goal.returns-in-Err-clause-words
returns-in-Err-clause-words g c = rw c.usage_refusal.ensures (refused-words (meaning_of (map string_bytes c.args.words.now)) c.in-Err.fault c.in-Err.ensures.meaning)

abbrev told : CommandLine → Result CommandLine UsageFault
told line = Ok line

same-line : (own other : CommandLine) → told own ≡ told other → own ≡ other
same-line own other same = cc

pub returns-in-Ok-clause-answerable : goal.returns-in-Ok-clause-answerable
returns-in-Ok-clause-answerable g c = λ settings is.
    let line = same-line c.in-Ok.line _ (sym c.in-Ok.ensures.meaning ∙ is) in
    c.text_of_line.ensures.answerable settings line (words-no-shift (map string_bytes c.args.words.now) settings is)
