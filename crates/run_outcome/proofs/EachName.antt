-- What is said of every name of a test alike.
use Rattle.std.proofs.Common.{◌≡◌, ℕ, true, false, refl}
use Rattle.settings.specs.Meaning.{command_for}
use Rattle.settings.specs.Names.{test_word}
use Rattle.settings.specs.declared.command_line.CommandLine.TheVariants as command
use Rattle.settings.specs.declared.names.TestName.{TestName}
use Rattle.settings.specs.declared.names.TestName.TheVariants as test
use Rattle.settings.specs.declared.settings.Settings.{Settings}
use Rattle.piece_texts.proofs.FreeLines.{no_feed}
use Rattle.run_outcome.specs.Questions.{is_shift}

-- where the words of a name are those of a test, they are the settings, and the name is no shift
pub of-test : (number : ℕ) (name : TestName) (own settings : Settings) → command_for number name own ≡ command.Test settings → (settings ≡ own) × (is_shift name ≡ false)
of-test number test.Drill own settings e = absurd cc
of-test number test.Shift own settings e = absurd cc
of-test number test.Merge own settings e = absurd cc
of-test number _ own settings e = (cc, refl)

-- what holds of a shift holds of each name that is one
pub of-shift : (P : TestName → Type 0) → P test.Shift → (name : TestName) → is_shift name ≡ true → P name
of-shift P is test.Shift e = is
of-shift P is _ e = absurd cc

-- its word has no line feed
pub free-test : (name : TestName) → no_feed (test_word name) ≡ true
free-test test.Shift = refl
free-test _ = refl
