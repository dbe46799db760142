-- What a run in memory promises, by how the run ended.
use Rattle.std.proofs.Common.{◌≡◌, ◌≢◌, ◌⊎◌, inl, inr, ℕ, List, Option, Some, None, Ok, Err, refl, arith}
use Rattle.std.specs.Prelude.{IfSome}
use Rattle.report.specs.Refusals.{refusal_line_text}
use Rattle.report.specs.declared.refusals.Refusal.TheVariants as refusal
use Rattle.run_outcome.specs.Outcome.{Outcome}
use Rattle.run_outcome.specs.Promises.{ComesExactly, Promises, ReportsWith, TellsRefusal}
use Rattle.run_outcome.specs.declared.status.Status.{Status}
use Rattle.run_outcome.specs.declared.status.Status.TheVariants as status
use Rattle.run_in_memory.specs.Answers.{HasNoRoom, IsTooLong}
use Rattle.run_in_memory.specs.Runs.{Never}

pub never : Never → ⊥
never (inl rose) = omega (arith, rose)
never (inr rose) = omega (arith, rose)

weaker : (P Q : Outcome → Type 0) → ((o : Outcome) → P o → Q o) → (known : Option Outcome)
    → IfSome known P → IfSome known Q
weaker P Q more None is = tt
weaker P Q more (Some o) is = more o is

each : (P : Outcome → Type 0) → ((o : Outcome) → P o) → (known : Option Outcome) → IfSome known P
each P all None = tt
each P all (Some o) = all o

reports-more : (P Q : List ℕ → Type 0) → ((text : List ℕ) → P text → Q text) → (o : Outcome)
    → ReportsWith o P → ReportsWith o Q
reports-more P Q more (Ok text) is = more text is
reports-more P Q more (Err cause) is = absurd is

-- ---- no memory

memory-first : (expected : Status) → (status.NoMemory ≡ expected → ⊥) → (o : Outcome)
    → ComesExactly status.NoMemory expected o
memory-first expected other o =
    record { only = λ e. absurd (other e); always = λ asked. inr (inr refl) }

pub promised-no_memory : (known : Option Outcome) (no_room : Type 0)
    (took took_prefix told : List ℕ → Type 0) → told (refusal_line_text refusal.NoMemory)
    → Promises status.NoMemory known ⊥ no_room took took_prefix told
promised-no_memory known no_room took took_prefix told line = record {
  done = λ e. absurd cc;
  usage = each _ (memory-first status.Usage (λ e. cc)) known;
  bad_data = each _ (memory-first status.BadData (λ e. cc)) known;
  too_wide = each _ (memory-first status.TooWide (λ e. cc)) known;
  read_fault = λ e. absurd cc;
  write_fault = λ e. absurd cc;
  prefix = λ e. absurd cc;
  line = λ other. record { cause = refusal.NoMemory; of_status = refl; told = line; of_outcome = λ own. absurd own; of_words = λ own. absurd own };
  complete = each _ (λ o asked steady room. inr refl) known;
}

-- ---- a refusal

tells : (came : Status) (known : Option Outcome) (P Q : List ℕ → Type 0)
    → ((text : List ℕ) → P text → Q text) → TellsRefusal came known P → TellsRefusal came known Q
tells came known P Q more is = record {
  cause = is.cause;
  of_status = is.of_status;
  told = more _ is.told;
  of_outcome = is.of_outcome;
  of_words = is.of_words;
}

pub promised-refusal : (came : Status) (known : Option Outcome) (reads no_room : Type 0)
    (own own_prefix own_told took took_prefix told : List ℕ → Type 0) → (reads → ⊥)
    → came ≢ status.Done → ((text : List ℕ) → own_told text → told text)
    → Promises came known reads Never own own_prefix own_told
    → Promises came known ⊥ no_room took took_prefix told
promised-refusal came known reads no_room own own_prefix own_told took took_prefix told steady other more is = record {
  done = λ e. absurd (other e);
  usage = is.usage;
  bad_data = is.bad_data;
  too_wide = is.too_wide;
  read_fault = λ e. steady (is.read_fault e);
  write_fault = λ e. absurd (never (is.write_fault e));
  prefix = λ e. absurd (never (is.write_fault e));
  line = λ e. tells came known own_told told more (is.line e);
  complete = weaker _ _ (λ o completed asked source room. completed asked steady never) known is.complete;
}

-- ---- a report

pub promised-report : (known : Option Outcome) (reads no_room : Type 0)
    (own own_prefix own_told took took_prefix told : List ℕ → Type 0)
    → ((text : List ℕ) → own text → took text)
    → Promises status.Done known reads Never own own_prefix own_told
    → Promises status.Done known ⊥ no_room took took_prefix told
promised-report known reads no_room own own_prefix own_told took took_prefix told more is = record {
  done = λ e. weaker _ _ (reports-more own took more) known (is.done e);
  usage = is.usage;
  bad_data = is.bad_data;
  too_wide = is.too_wide;
  read_fault = λ e. absurd cc;
  write_fault = λ e. absurd cc;
  prefix = λ e. absurd cc;
  line = λ other. absurd (other refl);
  complete = each _ (λ o asked steady room. inl refl) known;
}

-- ---- a report that has no room

not-asked : (expected : Status) → (status.Done ≡ expected → ⊥)
    → (status.Done ≡ expected) ⊎ (status.Done ≡ status.ReadFault) ⊎ (status.Done ≡ status.NoMemory)
    → ⊥
not-asked expected other (inl e) = other e
not-asked expected other (inr (inl e)) = cc e
not-asked expected other (inr (inr e)) = cc e

in-its-place : (expected : Status) → (status.Done ≡ expected → ⊥)
    → (status.WriteFault ≡ expected → ⊥) → (o : Outcome) → ComesExactly status.Done expected o
    → ComesExactly status.WriteFault expected o
in-its-place expected done full o exact = record {
  only = λ e. absurd (full e);
  always = λ asked. absurd (not-asked expected done (exact.always asked));
}

pub promised-no_room : (known : Option Outcome) (out : List ℕ) (reads : Type 0)
    (own own_prefix own_told took told : List ℕ → Type 0)
    → ((text : List ℕ) → own text → IsTooLong out text)
    → told (refusal_line_text refusal.WriteFault)
    → Promises status.Done known reads Never own own_prefix own_told
    → Promises status.WriteFault known ⊥ (HasNoRoom known out) took (IsTooLong out) told
promised-no_room known out reads own own_prefix own_told took told more line is =
    let room : HasNoRoom known out =
    weaker _ _ (reports-more own (IsTooLong out) more) known (is.done refl) in
    record {
      done = λ e. absurd cc;
      usage = weaker _ _ (in-its-place status.Usage (λ e. cc) (λ e. cc)) known is.usage;
      bad_data = weaker _ _ (in-its-place status.BadData (λ e. cc) (λ e. cc)) known is.bad_data;
      too_wide = weaker _ _ (in-its-place status.TooWide (λ e. cc) (λ e. cc)) known is.too_wide;
      read_fault = λ e. absurd cc;
      write_fault = λ e. room;
      prefix = λ e. room;
      line = λ other. record { cause = refusal.WriteFault; of_status = refl; told = line; of_outcome = λ own. absurd own; of_words = λ own. absurd own };
      complete = each _ (λ o asked steady fits. absurd (fits room)) known;
    }
