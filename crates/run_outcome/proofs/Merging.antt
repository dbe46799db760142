-- What is promised of a run that puts pieces together, by how it ended.
use Rattle.std.proofs.Common.{◌≡◌, ◌≢◌, ◌⊎◌, inl, inr, ℕ, List, Bool, true, false, Option, Some, None, Ok, Err, refl, subst, arith}
use Rattle.std.specs.Prelude.{IfSome}
use Rattle.piece_texts.specs.declared.merging.MergeFault.{MergeFault}
use Rattle.piece_texts.specs.declared.merging.MergeFault.TheVariants as fault
use Rattle.piece_texts.specs.declared.merging.Merged.{Merged}
use Rattle.piece_texts.specs.declared.piece.Piece.{Piece}
use Rattle.piece_texts.specs.Merges.{IsMergeable, MergeGives}
use Rattle.piece_texts.specs.Places.{IsFirst, NoneBelow}
use Rattle.report.specs.Refusals.{refusal_line_text}
use Rattle.report.specs.declared.refusals.Refusal.{Refusal}
use Rattle.report.specs.declared.refusals.Refusal.TheVariants as refusal
use Rattle.run_outcome.specs.MergedRuns.{MergeComes, MergeOutcome, MergePromises, MergesTo}
use Rattle.run_outcome.specs.Outcome.{Outcome}
use Rattle.run_outcome.specs.Promises.{ComesExactly, status_asked, status_of}
use Rattle.run_outcome.specs.Questions.{Questions}
use Rattle.run_outcome.specs.declared.status.Status.{Status}
use Rattle.run_outcome.specs.declared.status.Status.TheVariants as status
use Rattle.run_outcome.proofs.AllParts.{all-parts-merge}
use Rattle.run_outcome.proofs.OneReading.{texts-once}
use Rattle.run_outcome.proofs.Undivided.{writes-undivided}

-- ---- bytes do not come to a report and to a refusal

no-first : (p : ℕ → Bool) (n k : ℕ) → NoneBelow p n → IsFirst p n k → ⊥
no-first p n k none first =
    let yes : p k ≡ true = first.passes in
    let no : p k ≡ false = none k first.within in
    cc

merged-once : (pieces : List Piece) (f : MergeFault) → (f ≡ fault.NoMemory → ⊥) → IsMergeable pieces → MergeGives pieces (Err f) → ⊥
merged-once pieces (fault.Foreign k) known able is = no-first _ _ is.place able.0.0.0 is.first
merged-once pieces (fault.Doubled k) known able is = no-first _ _ is.1.place able.0.0.1 is.1.first
merged-once pieces (fault.Missing part) known able is = no-first _ _ part able.0.1 is.1
merged-once pieces (fault.Unequal k) known able is = no-first _ _ is.1.place able.1 is.1.first
merged-once pieces fault.NoMemory known able is = absurd (known refl)

merges-once : (bytes : List ℕ) (merged : Merged) (f : MergeFault) → (f ≡ fault.NoMemory → ⊥) → MergesTo bytes (Ok merged) → MergesTo bytes (Err f) → ⊥
merges-once bytes merged f known a b =
    let same : b.0 ≡ a.0 = texts-once bytes b.0 a.0 b.1 a.1 in
    merged-once a.0 f known a.2.0 (subst (λ pieces. MergeGives pieces (Err f)) same b.2)

not-both : (bytes text : List ℕ) (cause : Refusal) → MergeOutcome bytes (Ok text) → MergeOutcome bytes (Err cause) → ⊥
not-both bytes text (refusal.Usage fault) a b = b.1
not-both bytes text (refusal.Unfit name) a b = b.1
not-both bytes text (refusal.Row fault) a b = b.1
not-both bytes text refusal.TooLong a b = omega (arith, a.0, b)
not-both bytes text (refusal.PieceLine number) a b = b.1.none a.1.1.0 a.1.1.1
not-both bytes text (refusal.Foreign piece) a b = merges-once bytes a.1.0 (fault.Foreign piece) (λ e. cc) a.1.1 b.1
not-both bytes text (refusal.Doubled piece) a b = merges-once bytes a.1.0 (fault.Doubled piece) (λ e. cc) a.1.1 b.1
not-both bytes text (refusal.MissingPart part) a b = merges-once bytes a.1.0 (fault.Missing part) (λ e. cc) a.1.1 b.1
not-both bytes text (refusal.Unequal piece) a b = merges-once bytes a.1.0 (fault.Unequal piece) (λ e. cc) a.1.1 b.1
not-both bytes text (refusal.TooWide what) a b = b.1
not-both bytes text refusal.ReadFault a b = b.1
not-both bytes text refusal.WriteFault a b = b.1
not-both bytes text refusal.NoMemory a b = b.1

-- a refusal of bytes is one of bad data
bad-data : (bytes : List ℕ) (cause : Refusal) → MergeOutcome bytes (Err cause) → status_of cause ≡ status.BadData
bad-data bytes (refusal.Usage fault) is = absurd is.1
bad-data bytes (refusal.Unfit name) is = absurd is.1
bad-data bytes (refusal.Row fault) is = refl
bad-data bytes refusal.TooLong is = refl
bad-data bytes (refusal.PieceLine number) is = refl
bad-data bytes (refusal.Foreign piece) is = refl
bad-data bytes (refusal.Doubled piece) is = refl
bad-data bytes (refusal.MissingPart part) is = refl
bad-data bytes (refusal.Unequal piece) is = refl
bad-data bytes (refusal.TooWide what) is = absurd is.1
bad-data bytes refusal.ReadFault is = absurd is.1
bad-data bytes refusal.WriteFault is = absurd is.1
bad-data bytes refusal.NoMemory is = absurd is.1

not-bad : (bytes text : List ℕ) (outcome : Outcome) → MergeOutcome bytes (Ok text) → MergeOutcome bytes outcome → status_asked outcome ≡ status.BadData → ⊥
not-bad bytes text (Ok other) a b asked = cc
not-bad bytes text (Err cause) a b asked = not-both bytes text cause a b

always-bad : (bytes : List ℕ) (cause : Refusal) (outcome : Outcome) → MergeOutcome bytes (Err cause) → MergeOutcome bytes outcome → status_asked outcome ≡ status.BadData
always-bad bytes cause (Ok text) a b = absurd (not-both bytes text cause b a)
always-bad bytes cause (Err other) a b = bad-data bytes other b

-- ---- over the bytes, where they are told

weaker : (P Q : List ℕ → Type 0) → ((bytes : List ℕ) → P bytes → Q bytes) → (held : Option (List ℕ)) → IfSome held P → IfSome held Q
weaker P Q more None is = tt
weaker P Q more (Some bytes) is = more bytes is

each : (P : List ℕ → Type 0) → ((bytes : List ℕ) → P bytes) → (held : Option (List ℕ)) → IfSome held P
each P all None = tt
each P all (Some bytes) = all bytes

-- ---- a report

none-asked : (answer : Status) (text : List ℕ) → (answer ≡ status.BadData → ⊥) → (bytes : List ℕ) → MergeOutcome bytes (Ok text)
    → (outcome : Outcome) → MergeOutcome bytes outcome → ComesExactly answer status.BadData outcome
none-asked answer text other bytes is outcome comes =
    record { only = λ e. absurd (other e); always = λ asked. absurd (not-bad bytes text outcome is comes asked) }

pub merging-done : (questions : Questions) (held : Option (List ℕ)) (text : List ℕ) (source_rose out_rose : Type 0) (took took_prefix told : List ℕ → Type 0)
    → IfSome held (λ bytes. MergeOutcome bytes (Ok text)) → took text → MergePromises questions status.Done held source_rose out_rose took took_prefix told
merging-done questions held text source_rose out_rose took took_prefix told is written = record {
  done = λ e. weaker _ _ (λ bytes comes. (text, comes, written)) held is;
  undivided = λ e. weaker _ _ (λ bytes comes. writes-undivided questions took bytes (text, comes, written)) held is;
  prefix = λ e. absurd cc;
  line = λ other. absurd (other refl);
  bad_data = weaker _ _ (none-asked status.Done text (λ e. cc)) held is;
  complete = each _ (λ bytes outcome comes asked steady room. inl refl) held;
  never = (λ e. cc, λ e. cc);
  all_parts = each _ (all-parts-merge questions) held;
}

pub merging-write_fault : (questions : Questions) (held : Option (List ℕ)) (text : List ℕ) (source_rose out_rose : Type 0) (took took_prefix told : List ℕ → Type 0)
    → IfSome held (λ bytes. MergeOutcome bytes (Ok text)) → out_rose → took_prefix text → told (refusal_line_text refusal.WriteFault)
    → MergePromises questions status.WriteFault held source_rose out_rose took took_prefix told
merging-write_fault questions held text source_rose out_rose took took_prefix told is rose written line = record {
  done = λ e. absurd cc;
  undivided = λ e. absurd cc;
  prefix = λ e. weaker _ _ (λ bytes comes. (text, comes, written)) held is;
  line = λ other. record { cause = refusal.WriteFault; of_status = refl; told = line; of_bytes = λ own. absurd own };
  bad_data = weaker _ _ (none-asked status.WriteFault text (λ e. cc)) held is;
  complete = each _ (λ bytes outcome comes asked steady room. absurd (room rose)) held;
  never = (λ e. cc, λ e. cc);
  all_parts = each _ (all-parts-merge questions) held;
}

-- ---- a refusal

by-bytes : (questions : Questions) (cause : Refusal) (held : Option (List ℕ)) (source_rose out_rose : Type 0) (took took_prefix told : List ℕ → Type 0)
    → (status_of cause ≢ status.Usage) × (status_of cause ≢ status.TooWide)
    → IfSome held (λ bytes. MergeOutcome bytes (Err cause)) → told (refusal_line_text cause)
    → MergePromises questions (status_of cause) held source_rose out_rose took took_prefix told
by-bytes questions cause None source_rose out_rose took took_prefix told never is line = record {
  done = λ e. tt;
  undivided = λ e. tt;
  prefix = λ e. tt;
  line = λ other. record { cause = cause; of_status = refl; told = line; of_bytes = λ own. tt };
  bad_data = tt;
  complete = tt;
  never = never;
  all_parts = tt;
}
by-bytes questions cause (Some bytes) source_rose out_rose took took_prefix told never is line =
    let bad : status_of cause ≡ status.BadData = bad-data bytes cause is in
    record {
      done = λ e. absurd (not-done bad e);
      undivided = λ e. absurd (not-done bad e);
      prefix = λ e. absurd (not-written bad e);
      line = λ other. record { cause = cause; of_status = refl; told = line; of_bytes = λ own. is };
      bad_data = λ outcome comes. record { only = λ e. always-bad bytes cause outcome is comes; always = λ asked. inl bad };
      complete = λ outcome comes asked steady room. absurd (not-done (always-bad bytes cause outcome is comes) asked);
      never = never;
      all_parts = all-parts-merge questions bytes;
    }
  where
    not-done : {answer : Status} → answer ≡ status.BadData → answer ≡ status.Done → ⊥
    not-done {answer} bad e = cc

    not-written : {answer : Status} → answer ≡ status.BadData → answer ≡ status.WriteFault → ⊥
    not-written {answer} bad e = cc

came-first : (answer : Status) → (answer ≡ status.BadData → ⊥) → (answer ≡ status.ReadFault) ⊎ (answer ≡ status.NoMemory)
    → (bytes : List ℕ) (outcome : Outcome) → MergeOutcome bytes outcome → ComesExactly answer status.BadData outcome
came-first answer other first bytes outcome comes = record { only = λ e. absurd (other e); always = λ asked. inr first }

by-source : (questions : Questions) (held : Option (List ℕ)) (source_rose out_rose : Type 0) (took took_prefix told : List ℕ → Type 0) → source_rose → told (refusal_line_text refusal.ReadFault)
    → MergePromises questions status.ReadFault held source_rose out_rose took took_prefix told
by-source questions held source_rose out_rose took took_prefix told rose line = record {
  done = λ e. absurd cc;
  undivided = λ e. absurd cc;
  prefix = λ e. absurd cc;
  line = λ other. record { cause = refusal.ReadFault; of_status = refl; told = line; of_bytes = λ own. absurd own };
  bad_data = each _ (came-first status.ReadFault (λ e. cc) (inl refl)) held;
  complete = each _ (λ bytes outcome comes asked steady room. absurd (steady rose)) held;
  never = (λ e. cc, λ e. cc);
  all_parts = each _ (all-parts-merge questions) held;
}

by-memory : (questions : Questions) (held : Option (List ℕ)) (source_rose out_rose : Type 0) (took took_prefix told : List ℕ → Type 0) → told (refusal_line_text refusal.NoMemory)
    → MergePromises questions status.NoMemory held source_rose out_rose took took_prefix told
by-memory questions held source_rose out_rose took took_prefix told line = record {
  done = λ e. absurd cc;
  undivided = λ e. absurd cc;
  prefix = λ e. absurd cc;
  line = λ other. record { cause = refusal.NoMemory; of_status = refl; told = line; of_bytes = λ own. absurd own };
  bad_data = each _ (came-first status.NoMemory (λ e. cc) (inr refl)) held;
  complete = each _ (λ bytes outcome comes asked steady room. inr refl) held;
  never = (λ e. cc, λ e. cc);
  all_parts = each _ (all-parts-merge questions) held;
}

pub merging-refused : (questions : Questions) (cause : Refusal) (held : Option (List ℕ)) (source_rose out_rose : Type 0) (took took_prefix told : List ℕ → Type 0)
    → MergeComes source_rose held (Err cause) → told (refusal_line_text cause) → MergePromises questions (status_of cause) held source_rose out_rose took took_prefix told
merging-refused questions (refusal.Usage fault) held s o t p told is line = absurd is
merging-refused questions (refusal.Unfit name) held s o t p told is line = absurd is
merging-refused questions (refusal.Row fault) held s o t p told is line = by-bytes questions (refusal.Row fault) held s o t p told (λ e. cc, λ e. cc) is line
merging-refused questions refusal.TooLong held s o t p told is line = by-bytes questions refusal.TooLong held s o t p told (λ e. cc, λ e. cc) is line
merging-refused questions (refusal.PieceLine number) held s o t p told is line = by-bytes questions (refusal.PieceLine number) held s o t p told (λ e. cc, λ e. cc) is line
merging-refused questions (refusal.Foreign piece) held s o t p told is line = by-bytes questions (refusal.Foreign piece) held s o t p told (λ e. cc, λ e. cc) is line
merging-refused questions (refusal.Doubled piece) held s o t p told is line = by-bytes questions (refusal.Doubled piece) held s o t p told (λ e. cc, λ e. cc) is line
merging-refused questions (refusal.MissingPart part) held s o t p told is line = by-bytes questions (refusal.MissingPart part) held s o t p told (λ e. cc, λ e. cc) is line
merging-refused questions (refusal.Unequal piece) held s o t p told is line = by-bytes questions (refusal.Unequal piece) held s o t p told (λ e. cc, λ e. cc) is line
merging-refused questions (refusal.TooWide what) held s o t p told is line = absurd is
merging-refused questions refusal.WriteFault held s o t p told is line = absurd is
merging-refused questions refusal.ReadFault held s o t p told is line = by-source questions held s o t p told is line
merging-refused questions refusal.NoMemory held s o t p told is line = by-memory questions held s o t p told line
