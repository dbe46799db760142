use Rattle.std.specs.Str.{IsUtf8}
use Rattle.std.proofs.Common.{ap, rules, ℕ, Vec, Global, string_bytes}
use Rattle.std.proofs.lemmas.List.{nil_from_length}
use Rattle.packed_words.proofs.Steps.{all_given, all_there, comes_back, ended, lengthened, no_texts, not_ended}
use Rattle.packed_words.proofs.words.Goals as goal
use Rattle.packed_words.proofs.words.Goals.{then-not-is_empty, else-not-is_empty, then-byte-eq0+in-Ok+in_ok-push-in-Ok, else-byte-eq0+in_ok-push}

pub loop-byte-preserved : goal.loop-byte-preserved
loop-byte-preserved c = elim c.if-byte-eq0.branch [
  | then-byte-eq0+in-Ok+in_ok-push-in-Ok w ↦
      rw w.words-is (rw w.begun-is (rw w.new-begun-then-byte-eq0.ensures.items
      (ended string_bytes _ _ w.in-Ok.word _ _ _ c.loop-byte-test.true w.if-byte-eq0.true (ap (λ (bytes : Vec ℕ Global). bytes.items) w.in-Ok.ensures.ok) w.in_ok-push-in-Ok.ensures.items c.loop-byte.invariant)))
  | else-byte-eq0+in_ok-push w ↦
      rw w.words-is (rw w.begun-is
      (lengthened string_bytes _ _ _ _ _ c.loop-byte-test.true w.if-byte-eq0.false w.in_ok-push.ensures.items c.loop-byte.invariant))
]

pub returns-in-Err-clause-texts : goal.returns-in-Err-clause-texts
returns-in-Err-clause-texts c =
    rw c.new.ensures.items
    (no_texts string_bytes _ _ _ _ c.loop-byte-test.true c.if-byte-eq0.true c.loop-byte.invariant (λ (is : IsUtf8 c.loop-byte.begun.items). cc (c.in-Err.ensures.succeeds is)))

pub returns-in-Err-clause-read_back : goal.returns-in-Err-clause-read_back
returns-in-Err-clause-read_back c given texts whole put =
    comes_back _ given _ (returns-in-Err-clause-texts c) texts whole put

pub returns-in-Err-clause-whole : goal.returns-in-Err-clause-whole
returns-in-Err-clause-whole c = all_given string_bytes _ _ (returns-in-Err-clause-texts c)

pub returns-clause-texts : goal.returns-clause-texts
returns-clause-texts c = elim c.if-not-is_empty.branch [
  | then-not-is_empty w ↦
      rw w.words-is (rw w.clear.ensures.items
      (not_ended string_bytes _ c.loop-byte.begun.items _ _ c.loop-byte-test.false (search (rules, c.is_empty.ensures, w.if-not-is_empty.true)) c.loop-byte.invariant))
  | else-not-is_empty w ↦
      rw w.words-is (all_there _ c.loop-byte.begun.items _ _ c.loop-byte-test.false (nil_from_length _ (search (rules, c.is_empty.ensures, w.if-not-is_empty.false))) c.loop-byte.invariant)
]

pub returns-clause-read_back : goal.returns-clause-read_back
returns-clause-read_back c given texts whole put =
    comes_back _ given _ (returns-clause-texts c) texts whole put

pub returns-clause-whole : goal.returns-clause-whole
returns-clause-whole c = all_given string_bytes _ _ (returns-clause-texts c)
