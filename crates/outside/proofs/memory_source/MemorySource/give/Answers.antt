use Rattle.std.proofs.Common.{rules, ◌≡◌, ◌≤◌, ℕ, List, length, take, ◌+◌, ◌-◌, ◌++◌, true, drop, arith, ap, sym, ◌∙◌}
use Rattle.std.proofs.lemmas.List.{length-drop}
use Rattle.outside.specs.MemorySource.{Held, bytes_left, counted}
use Rattle.outside.proofs.Joined.{joined}
use Rattle.outside.proofs.memory_source.MemorySource.give.Goals as goal

moves : (old new : Held) (n : ℕ) (c b : List ℕ) → old.is_started ≡ true → new ≡ counted old → n ≤ length (drop new.given new.bytes) → c ≡ take n (drop new.given new.bytes)
    → bytes_left old ≡ take n (c ++ drop n b) ++ bytes_left (record new { given = new.given + n })
moves old new n c b s e le cut =
    let given : new.given ≡ old.given = ap (λ (m : Held). m.given) e in
    let bytes : new.bytes ≡ old.bytes = ap (λ (m : Held). m.bytes) e in
    let started : new.is_started ≡ true = ap (λ (m : Held). m.is_started) e in
    rw (cut, started, s, ← given, ← bytes) (joined n new.given new.bytes b le)

pub returns-clause-moves : goal.returns-clause-moves
returns-clause-moves c =
    let least = c.min-n.ensures in
    let left = c.len.ensures in
    let inv = c.self-2.invariant in
    let n = c.min-n.result in
    let g = c.self-2.inside.given in
    let bs = c.self-2.inside.bytes.items in
    let same : g + n - g ≡ n = omega arith in
    let whole : length bs ≡ c.len.result = search rules in
    let cut : c.copy_from_slice.new.self ≡ take n (drop g bs) = rw (same, c.deref.ensures.value) at c.copy_from_slice.ensures.after in
    let size : length (drop g bs) ≡ length bs - g = length-drop g bs in
    let le : n ≤ length (drop g bs) = omega (arith, least) in
    let start : c.args.self.now.is_started ≡ true = sym (ap (λ (m : Held). m.is_started) c.self.view_is) ∙ c.if-not-self.false in
    moves c.args.self.now _ n _ c.args.buf.now start (c.self-2.view_is ∙ c.count_call.ensures.after) le cut
