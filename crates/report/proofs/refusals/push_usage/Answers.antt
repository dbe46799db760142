use Rattle.std.proofs.Common.{◌≡◌, ◌≤◌, ◌+◌, length, length-append, codes, arith}
use Rattle.report.proofs.WordLemmas.{word-short}
use Rattle.report.proofs.refusals.push_usage.Goals as goal

pub push-requires-in-Pairing-2 : goal.push-requires-in-Pairing-2
push-requires-in-Pairing-2 c =
    let word : length c.as_bytes.result.now ≤ 12 = rw (c.as_bytes.ensures.value, c.word.ensures.word) (word-short c.in-Pairing.test) in
    let before : length c.push-in-Pairing.new.self ≡ length c.push_option-in-Pairing.new.line + 6 = rw c.push-in-Pairing.ensures (length-append c.push_option-in-Pairing.new.line (codes " with ")) in
    omega (arith, word, before, c.push_option-in-Pairing.ensures.short, c.requires)

pub returns-in-Pairing-clause-short : goal.returns-in-Pairing-clause-short
returns-in-Pairing-clause-short c =
    let word : length c.as_bytes.result.now ≤ 12 = rw (c.as_bytes.ensures.value, c.word.ensures.word) (word-short c.in-Pairing.test) in
    let before : length c.push-in-Pairing.new.self ≡ length c.push_option-in-Pairing.new.line + 6 = rw c.push-in-Pairing.ensures (length-append c.push_option-in-Pairing.new.line (codes " with ")) in
    let after : length c.push-in-Pairing-2.new.self ≡ length c.push-in-Pairing.new.self + length c.as_bytes.result.now = rw c.push-in-Pairing-2.ensures (length-append c.push-in-Pairing.new.self c.as_bytes.result.now) in
    omega (arith, word, before, after, c.push_option-in-Pairing.ensures.short, c.requires)
