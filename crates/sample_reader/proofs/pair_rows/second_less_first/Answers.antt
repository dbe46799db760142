use Rattle.std.proofs.Common.{◌≡◌, ℕ, ◌≤◌, ◌++◌, ◌∷◌, [], ◌-ℤ◌, ℤ, List, length, take, get_or, pos, ap, sym, ◌∙◌, arith, rules}
use Rattle.std.proofs.lemmas.List.{take_all}
use Rattle.std.proofs.lemmas.Int.{ints}
use Rattle.sample_reader.specs.CellLayouts.{second_less_first}
use Rattle.sample_reader.proofs.WholePairs.{differences-below, length-second_less_first, second_less_first-more}
use Rattle.sample_reader.proofs.pair_rows.second_less_first.Goals as goal

pub loop-pair-preserved : goal.loop-pair-preserved
loop-pair-preserved c =
    let first = c.args.first.now in
    let second = c.args.second.now in
    let pair = c.loop-pair.pair in
    let low = c.requires.first_in_range pair (pos 0) c.loop-pair-test.true in
    let high = c.requires.second_in_range pair (pos 0) (omega arith) in
    let is : c.difference.result ≡ get_or second pair (pos 0) -ℤ get_or first pair (pos 0) = omega (arith, ints, c.difference.ensures.difference, low, high) in
    let more = second_less_first-more first second pair (pos 0) (pos 0) c.loop-pair-test.true (omega arith) in
    let pushed : c.push.new.self ≡ c.loop-pair.differences ++ c.difference.result ∷ [] = search (rules, c.in_ok-push.ensures.ok) in
    pushed ∙ ap (λ differences. differences ++ c.difference.result ∷ []) c.loop-pair.invariant
    ∙ ap (λ difference. second_less_first (take pair first) (take pair second) ++ difference ∷ []) is ∙ sym more

all_pairs : (first second differences : List ℤ) (pair : ℕ) → length first ≤ pair → length first ≡ length second → differences ≡ second_less_first (take pair first) (take pair second)
    → differences ≡ second_less_first first second
all_pairs first second differences pair past same so_far = let all = take_all pair first past in let all_second = take_all pair second (omega arith) in rw (all, all_second) at so_far

pub returns-clause-one_each : goal.returns-clause-one_each
returns-clause-one_each c =
    let first = c.args.first.now in
    let second = c.args.second.now in
    let so_far = all_pairs first second c.loop-pair.differences c.loop-pair.pair c.loop-pair-test.false c.requires.same_length c.loop-pair.invariant in
    ap length so_far ∙ length-second_less_first first second c.requires.same_length

pub returns-clause-in_range : goal.returns-clause-in_range
returns-clause-in_range c =
    let first = c.args.first.now in
    let second = c.args.second.now in
    let so_far = all_pairs first second c.loop-pair.differences c.loop-pair.pair c.loop-pair-test.false c.requires.same_length c.loop-pair.invariant in
    rw so_far (differences-below first second c.requires.first_in_range c.requires.second_in_range)
