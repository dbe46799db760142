-- The values of a file that is read make a bivariate sample.
use Rattle.std.proofs.Common.{◌≡◌, ℕ, ◌+◌, List, [], ◌∷◌, length, Ok, refl, sym, ap, ◌∙◌, arith}
use Rattle.std.proofs.lemmas.Bool.Decides.{nat_tests}
use Rattle.std.proofs.lemmas.List.{length_push}
use Rattle.record_reader.specs.declared.missing.Missing.{Missing}
use Rattle.record_reader.specs.declared.picks.Picks.{Picks}
use Rattle.record_reader.specs.Layouts.{MayPick, read_in, with_fields}
use Rattle.record_reader.proofs.LayoutLemmas.{IsRead, picked-many, read_in-ok, with_rows-keep}
use Rattle.sample_reader.specs.Twins.{twin_layout, twin_shape}
use Rattle.sample_reader.specs.CellLayouts.{PairValues, no_pairs, with_pair_value}
use Rattle.sample_reader.specs.Kept.{AreWholeTwins}
use Rattle.sample_reader.proofs.WholePairs.{one_value}

-- what is true of the values of so many rows
record HaveRows (rows : ℕ) (pairs : PairValues) : Type 0 where
  pub first : length pairs.first ≡ rows
  pub second : length pairs.second ≡ rows

one_row : (number rows : ℕ) (fields : List ℕ) (row : List (List ℕ)) (s t : PairValues) → length fields ≡ 2 → HaveRows rows s → with_fields twin_layout number row 0 fields s ≡ Ok t → HaveRows (rows + 1) t
one_row number rows [] row s t two have e = absurd (omega arith)
one_row number rows (a ∷ []) row s t two have e = absurd (omega arith)
one_row number rows (a ∷ b ∷ []) row s t two have e =
    let first = one_value number 0 a (b ∷ []) row s t e in
    let second = one_value number 1 b [] row (with_pair_value 0 s first.0) t first.1 in
    let same : with_pair_value 1 (with_pair_value 0 s first.0) second.0 ≡ t = let k = second.1 in cc in
    rw (← same) (record { first = length_push s.first first.0 ∙ ap (λ n. n + 1) have.first; second = length_push s.second second.0 ∙ ap (λ n. n + 1) have.second })
one_row number rows (a ∷ b ∷ d ∷ fields) row s t two have e = absurd (omega arith)

whole : (missing : Missing) (picks : Picks) (rows : List (List (List ℕ))) (pairs : PairValues) (fields : List ℕ) → MayPick 2 2 picks → IsRead twin_layout missing picks rows pairs fields → AreWholeTwins pairs
whole missing picks rows pairs fields may read =
    let many = picked-many twin_shape picks (length read.header) fields may read.fields_are in
    let two : length fields ≡ 2 = omega (arith, many.0, many.1) in
    let none : HaveRows 0 no_pairs = record { first = refl; second = refl } in
    let kept = with_rows-keep twin_layout missing (length read.header) fields HaveRows (λ number n row s t have e. one_row number n fields row s t two have e)
    2 0 read.rest no_pairs pairs (omega arith) none read.rows_say in
    record {
      not_empty = let test = read.enough in grind (arith, nat_tests);
      few_enough = omega (arith, kept.few, kept.all, kept.holds.first);
      two_each = kept.holds.second ∙ sym kept.holds.first;
    }

pub twins-whole : (missing : Missing) (picks : Picks) (rows : List (List (List ℕ))) (pairs : PairValues) → MayPick 2 2 picks → read_in twin_layout missing picks rows ≡ Ok pairs → AreWholeTwins pairs
twins-whole missing picks rows pairs may e = let read = read_in-ok twin_layout missing picks rows pairs e in whole missing picks rows pairs read.0 may read.1
