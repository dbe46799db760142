-- The network of a test of one sample: a stage is a distinct score, ascending, with the subjects
-- that have it, and its choice says how many of them are plus. Subjects of one absolute difference
-- share their score, and a greater difference has a greater one; in a sign test all share it.
use Rattle.std.specs.Prelude.{ℕ, pos, ◌+◌, ◌-◌, ◌*ℤ◌, List, [], ◌∷◌, length, map, slice_index, slice_index_or, false}
use Rattle.std.specs.List.{range_with_len}
use Rattle.weights.specs.Numbers.{binomial}
use Rattle.networks.specs.Judged.{judge_of}
use Rattle.networks.specs.declared.verdicts.Judge.{Judge}
use Rattle.weights.specs.declared.tails.Tail.{Tail}
use Rattle.midranks.specs.Ties.{tie_groups}
use Rattle.midranks.specs.declared.ties.Tie.{Tie}
use Rattle.networks.specs.declared.additive.SumValue.TheVariants.{First}
use Rattle.networks.specs.Addends.{Addends, additive_network}
use Rattle.networks.specs.Network.{Network}
use Rattle.one_sample_tests.specs.SignedSamples.{SignedSample, one_sample_test, used_scores}

-- a stage's score, and how many subjects have it
abbrev pub group_at : List Tie → ℕ → Tie
group_at groups stage = slice_index_or groups stage (record { value = pos 0; count = 0 })

-- the choices of n numbers from one on
abbrev pub choices_from : ℕ → ℕ → List (List ℕ)
choices_from least n = map (λ plus. plus ∷ []) (range_with_len least n)

-- the groups of subjects who share a score
abbrev pub mark_addends : List Tie → Judge → Addends
mark_addends groups judge = record {
  count = length groups;
  slots = 1;
  choice_width = 1;
  choices = λ g. choices_from 0 ((group_at groups g).count + 1);
  later = λ g c. choices_from (slice_index c 0 + 1) ((group_at groups g).count - slice_index c 0);
  weight = λ g c. binomial (group_at groups g).count (slice_index c 0);
  adds = λ g c. (pos (slice_index c 0) *ℤ (group_at groups g).value) ∷ [];
  least = λ g. pos 0;
  most = λ g. pos (group_at groups g).count *ℤ (group_at groups g).value;
  sorted = false;
  value = First;
  judge = judge;
}

abbrev pub mark_network : SignedSample → Network
mark_network sample = additive_network
    (mark_addends (tie_groups (used_scores sample)) (judge_of (one_sample_test sample)))

-- one network for all tails
abbrev pub one_sample_network : SignedSample → Tail → Network
one_sample_network sample tail = mark_network sample
