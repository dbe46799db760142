-- Worked values of the definitions, by computation.
use Rattle.std.specs.Prelude.{◌≡◌, ℕ, ℤ, pos, negsuc, List, [], ◌∷◌}
use Rattle.std.proofs.Common.{refl}
use Rattle.weights.specs.Numbers.{lcm}
use Rattle.midranks.specs.Midranks.{doubled_midrank, number_below, number_equal}
use Rattle.midranks.specs.Ties.{tie_groups}
use Rattle.scores.specs.PlaceScores.{ansari_place, common_multiple, median_place, mood_place, place_scores, savage_place}
use Rattle.scores.specs.RawScores.{decimals, is_whole, raw_score}
use Rattle.scores.specs.Scores.{averaged, common_size, scale_of, score_list, score_sum}
use Rattle.scores.specs.declared.kinds.ScoreKind.{ScoreKind}
use Rattle.scores.specs.declared.kinds.ScoreKind.TheVariants.{Wilcoxon, Ansari, Mood, Savage, Median, Raw}

-- the scores of a kind, their scale and their sum
abbrev Has : ScoreKind → List ℤ → List ℤ → ℕ → ℕ → Type 0
Has kind values list scale sum = (score_list kind values ≡ list) × (scale_of kind values ≡ scale) × (score_sum kind values ≡ sum)

six_wilcoxon : Has Wilcoxon (pos 1 ∷ pos 2 ∷ pos 2 ∷ pos 2 ∷ pos 3 ∷ pos 3 ∷ []) (pos 2 ∷ pos 6 ∷ pos 6 ∷ pos 6 ∷ pos 11 ∷ pos 11 ∷ []) 2 42
unfolding doubled_midrank number_below number_equal
six_wilcoxon = (refl, refl, refl)

five_ansari : Has Ansari (pos 1 ∷ pos 2 ∷ pos 3 ∷ pos 4 ∷ pos 5 ∷ []) (pos 1 ∷ pos 2 ∷ pos 3 ∷ pos 2 ∷ pos 1 ∷ []) 1 9
unfolding averaged common_size common_multiple lcm tie_groups number_below number_equal place_scores ansari_place
five_ansari = (refl, refl, refl)

four_mood : Has Mood (pos 1 ∷ pos 2 ∷ pos 3 ∷ pos 4 ∷ []) (pos 9 ∷ pos 1 ∷ pos 1 ∷ pos 9 ∷ []) 4 20
unfolding averaged common_size common_multiple lcm tie_groups number_below number_equal place_scores mood_place
four_mood = (refl, refl, refl)

three_savage : Has Savage (pos 1 ∷ pos 2 ∷ pos 3 ∷ []) (pos 2 ∷ pos 5 ∷ pos 11 ∷ []) 6 18
unfolding averaged common_size common_multiple lcm tie_groups number_below number_equal place_scores savage_place
three_savage = (refl, refl, refl)

six_median : Has Median (pos 1 ∷ pos 2 ∷ pos 2 ∷ pos 2 ∷ pos 3 ∷ pos 3 ∷ []) (pos 0 ∷ pos 2 ∷ pos 2 ∷ pos 2 ∷ pos 6 ∷ pos 6 ∷ []) 6 18
unfolding averaged common_size common_multiple lcm tie_groups number_below number_equal place_scores median_place
six_median = (refl, refl, refl)

-- the middle of three is not above the median
three_median : Has Median (pos 1 ∷ pos 2 ∷ pos 3 ∷ []) (pos 0 ∷ pos 0 ∷ pos 1 ∷ []) 1 1
unfolding averaged common_size common_multiple lcm tie_groups number_below number_equal place_scores median_place
three_median = (refl, refl, refl)

-- 1.5, 2.5 and 4
three_raw : Has Raw (pos 1500000000000000000 ∷ pos 2500000000000000000 ∷ pos 4000000000000000000 ∷ []) (pos 15 ∷ pos 25 ∷ pos 40 ∷ []) 10 80
unfolding decimals is_whole raw_score
three_raw = (refl, refl, refl)

-- -0.01 and 3
two_raw : Has Raw (negsuc 9999999999999999 ∷ pos 3000000000000000000 ∷ []) (negsuc 0 ∷ pos 300 ∷ []) 100 301
unfolding decimals is_whole raw_score
two_raw = (refl, refl, refl)

-- ties everywhere, in any order
abbrev tied : List ℤ
tied = pos 5 ∷ negsuc 2 ∷ pos 5 ∷ negsuc 2 ∷ pos 0 ∷ []

tied_ansari : Has Ansari tied (pos 3 ∷ pos 3 ∷ pos 3 ∷ pos 3 ∷ pos 6 ∷ []) 2 18
unfolding averaged common_size common_multiple lcm tie_groups number_below number_equal place_scores ansari_place
tied_ansari = (refl, refl, refl)

tied_mood : Has Mood tied (pos 20 ∷ pos 20 ∷ pos 20 ∷ pos 20 ∷ pos 0 ∷ []) 8 80
unfolding averaged common_size common_multiple lcm tie_groups number_below number_equal place_scores mood_place
tied_mood = (refl, refl, refl)

tied_savage : Has Savage tied (pos 214 ∷ pos 39 ∷ pos 214 ∷ pos 39 ∷ pos 94 ∷ []) 120 600
unfolding averaged common_size common_multiple lcm tie_groups number_below number_equal place_scores savage_place
tied_savage = (refl, refl, refl)

-- one value, and none
one_mood : Has Mood (pos 7 ∷ []) (pos 0 ∷ []) 4 0
unfolding averaged common_size common_multiple lcm tie_groups number_below number_equal place_scores mood_place
one_mood = (refl, refl, refl)

one_savage : Has Savage (pos 7 ∷ []) (pos 1 ∷ []) 1 1
unfolding averaged common_size common_multiple lcm tie_groups number_below number_equal place_scores savage_place
one_savage = (refl, refl, refl)

no_raw : Has Raw [] [] 1 0
unfolding decimals is_whole raw_score
no_raw = (refl, refl, refl)
