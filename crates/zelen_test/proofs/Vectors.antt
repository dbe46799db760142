-- Worked rows of the definition, by computation.
use Rattle.std.specs.Prelude.{◌≡◌, ℕ, pos, List, [], ◌∷◌}
use Rattle.std.proofs.Common.{refl}
use Rattle.weights.specs.Conditional.{numerator, observed_statistic, total}
use Rattle.weights.specs.declared.tails.Tail.TheVariants.{Two}
use Rattle.zelen_test.specs.Zelen.{zelen_test}

-- 4 0 and 0 4, and 1 1 and 1 1
abbrev apart : List ℕ
apart = 4 ∷ 0 ∷ 0 ∷ 4 ∷ 1 ∷ 1 ∷ 1 ∷ 1 ∷ []

apart_statistic : observed_statistic (zelen_test apart) ≡ pos 4
apart_statistic = refl

apart_scale : (zelen_test apart).scale ≡ 20
apart_scale = refl

apart_total : total (zelen_test apart) ≡ 20
apart_total = refl

apart_two : numerator (zelen_test apart) Two ≡ 4
apart_two = refl

-- 3 1 and 1 3, and 2 0 and 0 2
abbrev alike : List ℕ
alike = 3 ∷ 1 ∷ 1 ∷ 3 ∷ 2 ∷ 0 ∷ 0 ∷ 2 ∷ []

alike_statistic : observed_statistic (zelen_test alike) ≡ pos 16
alike_statistic = refl

alike_total : total (zelen_test alike) ≡ 20
alike_total = refl

alike_two : numerator (zelen_test alike) Two ≡ 20
alike_two = refl
