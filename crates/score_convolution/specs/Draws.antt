-- Draws of subjects, who are drawn one by one or left.
use Rattle.std.specs.Prelude.{ℕ, ℤ, pos, ◌+◌, ◌+ℤ◌, List, [], ◌∷◌}

-- what f says of how many subjects are drawn and what their scores sum to, n others that sum to v
-- among them, over all ways to draw some of those with these scores
abbrev pub draw_sum : (ℕ → ℤ → ℕ) → ℕ → ℤ → List ℤ → ℕ
draw_sum f n v [] = f n v
draw_sum f n v (s ∷ scores) = draw_sum f n v scores + draw_sum f (n + 1) (v +ℤ s) scores

-- what scores sum to
abbrev pub score_total : List ℤ → ℤ
score_total [] = pos 0
score_total (s ∷ scores) = s +ℤ score_total scores
