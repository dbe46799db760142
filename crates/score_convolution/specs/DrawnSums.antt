-- Sums of scores that pass a rule.
use Rattle.std.specs.Prelude.{ℕ, ℤ, ◌-◌, ◌+ℤ◌, List, [], ◌∷◌, length}
use Rattle.std.specs.List.{count_by}
use Rattle.weights.specs.Labellings.{labellings, sign_lists}
use Rattle.weights.specs.Rules.{passes}
use Rattle.weights.specs.declared.rules.Rule.{Rule}
use Rattle.scores.specs.Scores.{labelled_sum}

-- how many labellings of two groups, of the second of which there are n subjects, have a sum of the
-- second group's scores that passes a rule
abbrev pub passing_draws : Rule → ℕ → List ℤ → ℕ
passing_draws rule n scores =
    let sizes = (length scores - n) ∷ n ∷ [] in
    count_by (λ xs. passes rule (labelled_sum 1 scores xs)) (labellings sizes)

-- how many lists of signs have a sum of the plus marks' scores that passes one
abbrev pub passing_signs : Rule → List ℤ → ℕ
passing_signs rule scores =
    count_by (λ xs. passes rule (labelled_sum 1 scores xs)) (sign_lists (length scores))

-- how many of them have one that passes with so much that is there already
abbrev pub passing_onward : Rule → ℤ → List ℤ → ℕ
passing_onward rule v scores = count_by (λ xs. passes rule (v +ℤ labelled_sum 1 scores xs))
    (sign_lists (length scores))
