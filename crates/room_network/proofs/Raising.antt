-- A number that is raised raises both ends of an interval that is made by adding to it.
use Rattle.std.proofs.Common.{◌≡◌, ℕ, ◌∙◌, ap, arith}
use Rattle.std.specs.Prelude.{ℤ, pos, ◌+ℤ◌}
use Rattle.std.proofs.lemmas.Int.{ints}
use Rattle.weights.specs.declared.rules.Rule.{Rule}
use Rattle.networks.specs.Judged.{verdict_of}

sum-raised : (p s : ℤ) (d : ℕ) → (p +ℤ pos d) +ℤ s ≡ (p +ℤ s) +ℤ pos d
sum-raised p s d = omega (arith, ints)

-- what is known of it stays, where it is the same of the raised ends
pub sums-raised : (rule : Rule) (p l h : ℤ) (d : ℕ) → verdict_of rule ((p +ℤ l) +ℤ pos d) ((p +ℤ h) +ℤ pos d) ≡ verdict_of rule (p +ℤ l) (p +ℤ h) → verdict_of rule ((p +ℤ pos d) +ℤ l) ((p +ℤ pos d) +ℤ h) ≡ verdict_of rule (p +ℤ l) (p +ℤ h)
sums-raised rule p l h d told =
    ap (λ z. verdict_of rule z ((p +ℤ pos d) +ℤ h)) (sum-raised p l d)
    ∙ ap (λ z. verdict_of rule ((p +ℤ l) +ℤ pos d) z) (sum-raised p h d)
    ∙ told
