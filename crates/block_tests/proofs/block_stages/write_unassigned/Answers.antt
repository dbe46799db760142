use Rattle.std.proofs.Common.{◌≡◌, ◌≤◌, ◌++◌, ◌∷◌, ◌∙◌, ℕ, zero, suc, ap, arith, length, refl, replicate, take}
use Rattle.std.specs.Prelude.{pos}
use Rattle.block_tests.proofs.block_stages.write_unassigned.Goals as goal

take-same : {X : Type 0} (k n : ℕ) (x : X) → k ≤ n → take k (replicate n x) ≡ replicate k x
take-same zero n x h = refl
take-same (suc k) zero x h = absurd (omega (arith, h))
take-same (suc k) (suc n) x h = ap (λ xs. x ∷ xs) (take-same k n x (omega (arith, h)))

pub returns : goal.returns
returns c = c.write_key.ensures ∙ ap (λ q. q ++ c.args.sums.now) (take-same (length c.args.sums.now) 8 (pos 1) c.requires.few)
