-- The weight of the lines so far whose values pass, and the next line.
use Rattle.std.proofs.Common.{◌≡◌, ℕ, ◌+◌, ◌<◌, ◌≤◌, List, length, take, get_or, Bool, true, false, cond, ◌∙◌, ap, arith}
use Rattle.std.specs.Prelude.{ℤ}
use Rattle.std.proofs.lemmas.List.Sums.{sum_by_more, sum_by_more_le_part}
use Rattle.weights.specs.declared.lines.Line.{Line}
use Rattle.networks.specs.Lines.{every, line_sum}

cond-≤ : (b : Bool) (x : ℕ) → cond b x 0 ≤ x
cond-≤ true x = omega arith
cond-≤ false x = omega arith

module _ (p : ℤ → Bool) (lines : List Line) (i : ℕ) (d : Line) where
  pub next-room : i < length lines → line_sum p (take i lines) + (get_or lines i d).weight ≤ line_sum every lines
  next-room h = sum_by_more_le_part (λ l. cond (p l.value) l.weight 0) (λ (l : Line). l.weight) lines i d h (λ l. cond-≤ (p l.value) l.weight)

  pub next-sum : (b : Bool) → i < length lines → p (get_or lines i d).value ≡ b → line_sum p (take (i + 1) lines) ≡ line_sum p (take i lines) + cond b (get_or lines i d).weight 0
  next-sum b h e = sum_by_more (λ l. cond (p l.value) l.weight 0) lines i d h ∙ ap (λ b. line_sum p (take i lines) + cond b (get_or lines i d).weight 0) e
