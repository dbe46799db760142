-- The later scores of one stage after another are no more than all of them.
use Rattle.std.proofs.Common.{◌≡◌, ℕ, zero, suc, ◌+◌, ◌<◌, ◌≤◌, ◌^◌, List, [], ◌∷◌, ◌++◌, length, drop, arith}
use Rattle.std.specs.Prelude.{ℤ, pos, replicate, slice_index, slice_index_or}
use Rattle.std.specs.List.{sum}
use Rattle.std.proofs.lemmas.List.Sums.{sum_by-take-drop, sum_by-drop_more}
use Rattle.later_scores.specs.LaterSums.{subjects, later_scores}
use Rattle.weights.specs.Numbers.{absolute_sum}
use Rattle.later_scores.proofs.Absolute.{sizes-block}
use Rattle.later_scores.proofs.Later.{later-next, later-length}

pub sizes-some : (g : ℕ) (ss : List ℤ) (cs : List ℕ) → absolute_sum (subjects (drop g ss) (drop g cs)) ≤ absolute_sum (subjects ss cs)
sizes-some zero ss cs = omega arith
sizes-some (suc g) [] cs = omega arith
sizes-some (suc g) (s ∷ ss) [] = none (drop g ss)
  where
    none : (zs : List ℤ) → absolute_sum (subjects zs []) ≤ 0
    none [] = omega arith
    none (z ∷ zs) = omega arith
sizes-some (suc g) (s ∷ ss) (c ∷ cs) = omega (arith, sizes-some g ss cs, sizes-block c s (subjects ss cs))

module _ (scores : List ℤ) (columns : List ℕ) (e : length scores ≡ length columns) where
  pub later-small : (g : ℕ) (n : ℕ) → absolute_sum (later_scores scores columns 0) < n → absolute_sum (later_scores scores columns g) < n
  later-small g n h = omega (arith, h, sizes-some g scores columns)

  pub count-fits : (g before : ℕ) → g < length columns → before ≡ length (later_scores scores columns (g + 1)) → sum columns < 2 ^ 64 → before + slice_index columns g < 2 ^ 64
  count-fits g before h b few =
      omega (arith, few, b, later-length scores columns (g + 1) e, (sum_by-drop_more (λ v. v) columns g 0 h), (sum_by-take-drop (λ v. v) columns g))

  pub count-next : (g before : ℕ) → g < length columns → before ≡ length (later_scores scores columns (g + 1)) → before + slice_index columns g ≡ length (later_scores scores columns g)
  count-next g before h b =
      omega (arith, b, later-length scores columns (g + 1) e, later-length scores columns g e, (sum_by-drop_more (λ v. v) columns g 0 h))

  pub next-small : (g : ℕ) → g < length columns → absolute_sum (later_scores scores columns 0) < 2 ^ 127 → absolute_sum (replicate (slice_index columns g) (slice_index_or scores g (pos 0)) ++ later_scores scores columns (g + 1)) < 2 ^ 127
  next-small g h small = rw (← later-next scores columns g h e) (later-small g (2 ^ 127) small)
