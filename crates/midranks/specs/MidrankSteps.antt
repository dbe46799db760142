-- Doubled midranks, tie group by tie group.
use Rattle.std.specs.Prelude.{ℕ, ◌+◌, ◌*◌, List, [], ◌∷◌}
use Rattle.midranks.specs.declared.ties.Tie.{Tie}

-- the doubled midranks of groups that come after so many lesser values
abbrev pub ranks_after : ℕ → List Tie → List ℕ
ranks_after before [] = []
ranks_after before (t ∷ ts) = (2 * before + t.count + 1) ∷ ranks_after (before + t.count) ts
