use Rattle.std.proofs.Common.{◌≡◌, ◌-◌, ◌^◌, ◌<◌, ℕ, false}
use Rattle.std.specs.List.{list_all}
use Rattle.scores.specs.RawScores.{is_whole}
use Rattle.scores.proofs.whole.greatest_unit.Given as goal

abbrev pub invariant-loop-decimals : goal.invariant-loop-decimals
invariant-loop-decimals l = record {
  unit : l.unit ≡ 10 ^ (18 - l._decimals);
  none : (d : ℕ) → d < l._decimals → list_all (is_whole d) l.values ≡ false;
}
