use Rattle.std.proofs.Common.{◌≡◌, ◌<◌, ◌≤◌, ◌+◌, ◌∙◌, ℕ, List, get_or, length, map, take, pos, sym, ap, refl, arith}
use Rattle.std.specs.List.{All}
use Rattle.std.proofs.lemmas.List.{get_or-map, length-map, take_all}
use Rattle.std.proofs.lemmas.List.Elements.{recursion_from_All}
use Rattle.weights.specs.Numbers.{lcm}
use Rattle.midranks.specs.declared.ties.Tie.{Tie}
use Rattle.scores.specs.PlaceScores.{common_multiple}
use Rattle.scores.proofs.AverageLemmas.{counts-positive}
use Rattle.scores.proofs.MultipleLemmas.{common_multiple-fits, common_multiple-more}
use Rattle.scores.proofs.multiples.multiple_of_sizes.Goals as goal

abbrev none : Tie
none = record { value = pos 0; count = 0 }

more : (ts : List Tie) (i : ℕ) → i < length ts → common_multiple (take (i + 1) (map (λ (t : Tie). t.count) ts)) ≡ lcm (common_multiple (take i (map (λ (t : Tie). t.count) ts))) (get_or ts i none).count
more ts i h =
    common_multiple-more (map (λ (t : Tie). t.count) ts) i (rw (length-map ts (λ (t : Tie). t.count)) h)
    ∙ ap (lcm (common_multiple (take i (map (λ (t : Tie). t.count) ts)))) (get_or-map (λ (t : Tie). t.count) ts i none 0 h)

fits : (ts : List Tie) (i b : ℕ) → All (λ t. 0 < t.count) ts → i < length ts → common_multiple (map (λ (t : Tie). t.count) ts) ≤ b → lcm (common_multiple (take i (map (λ (t : Tie). t.count) ts))) (get_or ts i none).count ≤ b
fits ts i b some h most =
    rw (← get_or-map (λ (t : Tie). t.count) ts i none 0 h)
    (common_multiple-fits (map (λ (t : Tie). t.count) ts) i b (counts-positive ts (recursion_from_All (λ t. 0 < t.count) ts some)) (rw (length-map ts (λ (t : Tie). t.count)) h) most)

pub loop-tie-init : goal.loop-tie-init
unfolding common_multiple
loop-tie-init c = record { multiple = refl; fits = omega arith }

pub returns-in_err-multiple : goal.returns-in_err-multiple
returns-in_err-multiple c =
    rw c.from_residual.ensures (λ whole. c.in_err-multiple.ensures (rw c.loop-tie.invariant.multiple (fits c.args.ties.now c.loop-tie.tie-index _ c.requires c.loop-tie-test.true whole)))

pub loop-tie-preserved : goal.loop-tie-preserved
loop-tie-preserved c =
    let told = c.in_ok-multiple.ensures in
    record {
      multiple = told.1 ∙ ap (λ m. lcm m (get_or c.args.ties.now c.loop-tie.tie-index none).count) c.loop-tie.invariant.multiple ∙ sym (more c.args.ties.now c.loop-tie.tie-index c.loop-tie-test.true);
      fits = rw told.1 told.0;
    }

pub returns : goal.returns
returns c =
    let e = c.loop-tie.invariant.multiple ∙ ap common_multiple (take_all c.loop-tie.tie-index (map (λ (t : Tie). t.count) c.args.ties.now) (rw (length-map c.args.ties.now (λ (t : Tie). t.count)) c.loop-tie-test.false)) in
    (rw (← e) c.loop-tie.invariant.fits, e)
