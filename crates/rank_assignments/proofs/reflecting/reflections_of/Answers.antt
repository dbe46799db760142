use Rattle.std.proofs.Common.{◌≡◌, ◌∙◌, ◌+◌, ◌*◌, ◌/◌, ◌-◌, ◌++◌, ◌∷◌, [], ◌&&◌, ap, arith, cond, div-le_self, drop, map, nat_le, subst, sym}
use Rattle.std.specs.List.{range_with_len}
use Rattle.std.proofs.lemmas.List.FromFn.{map-range_with_len_more}
use Rattle.rank_assignments.specs.Reflections.{reflection_of, number_after}
use Rattle.rank_assignments.specs.Assignments.{IsSmallAhead, ahead_at, given, assignment_at}
use Rattle.rank_assignments.specs.declared.assignment.Ahead.{Ahead}
use Rattle.rank_assignments.proofs.ReflectionSteps.{given-left, reflection-found, next-ahead}
use Rattle.rank_assignments.proofs.AssignmentSteps.{given-small, small-ahead}
use Rattle.rank_assignments.proofs.reflecting.reflections_of.Goals as goal

pub loop-stage-init : goal.loop-stage-init
loop-stage-init c = record {
  left = c.requires.all;
  small = omega (arith, c.requires.all, given-small c.args.treatments c.args.items.now c.args._judge c.requires.assignments);
  done = c.new-reflections.ensures.items;
}

pub number_after-number-requires-clause-middle : goal.number_after-number-requires-clause-middle
number_after-number-requires-clause-middle c = omega (arith, div-le_self c.args.all c.args.treatments, c.requires.all, given-small c.args.treatments c.args.items.now c.args._judge c.requires.assignments)

pub number_after-number-requires-clause-next : goal.number_after-number-requires-clause-next
number_after-number-requires-clause-next c =
    subst IsSmallAhead (sym (next-ahead c.args.treatments c.args.items.now c.args.ahead.now c.requires.ahead c.loop-stage.stage (record { owed = 0; ways = 0; least = 0; most = 0; later_least = 0; later_most = 0 }) c.loop-stage-test.true))
    (small-ahead c.args.treatments c.args.items.now c.args._judge c.requires.assignments (c.loop-stage.stage + 1) (omega (arith, c.loop-stage-test.true)))

pub is_mean-is_mean-requires-clause-given : goal.is_mean-is_mean-requires-clause-given
is_mean-is_mean-requires-clause-given c = omega (arith, c.requires.all, given-small c.args.treatments c.args.items.now c.args._judge c.requires.assignments)

pub loop-stage-preserved : goal.loop-stage-preserved
loop-stage-preserved c =
    let k = c.args.treatments in
    let vs = c.args.items.now in
    let g = c.loop-stage.stage in
    let number = c.number_after-number.result in
    let here = given-left k vs g c.loop-stage-test.true in
    let left : c.loop-stage.left - (assignment_at vs g).value * (assignment_at vs g).count ≡ given (drop (g + 1) vs) = omega (arith, c.loop-stage.invariant.left, here) in
    let is : number ≡ number_after k vs g =
    c.number_after-number.ensures.is
    ∙ ap (λ (z : Ahead). 2 * (c.args.all / k) - ((z.least + z.later_least) + (z.most + z.later_most))) (next-ahead k vs c.args.ahead.now c.requires.ahead g (record { owed = 0; ways = 0; least = 0; most = 0; later_least = 0; later_most = 0 }) c.loop-stage-test.true)
    ∙ ap (λ n. 2 * (n / k) - (((ahead_at k vs (g + 1)).least + (ahead_at k vs (g + 1)).later_least) + ((ahead_at k vs (g + 1)).most + (ahead_at k vs (g + 1)).later_most))) c.requires.all in
    let found : c.used-reflection.result ≡ reflection_of (nat_le c.args.from g) k vs g =
    c.used-reflection.ensures
    ∙ ap (λ b. cond (nat_le c.args.from g && (assignment_at vs g).closes && nat_le number (16 * (g + 1)) && b) number 0) c.is_mean-is_mean.ensures
    ∙ reflection-found (nat_le c.args.from g) k vs g number (c.loop-stage.left - (assignment_at vs g).value * (assignment_at vs g).count) c.args.all is left c.requires.all in
    record {
      left = left;
      small = omega (arith, c.loop-stage.invariant.small);
      done = c.in_ok-push.ensures.items
          ∙ ap (λ ms. ms ++ c.used-reflection.result ∷ []) c.loop-stage.invariant.done
          ∙ ap (λ m. map (λ i. reflection_of (nat_le c.args.from i) k vs i) (range_with_len 0 g) ++ m ∷ []) found
          ∙ sym (map-range_with_len_more (λ i. reflection_of (nat_le c.args.from i) k vs i) 0 g g (omega arith));
    }
