use Rattle.std.proofs.Common.{◌<◌, ◌∙◌, ◌^◌, subst, sym}
use Rattle.std.proofs.lemmas.Bool.{ltb-true}
use Rattle.weights.proofs.Sized.{first_and}
use Rattle.kruskal_wallis.proofs.CentredSquares.{centred}
use Rattle.kruskal_wallis.proofs.centred_sums.CentredSums.new.Goals as goal

pub invariant_of-result : goal.invariant_of-result
invariant_of-result c =
    let s = c.args.sums in
    record {
      right = rw c.middle_squares.ensures.is (centred c.args.multiple c.args.all c.args.count s.bound s.factors.items s.later.scores.items s.later.columns.items s.rows.items c.requires.some c.requires.any c.requires.count c.requires.all c.requires.parts c.requires.held c.requires.bound s.right.squaring.bound_fits);
      boxes = λ e.
          let both = first_and _ _ (sym c.has_narrow_boxes.ensures ∙ e) in
          record {
            small = subst (λ n. n < 2 ^ 31) c.requires.all (ltb-true c.args.all (2 ^ 31) both.0);
            room = subst (λ n. n < 2 ^ 124) c.bound.ensures (ltb-true c.bound.result (2 ^ 124) both.1);
          };
    }
