use Rattle.std.proofs.Common.{◌∙◌, ◌*◌, ap, sym}
use Rattle.std.specs.Prelude.{nat_abs}
use Rattle.std.proofs.lemmas.List.{length-map}
use Rattle.worked_surface.proofs.stage_network_calls.tail_sum_from.Goals as goal

pub tail_sum_from-requires : goal.tail_sum_from-requires
tail_sum_from-requires g c = record {
  within = c.requires.within;
  long = c.requires.flat ∙ ap (λ l. l * (g.S.Stages.network c.args.stages.now).width) (sym (length-map c.args.weights.now nat_abs));
  reached = c.requires.reached;
  heavy = c.requires.weighty;
  distinct = c.requires.distinct;
  fits = c.requires.fits;
}
