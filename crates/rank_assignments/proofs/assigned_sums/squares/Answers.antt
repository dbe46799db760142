use Rattle.std.proofs.Common.{◌∙◌, map, sym}
use Rattle.std.specs.Prelude.{nat_abs}
use Rattle.weights.proofs.Sums.{sum_by-same}
use Rattle.label_network.proofs.Rows.{length-abs}
use Rattle.networks.specs.Distances.{near_square, squared}
use Rattle.networks.proofs.SquaredDistances.{from-nought}
use Rattle.rank_assignments.proofs.SumEnds.{ends-none}
use Rattle.rank_assignments.proofs.assigned_sums.squares.Goals as goal

pub returns : goal.returns
returns c =
    c.bounds.ensures.near
    ∙ ends-none (near_square 0) 0 _ _ (length-abs _ ∙ c.bounds.ensures.level ∙ sym (length-abs _))
    ∙ sum_by-same (λ t. near_square 0 t t) squared from-nought (map nat_abs c.args.partial.now)
