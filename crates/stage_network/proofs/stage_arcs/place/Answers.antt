use Rattle.std.proofs.Common.{ap, arith}
use Rattle.node_pool.specs.Nodes.{weighted}
use Rattle.node_pool.proofs.Puts.{weight_in-le}
use Rattle.stage_network.proofs.stage_arcs.place.Goals as goal

pub enter-requires-clause-fits : goal.enter-requires-clause-fits
enter-requires-clause-fits c = omega (arith, weight_in-le c.args.room.now c.reserve.new.self.nodes, ap (weighted (λ k. 1)) c.reserve.ensures.nodes, c.requires.light, c.in-Some.ensures)
