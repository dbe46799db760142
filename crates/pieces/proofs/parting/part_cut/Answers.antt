use Rattle.std.proofs.Common.{◌≡◌, ℕ, length, ap, sym, ◌∙◌, refl, rules, subst}
use Rattle.std.specs.Prelude.{min}
use Rattle.node_pool.specs.Nodes.{keys, weighted}
use Rattle.node_pool.proofs.NodeLists.{length-nodes}
use Rattle.networks.specs.Completions.{extreme_weight}
use Rattle.networks.specs.Network.{Network}
use Rattle.stage_network.specs.FromKeys.{AreStarts}
use Rattle.pieces.specs.Cuts.{belongs, closed_sum, counted_nodes, cut_stage, open_sum, owned_sum}
use Rattle.pieces.specs.Parting.{dealt}
use Rattle.pieces.proofs.CutSums.{dealt-part, piece-fits, pieces-add-up}
use Rattle.pieces.proofs.Placed.{length-dealt}
use Rattle.pieces.proofs.parting.part_cut.Goals as goal

pub owned_cut-requires-clause-each : goal.owned_cut-requires-clause-each
owned_cut-requires-clause-each g c =
    let count : c.len.result ≡ length c.in_ok-from.from.weights.items = search rules in
    ap length (c.deref.ensures.value ∙ c.in_ok-owners.ensures) ∙ length-dealt c.args.parts 0 c.len.result ∙ count

pub returns-clause-add : goal.returns-clause-add
returns-clause-add g c = pieces-add-up (g.S.Stages.network c.args.stages.now) c.stages-count.ensures.lawful c.args.tail c.args.at c.args.parts c.requires

pub returns-clause-fits : goal.returns-clause-fits
returns-clause-fits g c = piece-fits (g.S.Stages.network c.args.stages.now) c.stages-count.ensures.lawful c.args.tail c.args.at c.args.parts c.args.part

pub returns-clause-cut : goal.returns-clause-cut
returns-clause-cut g c =
    let n : Network = g.S.Stages.network c.args.stages.now in
    let t = c.args.tail in
    let cut = c.in_ok-from.from in
    let own = c.in_ok-own.own in
    let is = c.in_ok-from.ensures.cut in
    let parts : ℕ = c.args.parts in
    let part : ℕ = c.args.part in
    let small : c.min.result ≡ min c.args.at c.stages-count.result = search rules in
    let count : c.len.result ≡ length cut.weights.items = search rules in
    let at : cut.at ≡ cut_stage n c.args.at = c.in_ok-from.ensures.at ∙ small ∙ ap (min c.args.at) c.stages-count.ensures.count in
    let owners : c.deref.result.now ≡ dealt parts 0 (length (counted_nodes n cut)) = c.deref.ensures.value ∙ c.in_ok-owners.ensures ∙ ap (dealt parts 0) (count ∙ sym (length-nodes n.width cut.keys.items cut.weights.items)) in
    let closed : own.closed ≡ closed_sum n t (cut_stage n c.args.at) = c.in_ok-own.ensures.closed ∙ is.closed_is ∙ ap (closed_sum n t) at in
    let sum : weighted (extreme_weight n t own.at) (counted_nodes n own) ≡ open_sum n t (cut_stage n c.args.at) (belongs n t (cut_stage n c.args.at) parts part) =
    ap (λ g. weighted (extreme_weight n t g) (counted_nodes n own)) c.in_ok-own.ensures.at
    ∙ c.in_ok-own.ensures.sum ∙ ap (λ os. owned_sum n t cut.at (keys (counted_nodes n cut)) os part) owners ∙ dealt-part n t cut parts part is ∙ ap (λ g. open_sum n t g (belongs n t g parts part)) at in
    record {
      starts = subst (λ (g : ℕ). AreStarts n g own.keys.items own.weights.items) (sym c.in_ok-own.ensures.at) c.in_ok-own.ensures.starts;
      sums = rw (closed, sum) refl;
    }
