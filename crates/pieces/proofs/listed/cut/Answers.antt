use Rattle.std.proofs.Common.{◌≡◌, ℕ, map, pos, subst}
use Rattle.networks.specs.Network.{Network}
use Rattle.pieces.specs.Cuts.{IsCountedCut, IsCutAt}
use Rattle.pieces.proofs.CountedCuts.{each-fits, listed-cut}
use Rattle.pieces.proofs.CutSums.{cut-parts}
use Rattle.pieces.proofs.listed.cut.Goals as goal

pub listed-requires : goal.listed-requires
listed-requires g c =
    let n : Network = g.S.Stages.network c.args.stages.now in
    let counted = c.in_ok-counted.counted in
    let is : IsCountedCut n c.args.tail counted = rw c.new-whole.ensures at c.in_ok-counted.ensures.cut in
    rw c.deref-2.ensures.value (each-fits n counted.at counted.keys.items counted.weights.items c.stages-lawful.ensures.lawful is.starts)

pub returns-clause-cut : goal.returns-clause-cut
returns-clause-cut g c =
    let n : Network = g.S.Stages.network c.args.stages.now in
    let counted = c.in_ok-counted.counted in
    let is : IsCountedCut n c.args.tail counted = rw c.new-whole.ensures at c.in_ok-counted.ensures.cut in
    let keys : c.append.new.self ≡ counted.keys.items = rw (c.empty-keys.ensures, c.deref.ensures.value) at c.in_ok-append.ensures.ok in
    let weights : c.in_ok-weights.weights ≡ map pos counted.weights.items = rw c.deref-2.ensures.value at c.in_ok-weights.ensures in
    let here : IsCutAt n c.args.tail c.args.at counted.closed counted.keys.items counted.weights.items = subst (λ (at : ℕ). IsCutAt n c.args.tail at counted.closed counted.keys.items counted.weights.items) c.in_ok-counted.ensures.at is in
    listed-cut n c.args.tail counted.weights.items _ weights (rw keys here)

pub returns-clause-parts : goal.returns-clause-parts
returns-clause-parts g c =
    let n : Network = g.S.Stages.network c.args.stages.now in
    cut-parts n c.args.tail c.args.at _ _ _ c.stages-lawful.ensures.lawful (returns-clause-cut g c).listed
