use Rattle.std.proofs.Common.{◌≡◌, true, ◌∙◌}
use Rattle.weights.specs.declared.tails.Tail.TheVariants.{Less, Greater, Two}
use Rattle.networks.proofs.Following.{extreme-is}
use Rattle.stage_network.proofs.prepared.Prepared.numerators.Goals as goal

pub returns-in_ok-sums-in-Some : goal.returns-in_ok-sums-in-Some
returns-in_ok-sums-in-Some g c t a =
    let test = g.Self.Plain.test c.args.self.now in
    let lead : test.has_tail c.in-Some.tail ≡ true = c.requires c.in-Some.tail c.in-Some.ensures.asked in
    let has : test.has_tail t ≡ true = c.requires t a in
    c.in_ok-sums-in-Some.ensures.sum t a ∙ extreme-is test t (g.Self.Built.Stages.network c.in_ok-stages-in-Some.stages) (c.in_ok-stages-in-Some.ensures t has (c.is_shared-shared.ensures c.if-shared.true t c.in-Some.tail has lead))

pub returns-in_ok-two-in-Some-2 : goal.returns-in_ok-two-in-Some-2
returns-in_ok-two-in-Some-2 g c Less a = c.in_ok-less-in-Some-2.ensures a
returns-in_ok-two-in-Some-2 g c Greater a = c.in_ok-greater-in-Some-2.ensures a
returns-in_ok-two-in-Some-2 g c Two a = c.in_ok-two-in-Some-2.ensures a
