use Rattle.std.proofs.Common.{◌≡◌, sym, ◌∙◌, ap, subst, rules, FitsSigned}
use Rattle.std.specs.Prelude.{ℤ}
use Rattle.std.specs.Int.{w128}
use Rattle.std.proofs.lemmas.Int.{to_z-of_z}
use mir.Val.{of_z, to_z}
use Rattle.score_convolution.specs.declared.sides.Sides.TheVariants.{Every, UpTo, Above, Apart}
use Rattle.score_convolution.specs.LeftDraws.{AreLeftSides}
use Rattle.score_convolution.proofs.LeftDraws.{above-left, apart-left, every-left, lacks, up_to-left}
use Rattle.score_convolution.proofs.left.reflected.Goals as goal

-- the number that is handed out
handed : (z total t bound b : ℤ) → FitsSigned w128 z → t ≡ total → b ≡ bound → z ≡ lacks t b → to_z w128 (of_z w128 z) ≡ lacks total bound
handed z total t bound b f e h is = to_z-of_z w128 z f ∙ is ∙ ap (λ y. lacks y b) e ∙ ap (λ y. lacks total y) h

pub returns-in-Every : goal.returns-in-Every
returns-in-Every c = subst (λ s. AreLeftSides c.args.total s Every) (sym c.in-Every.is) (every-left c.args.total)

pub returns-in-UpTo : goal.returns-in-UpTo
returns-in-UpTo c =
    let total : ℤ = c.args.total in
    let most : ℤ = c.in-UpTo.most in
    let above = handed c.last_lacking-above.result total _ most _ (search rules) (to_z-of_z w128 total c.ranges.total) (to_z-of_z w128 most (search rules)) c.last_lacking-above.ensures in
    subst (λ z. AreLeftSides total c.args.sides (Above z)) (sym above)
    (subst (λ s. AreLeftSides total s (Above (lacks total most))) (sym c.in-UpTo.is) (up_to-left total most))

pub returns-in-Above : goal.returns-in-Above
returns-in-Above c =
    let total : ℤ = c.args.total in
    let least : ℤ = c.in-Above.least in
    let below = handed c.last_lacking-below.result total _ least _ (search rules) (to_z-of_z w128 total c.ranges.total) (to_z-of_z w128 least (search rules)) c.last_lacking-below.ensures in
    subst (λ z. AreLeftSides total c.args.sides (UpTo z)) (sym below)
    (subst (λ s. AreLeftSides total s (UpTo (lacks total least))) (sym c.in-Above.is) (above-left total least))

pub returns-in-Apart : goal.returns-in-Apart
returns-in-Apart c =
    let total : ℤ = c.args.total in
    let most : ℤ = c.in-Apart.most in
    let least : ℤ = c.in-Apart.least in
    let all = to_z-of_z w128 total c.ranges.total in
    let lower = handed c.last_lacking-lower.result total _ least _ (search rules) all (to_z-of_z w128 least (search rules)) c.last_lacking-lower.ensures in
    let upper = handed c.last_lacking-upper.result total _ most _ (search rules) all (to_z-of_z w128 most (search rules)) c.last_lacking-upper.ensures in
    subst (λ z. AreLeftSides total c.args.sides (Apart (to_z w128 (of_z w128 c.last_lacking-lower.result)) z)) (sym upper)
    (subst (λ z. AreLeftSides total c.args.sides (Apart z (lacks total most))) (sym lower)
    (subst (λ s. AreLeftSides total s (Apart (lacks total least) (lacks total most))) (sym c.in-Apart.is) (apart-left total most least)))
