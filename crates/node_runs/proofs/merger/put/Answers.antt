use Rattle.std.proofs.Common.{◌≡◌, ◌+◌, ◌<◌, ◌++◌, ◌∷◌, [], ℕ, List, length, drop, get_or, ap, sym, ◌∙◌, arith, rules, FitsSigned, to_z, of_z}
use Rattle.std.specs.Prelude.{ℤ, ◌<ℤ◌, pos}
use Rattle.std.specs.Int.{w128}
use Rattle.std.specs.List.{AllByRecursion}
use Rattle.std.proofs.lemmas.Int.{to_z-of_z}
use Rattle.std.proofs.lemmas.List.{drop_more, map-append}
use Rattle.node_pool.specs.Nodes.{Node, node}
use Rattle.node_runs.specs.RunSteps.{IsAscending, lead, leads}
use Rattle.node_runs.proofs.Ascending.{ascending-behind, under}
use Rattle.node_runs.proofs.Passing.{first-left, held-le, one-number, put-ascending, put-grown, put-length, raised-ascending, raised-grown, raised-length, strict}
use Rattle.node_runs.proofs.merger.put.Goals.{else-at-length-via-then-at-length+else-number_at-key, else-at-length-via-else-at-length}
use Rattle.node_runs.proofs.merger.put.Goals as goal

pub plus-sum-requires : goal.plus-sum-requires
plus-sum-requires g c =
    let d : Node = node [] 0 in
    let low : c.args.at.now < length c.args.from.now.nodes = rw c.len-length.ensures at c.if-at-length.true in
    omega (arith, c.weight.ensures d, held-le c.args.into.now.nodes c.args.from.now.nodes c.args.at.now d low, c.requires.fits)

pub returns-then-number_at-key-clause-merger : goal.returns-then-number_at-key-clause-merger
returns-then-number_at-key-clause-merger g c =
    let d : Node = node [] 0 in
    let m = c.requires.merger in
    let xs : List Node = c.args.into.now.nodes in
    let from : List Node = c.args.from.now.nodes in
    let at : ℕ = c.args.at.now in
    let low : at < length from = rw c.len-length.ensures at c.if-at-length.true in
    let s : ℕ = g.C.Count.number c.plus-sum.result in
    let a : Node = get_or from at d in
    let k : List ℤ = c.key.result.now in
    let up : IsAscending (leads (xs ++ a ∷ drop (at + 1) from)) = rw (drop_more from at d low) at m.ascending in
    record {
      done = c.push.ensures.width ∙ m.done;
      left = m.left;
      within = omega (arith, low);
      counted = m.counted ∙ sym (raised-length xs from at (node k s) low) ∙ ap (λ ns. length (ns ++ drop (at + 1) from)) (sym c.in_ok-push.ensures.ok);
      ascending = rw c.in_ok-push.ensures.ok (raised-ascending xs (drop (at + 1) from) a k s (sym (c.key.ensures.key d)) up);
    }

pub returns-then-number_at-key-clause-grown : goal.returns-then-number_at-key-clause-grown
returns-then-number_at-key-clause-grown g c =
    let d : Node = node [] 0 in
    let xs : List Node = c.args.into.now.nodes in
    let from : List Node = c.args.from.now.nodes in
    let at : ℕ = c.args.at.now in
    let low : at < length from = rw c.len-length.ensures at c.if-at-length.true in
    let s : ℕ = g.C.Count.number c.plus-sum.result in
    let a : Node = get_or from at d in
    let k : List ℤ = c.args.key.now in
    let z : ℤ = get_or k 0 (pos 0) in
    let here : FitsSigned w128 z = search rules in
    let there : FitsSigned w128 c.number_at.result = search rules in
    let number : c.number_at.result ≡ z = sym (to_z-of_z w128 c.number_at.result there) ∙ ap (to_z w128) c.if-number_at-key.true ∙ to_z-of_z w128 z here in
    let same : get_or c.key.result.now 0 (pos 0) ≡ z = ap (λ x. get_or x 0 (pos 0)) (c.key.ensures.key d) ∙ sym (c.number_at.ensures d) ∙ number in
    let one : c.key.result.now ≡ k = one-number c.key.result.now k (c.key.ensures.wide ∙ c.requires.merger.left) c.requires.one same in
    rw (c.in_ok-push.ensures.ok, drop_more from at d low, one) (raised-grown xs (drop (at + 1) from) a k (g.C.Count.number c.args.weight) s (sym (c.key.ensures.key d) ∙ one) (c.plus-sum.ensures ∙ ap (λ n. n + g.C.Count.number c.args.weight) (c.weight.ensures d)))

pub returns-clause-merger : goal.returns-clause-merger
returns-clause-merger g c =
    let m = c.requires.merger in
    let xs : List Node = c.args.into.now.nodes in
    let from : List Node = c.args.from.now.nodes in
    let at : ℕ = c.args.at.now in
    let ys : List Node = drop at from in
    let k : List ℤ = c.args.key.now in
    let z : ℤ = get_or k 0 (pos 0) in
    let w : ℕ = g.C.Count.number c.args.weight in
    let less : (d : Node) → at < length from → z <ℤ lead (get_or from at d) = elim c.else-at-length.branch [
      | else-at-length-via-then-at-length+else-number_at-key v ↦ λ d h. strict z (lead (get_or from at d)) (c.requires.high d h) (λ e. v.if-number_at-key.false (ap (of_z w128) (v.number_at.ensures d ∙ e)))
      | else-at-length-via-else-at-length v ↦ λ d h. absurd (omega (arith, h, v.if-at-length.false, c.len-length.ensures))
    ] in
    let up : IsAscending (leads ys) = ascending-behind (leads xs) (leads ys) (rw (map-append lead xs ys) at m.ascending) in
    let high : AllByRecursion (λ y. z <ℤ y) (leads ys) = under z (leads ys) up (first-left z from at less) in
    record {
      done = c.push-2.ensures.width ∙ m.done;
      left = m.left;
      within = m.within;
      counted = omega (arith, c.in-Some.ensures, m.counted, put-length xs ys (node k w), ap (λ ns. length (ns ++ ys)) c.in_ok-push-2.ensures.ok);
      ascending = rw c.in_ok-push-2.ensures.ok (put-ascending xs ys k w m.ascending c.requires.low high);
    }

pub returns-clause-grown : goal.returns-clause-grown
returns-clause-grown g c =
    rw c.in_ok-push-2.ensures.ok (put-grown c.args.into.now.nodes (drop c.args.at.now c.args.from.now.nodes) c.args.key.now (g.C.Count.number c.args.weight))
