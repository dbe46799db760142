use Rattle.std.proofs.Common.{◌≡◌, ◌-◌, ℕ, List, [], map, drop, sym, ◌∙◌, ap, arith}
use Rattle.std.specs.List.{sum}
use Rattle.std.proofs.lemmas.List.{drop-map, drop_all, length-map, take_rest}
use Rattle.count_arrays.proofs.RowSums.{times-≤}
use Rattle.score_convolution.specs.Places.{placed_pairs}
use Rattle.score_convolution.proofs.RowPairs.{drop-sum, pairs-later}
use Rattle.score_convolution.proofs.cells.pairs_from.Goals as goal

-- the numbers of the cells from a place on
rest-is : {C : Type 0} (num : C → ℕ) (cells rest : List C) (first : ℕ) → rest ≡ drop first cells → map num rest ≡ drop first (map num cells)
rest-is num cells rest first e = ap (map num) e ∙ sym (drop-map num first cells)

pub placed_pairs-requires-clause-fits : goal.placed_pairs-requires-clause-fits
placed_pairs-requires-clause-fits g c =
    let num = g.C.Count.number in
    let first : ℕ = c.saturating_sub-first.result in
    let rest = rest-is num c.args.ones.now _ first (take_rest c.args.ones.now first) in
    rw rest (omega (arith, c.requires.fits, times-≤ (sum (drop first (map num c.args.ones.now))) (sum (map num c.args.ones.now)) (sum (map num c.args.others.now)) (drop-sum first (map num c.args.ones.now))))

pub returns-then-first-ones : goal.returns-then-first-ones
returns-then-first-ones g c =
    let num = g.C.Count.number in
    let ones : List ℕ = map num c.args.ones.now in
    let others : List ℕ = map num c.args.others.now in
    let first : ℕ = c.saturating_sub-first.result in
    let none : drop first ones ≡ [] = drop_all first ones (omega (arith, c.if-first-ones.true, length-map c.args.ones.now num)) in
    sym (pairs-later first c.args.place ones others (omega (arith, c.saturating_sub-first.ensures, length-map c.args.others.now num)) ∙ ap (λ xs. placed_pairs (c.args.place - first) xs others) none)

pub returns : goal.returns
returns g c =
    let num = g.C.Count.number in
    let ones : List ℕ = map num c.args.ones.now in
    let others : List ℕ = map num c.args.others.now in
    let first : ℕ = c.saturating_sub-first.result in
    let rest = rest-is num c.args.ones.now _ first (take_rest c.args.ones.now first) in
    c.placed_pairs.ensures
    ∙ ap (λ xs. placed_pairs (c.args.place - first) xs others) rest
    ∙ sym (pairs-later first c.args.place ones others (omega (arith, c.saturating_sub-first.ensures, length-map c.args.others.now num)))
