use Rattle.std.proofs.Common.{◌≡◌, ℕ, ◌+◌, ◌*◌, ◌<◌, List, length, map, take, get_or, set, ap, sym, ◌∙◌, arith}
use Rattle.std.specs.Prelude.{pos}
use Rattle.std.proofs.lemmas.List.{length-map, length-set, take_all}
use Rattle.node_pool.specs.Nodes.{weighted}
use Rattle.node_pool.proofs.NodeLists.{number-read}
use Rattle.count_arrays.specs.Rows.{row_nodes, stepped}
use Rattle.count_arrays.proofs.RowSums.{row_sum, row_sum-one, get_or-sum, next-fits, place-low, raised-sum, weighted-row}
use Rattle.count_arrays.proofs.pouring.pour_by.Goals as goal

pub raise-requires-clause-within : goal.raise-requires-clause-within
raise-requires-clause-within g c = rw c.loop-i.invariant.long (place-low c.args.place c.args.every c.loop-i.i (length c.args.from.now) (length c.args.into.now) c.loop-i-test.true c.requires.room)

pub raise-requires-clause-limit : goal.raise-requires-clause-limit
raise-requires-clause-limit g c =
    let read = number-read g.C.Count.number c.args.from.now c.loop-i.i c.index-from-i.result c.loop-i-test.true c.index-from-i.is in
    let held = get_or-sum (map g.C.Count.number c.loop-i.into) (c.args.place + c.loop-i.i * c.args.every) in
    let low : c.loop-i.i < length (map g.C.Count.number c.args.from.now) = rw (length-map c.args.from.now g.C.Count.number) c.loop-i-test.true in
    let more = next-fits (map g.C.Count.number c.args.from.now) c.loop-i.i c.args.weight low in
    let told = c.loop-i.invariant.told (λ k. 1) (pos 0) (pos 0) in
    let into = row_sum-one (pos 0) (pos 0) (map g.C.Count.number c.loop-i.into) in
    let old = row_sum-one (pos 0) (pos 0) (map g.C.Count.number c.args.into.now) in
    let part = ap (λ s. s * c.args.weight) (row_sum-one (stepped (pos 0) (pos 0) c.args.place) (stepped (pos 0) (pos 0) c.args.every) (take c.loop-i.i (map g.C.Count.number c.args.from.now))) in
    rw read (omega (arith, held, more, told, into, old, part, c.requires.limit))

pub raise-requires-clause-fits : goal.raise-requires-clause-fits
raise-requires-clause-fits g c =
    let read = number-read g.C.Count.number c.args.from.now c.loop-i.i c.index-from-i.result c.loop-i-test.true c.index-from-i.is in
    let low : c.loop-i.i < length (map g.C.Count.number c.args.from.now) = rw (length-map c.args.from.now g.C.Count.number) c.loop-i-test.true in
    let more = next-fits (map g.C.Count.number c.args.from.now) c.loop-i.i c.args.weight low in
    rw read (omega (arith, more, c.requires.fits))

pub loop-i-preserved : goal.loop-i-preserved
loop-i-preserved g c =
    let into : List ℕ = map g.C.Count.number c.loop-i.into in
    let from : List ℕ = map g.C.Count.number c.args.from.now in
    let at : ℕ = c.args.place + c.loop-i.i * c.args.every in
    let read : g.C.Count.number c.index-from-i.result ≡ get_or from c.loop-i.i 0 = number-read g.C.Count.number c.args.from.now c.loop-i.i c.index-from-i.result c.loop-i-test.true c.index-from-i.is in
    let e : map g.C.Count.number c.raise.new.cells ≡ set into at (get_or into at 0 + get_or from c.loop-i.i 0 * c.args.weight) = c.raise.ensures ∙ ap (λ m. set into at (get_or into at 0 + m * c.args.weight)) read in
    let low : c.loop-i.i < length from = rw (length-map c.args.from.now g.C.Count.number) c.loop-i-test.true in
    let near : at < length into = rw (length-map c.loop-i.into g.C.Count.number, c.loop-i.invariant.long) (place-low c.args.place c.args.every c.loop-i.i (length c.args.from.now) (length c.args.into.now) c.loop-i-test.true c.requires.room) in
    record {
      long = sym (length-map c.raise.new.cells g.C.Count.number) ∙ ap length e ∙ length-set into at (get_or into at 0 + get_or from c.loop-i.i 0 * c.args.weight) ∙ length-map c.loop-i.into g.C.Count.number ∙ c.loop-i.invariant.long;
      told = λ f lowest stride. ap (row_sum f lowest stride) e ∙ raised-sum f lowest stride (map g.C.Count.number c.args.into.now) into from c.args.weight c.args.place c.args.every c.loop-i.i low near (c.loop-i.invariant.told f lowest stride);
    }

pub returns-clause-told : goal.returns-clause-told
returns-clause-told g c = λ f lowest stride.
    let from : List ℕ = map g.C.Count.number c.args.from.now in
    let all : take c.loop-i.i from ≡ from = take_all c.loop-i.i from (rw (length-map c.args.from.now g.C.Count.number) (omega (arith, c.loop-i-test.false))) in
    weighted-row f lowest stride (map g.C.Count.number c.loop-i.into)
    ∙ c.loop-i.invariant.told f lowest stride
    ∙ ap (λ xs. row_sum f lowest stride (map g.C.Count.number c.args.into.now) + row_sum f (stepped lowest stride c.args.place) (stepped (pos 0) stride c.args.every) xs * c.args.weight) all
    ∙ ap (λ s. s + row_sum f (stepped lowest stride c.args.place) (stepped (pos 0) stride c.args.every) from * c.args.weight) (sym (weighted-row f lowest stride (map g.C.Count.number c.args.into.now)))
    ∙ ap (λ s. weighted f (row_nodes lowest stride (map g.C.Count.number c.args.into.now)) + s * c.args.weight) (sym (weighted-row f (stepped lowest stride c.args.place) (stepped (pos 0) stride c.args.every) from))
