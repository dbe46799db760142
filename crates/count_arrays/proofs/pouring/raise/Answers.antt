use Rattle.std.proofs.Common.{◌+◌, ◌*◌, map, set, ap, ◌∙◌}
use Rattle.node_pool.proofs.NodeLists.{number-read}
use Rattle.std.proofs.lemmas.List.{map-set}
use Rattle.count_arrays.proofs.pouring.raise.Goals as goal

pub raised-requires-clause-limit : goal.raised-requires-clause-limit
raised-requires-clause-limit g c = rw (number-read g.C.Count.number c.args.cells.now c.args.place c.index-cells-place.result c.requires.within c.index-cells-place.is) c.requires.limit

pub returns : goal.returns
returns g c =
    map-set g.C.Count.number c.args.cells.now c.args.place c.raised.result
    ∙ ap (set (map g.C.Count.number c.args.cells.now) c.args.place) (c.raised.ensures ∙ ap (λ m. m + g.C.Count.number c.args.more * c.args.weight) (number-read g.C.Count.number c.args.cells.now c.args.place c.index-cells-place.result c.requires.within c.index-cells-place.is))
