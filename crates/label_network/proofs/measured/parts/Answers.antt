use Rattle.label_network.proofs.MeasuredNetworks.{parts_are, parts_short}
use Rattle.label_network.proofs.measured.parts.Goals as goal

pub front-requires : goal.front-requires
front-requires g c =
    parts_short _ _ _ c.requires.seated c.args._stage c.args.key.now c.requires.reached c.width-width.result c.width-width.ensures

pub returns : goal.returns
returns g c =
    rw (c.front.ensures.room, c.behind.ensures)
    (parts_are _ _ _ c.requires.seated c.args._stage c.args.key.now c.requires.reached c.width-width.result c.width-width.ensures)
