use Rattle.node_pool.proofs.Spots.{along-start, along-next, along-walk}
use Rattle.node_pool.proofs.table.free_slot.Goals as goal

pub loop-slot-init : goal.loop-slot-init
loop-slot-init c = along-start c.args.buckets.now c.args.home c.requires.within

pub loop-slot-preserved : goal.loop-slot-preserved
loop-slot-preserved c = along-next c.loop-slot.invariant c.requires.within c.requires.room c.loop-slot-test.true _ c.next_slot-slot.ensures.value c.next_slot-slot.ensures.within

pub returns-clause-walk : goal.returns-clause-walk
returns-clause-walk c = along-walk c.loop-slot.invariant
