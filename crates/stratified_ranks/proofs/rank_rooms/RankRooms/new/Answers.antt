use Rattle.stratified_ranks.proofs.RankSums.{columns-sound_at}
use Rattle.stratified_ranks.proofs.RankPlans.{total-later}
use Rattle.stratified_ranks.proofs.rank_rooms.RankRooms.new.Goals as goal

pub later_ways-requires-clause-sound : goal.later_ways-requires-clause-sound
later_ways-requires-clause-sound c = rw c.as_slice.ensures (columns-sound_at c.args.columns c.requires.sound)

pub later_ways-requires-clause-fits : goal.later_ways-requires-clause-fits
later_ways-requires-clause-fits c = rw c.as_slice.ensures (total-later c.args.columns c.requires)
