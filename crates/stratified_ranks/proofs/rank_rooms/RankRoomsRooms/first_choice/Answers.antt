use Rattle.count_rooms.proofs.OneCounts.{first-choice}
use Rattle.stratified_ranks.proofs.rank_rooms.RankRoomsRooms.first_choice.Goals as goal

pub returns : goal.returns
returns c = rw (c.write_count.ensures, c.fewest_here.ensures, c.count_in.ensures, c.column_of-column.ensures, c.as_slice.ensures) (first-choice _ _ (c.seat.ensures.meets c.requires.before))
