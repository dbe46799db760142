use Rattle.count_rooms.proofs.OneCounts.{next-choice}
use Rattle.stratified_ranks.proofs.rank_rooms.RankRoomsRooms.next_choice.Goals as goal

pub returns-then-choice-most_here : goal.returns-then-choice-most_here
returns-then-choice-most_here c =
    next-choice _ c.args.choice.now c.requires.wide (rw (c.most_here.ensures, c.count_in.ensures, c.column_of-column.ensures, c.as_slice.ensures) at c.if-choice-most_here.true)
