use Rattle.count_rooms.proofs.OneCounts.{next-choice}
use Rattle.zelen_test.proofs.zelen_rooms.ZelenRoomsRooms.next_choice.Goals as goal

pub returns-then-choice-greatest_choice : goal.returns-then-choice-greatest_choice
returns-then-choice-greatest_choice c = next-choice _ c.args.choice.now c.requires.wide (rw (c.greatest_choice.ensures, c.count_in.ensures) at c.if-choice-greatest_choice.true)
