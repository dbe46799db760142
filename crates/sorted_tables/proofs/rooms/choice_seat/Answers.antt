use Rattle.sorted_tables.proofs.ChoiceSums.{choice-seat}
use Rattle.sorted_tables.proofs.rooms.choice_seat.Goals as goal

pub returns : goal.returns
returns c = choice-seat c.args._binomials.now.width c.args._column c.args._room.now c.args._choice.now c.requires.room c.requires.choice
