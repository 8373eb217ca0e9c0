-- What is lent has room, and what is held stays within the input.
use borrow.Author.Rules.{rules}
use Rattle.van_box.proofs.turn.Goals as goal

pub answer_read-requires : goal.answer_read-requires
answer_read-requires g c = record { held_in_bounds = search rules; record_room_in_bounds = search rules; sound = c.requires.sound }

pub returns : goal.returns
returns g c = record { within = search rules; sound = c.answer_read.ensures.sound }
