-- The sizes of records, of answers, of the input and of the output.
use Rattle.std.specs.Prelude.{ℕ, ◌+◌, ◌*◌}
use Rattle.capsule_write.specs.Verdicts.{capsule_room}

-- kind and two bytes of length
abbrev pub record_head : ℕ
record_head = 3

-- the most bytes behind the head of a record: two bytes hold their number
abbrev pub max_record : ℕ
max_record = 65535

-- the input that the program holds
abbrev pub input_room : ℕ
input_room = 131072

-- kind, number and two bytes of length
abbrev pub answer_head : ℕ
answer_head = 4

-- the most that an answer takes
abbrev pub answer_room : ℕ
answer_room = answer_head + capsule_room

-- the most that the answers of a record take for each of its bytes: an entry of at most 26 bytes is read from at least 7, and a byte of a capsule's head
-- makes up for the head of its answer
abbrev pub answers_share : ℕ
answers_share = 4

-- the room in which a record is answered: its answers, of which the first may be to a capsule that began in an earlier record, and the longest one,
-- which is tried behind them
abbrev pub record_room : ℕ
record_room = answers_share * max_record + 2 * answer_room
