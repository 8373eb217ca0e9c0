-- Records one after the other, each answered in the memory that the one before it left.
use Rattle.std.specs.Prelude.{ℕ, ◌+◌, ◌-◌, ◌≤◌, true, ◌≡◌, List, [], ◌++◌, length, get_or, take, drop}
use Rattle.octets.specs.Parts.{part}
use Rattle.stream.specs.Runs.{Ready}
use Rattle.van_box.specs.declared.outgoing.Output.{Output}
use Rattle.van_box.specs.declared.Answered.{Answered}
use Rattle.van_box.specs.declared.Between.{Between}
use Rattle.van_box.specs.Sizes.{record_head}
use Rattle.van_box.specs.Incoming.{record_size}
use Rattle.van_box.specs.Records.{Memory, Outcome, outcome}

-- a memory that keeps its rules
abbrev pub Sound : Memory → Type 0
Sound m = Ready m.state m.bytes

-- the record at the front of s, which is all there: its kind, and its body behind the head
abbrev pub record_outcome : Memory → List ℕ → Outcome Memory
record_outcome m s = outcome (get_or s 0 0) m (part s record_head (record_size s - record_head))

-- the records of s up to a place, from the memory m on: their answers, and the memory behind them
pub data Passed (m : Memory) (s : List ℕ) : ℕ → List ℕ → Memory → Type 0 where
  none : Passed m s 0 [] m
  more : {at : ℕ} {a : List ℕ} {x : Memory} → Passed m s at a x → record_head ≤ record_size (drop at s)
      → Passed m s (at + record_size (drop at s)) (a ++ (record_outcome x (drop at s)).answers) (record_outcome x (drop at s)).left

-- what waits at the front of the output is the end of the answers; what is gone was written
pub record Waiting (answers : List ℕ) (o : Output) (out : List ℕ) : Type 0 where
  pub gone : List ℕ
  pub rest : gone ++ take o.used out ≡ answers
  pub within : o.used ≤ length out

-- the records of s up to a place are answered
pub record Passing (m : Memory) (s : List ℕ) (o : Output) (at : ℕ) (later : Memory) (out : List ℕ) : Type 0 where
  pub answers : List ℕ
  pub passed : Passed m s at answers later
  pub waiting : Waiting answers o out
  pub within : at ≤ length s

-- and no whole record is left, unless the output cannot be written; the memory keeps its rules
pub record AnswersAll (m : Memory) (s : List ℕ) (r : Answered) (later : Memory) (out : List ℕ) : Type 0 where
  pub records : Passing m s r.output r.at later out
  pub all : r.output.«open» ≡ true → record_size (drop r.at s) ≡ 0
  pub sound : Sound later

-- ---- one read: its bytes begin with those that were held, the records among them are passed up to a place, and what is left is held
pub record Turns (m : Memory) (before : Between) (input : List ℕ) (r : Between) (later : Memory) (after : List ℕ) : Type 0 where
  pub bytes : List ℕ
  pub at : ℕ
  pub answers : List ℕ
  pub held : take before.held bytes ≡ take before.held input
  pub passed : Passed m bytes at answers later
  pub left : r.«open» ≡ true → take r.held after ≡ drop at bytes
  pub all : r.«open» ≡ true → record_size (drop at bytes) ≡ 0
  pub within : r.held ≤ length after
  pub sound : Sound later
