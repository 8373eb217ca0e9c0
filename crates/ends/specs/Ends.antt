-- Lists that one end gives and the other receives.
use Rattle.std.specs.Prelude.{ℕ, ◌≤◌, ◌≡◌, List, ◌++◌, length, take, Result, Ok}
use Rattle.answer.specs.declared.Refusal.{Refusal}
use Rattle.lists.specs.Words.{address_words, route_words}
use Rattle.capsule.specs.declared.CapsuleRead.{CapsuleRead}
use Rattle.capsule_write.specs.Verdicts.{Words}
use Rattle.state.specs.State.{state_words}
use Rattle.exchange.specs.Reading.{ReadsCapsule}
use Rattle.exchange.specs.Writing.{Assigns, Advertises}

-- a list of so many words was written by the giver as a capsule, whatever stood in its output, and the taker read the capsule, whatever followed it
pub record Crossed (Gives : List ℕ → List ℕ → List ℕ → Result ℕ Refusal → List ℕ → List ℕ → Type 0) (size : ℕ) (giver taker giver' taker' : List ℕ) : Type 0 where
  pub list : List ℕ
  pub before : List ℕ
  pub after : List ℕ
  pub rest : List ℕ
  pub asked : List ℕ
  pub asked' : List ℕ
  pub count : ℕ
  pub read : Result CapsuleRead Refusal
  pub given : state_words ≤ length giver
  pub taken : state_words ≤ length taker
  pub sized : length list ≡ size
  pub words : Words list
  pub writes : Gives giver list before (Ok count) giver' after
  pub reads : ReadsCapsule taker (take count after ++ rest) 0 asked read taker' asked'

abbrev pub AddressesCrossed : List ℕ → List ℕ → List ℕ → List ℕ → Type 0
AddressesCrossed = Crossed Assigns address_words

abbrev pub RoutesCrossed : List ℕ → List ℕ → List ℕ → List ℕ → Type 0
RoutesCrossed = Crossed Advertises route_words

-- both lists went both ways
pub record Exchanged (near far near' far' : List ℕ) : Type 0 where
  pub near₁ : List ℕ
  pub near₂ : List ℕ
  pub near₃ : List ℕ
  pub far₁ : List ℕ
  pub far₂ : List ℕ
  pub far₃ : List ℕ
  pub addresses : AddressesCrossed far near far₁ near₁
  pub routes : RoutesCrossed far₁ near₁ far₂ near₂
  pub addresses-back : AddressesCrossed near₂ far₂ near₃ far₃
  pub routes-back : RoutesCrossed near₃ far₃ near' far'
