-- The bytes given end a DATAGRAM: the kept ones are the front of an open capsule, so its head is that of all bytes, within the limit, and its value
-- is handed out. Assumes nothing.
use borrow.Author.Rules.{rules}
use Rattle.std.specs.Option.{IsSome}
use Rattle.std.proofs.Common.{Option, Some, None, Result}
use Prim.Native.Nat.{ℕ, ◌+◌, ◌-◌, ◌≤◌, ◌<◌, ◌^◌}
use mathlib.Core.Bool.{false, true≢false}
use mathlib.Core.Path.{◌≡◌, refl, sym, ap, ◌∙◌}
use mathlib.Core.List.{List, ◌++◌}
use mathlib.Core.Logic.{inr}
use native.Mathlib.Omega.{arith}
use borrow.Author.Tests.{ltb-false, eqb-true}
use lib.Dec.{eqb}
use lib.ListN.{length, get_or, take, drop}
use Rattle.output.specs.Places.{Put}
use Rattle.capsule.specs.declared.Head.{Head}
use Rattle.capsule.specs.Heads.{head, HeadRead}
use Rattle.capsule.specs.Capsules.{max_value}
use Rattle.state.specs.State.{store_at}
use Rattle.capsule.specs.declared.Kind.TheVariants.{Datagram}
use Rattle.answer.specs.declared.Refusal.{Refusal}
use Rattle.stream.specs.declared.feeding.Piece.{Piece}
use Rattle.stream.specs.Feeding.{fed}
use Rattle.stream.specs.Inner.{is_datagram, HandsOut, HandsDatagram, EndsDatagram}
use Rattle.stream.proofs.CodeLaws as Code
use Rattle.stream.proofs.StayLaws.{stays-known, open_short_lem}

-- ---- the test
module _ {h : Option Head} where
  pub datagram-known : {kind start len : ℕ} → h ≡ Some (head kind start len) → eqb kind 0 ≡ is_datagram h
  datagram-known e = sym (ap is_datagram e)

  pub datagram-cut : h ≡ None → false ≡ is_datagram h
  datagram-cut e = sym (ap is_datagram e)

-- ---- the value is handed out
module _ {w held t : List ℕ} {h : Option Head} (x : EndsDatagram w held t h) where
  abbrev kept : List ℕ
  kept = take (get_or w store_at 0) held

  pub there : IsSome h
  there = of h refl
    where
      of : (r : Option Head) → h ≡ r → IsSome r
      of (Some q) e = search rules
      of None e = absurd (true≢false (sym (datagram-cut e ∙ x.datagram)))

  module _ {kind start len : ℕ} (e : h ≡ Some (head kind start len)) where
    front : HeadRead (kept ++ t) h
    front = Code.head-kept kept t e x.read

    short : len ≤ max_value
    short = open_short_lem x.store x.read e

    zero_kind : kind ≡ 0
    zero_kind = eqb-true kind 0 (datagram-known e ∙ x.datagram)

    -- its end is behind the kept bytes, at a place that a word holds
    pub ends-bounds : (get_or w store_at 0 < start + len) × (start + len < 2 ^ 64)
    ends-bounds = (Code.ends x.store t front e (inr short), omega (arith, short, (Code.bounds x.store t front e).0))

    -- and in those given
    pub ends_there : start + len - get_or w store_at 0 ≤ length t
    ends_there = ltb-false (length t) (start + len - get_or w store_at 0) (stays-known (get_or w store_at 0) e (length t) ∙ x.ends)

    module _ (n : ℕ) (en : n ≡ start + len - get_or w store_at 0) where
      given : n ≤ length t
      given = omega (arith, ends_there)

      pub ends-fits : (space : List ℕ) → max_value ≤ length space
          → (start ≤ length kept + length (take n t)) × (length kept + length (take n t) ≤ start + length space)
      ends-fits space b = Code.value-fits x.store t front e n en given short space b

      pub ends-datagram : {before : List ℕ} {r : Result Piece Refusal} {later after : List ℕ} {m : ℕ} → Put (drop start (kept ++ take n t)) 0 before m after
          → HandsOut Datagram m n w r later → HandsDatagram (fed w held t) w held before r later after
      ends-datagram p f = record { goes = λ l. Code.goes-datagram x.store t front e n en given short zero_kind p f }
