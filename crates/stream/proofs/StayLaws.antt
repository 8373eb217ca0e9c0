-- A capsule that does not end with the bytes given: the kept ones are the front of an open capsule, so what its head says is the case in which bytes
-- are lacking. Assumes nothing.
use Rattle.std.proofs.Common.{Option, Some, None, Result}
use Prim.Native.Nat.{ℕ, ◌+◌, ◌-◌, ◌≤◌, ◌<◌, ◌^◌}
use mathlib.Core.Bool.{true, false, true≢false}
use mathlib.Core.Path.{◌≡◌, refl, sym, ap, ◌∙◌}
use mathlib.Core.List.{List}
use mathlib.Core.Logic.{⊎_elim}
use native.Mathlib.Omega.{arith}
use borrow.Author.Tests.{ltb-true}
use lib.Dec.{ltb}
use lib.ListN.{length, get_or, take}
use lib.Seq.{length-take-le}
use Rattle.answer.proofs.Tests.{order}
use Rattle.capsule.specs.declared.Head.{Head}
use Rattle.capsule.specs.Heads.{head, HeadRead}
use Rattle.capsule.specs.Capsules.{max_value}
use Rattle.capsule.proofs.RefusalLaws.{waits-frame}
use Rattle.state.specs.State.{store_at}
use Rattle.answer.specs.declared.Refusal.{Refusal}
use Rattle.stream.specs.declared.feeding.Piece.{Piece}
use Rattle.stream.specs.Feeding.{store_in, fed}
use Rattle.stream.specs.Inner.{is_open, EndsBehind, stays_open, Keeps, Goes, keeps_all, Collecting}
use Rattle.stream.proofs.StepLaws.{store_open}
use Rattle.stream.proofs.CaseLaws as Case
use Rattle.stream.proofs.CodeLaws as Code

-- ---- the test
module _ {h : Option Head} (count : ℕ) where
  module _ {kind start len : ℕ} (e : h ≡ Some (head kind start len)) where
    pub behind-bounds : EndsBehind h count → (count ≤ start + len) × (start + len < 2 ^ 64)
    behind-bounds p = rw e at p

    pub stays-known : (given : ℕ) → ltb given (start + len - count) ≡ stays_open h count given
    stays-known given = sym (ap (λ (x : Option Head). stays_open x count given) e)

  pub stays-cut : (given : ℕ) → h ≡ None → false ≡ stays_open h count given
  stays-cut given e = sym (ap (λ (x : Option Head). stays_open x count given) e)

-- ---- a store that skips nothing
module _ {w held : List ℕ} (rd : Collecting w held) where
  abbrev kept : List ℕ
  kept = take (get_or w store_at 0) held

  kept_open : is_open kept ≡ true
  kept_open =
      let o = store_open (store_in w held) rd.sound in
      rw (waits-frame kept (o.waits rd.live.skip), o.keeps rd.live.skip)

  module _ {h : Option Head} (hr : HeadRead kept h) where
    -- a head of it is that of a capsule that is not skipped, within the limit, and not all there
    module _ {kind start len : ℕ} (e : h ≡ Some (head kind start len)) where
      open_kind : kind ≤ 3
      open_kind = ⊎_elim (λ q. absurd (true≢false (sym (Case.open_other kept hr e q ∙ kept_open)))) (λ q. q) (order 3 kind)

      pub open_short_lem : len ≤ max_value
      open_short_lem =
          ⊎_elim (λ q. absurd (true≢false (sym (Case.open_long kept hr e open_kind q ∙ kept_open)))) (λ q. q) (order max_value len)

      open_ends : get_or w store_at 0 < start + len
      open_ends =
          let q = ltb-true (length kept) (start + len) (Case.open_value kept hr e open_kind open_short_lem ∙ kept_open) in
          omega (arith, length-take-le (get_or w store_at 0) held (omega (arith, rd.within, rd.room)))

    pub ends-behind : EndsBehind h (get_or w store_at 0)
    ends-behind = of h refl
      where
        of : (x : Option Head) → h ≡ x → EndsBehind x (get_or w store_at 0)
        of (Some x) e = (omega (arith, open_ends e), omega (arith, open_short_lem e, (Case.open_bounds kept hr e).0))
        of None e = tt

    module _ (t : List ℕ) (stays : stays_open h (get_or w store_at 0) (length t) ≡ true) where
      -- bytes are lacking
      lacks : {kind start len : ℕ} → h ≡ Some (head kind start len) → length t < start + len - get_or w store_at 0
      lacks {kind} {start} {len} e = ltb-true (length t) (start + len - get_or w store_at 0) (stays-known (get_or w store_at 0) e (length t) ∙ stays)

      cut-ends : h ≡ None → ⊥
      cut-ends e = true≢false (sym (stays-cut (get_or w store_at 0) (length t) e ∙ stays))

      pub stays-fits : get_or w store_at 0 + length t ≤ length held
      stays-fits = of h refl
        where
          of : (x : Option Head) → h ≡ x → get_or w store_at 0 + length t ≤ length held
          of (Some x) e = Code.lacks-fits rd t (Code.head-kept kept t e hr) e (open_kind e) (open_short_lem e) (lacks e)
          of None e = absurd (cut-ends e)

      pub goes-stays : {before l : List ℕ} {r : Result Piece Refusal} {later holds : List ℕ} → Keeps (keeps_all kept t) w held r later holds
          → Goes (fed w held t) w held before l r later holds before l
      goes-stays {before} {l} {r} {later} {holds} k = of h refl
        where
          of : (x : Option Head) → h ≡ x → Goes (fed w held t) w held before l r later holds before l
          of (Some x) e = Code.goes-lacks rd t (Code.head-kept kept t e hr) e (open_kind e) (open_short_lem e) (lacks e) k
          of None e = absurd (cut-ends e)
