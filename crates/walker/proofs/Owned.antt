-- What a walker owns, and what is had of that: what its two fields own, and what a walker over the same bytes at another place owns. A walker is
-- Copy, so in each case what there was is kept. The laws take `Logic`. The rest assumes nothing.
use mathlib.Core.Path.{◌≡◌, refl}
use Prim.Native.Nat.{ℕ, ◌<◌, ◌^◌}
use mathlib.Core.List.{List, [], ◌∷◌}
use lib.ListN.{length}
use seplogic.Ra.Ura.{Ura}
use mir.Syntax.{named, w64}
use mir.Val.{Val, vint}
use base.Logic.{ent, sep}
use base.Fml.{Lft, Fml}
use types.Logic.{Logic, sem}
use contract.Lifetimes.{Lfts}
use types.Kit.{‵, ◌⊛◌, given, ◌$◌, ◌∵◌, !, qed, by, move, use1, split, learn, frame, done}
use denote.RattleType.{RattleType, owns}
use denote.Laws.{Is}
use denote.Plain.{uint_Makes}
use denote.Builtin.{u8, usize}
use denote.Ref.{NamedLft}
use denote.Signature.{named_lft}
use denote.Slice.{slice_val, ShrSlice}
use denote.Steps.{owned}
use denote.Struct.Laws as LL
use denote.Struct.Rest.{all_own, own_open, own_put}
use Rattle.walker.specs.Walk.{walker_at}
use Rattle.walker.specs.declared.Walker.{Walker}
use Rattle.walker.specs.contracts.Walker as T
use Rattle.walker.proofs.Walker.TheLaws as T'

-- the struct's type, over a signature's lifetimes
abbrev pub B : Lfts 1 → RattleType
B κs = T.the_row (named_lft 1 0 tt κs)

module _ (κ : Lft) (d : Walker) where
  abbrev α : NamedLft
  α = named_lft 1 0 tt (κ, tt)

  abbrev pub Own : Fml
  Own = (B (κ, tt)).own_val d (T'.lowered d ∷ [])

  -- the fields' machine values
  abbrev pub vals : List Val × (List Val × Unit {0})
  vals = (slice_val d.bytes.ref_ptr (length d.bytes.now) ∷ [], (vint w64 d.at ∷ [], tt))

  -- what a callee on slice and number asks
  abbrev pub Fields : Fml
  Fields = owns (ShrSlice (named 0) κ u8 ∷ usize ∷ []) (d.bytes, (d.at, tt)) vals

  module _ {M : Type 1} {𝓤 : Ura M} (𝓛 : Logic 𝓤) where
    twice : ent 𝓤 (sem 𝓛 Own) (sep 𝓤 (sem 𝓛 Own) (sem 𝓛 Own))
    twice = (LL.copy (T.the_type α) (T'.the_copy α) 𝓛).twice d (T'.lowered d ∷ [])

    pub fields : ent 𝓤 (sem 𝓛 Own) (sep 𝓤 (sem 𝓛 Fields) (sem 𝓛 Own))
    fields =
        qed 𝓛 (‵ Own ∷ []) ∵ use1 𝓛 (‵ Own ⊛ ‵ Own) twice $ split ! $
        use1 𝓛 (given (T'.lowered d ∷ [] ≡ T'.lowered d ∷ []) (‵ (all_own (T.the_type α).parts (T'.the_laws α) (d.bytes, (d.at, tt))))) (own_open 𝓛 (T.the_type α) (T'.the_laws α) (d.bytes, (d.at, tt)) (T'.lowered d)) $ learn ! (λ _. done !)

    -- the number's facts take the place of those of the walker's place
    pub placed : (n : ℕ) → n < 2 ^ 64 → ent 𝓤 (sem 𝓛 Own) (sep 𝓤 (sem 𝓛 Own) (sem 𝓛 ((B (κ, tt)).own_val (walker_at d.bytes n) (T'.lowered (walker_at d.bytes n) ∷ []))))
    placed n fits =
        qed 𝓛 (‵ Own ∷ []) ∵ use1 𝓛 (‵ Own ⊛ ‵ Own) twice $ split ! $ frame ! $
        owned ! usize (Is usize) (uint_Makes 𝓛 w64) n _ (refl, fits) $ move ! (1 ∷ 0 ∷ []) $ by ! (own_put 𝓛 (T.the_type α) (T'.the_laws α) 1 (d.bytes, (d.at, tt)) n (T'.lowered d))
