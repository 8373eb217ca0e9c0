-- A record at a place of the bytes that were read, and the bytes that are kept. Assumes nothing.
use Prim.Native.Nat.{ℕ, ◌+◌, ◌-◌, ◌*◌, ◌<◌, ◌≤◌}
use mathlib.Core.Path.{◌≡◌, refl, sym, ap, ◌∙◌}
use mathlib.Core.List.{List, [], ◌∷◌, ◌++◌}
use native.Mathlib.Omega.{arith}
use native.Mathlib.Nat.{add_comm}
use native.Mathlib.Numerals.{add-one}
use borrow.Author.Tests.{lt-ltb, le-ltb}
use lib.ListN.{length, get_or, take, drop, set, length-drop, length-set, length-append}
use lib.Seq.{get_or-drop, take-suc, take-suc-set, drop-set-lt, drop-drop, length-take-le, take_at, drop_at}
use borrow.Rule.Slice.PartMut.{put_mid}
use Rattle.octets.proofs.Parts.{tail, put_tail}
use Rattle.output.proofs.Placing.{lent}
use Rattle.std.specs.List.{copy_within}
use Rattle.std.proofs.lemmas.List.Edits.{take-paste}
use Rattle.van_box.specs.Sizes.{record_head}
use Rattle.van_box.specs.Incoming.{stated_size, record_size, Sized, Keeps}

-- ---- sizes

-- the two bytes of the length
stated : (s : List ℕ) → record_head ≤ length s → stated_size s ≡ record_head + get_or s 1 0 * 256 + get_or s 2 0
stated [] h = absurd (omega arith)
stated (a ∷ []) h = absurd (omega arith)
stated (a ∷ b ∷ []) h = absurd (omega arith)
stated (a ∷ b ∷ c ∷ s) h = omega arith

module _ (s : List ℕ) (at : ℕ) (h : at ≤ length s) where
  left : length (drop at s) ≡ length s - at
  left = length-drop at s

  pub no-head : length s - at < record_head → Sized s at 0
  unfolding record_size
  no-head g = record { size = rw (lt-ltb (length (drop at s)) record_head (omega (arith, left))); within = omega arith; most = omega arith }

  module _ (g : record_head ≤ length s - at) {high low : ℕ} (a : high ≡ get_or s (at + 1) 0) (b : low ≡ get_or s (at + 2) 0) where
    said : record_head + high * 256 + low ≡ stated_size (drop at s)
    said =
        let x : get_or (drop at s) 1 0 ≡ get_or s (at + 1) 0 = get_or-drop at s 1 0 in
        let y : get_or (drop at s) 2 0 ≡ get_or s (at + 2) 0 = get_or-drop at s 2 0 in
        omega (arith, stated (drop at s) (omega (arith, left)))

    pub not_whole : length s - at < record_head + high * 256 + low → Sized s at 0
    unfolding record_size
    not_whole k =
        record {
          size = rw (le-ltb (length (drop at s)) record_head (omega (arith, left)), lt-ltb (length (drop at s)) (stated_size (drop at s)) (omega (arith, left, said)));
          within = omega arith;
          most = omega arith;
        }

    pub whole : record_head + high * 256 + low ≤ length s - at → high < 256 → low < 256 → Sized s at (record_head + high * 256 + low)
    unfolding record_size
    whole k i j =
        record {
          size = rw (le-ltb (length (drop at s)) record_head (omega (arith, left)), le-ltb (length (drop at s)) (stated_size (drop at s)) (omega (arith, left, said))) said;
          within = omega arith;
          most = omega arith;
        }

-- ---- bytes moved to the front

pub moved : {at end : ℕ} (before : List ℕ) → at ≤ end → end ≤ length before → Keeps at end before (end - at) (copy_within before at end 0)
moved {at} {end} before h k =
    let n = end - at in
    let e : n ≡ 0 + n = omega arith in
    record {
      left = refl;
      front = ap (λ (i : ℕ). take i (copy_within before at end 0)) e ∙ take-paste before 0 (drop at before) n (omega arith) (omega (arith, length-drop at before));
    }

pub kept_here : {at : ℕ} (end : ℕ) (l : List ℕ) → at ≡ 0 → Keeps at end l (end - at) l
kept_here end l e = record { left = refl; front = rw e }
