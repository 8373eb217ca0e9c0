-- The loop of `paste`: the first i bytes are in the words. Assumes nothing.
use Prim.Native.Nat.{ℕ, ◌+◌, ◌≤◌, ◌<◌}
use mathlib.Core.Path.{◌≡◌, ◌∙◌}
use mathlib.Core.List.{List}
use native.Mathlib.Numerals.{add-one}
use native.Mathlib.Omega.{arith}
use lib.ListN.{length, drop, get_or, set, length-set, length-drop}
use lib.Seq.{paste, paste-suc, get_or-drop}

pub record Pasting (s : List ℕ) (start size place : ℕ) (t₀ t : List ℕ) (i : ℕ) : Type 0 where
  pub within : i ≤ size
  pub long : length t ≡ length t₀
  pub same : t ≡ paste t₀ place (drop start s) i

module _ (s : List ℕ) (start size place : ℕ) (t₀ : List ℕ) where
  module _ {t : List ℕ} {i : ℕ} (p : Pasting s start size place t₀ t i) where
    pub paste_next : i < size → start + size ≤ length s → place + size ≤ length t₀
        → Pasting s start size place t₀ (set t (place + i) (get_or s (start + i) 0)) (i + 1)
    paste_next h f g =
        let a : place + i < length t₀ = omega arith in
        let b : i < length (drop start s) = rw length-drop (omega arith) in
        let d : get_or (drop start s) i 0 ≡ get_or s (start + i) 0 = get_or-drop start s i 0 in
        record {
          within = omega arith;
          long = length-set t (place + i) (get_or s (start + i) 0) ∙ p.long;
          same = rw (p.same, ← d, add-one) (paste-suc t₀ place (drop start s) i 0 a b);
        }
