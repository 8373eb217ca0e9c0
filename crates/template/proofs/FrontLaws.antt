-- The front of a packet as it goes on: templates look at no byte behind it but for the sum, and alter none. Assumes nothing.
use Prim.Native.Nat.{ℕ, zero, suc, ◌+◌, ◌-◌, ◌≤◌, min}
use mathlib.Core.Path.{◌≡◌, refl, ap, sym, ◌∙◌}
use mathlib.Core.List.{List, [], ◌∷◌, ◌++◌}
use mathlib.Core.Bool.{Bool, ◌&&◌}
use native.Mathlib.Omega.{arith}
use lib.ListN.{length, take, drop, length-take, take-append-drop}
use lib.Dec.{eqb}
use Rattle.inet.specs.Packet.{lowered}
use Rattle.inet.specs.Transport.{seed, set_field}
use Rattle.inet.proofs.FieldLaws.{put_take, put_drop}
use Rattle.inet.proofs.LoweredLaws.{lowered_length, lowered_drop}
use Rattle.table.specs.Limits.{static_limit}
use Rattle.table.specs.Sound.{SoundSum}
use Rattle.table.specs.Templates.{Piece, Sum, no_sum, sum_at}
use Rattle.table.specs.Words.{window}
use Rattle.template.specs.Pieces.{begins}
use Rattle.template.specs.Datagrams.{seeded}
use Rattle.template.specs.Usable.{holds_at, seed_of, filled}
use Rattle.template.proofs.Steps.{window_length}

-- behind the first n elements, however many there are
drop_taken : (n : ℕ) (l : List ℕ) → drop (length (take n l)) l ≡ drop n l
drop_taken zero l = refl
drop_taken (suc n) [] = refl
drop_taken (suc n) (x ∷ l) = drop_taken n l

-- the seed stands in the front
seeded_drop : (k : Sum) (ps : List Piece) (q : List ℕ) → SoundSum k ps → drop static_limit (seeded k q) ≡ drop static_limit q
seeded_drop no_sum ps q s = refl
seeded_drop (sum_at field start) ps q s = put_drop q field (seed start q) static_limit (omega (arith, s.high))

-- a front that is long enough begins as the whole list
begins_take : (n : ℕ) (b l : List ℕ) → length b ≤ n → begins b (take n l) ≡ begins b l
begins_take n [] l h = refl
begins_take zero (x ∷ b) l h = absurd (omega arith)
begins_take (suc n) (x ∷ b) [] h = refl
begins_take (suc n) (x ∷ b) (y ∷ l) h = ap (λ (r : Bool). eqb y x && r) (begins_take n b l (omega arith))

begins_drop : (k n : ℕ) (b l : List ℕ) → k + length b ≤ n → begins b (drop k (take n l)) ≡ begins b (drop k l)
begins_drop zero n b l h = begins_take n b l (omega arith)
begins_drop (suc k) zero b l h = absurd (omega arith)
begins_drop (suc k) (suc n) b [] h = refl
begins_drop (suc k) (suc n) b (y ∷ l) h = begins_drop k n b l (omega arith)

module _ (p : List ℕ) {front : List ℕ} (e : front ≡ take static_limit (lowered p)) where
  pub front_length : length front ≡ min static_limit (length p)
  front_length = ap length e ∙ length-take static_limit (lowered p) ∙ ap (min static_limit) (lowered_length p)

  -- bytes before the limit are those of the packet
  pub front-holds : (t : List ℕ) (k stop : ℕ) → k ≤ stop → stop ≤ static_limit → holds_at t front k stop ≡ holds_at t (lowered p) k stop
  front-holds t k stop h l =
      let m = window_length t k (stop - k) in
      ap (λ (q : List ℕ). holds_at t q k stop) e ∙ begins_drop k static_limit (window t k (stop - k)) (lowered p) (omega arith)

  -- the packet behind the front
  front_drop : drop (length front) p ≡ drop static_limit p
  front_drop =
      ap (λ (n : ℕ). drop n p) (front_length ∙ sym (length-take static_limit p)) ∙ drop_taken static_limit p

  -- the front with the seed, and the packet behind it, are all of the packet with the seed
  pub front-whole : (k : Sum) (ps : List Piece) → SoundSum k ps → {q : List ℕ} → q ≡ take static_limit (seeded k (lowered p)) → q ++ drop (length front) p ≡ seeded k (lowered p)
  front-whole k ps s {q} f =
      let b : drop (length front) p ≡ drop static_limit (seeded k (lowered p)) = front_drop ∙ sym (lowered_drop p static_limit (omega arith)) ∙ sym (seeded_drop k ps (lowered p) s) in
      rw (f, b) (take-append-drop static_limit (seeded k (lowered p)))

  -- the seed put into the front
  pub front-filled : (k : Sum) (ps : List Piece) → SoundSum k ps → {v : ℕ} {q : List ℕ} → v ≡ seed_of k (lowered p) → q ≡ filled k v front
      → q ≡ take static_limit (seeded k (lowered p))
  front-filled no_sum ps s f g = g ∙ e
  front-filled (sum_at field start) ps s {v} {q} f g =
      g ∙ ap (set_field field v) e ∙ sym (put_take (lowered p) field v static_limit (omega (arith, s.high)))
      ∙ ap (λ (n : ℕ). take static_limit (set_field field n (lowered p))) f
