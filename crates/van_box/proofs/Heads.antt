-- The head of an answer in front of its bytes, which a function wrote to a part of the output that was lent and came back. Assumes nothing.
use Rattle.std.proofs.Common.{Result, Ok, Err, ℕ}
use Prim.Native.Nat.{ℕ, ◌+◌, ◌-◌, ◌/◌, ◌%◌, ◌<◌, ◌≤◌}
use mathlib.Core.Path.{◌≡◌, refl, sym, ap, ◌∙◌}
use mathlib.Core.List.{List, [], ◌∷◌, ◌++◌, append_assoc}
use native.Mathlib.Omega.{arith}
use lib.ListN.{length, take, drop, set, length-set, length-append, length-take, length-drop, take-append-drop}
use lib.Seq.{take-append-le, take-take, drop_at, drop-drop, length-take-le}
use borrow.Rule.Slice.PartMut.{put_mid}
use Rattle.answer.specs.declared.Refusal.{Refusal}
use Rattle.answer.specs.Number.{answer_number, answer_length}
use Rattle.answer.specs.Verdict.{answer_of, output_of, Writes}
use Rattle.octets.proofs.Parts.{tail, put_tail}
use Rattle.output.specs.Places.{Put}
use Rattle.output.proofs.Placing.{lent, put_set, put_then, put-part}
use Rattle.van_box.specs.declared.outgoing.Output.{Output}
use Rattle.van_box.specs.Sizes.{answer_head}
use Rattle.van_box.specs.Outgoing.{head_bytes, answer_bytes, Appends, PutsHead}

-- ---- the head alone

put-at : (b at k : ℕ) (a : List ℕ) → k ≡ at → k < length a → Put (b ∷ []) at a (k + 1) (set a k b)
put-at b at k a e h = rw (← e) (put_set b k a h)

put-place : {m a b : List ℕ} {at r s : ℕ} → r ≡ s → Put m at a r b → Put m at a s b
put-place e p = rw e at p

-- bytes that were put lie within
pub put-within : {m a b : List ℕ} {at r : ℕ} → at ≤ length a → Put m at a r b → r ≤ length b
put-within {m} {a} {b} {at} {r} h p =
    let l : length (take r b) ≡ length (take at a) + length m = ap length p.front ∙ length-append (take at a) m in
    omega (arith, l, length-take r b, length-take-le at a h, p.place)

-- four stores are the head, the last two the length
module _ (kind : ℕ) (a : Result ℕ Refusal) (o : Output) (before : List ℕ) {number high low : ℕ} where
  stores : o.used + answer_head ≤ length before
      → Put (kind ∷ number ∷ high ∷ low ∷ []) o.used before (o.used + answer_head)
      (set (set (set (set before o.used kind) (o.used + 1) number) (o.used + 2) high) (o.used + 3) low)
  stores h =
      let at = o.used in
      let b = set before at kind in
      let c = set b (at + 1) number in
      let d = set c (at + 2) high in
      let e : length b ≡ length before = length-set before at kind in
      let f : length c ≡ length b = length-set b (at + 1) number in
      let g : length d ≡ length c = length-set c (at + 2) high in
      let p = put_set kind at before (omega arith) in
      let q = put_set number (at + 1) b (omega arith) in
      let r = put-at high (at + 1 + 1) (at + 2) c (omega arith) (omega arith) in
      let s = put-at low (at + 2 + 1) (at + 3) d (omega arith) (omega arith) in
      put-place (omega arith) (put_then p (put_then q (put_then r s)))

  pub puts_head : {size : ℕ} → number ≡ answer_number a → size ≡ answer_length a → o.used + answer_head + answer_length a ≤ length before
      → high ≡ size / 256 % 256 → low ≡ size % 256
      → PutsHead kind a o before (record { used = o.used + answer_head + size; «open» = o.«open» })
      (set (set (set (set before o.used kind) (o.used + 1) number) (o.used + 2) high) (o.used + 3) low)
  puts_head e f h x y =
      record {
        head = rw (← e, ← f, ← x, ← y) (stores (omega arith));
        used = ap (λ (n : ℕ). o.used + answer_head + n) f;
        still = refl;
      }

-- an answer without bytes
module _ {kind : ℕ} {o r : Output} {out after : List ℕ} where
  pub head-refused : {why : Refusal} → PutsHead kind (Err why) o out r after → Appends (answer_bytes kind (Err why) []) o out r after
  head-refused p = let e : o.used + answer_head ≡ r.used = omega (arith, p.used) in record { put = put-place e p.head; still = p.still }

  pub head_done : PutsHead kind (Ok 0) o out r after → Appends (answer_bytes kind (Ok tt) []) o out r after
  head_done p = let e : o.used + answer_head ≡ r.used = omega (arith, p.used) in record { put = put-place e p.head; still = p.still }

-- ---- the head h at a place, and behind it m, which stood there before

module _ (h m a b c : List ℕ) (at start : ℕ) (e : start ≡ at + length h) (l : start + length m ≤ length a) where
  over : b ≡ take start a ++ (m ++ drop (start + length m) a) → Put h at b start c → Put (h ++ m) at a (start + length m) c
  over f p =
      let k = length (h ++ m) in
      let n : k ≡ length h + length m = length-append h m in
      let t : length (take start a) ≡ start = length-take-le start a (omega arith) in
      let rest = drop (start + length m) a in
      let x : take at b ≡ take at a =
      ap (take at) f ∙ take-append-le at (take start a) (m ++ rest) (omega arith) ∙ take-take at start a (omega arith) in
      let y : drop start b ≡ m ++ rest = ap (drop start) f ∙ drop_at (take start a) (m ++ rest) start t in
      let z : rest ≡ drop k (drop at a) = let j : start + length m ≡ at + k = omega arith in rw j (sym (drop-drop k at a)) in
      let w : c ≡ take at a ++ ((h ++ m) ++ drop k (drop at a)) =
      sym (take-append-drop start c)
      ∙ ap (λ (v : List ℕ). v ++ drop start c) (p.front ∙ ap (λ (v : List ℕ). v ++ h) x)
      ∙ ap (λ (v : List ℕ). (take at a ++ h) ++ v) (p.rest ∙ y)
      ∙ append_assoc (take at a) h (m ++ rest)
      ∙ ap (λ (v : List ℕ). take at a ++ v) (sym (append_assoc h m rest) ∙ ap (λ (v : List ℕ). (h ++ m) ++ v) z) in
      put-place (omega arith) (put-part (h ++ m) at k a refl (omega arith) w)

-- ---- an answer whose message a function wrote to `&mut out[start..]`, which came back as b

module _ (kind : ℕ) (o : Output) (out : List ℕ) (fits : o.used + answer_head ≤ length out) where
  abbrev start : ℕ
  start = o.used + answer_head

  back : (m b : List ℕ) → length b ≡ length (lent start out) → b ≡ m ++ drop (length m) (lent start out)
      → (start + length m ≤ length out) × (put_mid start (length out - start) out b ≡ take start out ++ (m ++ drop (start + length m) out))
  back m b k e =
      let l : length (lent start out) ≡ length out - start = simp (length-take, length-drop) (omega arith) in (
        omega (arith, ap length e ∙ length-append m (drop (length m) (lent start out))),
        put_tail start out b fits
            ∙ ap (λ (v : List ℕ). take start out ++ v)
            (e ∙ ap (λ (v : List ℕ). m ++ drop (length m) v) (tail start out) ∙ ap (λ (v : List ℕ). m ++ v) (drop-drop (length m) start out)),
      )

  same : (b : List ℕ) → b ≡ lent start out → put_mid start (length out - start) out b ≡ out
  same b e = put_tail start out b fits ∙ ap (λ (v : List ℕ). take start out ++ v) (e ∙ tail start out) ∙ take-append-drop start out

  module _ (m b : List ℕ) {a : Result ℕ Refusal} {r : Output} {after : List ℕ} (p : PutsHead kind a o (put_mid start (length out - start) out b) r after) where
    by-verdict : (v : Result Unit Refusal) → length b ≡ length (lent start out) → a ≡ answer_of v (length m) → b ≡ output_of v m (lent start out)
        → Appends (answer_bytes kind v m) o out r after
    by-verdict (Ok _) k e f =
        let q : PutsHead kind (Ok (length m)) o (put_mid start (length out - start) out b) r after = rw e at p in
        let g = back m b k f in
        record {
          put =
              put-place (sym q.used)
              (over (head_bytes kind 0 (length m)) m out (put_mid start (length out - start) out b) after o.used start refl g.0 g.1 q.head);
          still = q.still;
        }
    by-verdict (Err why) k e f =
        let q : PutsHead kind (Err why) o (put_mid start (length out - start) out b) r after = rw e at p in
        head-refused (rw (same b f) at q)

  pub answered : {v : Result Unit Refusal} {m b : List ℕ} {a : Result ℕ Refusal} {r : Output} {after : List ℕ} → Writes v m (lent start out) a b
      → length b ≡ length (lent start out) → PutsHead kind a o (put_mid start (length out - start) out b) r after
      → Appends (answer_bytes kind v m) o out r after
  answered {v} {m} {b} w k p = by-verdict m b p v k w.answer w.output
