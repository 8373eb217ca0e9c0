-- The bytes of a capsule part by part, how many they are, and what writing them answers. Assumes nothing.
use Rattle.std.proofs.Common.{Result, Ok, Err, ℕ}
use Prim.Native.Nat.{ℕ, ◌<◌, ◌≤◌}
use mathlib.Core.Bool.{true, false}
use mathlib.Core.Path.{◌≡◌, refl, sym, ap, ◌∙◌}
use mathlib.Core.List.{List, [], ◌∷◌, ◌++◌, append_assoc}
use native.Mathlib.Omega.{arith}
use borrow.Author.Tests.{lt-ltb, le-ltb}
use lib.ListN.{length, length-append}
use Rattle.answer.specs.declared.Refusal.{Refusal}
use Rattle.answer.specs.declared.Refusal.TheVariants.{NoRoom, TooLong}
use Rattle.answer.specs.Verdict.{Writes}
use Rattle.varint.specs.Numbers.{encode}
use Rattle.varint.proofs.Encoding.{length_encode, size-one, size_small}
use Rattle.octets.specs.Scan.{from}
use Rattle.lists.specs.Words.{max_addresses, max_ranges, count_of, entry_at, range_at, entries_of, ranges_of}
use Rattle.capsule.specs.Elements.{Format, written}
use Rattle.capsule.specs.Entries.{entry_format, range_format}
use Rattle.capsule.specs.Capsules.{max_value, frame_bytes, capsule_bytes, datagram, assign, request, advertise}
use Rattle.output.specs.Places.{Put}
use Rattle.capsule_write.specs.Verdicts.{header_room, capsule_room, with_room, value_limit, list_verdict, entries_verdict, ranges_verdict, ListWritten, AssignWritten, RequestWritten, RoutesWritten}
use Rattle.output.proofs.Placing.{put_then, put_as, put_front}

-- ---- the frame

-- there is room for type and length
pub header-most : (kind size : ℕ) → kind ≤ 3 → size ≤ max_value → length (encode kind ++ encode size) ≤ header_room
header-most kind size g h =
    omega (
      arith,
      size-one kind (omega arith),
      size_small size (omega arith),
      length_encode kind,
      length_encode size,
      length-append (encode kind) (encode size),
    )

pub put-frame : (kind : ℕ) {size : ℕ} {v a b d : List ℕ} {r s : ℕ} → size ≡ length v → Put (encode kind ++ encode size) 0 a r b
    → Put v r b s d → Put (frame_bytes kind v) 0 a s d
put-frame kind {size} {v} e p q =
    put_as (append_assoc (encode kind) (encode size) v ∙ ap (λ (n : ℕ). encode kind ++ (encode n ++ v)) e) (put_then p q)

pub frame-most : (kind : ℕ) (v : List ℕ) → kind ≤ 3 → length v ≤ max_value → length (frame_bytes kind v) ≤ capsule_room
frame-most kind v g h =
    omega (
      arith,
      header-most kind (length v) g h,
      length-append (encode kind) (encode (length v)),
      length-append (encode kind) (encode (length v) ++ v),
      length-append (encode (length v)) v,
    )

-- formats of the same bytes
pub written_same : {A : Type 0} (f g : Format A) → f.bytes ≡ g.bytes → (xs : List A) → written f xs ≡ written g xs
written_same f g e [] = refl
written_same f g e (x ∷ xs) = rw (e, written_same f g e xs)

-- ---- what writing answers

module _ {m : List ℕ} {v : Result Unit Refusal} where
  pub wrote : {a b : List ℕ} {r : ℕ} → v ≡ Ok tt → Put m 0 a r b → Writes v m a (Ok r) b
  wrote {a} {b} {r} g p =
      let f = put_front p in
      record { answer = rw (g, f.0); output = rw g f.1 }

  pub refused : {a : List ℕ} {why : Refusal} → v ≡ Err why → Writes v m a (Err why) a
  refused g = record { answer = rw g; output = rw g }

module _ (n : ℕ) (j : Result Unit Refusal) where
  pub no_room : n < capsule_room → with_room n j ≡ Err NoRoom
  unfolding with_room
  no_room h = rw (lt-ltb n capsule_room h)

  -- with room, what the judge says
  pub room_says : capsule_room ≤ n → {v u : Result Unit Refusal} → v ≡ j → v ≡ u → with_room n j ≡ u
  unfolding with_room
  room_says h e g = rw (le-ltb n capsule_room h) (sym e ∙ g)

module _ (v : List ℕ) where
  pub value-over : max_value < length v → value_limit v ≡ Err TooLong
  unfolding value_limit
  value-over h = rw (lt-ltb max_value (length v) h)

  pub value-goes : length v ≤ max_value → value_limit v ≡ Ok tt
  unfolding value_limit
  value-goes h = rw (le-ltb max_value (length v) h)

-- ---- the capsules

pub datagram-frame : (v : List ℕ) → frame_bytes 0 v ≡ capsule_bytes (datagram v)
unfolding capsule_bytes
datagram-frame v = refl

pub assign-frame : (w : List ℕ) → frame_bytes 1 (written (entry_format false) (entries_of w)) ≡ capsule_bytes (assign (entries_of w))
unfolding capsule_bytes
assign-frame w = refl

pub request-frame : (w : List ℕ) → frame_bytes 2 (written (entry_format true) (entries_of w)) ≡ capsule_bytes (request (entries_of w))
unfolding capsule_bytes
request-frame w = refl

pub advertise-frame : (w : List ℕ) → frame_bytes 3 (written range_format (ranges_of w)) ≡ capsule_bytes (advertise (ranges_of w))
unfolding capsule_bytes
advertise-frame w = refl

-- ---- what writing a list says of each kind

module _ (w : List ℕ) {before after : List ℕ} {r : Result ℕ Refusal} where
  pub assign_written : ListWritten 1 false (entry_format false) max_addresses (entry_at w) (count_of w) before r after → AssignWritten w before r after
  unfolding entries_verdict entries_of capsule_bytes
  assign_written x = x

  pub request_written : ListWritten 2 true (entry_format true) max_addresses (entry_at w) (count_of w) before r after → RequestWritten w before r after
  unfolding entries_verdict entries_of capsule_bytes
  request_written x = x

  pub routes_written : ListWritten 3 false range_format max_ranges (range_at w) (count_of w) before r after → RoutesWritten w before r after
  unfolding ranges_verdict ranges_of capsule_bytes
  routes_written x = x

-- the entries of a request alone
module _ (w : List ℕ) where
  pub request-value : written (entry_format false) (from (entry_at w) 0 (count_of w)) ≡ written (entry_format true) (entries_of w)
  unfolding entries_of
  request-value = written_same (entry_format false) (entry_format true) refl (from (entry_at w) 0 (count_of w))

  pub request-verdict : list_verdict (entry_format true) true max_addresses (entry_at w) (count_of w) ≡ entries_verdict true w
  unfolding entries_verdict
  request-verdict = refl
