-- A capsule that is written is read back, whatever follows; and one that is read with every number in its shortest form is what would be
-- written. The frame is that of two numbers; the value is by the laws of lists. Assumes nothing.
use Prim.Native.Nat.{ℕ, suc, ◌+◌, ◌≤◌}
use mathlib.Core.Bool.{true, false, ◌&&◌}
use mathlib.Core.Path.{◌≡◌, refl, sym, ap, ◌∙◌}
use mathlib.Core.List.{List, [], ◌++◌, append_assoc}
use native.Mathlib.Omega.{arith}
use borrow.Author.Tests.{eqb-true}
use lib.ListN.{length, take, drop, length-append, length-take, length-drop}
use lib.Seq.{take-append_seam, take_at, take-add, drop_at, drop-drop}
use Rattle.answer.proofs.Tests.{and_both}
use Rattle.octets.specs.Big.{Bytes}
use Rattle.octets.proofs.BigLaws as Big
use Rattle.varint.specs.Numbers.{read_number, encode, encoded_size, shortest}
use Rattle.varint.proofs.Encoding as Encoding
use Rattle.varint.proofs.RoundTrip as Number
use Rattle.lists.specs.declared.AddressEntry.{AddressEntry}
use Rattle.lists.specs.declared.RouteRange.{RouteRange}
use Rattle.lists.specs.Words.{max_addresses, max_ranges}
use Rattle.capsule.specs.Elements.{written}
use Rattle.capsule.specs.Entries.{entry_format, range_format}
use Rattle.capsule.specs.Capsules.{max_value, Capsule, datagram, assign, request, advertise, unknown, capsule, read_value, frame_of, read_capsule, frame_bytes, value_of, capsule_bytes}
use Rattle.capsule.specs.Sound.{value_start, Ruled, Sound, sound-datagram, sound-assign, sound-request, sound-advertise, sound-unknown, in_words}
use Rattle.capsule.specs.Shortest.{shortest_front, behind_number, every_element, shortest_ids, shortest_value, shortest_capsule}
use Rattle.capsule.proofs.FrameCases as Frames
use Rattle.capsule.proofs.Parsing as Parsing
use Rattle.capsule.proofs.EntryBytes.{entries_lawful}
use Rattle.capsule.proofs.RangeBytes.{ranges_lawful}
use Rattle.capsule.proofs.ReadFacts.{Taken, is-datagram, is-assign, is-request, is-advertise, is-unknown, read_facts}

-- ---- written, then read
module _ (kind : ℕ) (v rest : List ℕ) (h : kind ≤ 3) (l : length v ≤ max_value) where
  regroup : frame_bytes kind v ++ rest ≡ encode kind ++ (encode (length v) ++ (v ++ rest))
  regroup = append_assoc (encode kind) (encode (length v) ++ v) rest ∙ ap (λ (x : List ℕ). encode kind ++ x) (append_assoc (encode (length v)) v rest)

  behind-type : drop (encoded_size kind) (frame_bytes kind v ++ rest) ≡ encode (length v) ++ (v ++ rest)
  behind-type = rw regroup (drop_at (encode kind) (encode (length v) ++ (v ++ rest)) (encoded_size kind) (Encoding.length_encode kind))

  behind_length : drop (encoded_size kind + encoded_size (length v)) (frame_bytes kind v ++ rest) ≡ v ++ rest
  behind_length =
      sym (drop-drop (encoded_size (length v)) (encoded_size kind) (frame_bytes kind v ++ rest))
      ∙ rw behind-type (drop_at (encode (length v)) (v ++ rest) (encoded_size (length v)) (Encoding.length_encode (length v)))

  pub length_frame : length (frame_bytes kind v) ≡ encoded_size kind + encoded_size (length v) + length v
  length_frame =
      omega (arith, length-append (encode kind) (encode (length v) ++ v), length-append (encode (length v)) v, Encoding.length_encode kind, Encoding.length_encode (length v))

  framed : Frames.Framed (frame_bytes kind v ++ rest) kind (encoded_size kind + encoded_size (length v)) (length v)
  framed =
      record {
        n = encoded_size kind;
        m = encoded_size (length v);
        type = rw regroup (Number.read-encode kind (encode (length v) ++ (v ++ rest)) (omega arith));
        count = rw behind-type (Number.read-encode (length v) (v ++ rest) (omega arith));
        starts = refl;
        there = omega (arith, length-append (frame_bytes kind v) rest, length_frame);
        short = λ k. l;
      }

  pub read-framed : read_capsule (frame_bytes kind v ++ rest) ≡ read_value kind v (encoded_size kind + encoded_size (length v))
  unfolding read_capsule
  read-framed = rw (Frames.framed-frame framed, behind_length, take-append_seam v rest)

  -- a value that reads as the capsule c
  pub read-frame : (c : Capsule) → read_value kind v (encoded_size kind + encoded_size (length v)) ≡ capsule c (encoded_size kind + encoded_size (length v)) (encoded_size kind + encoded_size (length v) + length v)
      → read_capsule (frame_bytes kind v ++ rest) ≡ capsule c (encoded_size kind + encoded_size (length v)) (length (frame_bytes kind v))
  read-frame c e = read-framed ∙ e ∙ ap (capsule c (encoded_size kind + encoded_size (length v))) (sym length_frame)

module _ (start : ℕ) where
  value-datagram : (v : List ℕ) → read_value 0 v start ≡ capsule (datagram v) start (start + length v)
  unfolding read_value
  value-datagram v = refl

  value-assign : (es : List AddressEntry) → Ruled (entry_format false) false max_addresses es → in_words (assign es) ≡ true
      → read_value 1 (written (entry_format false) es) start ≡ capsule (assign es) start (start + length (written (entry_format false) es))
  unfolding read_value
  value-assign es r w = rw (Parsing.read-written (entries_lawful false) false max_addresses es r w)

  value-request : (es : List AddressEntry) → Ruled (entry_format true) true max_addresses es → in_words (request es) ≡ true
      → read_value 2 (written (entry_format true) es) start ≡ capsule (request es) start (start + length (written (entry_format true) es))
  unfolding read_value
  value-request es r w = rw (Parsing.read-written (entries_lawful true) true max_addresses es r w)

  value-advertise : (rs : List RouteRange) → Ruled range_format false max_ranges rs → in_words (advertise rs) ≡ true
      → read_value 3 (written range_format rs) start ≡ capsule (advertise rs) start (start + length (written range_format rs))
  unfolding read_value
  value-advertise rs r w = rw (Parsing.read-written ranges_lawful false max_ranges rs r w)

-- the value of a capsule that keeps the rules is within the limit
pub value-within : (c : Capsule) → Sound c → length (value_of c) ≤ max_value
value-within c (sound-datagram h) = h
value-within c (sound-assign {es} r) = omega (arith, Parsing.length_written (entries_lawful false) es, Parsing.ruled-within r)
value-within c (sound-request {es} r) = omega (arith, Parsing.length_written (entries_lawful true) es, Parsing.ruled-within r)
value-within c (sound-advertise {rs} r) = omega (arith, Parsing.length_written ranges_lawful rs, Parsing.ruled-within r)
value-within c sound-unknown = omega arith

-- a capsule that keeps the rules, written and then read
pub read-written : (c : Capsule) (rest : List ℕ) → Sound c → in_words c ≡ true → (c ≡ unknown → ⊥)
    → read_capsule (capsule_bytes c ++ rest) ≡ capsule c (value_start c) (length (capsule_bytes c))
unfolding capsule_bytes
read-written c rest (sound-datagram {v} h) w k = read-frame 0 v rest (omega arith) h (datagram v) (value-datagram _ v)
read-written c rest (sound-assign {es} r) w k =
    read-frame 1 (written (entry_format false) es) rest (omega arith) (value-within c (sound-assign r)) (assign es) (value-assign _ es r w)
read-written c rest (sound-request {es} r) w k =
    read-frame 2 (written (entry_format true) es) rest (omega arith) (value-within c (sound-request r)) (request es) (value-request _ es r w)
read-written c rest (sound-advertise {rs} r) w k =
    read-frame 3 (written range_format rs) rest (omega arith) (value-within c (sound-advertise r)) (advertise rs) (value-advertise _ rs r w)
read-written c rest sound-unknown w k = absurd (k refl)

-- it is as long as type, length and value
pub length_capsule : (c : Capsule) → Sound c → (c ≡ unknown → ⊥) → value_start c + length (value_of c) ≡ length (capsule_bytes c)
unfolding capsule_bytes
length_capsule c (sound-datagram {v} h) k = sym (length_frame 0 v [] (omega arith) h)
length_capsule c (sound-assign {es} r) k = sym (length_frame 1 (written (entry_format false) es) [] (omega arith) (value-within c (sound-assign r)))
length_capsule c (sound-request {es} r) k = sym (length_frame 2 (written (entry_format true) es) [] (omega arith) (value-within c (sound-request r)))
length_capsule c (sound-advertise {rs} r) k = sym (length_frame 3 (written range_format rs) [] (omega arith) (value-within c (sound-advertise r)))
length_capsule c sound-unknown k = absurd (k refl)

-- ---- read, then written
module _ (s : List ℕ) (h : Bytes s) (kind start count : ℕ) (f : Frames.Framed s kind start count) where
  length_value : length (take count (drop start s)) ≡ count
  length_value = simp (length-take, length-drop) (omega (arith, f.there))

  -- the bytes of a frame whose two numbers are in shortest form
  frame-front : f.n ≡ encoded_size kind → f.m ≡ encoded_size count → take (start + count) s ≡ frame_bytes kind (take count (drop start s))
  frame-front a b =
      let n = f.n in
      let m = f.m in
      let v = take count (drop start s) in
      let x : s ≡ encode kind ++ drop n s = Number.read-shortest s kind n h f.type a in
      let y : drop n s ≡ encode count ++ drop m (drop n s) = Number.read-shortest (drop n s) count m (Big.bytes_drop n s h) f.count b in
      let z : s ≡ (encode kind ++ encode count) ++ drop m (drop n s) =
      x ∙ ap (λ (t : List ℕ). encode kind ++ t) y ∙ sym (append_assoc (encode kind) (encode count) (drop m (drop n s))) in
      let k : length (encode kind ++ encode count) ≡ start =
      omega (arith, length-append (encode kind) (encode count), Encoding.length_encode kind, Encoding.length_encode count, f.starts) in
      let w : take start s ≡ encode kind ++ encode count =
      ap (take start) z ∙ take_at (encode kind ++ encode count) (drop m (drop n s)) start k in
      take-add start count s ∙ ap (λ (t : List ℕ). t ++ v) w ∙ append_assoc (encode kind) (encode count) v
      ∙ ap (λ (i : ℕ). encode kind ++ (encode i ++ v)) (sym length_value)

  -- what the test of shortest form says
  pub shortest_facts : shortest_capsule s ≡ true
      → (f.n ≡ encoded_size kind) × (f.m ≡ encoded_size count) × (shortest_ids kind (take count (drop start s)) ≡ true)
  unfolding shortest_capsule
  shortest_facts g =
      let p = and_both (shortest_front s) (shortest_front (behind_number s (read_number s)) && shortest_value s (frame_of s)) g in
      let q = and_both (shortest_front (behind_number s (read_number s))) (shortest_value s (frame_of s)) p.1 in
      let a : shortest kind f.n ≡ true = rw f.type at p.0 in
      let b : shortest_front (drop f.n s) ≡ true = rw f.type at q.0 in
      let d : shortest count f.m ≡ true = rw f.count at b in
      (eqb-true f.n (encoded_size kind) a, eqb-true f.m (encoded_size count) d, rw (Frames.framed-frame f) at q.1)

-- the capsule of a value whose Request IDs are shortest
value-bytes : (kind : ℕ) (v : List ℕ) (c : Capsule) → Bytes v → Taken kind v c → (c ≡ unknown → ⊥) → shortest_ids kind v ≡ true
    → frame_bytes kind v ≡ capsule_bytes c
unfolding capsule_bytes
value-bytes kind v c h (is-datagram k) u g = ap (λ (i : ℕ). frame_bytes i v) k
value-bytes kind v c h (is-assign {es} k e) u g =
    let t : every_element (entry_format false).read shortest_front (suc (length v)) v ≡ true = rw k at g in
    ap (λ (i : ℕ). frame_bytes i v) k ∙ ap (frame_bytes 1) (Parsing.read-shortest (entries_lawful false) false max_addresses v es h e t)
value-bytes kind v c h (is-request {es} k e) u g =
    let t : every_element (entry_format false).read shortest_front (suc (length v)) v ≡ true = rw k at g in
    ap (λ (i : ℕ). frame_bytes i v) k ∙ ap (frame_bytes 2) (Parsing.read-shortest (entries_lawful true) true max_addresses v es h e t)
value-bytes kind v c h (is-advertise {rs} k e) u g =
    ap (λ (i : ℕ). frame_bytes i v) k
    ∙ ap (frame_bytes 3) (Parsing.read-shortest ranges_lawful false max_ranges v rs h e (Parsing.every_true _ range_format.read (suc (length v)) v))
value-bytes kind v c h (is-unknown k) u g = absurd (u refl)

-- a capsule read with every number in its shortest form is what writing it gives
pub shortest-written : (s : List ℕ) (c : Capsule) (start size : ℕ) → Bytes s → read_capsule s ≡ capsule c start size → (c ≡ unknown → ⊥)
    → shortest_capsule s ≡ true → take size s ≡ capsule_bytes c
shortest-written s c start size h e u g =
    let r = read_facts s c start size e in
    let p = shortest_facts s h r.kind start r.count r.framed g in
    ap (λ (i : ℕ). take i s) r.ends ∙ frame-front s h r.kind start r.count r.framed p.0 p.1
    ∙ value-bytes r.kind (take r.count (drop start s)) c (Big.bytes_take r.count (drop start s) (Big.bytes_drop start s h)) r.taken u p.2
