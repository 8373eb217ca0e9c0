-- Entries on bytes: what is written is read back, and what is read with a shortest Request ID is what is written. By the version. Assumes nothing.
use Rattle.std.proofs.Common.{Option, Some, None}
use Prim.Native.Nat.{ℕ, ◌+◌, ◌-◌, ◌^◌, ◌≤◌, ◌<◌}
use mathlib.Core.Bool.{Bool, true, false}
use mathlib.Core.Path.{◌≡◌, refl, sym, ap, ◌∙◌}
use mathlib.Core.List.{List, [], ◌∷◌, ◌++◌, append_assoc}
use mathlib.Core.Logic.{⊎_elim}
use native.Mathlib.Omega.{arith}
use borrow.Author.Tests.{lt-ltb, ltb-true, eqb-true}
use lib.Dec.{eqb}
use lib.ListN.{length, get_or, drop, length-append}
use lib.Seq.{drop_at, drop-drop, drop-cons}
use Rattle.answer.specs.Choice.{pick}
use Rattle.answer.proofs.Tests.{and_both}
use Rattle.octets.specs.Big.{big_at, digits, Bytes}
use Rattle.octets.proofs.BigLaws as Big
use Rattle.varint.specs.Numbers.{limit, encode, encoded_size}
use Rattle.varint.proofs.Encoding as Encoding
use Rattle.varint.proofs.RoundTrip as RoundTrip
use Rattle.lists.specs.declared.AddressEntry.{AddressEntry}
use Rattle.lists.specs.Rules.{id_of, address_of, sound_entry}
use Rattle.lists.proofs.EntryRule as Rule
use Rattle.capsule.specs.declared.element.EntryRead.{EntryRead}
use Rattle.capsule.specs.Elements.{element}
use Rattle.capsule.specs.Entries.{entry_read, entry4, entry6, read_entry, read_body, entry_bytes, entry_element, entry_format}
use Rattle.capsule.specs.Sound.{is_word, entry_in_words}
use Rattle.capsule.specs.Shortest.{shortest_front}
use Rattle.capsule.proofs.EntryCases as Entry
use Rattle.capsule.proofs.Fields as Fields
use Rattle.capsule.proofs.Parsing.{Lawful}

-- what follows the Request ID, at a version
abbrev body_at : AddressEntry → ℕ → List ℕ
body_at e v = v ∷ (pick (eqb v 4) (digits 4 e.lo) (digits 8 e.hi ++ digits 8 e.lo) ++ (e.prefix ∷ []))

abbrev body_bytes : AddressEntry → List ℕ
body_bytes e = body_at e e.version

abbrev entry_of : ℕ → ℕ → ℕ → ℕ → ℕ → AddressEntry
entry_of id v p h l = record { request_id = record { 0 = id }; version = v; prefix = p; hi = h; lo = l }

entry-same : (a b : AddressEntry) → id_of a ≡ id_of b → a.version ≡ b.version → a.prefix ≡ b.prefix → a.hi ≡ b.hi → a.lo ≡ b.lo → a ≡ b
entry-same a b i v p h l =
    let e : entry_of (id_of a) a.version a.prefix a.hi a.lo ≡ entry_of (id_of b) b.version b.prefix b.hi b.lo = rw (i, v, p, h, l) in
    e

-- ---- written, then read
module _ (e : AddressEntry) (s : sound_entry e ≡ true) (w : entry_in_words e ≡ true) where
  words : (e.hi < 2 ^ 64) × (e.lo < 2 ^ 64)
  words =
      let b = and_both (is_word e.hi) (is_word e.lo) w in
      (ltb-true e.hi (2 ^ 64) b.0, ltb-true e.lo (2 ^ 64) b.1)

  module _ (n : ℕ) (rest : List ℕ) where
    at-version : (v : ℕ) → e.version ≡ v → read_body (id_of e) n (body_at e v ++ rest) ≡ Some (entry_read e (n + length (body_at e v)))
        → read_body (id_of e) n (body_bytes e ++ rest) ≡ Some (entry_read e (n + length (body_bytes e)))
    at-version v q h =
        ap (λ (x : ℕ). read_body (id_of e) n (body_at e x ++ rest)) q ∙ h ∙ ap (λ (x : ℕ). Some (entry_read e (n + length (body_at e x)))) (sym q)

    body4 : e.version ≡ 4 → read_body (id_of e) n (body_bytes e ++ rest) ≡ Some (entry_read e (n + length (body_bytes e)))
    body4 v =
        let f = Rule.entry_facts e s in
        let a : address_of e < 2 ^ 32 = f.version.ipv4 v in
        let l : e.lo < 256 ^ 4 = omega arith in
        let z : e.hi ≡ 0 = omega arith in
        let t : List ℕ = 4 ∷ (digits 4 e.lo ++ (e.prefix ∷ rest)) in
        let q : e ≡ entry4 (id_of e) t = entry-same e (entry4 (id_of e) t) refl v refl z (sym (Fields.big-digits 4 e.lo l)) in
        at-version 4 v (sym (Entry.case4 (id_of e) n t true e refl (omega arith) q s))

    body6 : e.version ≡ 6 → read_body (id_of e) n (body_bytes e ++ rest) ≡ Some (entry_read e (n + length (body_bytes e)))
    body6 v =
        let h : e.hi < 256 ^ 8 = words.0 in
        let l : e.lo < 256 ^ 8 = words.1 in
        let t : List ℕ = 6 ∷ (digits 8 e.hi ++ (digits 8 e.lo ++ (e.prefix ∷ rest))) in
        let q : e ≡ entry6 (id_of e) t =
        entry-same e (entry6 (id_of e) t) refl v refl (sym (Fields.big-digits 8 e.hi h)) (sym (Fields.big-digits 8 e.lo l)) in
        at-version 6 v (sym (Entry.case6 (id_of e) n t true e refl (omega arith) q s))

    body : read_body (id_of e) n (body_bytes e ++ rest) ≡ Some (entry_read e (n + length (body_bytes e)))
    body = ⊎_elim body4 body6 (Rule.entry_facts e s).version.known

  pub read_entry_written : (rest : List ℕ) → read_entry (entry_bytes e ++ rest) ≡ Some (entry_read e (length (entry_bytes e)))
  unfolding entry_bytes
  read_entry_written rest =
      let id = id_of e in
      let n = encoded_size id in
      let i : id < limit = (Rule.entry_facts e s).id in
      let k : length (encode id) ≡ n = Encoding.length_encode id in
      let z : length (encode id ++ body_bytes e) ≡ n + length (body_bytes e) = length-append (encode id) (body_bytes e) ∙ rw k in
      rw (append_assoc (encode id) (body_bytes e) rest, z)
      (sym (Entry.body (encode id ++ (body_bytes e ++ rest)) id n (RoundTrip.read-encode id (body_bytes e ++ rest) i))
      ∙ rw (drop_at (encode id) (body_bytes e ++ rest) n k) (body n rest))

-- ---- read, then written
module _ (t : List ℕ) (h : Bytes t) where
  front4 : get_or t 0 0 ≡ 4 → 6 ≤ length t → (id : ℕ) → t ≡ body_bytes (entry4 id t) ++ drop 6 t
  front4 v l id =
      let a : t ≡ get_or t 0 0 ∷ drop 1 t = drop-cons t 0 0 (omega arith) in
      let b : drop 1 t ≡ digits 4 (big_at 1 4 t) ++ drop 5 t = Fields.field-digits t h 1 4 (omega arith) in
      let d : drop 5 t ≡ get_or t 5 0 ∷ drop 6 t = drop-cons t 5 0 (omega arith) in
      a ∙ ap (λ (x : ℕ). x ∷ drop 1 t) v ∙ ap (λ (x : List ℕ). 4 ∷ x) (b ∙ ap (λ (x : List ℕ). digits 4 (big_at 1 4 t) ++ x) d)

  front6 : get_or t 0 0 ≡ 6 → 18 ≤ length t → (id : ℕ) → t ≡ body_bytes (entry6 id t) ++ drop 18 t
  front6 v l id =
      let a : t ≡ get_or t 0 0 ∷ drop 1 t = drop-cons t 0 0 (omega arith) in
      let b : drop 1 t ≡ digits 8 (big_at 1 8 t) ++ drop 9 t = Fields.field-digits t h 1 8 (omega arith) in
      let c : drop 9 t ≡ digits 8 (big_at 9 8 t) ++ drop 17 t = Fields.field-digits t h 9 8 (omega arith) in
      let d : drop 17 t ≡ get_or t 17 0 ∷ drop 18 t = drop-cons t 17 0 (omega arith) in
      a ∙ ap (λ (x : ℕ). x ∷ drop 1 t) v
      ∙ ap (λ (x : List ℕ). 6 ∷ x) (b ∙ ap (λ (x : List ℕ). digits 8 (big_at 1 8 t) ++ x) (c ∙ ap (λ (x : List ℕ). digits 8 (big_at 9 8 t) ++ x) d))

  front : (id n : ℕ) (e : AddressEntry) (m : ℕ) → Entry.BodyTaken id n t e m → (id_of e ≡ id) × (m ≡ n + (m - n)) × (t ≡ body_bytes e ++ drop (m - n) t)
  front id n e m (Entry.ipv4 v q w) =
      let z : m - n ≡ 6 = omega (arith, w.taken) in
      (sym (ap id_of q), omega (arith, w.taken), rw (z, ← q) (front4 v w.long id))
  front id n e m (Entry.ipv6 v q w) =
      let z : m - n ≡ 18 = omega (arith, w.taken) in
      (sym (ap id_of q), omega (arith, w.taken), rw (z, ← q) (front6 v w.long id))

  word : (id n : ℕ) (e : AddressEntry) (m : ℕ) → Entry.BodyTaken id n t e m → entry_in_words e ≡ true
  word id n e m (Entry.ipv4 v q w) =
      let b : big_at 1 4 t < 2 ^ 64 = omega (arith, Fields.field_bound t h 1 4) in
      rw (← q) (lt-ltb (big_at 1 4 t) (2 ^ 64) b)
  word id n e m (Entry.ipv6 v q w) =
      rw (← q, lt-ltb (big_at 1 8 t) (2 ^ 64) (Fields.field_bound t h 1 8)) (lt-ltb (big_at 9 8 t) (2 ^ 64) (Fields.field_bound t h 9 8))

module _ (s : List ℕ) (e : AddressEntry) (m : ℕ) (h : Bytes s) (q : read_entry s ≡ Some (entry_read e m)) where
  pub entry-words : entry_in_words e ≡ true
  entry-words = let t = Entry.taken s e m q in word (drop t.n s) (Big.bytes_drop t.n s h) t.id t.n e m t.body

  pub read_entry_shortest : shortest_front s ≡ true → s ≡ entry_bytes e ++ drop m s
  unfolding entry_bytes
  read_entry_shortest g =
      let t = Entry.taken s e m q in
      let n = t.n in
      let f = front (drop n s) (Big.bytes_drop n s h) t.id n e m t.body in
      let z : n ≡ encoded_size t.id = eqb-true n (encoded_size t.id) (rw t.number at g) in
      let d : drop (m - n) (drop n s) ≡ drop m s = drop-drop (m - n) n s ∙ ap (λ (k : ℕ). drop k s) (sym f.1) in
      RoundTrip.read-shortest s t.id n h t.number z
      ∙ ap (λ (x : List ℕ). encode t.id ++ x) (f.2 ∙ ap (λ (x : List ℕ). body_bytes e ++ x) d)
      ∙ ap (λ (i : ℕ). encode i ++ (body_bytes e ++ drop m s)) (sym f.0)
      ∙ sym (append_assoc (encode (id_of e)) (body_bytes e) (drop m s))

entry-most : (e : AddressEntry) → length (entry_bytes e) ≤ 34
unfolding entry_bytes
entry-most e =
    let b = Encoding.size-bounds (id_of e) in
    let k = Encoding.length_encode (id_of e) in
    let z : length (body_bytes e) ≤ 18 = short (eqb e.version 4) in
    omega (arith, b.1, k, length-append (encode (id_of e)) (body_bytes e))
  where
    short : (t : Bool) → length (e.version ∷ (pick t (digits 4 e.lo) (digits 8 e.hi ++ digits 8 e.lo) ++ (e.prefix ∷ []))) ≤ 18
    short true = omega arith
    short false = omega arith

-- ---- the laws of the kind
of_entry : (r : Option EntryRead) (a : AddressEntry) (n : ℕ) → entry_element r ≡ element a n → r ≡ Some (entry_read a n)
of_entry (Some r) a n q =
    let x : r.entry ≡ a = cc in
    let y : r.size ≡ n = cc in
    let z : Some (entry_read r.entry r.size) ≡ Some (entry_read a n) = rw (x, y) in
    z
of_entry None a n q = let z : ◌≡◌ {A = ℕ} 0 1 = cc in absurd (omega arith)

pub entries_lawful : (request : Bool) → Lawful (entry_format request) entry_in_words shortest_front
entries_lawful request =
    record {
      sized = λ s a n q. let z = Entry.size s a n (of_entry (read_entry s) a n q) in (omega (arith, z.0), z.1);
      sound = λ s a n q. Entry.sound s a n (of_entry (read_entry s) a n q);
      worded = λ s a n h q. entry-words s a n h (of_entry (read_entry s) a n q);
      written = λ a rest s w. ap entry_element (read_entry_written a s w rest);
      most = entry-most;
      shortest = λ s a n h q g. read_entry_shortest s a n h (of_entry (read_entry s) a n q) g;
    }
