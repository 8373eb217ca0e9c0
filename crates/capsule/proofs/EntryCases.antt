-- An entry at the front of some bytes, by the code's cases, and what a reading of one says. Assumes nothing.
use Rattle.std.proofs.Common.{Option, Some, None}
use Rattle.std.proofs.lemmas.Option.{same_Some}
use Prim.Native.Nat.{ℕ, ◌+◌, ◌≤◌, ◌<◌}
use mathlib.Core.Bool.{Bool, true, ◌&&◌}
use mathlib.Core.Path.{◌≡◌, refl, sym, ap}
use mathlib.Core.List.{List}
use mathlib.Core.Logic.{⊎_elim}
use native.Mathlib.Omega.{arith}
use borrow.Author.Tests.{le-leb, lt-leb, ne_eqb, leb-true, eqb-true}
use lib.Dec.{leb, eqb}
use lib.ListN.{length, get_or, drop, length-drop}
use Rattle.answer.specs.Choice.{pick}
use Rattle.answer.proofs.Tests.{and_both}
use Rattle.varint.specs.declared.Number.{Number}
use Rattle.varint.specs.Numbers.{read_number, number}
use Rattle.varint.proofs.Reading as Number
use Rattle.lists.specs.declared.AddressEntry.{AddressEntry}
use Rattle.lists.specs.Rules.{sound_entry}
use Rattle.capsule.specs.declared.element.EntryRead.{EntryRead}
use Rattle.capsule.specs.Entries.{entry_read, entry4, entry6, whole_entry, read_body, after_id, read_entry}
use Rattle.capsule.proofs.Picks.{pick_same, pick_case}

-- ---- what follows a Request ID
module _ (id n : ℕ) (t : List ℕ) where
  pub short : length t < 6 → None ≡ read_body id n t
  unfolding read_body
  short h =
      let g : length t < 18 = omega arith in
      simp (lt-leb 6 (length t) h, lt-leb 18 (length t) g, pick_same)

  pub short6 : get_or t 0 0 ≡ 6 → length t < 18 → None ≡ read_body id n t
  unfolding read_body
  short6 v h = rw v (simp (lt-leb 18 (length t) h))

  pub other : (get_or t 0 0 ≡ 4 → ⊥) → (get_or t 0 0 ≡ 6 → ⊥) → None ≡ read_body id n t
  unfolding read_body
  other f g = simp (ne_eqb (get_or t 0 0) 4 f, ne_eqb (get_or t 0 0) 6 g)

  pub case4 : (b : Bool) (e : AddressEntry) → get_or t 0 0 ≡ 4 → 6 ≤ length t → e ≡ entry4 id t → sound_entry e ≡ b → pick b (Some (entry_read e (n + 6))) None ≡ read_body id n t
  unfolding read_body
  case4 b e v h q s = rw v (simp (le-leb 6 (length t) h, ← q, s))

  pub case6 : (b : Bool) (e : AddressEntry) → get_or t 0 0 ≡ 6 → 18 ≤ length t → e ≡ entry6 id t → sound_entry e ≡ b → pick b (Some (entry_read e (n + 18))) None ≡ read_body id n t
  unfolding read_body
  case6 b e v h q s = rw v (simp (le-leb 18 (length t) h, ← q, s))

-- ---- with its Request ID
module _ (s : List ℕ) where
  pub body : (id n : ℕ) → read_number s ≡ Some (number id n) → read_body id n (drop n s) ≡ read_entry s
  unfolding read_entry
  body id n e = rw e

  pub cut : read_number s ≡ None → None ≡ read_entry s
  unfolding read_entry
  cut e = rw e

-- ---- what a reading says

-- an entry of m bytes behind an ID of n
pub record Body (n m : ℕ) (t : List ℕ) (e : AddressEntry) (size : ℕ) : Type 0 where
  pub long : m ≤ length t
  pub sound : sound_entry e ≡ true
  pub taken : size ≡ n + m

whole : (n m : ℕ) (t : List ℕ) (d e : AddressEntry) (size : ℕ) → whole_entry n m t d ≡ Some (entry_read e size) → (d ≡ e) × (Body n m t e size)
whole n m t d e size h =
    ⊎_elim
    (λ p.
    let q = and_both (leb m (length t)) (sound_entry d) p.0 in
    let g = same_Some _ _ p.1 in
    let w : d ≡ e = ap (λ (r : EntryRead). r.entry) g in
    (w, record { long = leb-true m (length t) q.0; sound = rw w at q.1; taken = sym (ap (λ (r : EntryRead). r.size) g) }))
    (λ p. let g = p.1 in let z : ◌≡◌ {A = ℕ} 0 1 = cc in absurd (omega arith))
    (pick_case (leb m (length t) && sound_entry d) _ _ _ h)

-- behind an ID an entry of version 4, or of version 6
pub data BodyTaken (id n : ℕ) (t : List ℕ) (e : AddressEntry) (size : ℕ) : Type 0 where
  ipv4 : get_or t 0 0 ≡ 4 → entry4 id t ≡ e → Body n 6 t e size → BodyTaken id n t e size
  ipv6 : get_or t 0 0 ≡ 6 → entry6 id t ≡ e → Body n 18 t e size → BodyTaken id n t e size

pub record Taken (s : List ℕ) (e : AddressEntry) (size : ℕ) : Type 0 where
  pub id : ℕ
  pub n : ℕ
  pub number : read_number s ≡ Some (number id n)
  pub body : BodyTaken id n (drop n s) e size

module _ (id n : ℕ) (t : List ℕ) (e : AddressEntry) (size : ℕ) where
  body-taken : read_body id n t ≡ Some (entry_read e size) → BodyTaken id n t e size
  unfolding read_body
  body-taken h =
      ⊎_elim (λ p. let w = whole n 6 t (entry4 id t) e size p.1 in ipv4 (eqb-true (get_or t 0 0) 4 p.0) w.0 w.1)
      (λ p.
      ⊎_elim (λ q. let w = whole n 18 t (entry6 id t) e size q.1 in ipv6 (eqb-true (get_or t 0 0) 6 q.0) w.0 w.1)
      (λ q. let g = q.1 in let z : ◌≡◌ {A = ℕ} 0 1 = cc in absurd (omega arith))
      (pick_case (eqb (get_or t 0 0) 6) _ _ _ p.1))
      (pick_case (eqb (get_or t 0 0) 4) _ _ _ h)

  body-size : BodyTaken id n t e size → (n + 6 ≤ size) × (size ≤ n + length t)
  body-size (ipv4 v q w) = (omega (arith, w.taken), omega (arith, w.taken, w.long))
  body-size (ipv6 v q w) = (omega (arith, w.taken), omega (arith, w.taken, w.long))

  body-sound : BodyTaken id n t e size → sound_entry e ≡ true
  body-sound (ipv4 v q w) = w.sound
  body-sound (ipv6 v q w) = w.sound

module _ (s : List ℕ) (e : AddressEntry) (m : ℕ) where
  pub taken : read_entry s ≡ Some (entry_read e m) → Taken s e m
  unfolding read_entry
  taken h = after (read_number s) refl h
    where
      after : (r : Option Number) → read_number s ≡ r → after_id s r ≡ Some (entry_read e m) → Taken s e m
      after (Some r) q g = record { id = r.value; n = r.size; number = q; body = body-taken r.value r.size (drop r.size s) e m g }
      after None q g = let z : ◌≡◌ {A = ℕ} 0 1 = cc in absurd (omega arith)

  -- a Request ID takes a byte at least, and what follows it 6
  pub size : read_entry s ≡ Some (entry_read e m) → (7 ≤ m) × (m ≤ length s)
  size h =
      let t = taken h in
      let k = Number.taken s t.id t.n t.number in
      let b = body-size t.id t.n (drop t.n s) e m t.body in
      (omega (arith, k.some, b.0), omega (arith, k.within, b.1, length-drop t.n s))

  pub sound : read_entry s ≡ Some (entry_read e m) → sound_entry e ≡ true
  sound h = let t = taken h in body-sound t.id t.n (drop t.n s) e m t.body
