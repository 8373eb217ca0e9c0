-- What a capsule hands back is no longer than `answers_share` times what was read of it: an entry is read from at least 7 bytes and written in at most
-- 26. Nor is it longer than a value. Assumes nothing.
use Rattle.std.proofs.Common.{Result, Ok, Err, Option, Some, None}
use Prim.Native.Nat.{ℕ, zero, suc, ◌+◌, ◌*◌, ◌≤◌}
use mathlib.Core.Bool.{Bool, true}
use mathlib.Core.Path.{◌≡◌, refl, ap, ◌∙◌}
use mathlib.Core.List.{List, [], ◌∷◌}
use native.Mathlib.Omega.{arith}
use lib.ListN.{length, take, drop, length-take, length-drop, length-append}
use Rattle.answer.specs.declared.Refusal.{Refusal}
use Rattle.varint.proofs.Reading as Number
use Rattle.lists.specs.declared.AddressEntry.{AddressEntry}
use Rattle.lists.specs.Words.{max_addresses}
use Rattle.capsule.specs.declared.element.EntryRead.{EntryRead}
use Rattle.capsule.specs.Elements.{element, Parsed, fault, all, passing, parse, count_verdict, settled, elements_in, written}
use Rattle.capsule.specs.Entries.{read_entry, entry_read, entry_bytes, entry_element, entry_format}
use Rattle.capsule.specs.Capsules.{Capsule, capsule, max_value, read_capsule}
use Rattle.capsule.specs.Sound.{Sound, sound-datagram, sound-assign, sound-request, sound-advertise, sound-unknown}
use Rattle.capsule.proofs.EntryCases as Entry
use Rattle.capsule.proofs.Parsing.{Step, done, more, parse-step}
use Rattle.capsule.proofs.ReadFacts.{Taken, is-datagram, is-assign, is-request, is-advertise, is-unknown, read_facts}
use Rattle.capsule.proofs.ReadLaws.{read-sound, entries-sound}
use Rattle.capsule_write.specs.Sizes.{max_entry}
use Rattle.capsule_write.proofs.Lengths.{entry-most}
use Rattle.capsule_write.proofs.Accepted.{written-most}
use Rattle.stream.specs.Handing.{contents}
use Rattle.van_box.specs.Sizes.{answer_head, answers_share}

of_entry : (r : Option EntryRead) (a : AddressEntry) (n : ℕ) → entry_element r ≡ element a n → r ≡ Some (entry_read a n)
of_entry (Some e) a n q = let x : e.entry ≡ a = cc in let y : e.size ≡ n = cc in rw (← x, ← y) refl
of_entry None a n q = let z : ◌≡◌ {A = ℕ} 0 1 = cc in absurd (omega arith)

-- ---- entries
module _ (asked : Bool) where
  abbrev Entries : ℕ → List AddressEntry → List ℕ → List AddressEntry → Type 0
  Entries fuel earlier s es = parse (entry_format asked) fuel earlier s ≡ all es

  no_fuel : (earlier : List AddressEntry) (s : List ℕ) (es : List AddressEntry) → Entries zero earlier s es → ◌≡◌ {A = ℕ} 0 1
  unfolding parse
  no_fuel earlier s es e = cc

  parsed-share : (fuel : ℕ) (earlier : List AddressEntry) (s : List ℕ) (es : List AddressEntry) → Entries fuel earlier s es
      → length (written (entry_format asked) es) ≤ answers_share * length s
  parsed-share zero earlier s es e = absurd (omega (arith, no_fuel earlier s es e))
  parsed-share (suc fuel) earlier s es e =
      step (λ later t ds h. parsed-share fuel later t ds h) s es (parse-step (entry_format asked) fuel earlier s es e)
    where
      step : ((later : List AddressEntry) (t : List ℕ) (ds : List AddressEntry) → Entries fuel later t ds
          → length (written (entry_format asked) ds) ≤ answers_share * length t)
          → (t : List ℕ) (ds : List AddressEntry) → Step (entry_format asked) fuel earlier t ds
          → length (written (entry_format asked) ds) ≤ answers_share * length t
      step again t ds done = omega arith
      step again t ds (more {b} {s} {a} {n} {ys} q g e) =
          let z = Entry.size (b ∷ s) a n (of_entry (read_entry (b ∷ s)) a n q) in
          let rest = again (a ∷ earlier) (drop n (b ∷ s)) ys e in
          omega (
            arith,
            z.0,
            z.1,
            rest,
            entry-most a,
            length-append (entry_bytes a) (written (entry_format asked) ys),
            length-drop n (b ∷ s),
          )

  passed : (u : Result Unit Refusal) (ds es : List AddressEntry) → passing u (all ds) ≡ all es → ds ≡ es
  passed (Ok _) ds es e = cc
  passed (Err r) ds es e = let z : ◌≡◌ {A = ℕ} 0 1 = cc in absurd (omega arith)

  entries-share : (v : List ℕ) (es : List AddressEntry) → elements_in (entry_format asked) asked max_addresses v ≡ all es
      → length (written (entry_format asked) es) ≤ answers_share * length v
  unfolding elements_in
  entries-share v es h = of (parse (entry_format asked) (suc (length v)) [] v) refl h
    where
      of : (p : Parsed AddressEntry) → parse (entry_format asked) (suc (length v)) [] v ≡ p → settled asked max_addresses p ≡ all es
          → length (written (entry_format asked) es) ≤ answers_share * length v
      of (fault r) e g = let z : ◌≡◌ {A = ℕ} 0 1 = cc in absurd (omega arith)
      of (all ds) e g =
          parsed-share (suc (length v)) [] v es (e ∙ ap all (passed (count_verdict asked max_addresses (length ds)) ds es g))

-- ---- a value
value-share : (kind : ℕ) (v : List ℕ) (c : Capsule) → Taken kind v c → length (contents c) ≤ answers_share * length v
value-share kind v c (is-datagram k) = omega arith
value-share kind v c (is-assign k e) = omega arith
value-share kind v c (is-request {es} k e) = entries-share true v es e
value-share kind v c (is-advertise k e) = omega arith
value-share kind v c (is-unknown k) = omega arith

contents-most : (c : Capsule) → Sound c → length (contents c) ≤ max_value
contents-most c (sound-datagram h) = h
contents-most c (sound-assign r) = omega arith
contents-most c (sound-request {es} r) = omega (arith, written-most (entry_format true) max_entry entry-most es, (entries-sound true es r).1)
contents-most c (sound-advertise r) = omega arith
contents-most c sound-unknown = omega arith

-- ---- a capsule
module _ (s : List ℕ) (c : Capsule) (start size : ℕ) (e : read_capsule s ≡ capsule c start size) where
  pub capsule-share : answer_head + length (contents c) ≤ answers_share * size
  capsule-share =
      let r = read_facts s c start size e in
      let f = r.framed in
      let a = Number.taken s r.kind f.n f.type in
      let v = take r.count (drop start s) in
      let l : length v ≤ r.count = simp length-take (omega arith) in
      omega (arith, value-share r.kind v c r.taken, r.ends, f.starts, a.some)

  pub capsule-most : length (contents c) ≤ max_value
  capsule-most = contents-most c (read-sound s c start size e)
