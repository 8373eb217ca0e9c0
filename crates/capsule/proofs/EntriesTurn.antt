-- The loop over entries: the words hold those read so far, which are parsed as in an assignment. A request's IDs are judged after it. Assumes nothing.
use Rattle.std.proofs.Common.{Some, None, Ok}
use Prim.Native.Nat.{ℕ, ◌+◌, ◌≤◌, ◌<◌}
use mathlib.Core.Bool.{Bool, true, false, ◌&&◌}
use mathlib.Core.Path.{◌≡◌, refl, sym, ap, ◌∙◌}
use mathlib.Core.List.{List, [], ◌∷◌, ◌++◌}
use native.Mathlib.Omega.{arith}
use lib.ListN.{length, drop, set, replicate, length-append}
use Rattle.answer.specs.declared.Refusal.TheVariants.{BadAddress, BadRequestId, TooMany}
use Rattle.lists.specs.declared.AddressEntry.{AddressEntry}
use Rattle.lists.specs.Rules.{id_of}
use Rattle.lists.specs.Words.{max_addresses, address_words, entry_words, put_entry, pack_entries}
use Rattle.lists.proofs.Packing as Packing
use Rattle.capsule.specs.Elements.{Parsed, fault, elements_in}
use Rattle.capsule.specs.Entries.{entry_read, read_entry, entry_element, entry_follows, entry_format}
use Rattle.capsule.specs.RequestIds.{ids_in, ids_refused}
use Rattle.capsule.specs.Results.{ReadsEntries}
use Rattle.capsule.proofs.EntryCases as Entry
use Rattle.capsule.proofs.IdLaws.{elements-entries}
use Rattle.capsule.proofs.IdsTurn as Ids
use Rattle.capsule.proofs.ListCases.{reads_all}
use Rattle.capsule.proofs.Turn as T

-- the loop's invariant
pub record Reading (request : Bool) (s words : List ℕ) (count at : ℕ) : Type 0 where
  pub es : List AddressEntry
  pub earlier : List AddressEntry
  pub ids : List ℕ
  pub reading : T.Reading (entry_format false) request max_addresses s es earlier at
  pub judging : Ids.Reading s ids at
  pub counted : count ≡ length es
  pub numbered : length ids ≡ count
  pub stored : words ≡ 0 ∷ entry_words max_addresses es

pub start : (request : Bool) (s : List ℕ) {words : List ℕ} → words ≡ replicate address_words 0 → Reading request s words 0 0
start request s e =
    record {
      es = [];
      earlier = [];
      ids = [];
      reading = T.start (entry_format false) request max_addresses s;
      judging = Ids.start s;
      counted = refl;
      numbered = refl;
      stored = e;
    }

-- ---- the IDs are judged

module _ (request : Bool) (s : List ℕ) (b : Bool) (j : b ≡ (request && ids_refused (ids_in s))) where
  pub refused : b ≡ true → fault BadRequestId ≡ elements_in (entry_format request) request max_addresses s
  refused e = rw (elements-entries request max_addresses s, ← j, e)

  -- then all else is as in an assignment
  pub passed : b ≡ false → {p : Parsed AddressEntry} → p ≡ elements_in (entry_format false) request max_addresses s
      → p ≡ elements_in (entry_format request) request max_addresses s
  passed e q = rw (elements-entries request max_addresses s, ← j, e, q)

-- ---- a turn

module _ {request : Bool} {s words : List ℕ} {count at : ℕ} (i : Reading request s words count at) where
  module _ (g : at < length s) where
    module _ (e : AddressEntry) (n : ℕ) (q : read_entry (drop at s) ≡ Some (entry_read e n)) where
      -- whatever the words are, so long as they hold the entries
      turn : (w : List ℕ) → w ≡ 0 ∷ entry_words max_addresses (i.es ++ (e ∷ [])) → Reading request s w (count + 1) (at + n)
      unfolding entry_follows
      turn w f =
          let z = Entry.size (drop at s) e n q in
          record {
            es = i.es ++ (e ∷ []);
            earlier = e ∷ i.earlier;
            ids = i.ids ++ (id_of e ∷ []);
            reading = T.next i.reading g e n (ap entry_element q) (omega (arith, z.0)) z.1 refl;
            judging = Ids.next i.judging g e n q;
            counted = omega (arith, i.counted, length-append i.es (e ∷ []));
            numbered = omega (arith, i.numbered, length-append i.ids (id_of e ∷ []));
            stored = f;
          }

      pub next : count < max_addresses → Reading request s (put_entry words count e) (count + 1) (at + n)
      next l =
          turn (put_entry words count e)
          (rw (i.stored, i.counted) (Packing.put-entry 0 max_addresses i.es e (omega (arith, i.counted))))

      pub next-full : max_addresses ≤ count → Reading request s words (count + 1) (at + n)
      next-full l =
          turn words
          (i.stored ∙ ap (λ (l : List ℕ). 0 ∷ l) (sym (Packing.entry_words-full max_addresses i.es (e ∷ []) (omega (arith, i.counted)))))

    module _ (q : read_entry (drop at s) ≡ None) where
      pub ids-before : length (ids_in s) ≡ count
      ids-before = ap length (sym (Ids.bad i.judging g q)) ∙ i.numbered

      pub fault-entry : fault BadAddress ≡ elements_in (entry_format false) request max_addresses s
      fault-entry = T.fault_layout i.reading g (ap entry_element q)

  module _ (g : length s ≤ at) where
    pub ids_all : length (ids_in s) ≡ count
    ids_all = ap length (sym (Ids.ended i.judging g)) ∙ i.numbered

    pub empty : count ≡ 0 → request ≡ true → fault BadRequestId ≡ elements_in (entry_format false) request max_addresses s
    empty h t = T.empty i.reading g (omega (arith, i.counted)) t

    pub many : max_addresses < count → fault TooMany ≡ elements_in (entry_format false) request max_addresses s
    many h = T.many i.reading g (omega (arith, i.counted))

    pub fine : (b : Bool) → b ≡ (request && ids_refused (ids_in s)) → b ≡ false → count ≤ max_addresses → (count ≡ 0 → request ≡ false)
        → ReadsEntries (elements_in (entry_format request) request max_addresses s) (Ok tt) (set words 0 count)
    unfolding pack_entries
    fine b j p h z =
        reads_all (passed request s b j p (T.fine i.reading g (omega (arith, i.counted)) (λ e. z (i.counted ∙ e)))) (rw (i.stored, i.counted))
