-- A call that hands back the entries of a request too: they are written to the output that the call left, which had nothing to write.
-- Assumes nothing.
use Rattle.std.proofs.Common.{Result, Ok, Err, ℕ}
use Prim.Native.Nat.{ℕ, zero, suc, ◌≤◌, ◌<◌}
use mathlib.Core.Bool.{Bool, true, false}
use mathlib.Core.Path.{◌≡◌, refl, sym, ap, ◌∙◌}
use mathlib.Core.List.{List, [], ◌++◌}
use native.Mathlib.Omega.{arith}
use borrow.Author.Tests.{lt-ltb, le-ltb}
use lib.Dec.{eqb, ltb}
use lib.ListN.{length}
use Rattle.answer.specs.declared.Refusal.{Refusal}
use Rattle.answer.specs.declared.Refusal.TheVariants.{NoRoom}
use Rattle.answer.specs.Choice.{pick}
use Rattle.answer.specs.Number.{number_of, answer_length}
use Rattle.answer.specs.Verdict.{Writes, output_of}
use Rattle.answer.proofs.Tables.{stops, passes}
use Rattle.lists.specs.declared.AddressEntry.{AddressEntry}
use Rattle.lists.specs.Words.{max_addresses, pack_entries}
use Rattle.capsule.specs.declared.Kind.{Kind}
use Rattle.capsule.specs.declared.Kind.TheVariants.{AddressRequest}
use Rattle.capsule.specs.Elements.{written}
use Rattle.capsule.specs.Entries.{entry_format}
use Rattle.capsule.specs.Capsules.{Capsule, datagram, assign, request, advertise, unknown, kind_of, kind_numbered, Reading, refused, capsule, read_capsule}
use Rattle.capsule.specs.Sound.{Ruled, Sound, sound-request, sound-unknown}
use Rattle.capsule.proofs.ReadLaws.{read-sound, entries_packed}
use Rattle.capsule_write.specs.Verdicts.{capsule_room, with_room, RequestValueWritten}
use Rattle.capsule_write.proofs.ReadBack.{ruled-entries_go}
use Rattle.stream.specs.declared.feeding.Call.{Call}
use Rattle.stream.specs.declared.feeding.Call.TheVariants.{Handed, Between, Wait}
use Rattle.stream.specs.declared.feeding.Piece.{Piece}
use Rattle.stream.specs.Store.{Store, Said, out, clean, wait, no, waits, remembers, on_reading, feed_open, feed_live, feed_store}
use Rattle.exchange.specs.Reading.{asked}
use Rattle.stream.specs.Feeding.{store_in, fed, feed_verdict, datagram_bytes, on_out, call_of, piece_with, piece_of, call_by, taken_by, Feeds}
use Rattle.stream.specs.Handing.{contents, hand_verdict, handed_call, HandsOn}
use Rattle.stream.specs.Inner.{handing}
use Rattle.stream.proofs.StepLaws.{none_out}
use Rattle.stream.proofs.FeedLaws.{call-with}
use Rattle.stream.proofs.CodeLaws.{skips_if}

-- ---- what is handed out was read, or skipped
module _ (k : Store) (t : List ℕ) (c : Capsule) where
  stopped-out : (b : Bool) (n : ℕ) (s : List ℕ) (r : Refusal) → (pick b (waits n s) (remembers k r)).said ≡ out c → Sound c
  stopped-out true n s r e = none_out s c e
  stopped-out false n s r e = let y : ◌≡◌ {A = ℕ} 0 1 = cc in absurd (omega arith)

  reading-out : (n : ℕ) (s : List ℕ) (r : Reading) → read_capsule s ≡ r → (on_reading k n s r).said ≡ out c → Sound c
  reading-out n s (refused r) q e = stopped-out (eqb (number_of r) 1) n s r e
  reading-out n s (capsule d start size) q e = let z : d ≡ c = cc in rw z at (read-sound s d start size q)

  skip-out : (b : Bool) (n m : ℕ) → (skips_if b n m).said ≡ out c → Sound c
  skip-out true n m e = let y : ◌≡◌ {A = ℕ} 0 1 = cc in absurd (omega arith)
  skip-out false n m e = let z : unknown ≡ c = cc in rw z at sound-unknown

  fed-sound : (feed_store k t).said ≡ out c → Sound c
  unfolding feed_store
  fed-sound e = of k.stopped e
    where
      opened : (n : ℕ) → (feed_open k t n).said ≡ out c → Sound c
      opened zero e = reading-out (length t) (k.kept ++ t) (read_capsule (k.kept ++ t)) refl e
      opened (suc n) e = skip-out (ltb (length t) (suc n)) (suc n) (length t) e

      of : (v : Result Unit Refusal) → (feed_live k t v).said ≡ out c → Sound c
      of (Ok _) e = opened k.skip e
      of (Err r) e = let y : ◌≡◌ {A = ℕ} 0 1 = cc in absurd (omega arith)

-- ---- all but a request is handed back as it was handed out
plain : (s : Said) → ((c : Capsule) → s ≡ out c → kind_numbered (kind_of c) ≡ AddressRequest → ⊥) → (call_of s ≡ handed_call s) × (on_out datagram_bytes [] s ≡ on_out contents [] s)
plain (out (datagram v)) h = (refl, refl)
plain (out (assign es)) h = (refl, refl)
plain (out (request es)) h = absurd (h (request es) refl refl)
plain (out (advertise rs)) h = (refl, refl)
plain (out unknown) h = (refl, refl)
plain clean h = (refl, refl)
plain wait h = (refl, refl)
plain (no r) h = (refl, refl)

-- ---- a request
only-request : (s : Said) (kind : Kind) (n : ℕ) → call_of s ≡ Ok (Handed kind n) → kind ≡ AddressRequest → (es : List AddressEntry) × (s ≡ out (request es))
only-request (out (datagram v)) kind n e z = let y : ◌≡◌ {A = ℕ} 0 1 = cc in absurd (omega arith)
only-request (out (assign es)) kind n e z = let y : ◌≡◌ {A = ℕ} 0 1 = cc in absurd (omega arith)
only-request (out (request es)) kind n e z = (es, refl)
only-request (out (advertise rs)) kind n e z = let y : ◌≡◌ {A = ℕ} 0 1 = cc in absurd (omega arith)
only-request (out unknown) kind n e z = let y : ◌≡◌ {A = ℕ} 0 1 = cc in absurd (omega arith)
only-request clean kind n e z = let y : ◌≡◌ {A = ℕ} 0 1 = cc in absurd (omega arith)
only-request wait kind n e z = let y : ◌≡◌ {A = ℕ} 0 1 = cc in absurd (omega arith)
only-request (no r) kind n e z = let y : ◌≡◌ {A = ℕ} 0 1 = cc in absurd (omega arith)

ruled-request : {es : List AddressEntry} → Sound (request es) → Ruled (entry_format true) true max_addresses es
ruled-request (sound-request r) = r

roomy : (n : ℕ) (v : Result Unit Refusal) → capsule_room ≤ n → v ≡ Ok tt → with_room n v ≡ Ok tt
unfolding with_room
roomy n v h e = rw (le-ltb n capsule_room h, e)

request-written : (es : List AddressEntry) {before after : List ℕ} {a : Result ℕ Refusal} → Sound (request es) → capsule_room ≤ length before
    → RequestValueWritten (pack_entries es) before a after → Writes (Ok tt) (written (entry_format true) es) before a after
request-written es {before} u h f =
    let q = ruled-request u in
    rw (roomy (length before) _ h (ruled-entries_go true es q), entries_packed true es q) at f

-- ---- an answer that hands out no request
abbrev NoRequest : Result Piece Refusal → Type 0
NoRequest r = (kind : Kind) (n : ℕ) → call_by r ≡ Ok (Handed kind n) → kind ≡ AddressRequest → ⊥

module _ (p : Piece) where
  pub not_request : {k : Kind} {m : ℕ} → p.call ≡ Handed k m → (k ≡ AddressRequest → ⊥) → NoRequest (Ok p)
  not_request {k} {m} e h kind n q z = let y : k ≡ kind = cc in h (y ∙ z)

  pub not_between : p.call ≡ Between → NoRequest (Ok p)
  not_between e kind n q z = let y : ◌≡◌ {A = ℕ} 0 1 = cc in omega arith

  pub not_wait : p.call ≡ Wait → NoRequest (Ok p)
  not_wait e kind n q z = let y : ◌≡◌ {A = ℕ} 0 1 = cc in omega arith

pub not_stopped : {why : Refusal} → NoRequest (Err why)
not_stopped kind n q z = let y : ◌≡◌ {A = ℕ} 0 1 = cc in omega arith

-- ---- the ways out
module _ (w held t before : List ℕ) where
  pub hands_no_room : length before < capsule_room → HandsOn w held t before (Err NoRoom) w held before
  hands_no_room h =
      let e : hand_verdict w held (length before) ≡ Err NoRoom = stops _ NoRoom _ (lt-ltb (length before) capsule_room h) in
      record { answer = rw e; state = rw e; bytes = rw e; output = rw e }

  module _ (room : capsule_room ≤ length before) {l : List ℕ} {r : Result Piece Refusal} {later holds after list : List ℕ} (f : Feeds w held t before l r later holds after list) where
    judged : hand_verdict w held (length before) ≡ feed_verdict w held (length before)
    judged = passes _ NoRoom _ (le-ltb (length before) capsule_room room)

    pub hands_same : NoRequest r → HandsOn w held t before r later holds after
    hands_same h = of (feed_verdict w held (length before)) refl
      where
        of : (v : Result Unit Refusal) → feed_verdict w held (length before) ≡ v → HandsOn w held t before r later holds after
        of (Err why) e =
            let q = judged ∙ e in
            record {
              answer = rw q (rw e at f.answer);
              state = rw q (rw e at f.state);
              bytes = rw q (rw e at f.bytes);
              output = rw q (rw e at f.output);
            }
        of (Ok _) e =
            let q = judged ∙ e in
            let a : r ≡ piece_of (Ok tt) (fed w held t) = rw e at f.answer in
            let p = plain (fed w held t).said (λ c z k. h (kind_numbered (kind_of c)) (length (datagram_bytes c)) (ap call_by a ∙ call-with (fed w held t).taken (call_of (fed w held t).said) ∙ ap call_of z) k) in
            record {
              answer = rw q (a ∙ ap (piece_with (fed w held t).taken) p.0);
              state = rw q (rw e at f.state);
              bytes = rw q (rw e at f.bytes);
              output = rw q ((rw e at f.output) ∙ ap (λ (m : List ℕ). output_of (Ok tt) m before) p.1);
            }

    pub hands_request : {kind : Kind} {size n : ℕ} {a : Result ℕ Refusal} {last : List ℕ} {d : Piece} → r ≡ Ok d → d.call ≡ Handed kind size → kind ≡ AddressRequest → RequestValueWritten list after a last → n ≡ answer_length a
        → HandsOn w held t before (handing kind n d.taken) later holds last
    hands_request {kind} {size} {n} {a} {last} {d} i c z g en = of (feed_verdict w held (length before)) refl
      where
        of : (v : Result Unit Refusal) → feed_verdict w held (length before) ≡ v → HandsOn w held t before (handing kind n d.taken) later holds last
        of (Err why) e =
            let b : ◌≡◌ {A = Result Piece Refusal} (Ok d) (Err why) = sym i ∙ (rw e at f.answer) in
            let y : ◌≡◌ {A = ℕ} 0 1 = cc in absurd (omega arith)
        of (Ok _) e =
            let v = judged ∙ e in
            let b : r ≡ piece_of (Ok tt) (fed w held t) = rw e at f.answer in
            let s : call_of (fed w held t).said ≡ Ok (Handed kind size) =
            sym (call-with (fed w held t).taken (call_of (fed w held t).said)) ∙ sym (ap call_by b) ∙ ap call_by i ∙ ap (λ (x : Call). Ok x) c in
            let p = only-request (fed w held t).said kind size s z in
            let q : (fed w held t).said ≡ out (request p.0) = p.1 in
            let m : after ≡ before = (rw e at f.output) ∙ ap (λ (s : Said). output_of (Ok tt) (on_out datagram_bytes [] s) before) q in
            let k : list ≡ pack_entries p.0 = (rw e at f.requested) ∙ ap (on_out (asked l) l) q in
            let x : Writes (Ok tt) (written (entry_format true) p.0) before a last = request-written p.0 (fed-sound (store_in w held) t (request p.0) q) room (rw (m, k) at g) in
            record {
              answer =
                  rw v
                  (ap (λ (j : Kind). handing j n d.taken) z
                  ∙ ap (λ (j : ℕ). handing AddressRequest j d.taken) (en ∙ ap answer_length x.answer)
                  ∙ ap (λ (j : ℕ). piece_with j (handed_call (out (request p.0)))) (ap taken_by (sym i ∙ b ∙ ap (λ (s : Said). piece_with (fed w held t).taken (call_of s)) q))
                  ∙ ap (λ (s : Said). piece_with (fed w held t).taken (handed_call s)) (sym q));
              state = rw v (rw e at f.state);
              bytes = rw v (rw e at f.bytes);
              output = rw v (x.output ∙ ap (λ (s : Said). output_of (Ok tt) (on_out contents [] s) before) (sym q));
            }
