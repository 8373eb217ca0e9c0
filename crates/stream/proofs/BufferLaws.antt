-- The law of cutting: any pieces of the same bytes give what the whole buffer gives, read from place to place. Assumes nothing.
use Rattle.std.proofs.Common.{Result, Ok, Err}
use Rattle.std.proofs.lemmas.Option.{same_Some}
use Rattle.std.specs.Result.{result_ok}
use Prim.Native.Nat.{ℕ, ◌+◌, ◌-◌, ◌≤◌}
use mathlib.Core.Bool.{true}
use mathlib.Core.Path.{◌≡◌, refl, sym, ap, ◌∙◌}
use mathlib.Core.List.{List, [], ◌∷◌, ◌++◌, append_assoc, flatten}
use native.Mathlib.Omega.{arith}
use lib.ListN.{length, take, drop}
use lib.Seq.{drop-drop}
use Rattle.answer.specs.declared.Refusal.{Refusal}
use Rattle.octets.specs.Big.{Bytes}
use Rattle.capsule.specs.declared.CapsuleRead.{CapsuleRead}
use Rattle.capsule.specs.Capsules.{Capsule, kind_of, kind_numbered, Reading, refused, capsule, read_capsule}
use Rattle.capsule.specs.Results.{found_at, result_at}
use Rattle.capsule.proofs.ReadFacts.{Taken, is-datagram, is-assign, is-request, is-advertise, is-unknown, read_facts}
use Rattle.capsule.proofs.ReadLaws.{read-sound}
use Rattle.state.specs.State.{State, state_words, state_in, sound_state}
use Rattle.exchange.specs.Reading.{received, asked, requested, reading_in, ReadsCapsule}
use Rattle.exchange.proofs.ReadLaws.{reading-sound, reading-capsule, refused-only, read-keeps_sound}
use Rattle.stream.specs.Store.{Store, empty}
use Rattle.stream.specs.Feeding.{store_in, datagram_bytes, call_by}
use Rattle.stream.specs.Buffer.{Told, before, other, whole}
use Rattle.stream.specs.Runs.{Ready, seen_as, seen, lists_after, lists_after_all, Calls, no_call, call, Through, ReadsAll, stops, reads, SameAs}
use Rattle.stream.proofs.WholeLaws.{whole-read}
use Rattle.stream.proofs.StepLaws.{resume, resume-empty}
use Rattle.stream.proofs.FeedLaws.{length_taken, taken-lists, seen_as_lem}
use Rattle.stream.proofs.RunLaws.{came, calls_follow, calls_came}

-- ---- a capsule read at a place of the buffer

-- the value of a DATAGRAM stands where the reading says
value-stands : (s : List ℕ) (at start size : ℕ) (c : Capsule) → read_capsule (drop at s) ≡ capsule c start size → kind_of c ≡ 0
    → take (size - start) (drop (at + start) s) ≡ datagram_bytes c
value-stands s at start size c e z = let r = read_facts (drop at s) c start size e in of c r.kind r.count r.taken r.ends z
  where
    of : (c : Capsule) (kind count : ℕ) → Taken kind (take count (drop start (drop at s))) c → size ≡ start + count → kind_of c ≡ 0
        → take (size - start) (drop (at + start) s) ≡ datagram_bytes c
    of c kind count (is-datagram k) q z = let n : size - start ≡ count = omega arith in rw (n, drop-drop start at s)
    of c kind count (is-assign k g) q z = absurd (omega arith)
    of c kind count (is-request k g) q z = absurd (omega arith)
    of c kind count (is-advertise k g) q z = absurd (omega arith)
    of c kind count (is-unknown k) q z = absurd (omega arith)

length_received : (w : List ℕ) (q : Reading) → state_words ≤ length w → length (received w q) ≡ length w
length_received w (refused r) h = refl
length_received w (capsule c start size) h = length_taken w c h

-- the buffer from a place on, capsule by capsule
pub record AsWhole (w s : List ℕ) (at : ℕ) (handed : List Capsule) (later : List ℕ) (v : Result Unit Refusal) : Type 0 where
  pub told : whole (drop at s) ≡ record { handed = handed; refusal = v }
  pub lists : state_in later ≡ lists_after_all (state_in w) handed

module _ {w s : List ℕ} {at : ℕ} {l : List ℕ} {r : Result CapsuleRead Refusal} {after list : List ℕ} (t : ReadsCapsule w s at l r after list) (h : state_words ≤ length w) (g : sound_state (state_in w) ≡ true) where
  read-stops : (why : Refusal) → r ≡ Err why → AsWhole w s at [] after (other why)
  read-stops why e =
      let q = refused-only at (reading_in w s at) why (sym t.answer ∙ e) in
      record {
        told = whole-read (drop at s) (refused why) (sym (reading-sound w s at g) ∙ q);
        lists = ap state_in (t.state ∙ ap (received w) q);
      }

  read_length : state_words ≤ length after
  read_length = rw (t.state, length_received w (reading_in w s at) h) h

module _ {w s : List ℕ} {at : ℕ} {l : List ℕ} {r : CapsuleRead} {after list : List ℕ} (t : ReadsCapsule w s at l (Ok r) after list) (h : state_words ≤ length w) (g : sound_state (state_in w) ≡ true) where
  module _ (c : Capsule) (start size : ℕ) (q : reading_in w s at ≡ capsule c start size) where
    read : read_capsule (drop at s) ≡ capsule c start size
    read = (reading-capsule w s at c start size q).1

    found : r ≡ found_at at (kind_of c) start (size - start)
    found = same_Some _ _ (ap result_ok (t.answer ∙ ap (result_at at) q))

    next_place : r.next ≡ at + size
    next_place = ap (λ (x : CapsuleRead). x.next) found ∙ (let e = (read_facts (drop at s) c start size read).ends in omega arith)

    read-lists : state_in after ≡ lists_after (state_in w) c
    read-lists = ap state_in (t.state ∙ ap (received w) q) ∙ taken-lists w h c (read-sound (drop at s) c start size read)

    read-seen : seen_as r.kind (take r.length (drop r.start s)) list (state_in after) ≡ c
    read-seen =
        let v = take (size - start) (drop (at + start) s) in
        ap (λ (x : CapsuleRead). seen_as x.kind (take x.length (drop x.start s)) list (state_in after)) found
        ∙ ap (λ (x : List ℕ). seen_as (kind_numbered (kind_of c)) v x (state_in after)) (t.requested ∙ ap (requested l) q)
        ∙ ap (seen_as (kind_numbered (kind_of c)) v (asked l c)) read-lists
        ∙ seen_as_lem c (read-sound (drop at s) c start size read) v l (state_in w) (value-stands s at start size c read)

    read_then : {handed : List Capsule} {later : List ℕ} {v : Result Unit Refusal} → AsWhole after s r.next handed later v → AsWhole w s at (c ∷ handed) later v
    read_then {handed} {later} {v} n =
        record {
          told =
              whole-read (drop at s) (capsule c start size) read
              ∙ ap (λ (x : List ℕ). before (c ∷ []) (whole x)) (drop-drop size at s ∙ ap (λ (n : ℕ). drop n s) (sym next_place))
              ∙ ap (before (c ∷ [])) n.told;
          lists = n.lists ∙ ap (λ (x : State). lists_after_all x handed) read-lists;
        }

  read_goes : {handed : List Capsule} {later : List ℕ} {v : Result Unit Refusal} → AsWhole after s r.next handed later v
      → AsWhole w s at (seen_as r.kind (take r.length (drop r.start s)) list (state_in after) ∷ handed) later v
  read_goes {handed} {later} {v} n = of (reading_in w s at) refl
    where
      of : (q : Reading) → reading_in w s at ≡ q → AsWhole w s at (seen_as r.kind (take r.length (drop r.start s)) list (state_in after) ∷ handed) later v
      of (refused why) q =
          let f = t.answer ∙ ap (result_at at) q in
          let y : ◌≡◌ {A = ℕ} 0 1 = cc in absurd (omega arith)
      of (capsule c start size) q = rw (read-seen c start size q) (read_then c start size q n)

pub reads_whole : {w s : List ℕ} {at : ℕ} {handed : List Capsule} {later : List ℕ} {v : Result Unit Refusal} → ReadsAll w s at handed later v
    → state_words ≤ length w → sound_state (state_in w) ≡ true → AsWhole w s at handed later v
reads_whole (stops {why = why} t) h g = read-stops t h g why refl
reads_whole (reads t next) h g = read_goes t h g (reads_whole next (read_length t h g) (read-keeps_sound t h g))

-- ---- the law

-- from an empty store and the same lists: any calls with room that took all bytes, or were refused, give what the whole buffer gives
pub cut_anywhere : {w held : List ℕ} {ps : List (List ℕ)} {handed : List Capsule} {later holds rest u s : List ℕ} {read : List Capsule} {left : List ℕ} {v : Result Unit Refusal}
    → Calls w held [] ps handed later holds rest → Through later holds rest → ReadsAll u s 0 read left v
    → Ready w held → store_in w held ≡ empty → state_words ≤ length u → state_in u ≡ state_in w → flatten ps ≡ s → Bytes s
    → SameAs handed later holds read left v
cut_anywhere {w} {held} {ps} {handed} {later} {holds} {rest} {u} {s} {read} {left} {v} c e r k z l g p b =
    let bs : Bytes (flatten ps) = rw p b in
    let f = calls_follow c k bs in
    let a = reads_whole r l (ap sound_state g ∙ k.lists) in
    let q : came handed later holds ≡ record { handed = read; refusal = v } =
    sym (calls_came c k bs e) ∙ ap (λ (x : Store). resume x (flatten ps)) z ∙ resume-empty (flatten ps) ∙ ap whole p ∙ a.told in
    let h : handed ≡ read = ap (λ (x : Told). x.handed) q in
    record {
      capsules = h;
      lists = f.lists ∙ ap (lists_after_all (state_in w)) h ∙ ap (λ (x : State). lists_after_all x read) (sym g) ∙ sym a.lists;
      refusal = ap (λ (x : Told). x.refusal) q;
    }

-- two ways of cutting, from the same lists and the same store
pub cut-alike : {w held : List ℕ} {ps : List (List ℕ)} {handed : List Capsule} {later holds rest u kept : List ℕ} {qs : List (List ℕ)} {read : List Capsule} {left keeps more : List ℕ}
    → Calls w held [] ps handed later holds rest → Through later holds rest → Calls u kept [] qs read left keeps more → Through left keeps more
    → Ready w held → Ready u kept → state_in u ≡ state_in w → store_in u kept ≡ store_in w held → flatten ps ≡ flatten qs → Bytes (flatten qs)
    → SameAs handed later holds read left (store_in left keeps).stopped
cut-alike {w} {held} {ps} {handed} {later} {holds} {rest} {u} {kept} {qs} {read} {left} {keeps} {more} c e d f k j g z p b =
    let bs : Bytes (flatten ps) = rw p b in
    let q : came handed later holds ≡ came read left keeps =
    sym (calls_came c k bs e) ∙ ap (resume (store_in w held)) p ∙ ap (λ (x : Store). resume x (flatten qs)) (sym z) ∙ calls_came d j b f in
    let h : handed ≡ read = ap (λ (x : Told). x.handed) q in
    record {
      capsules = h;
      lists =
          (calls_follow c k bs).lists ∙ ap (lists_after_all (state_in w)) h
          ∙ ap (λ (x : State). lists_after_all x read) (sym g) ∙ sym (calls_follow d j b).lists;
      refusal = ap (λ (x : Told). x.refusal) q;
    }

-- calls, and then calls from what they left
pub calls_append : {w held left : List ℕ} {ps : List (List ℕ)} {handed : List Capsule} {mid now over : List ℕ} {qs : List (List ℕ)} {more : List Capsule} {later holds rest : List ℕ}
    → Calls w held left ps handed mid now over → Calls mid now over qs more later holds rest
    → Calls w held left (ps ++ qs) (handed ++ more) later holds rest
calls_append no_call d = d
calls_append (call room x next) d = rw append_assoc (call room x (calls_append next d))

-- and the other way round
pub record Split (w held left : List ℕ) (ps qs : List (List ℕ)) (handed : List Capsule) (later holds rest : List ℕ) : Type 0 where
  pub first : List Capsule
  pub second : List Capsule
  pub mid : List ℕ
  pub now : List ℕ
  pub over : List ℕ
  pub front : Calls w held left ps first mid now over
  pub behind : Calls mid now over qs second later holds rest
  pub joined : handed ≡ first ++ second

pub calls_split : {w held left : List ℕ} (ps qs : List (List ℕ)) {handed : List Capsule} {later holds rest : List ℕ}
    → Calls w held left (ps ++ qs) handed later holds rest → Split w held left ps qs handed later holds rest
calls_split {w} {held} {left} [] qs {handed} c =
    record { first = []; second = handed; mid = w; now = held; over = left; front = no_call; behind = c; joined = refl }
calls_split {w = w} {held = held} {left = left} (p ∷ ps) qs {later = later} {holds = holds} {rest = rest} (call {r = r} {mid = mid} {now = now} {after = after} {list = list} room x next) =
    let n = calls_split {w = mid} {held = now} ps qs next in
    record {
      first = seen (call_by r) after list (state_in mid) ++ n.first;
      second = n.second;
      mid = n.mid;
      now = n.now;
      over = n.over;
      front = call room x n.front;
      behind = n.behind;
      joined = ap (λ (cs : List Capsule). seen (call_by r) after list (state_in mid) ++ cs) n.joined ∙ sym (append_assoc (seen (call_by r) after list (state_in mid)) n.first n.second);
    }

flatten_append : (ps qs : List (List ℕ)) → flatten (ps ++ qs) ≡ flatten ps ++ flatten qs
unfolding flatten
flatten_append [] qs = refl
flatten_append (p ∷ ps) qs = ap (λ (x : List ℕ). p ++ x) (flatten_append ps qs) ∙ sym (append_assoc p (flatten ps) (flatten qs))

-- the step: the bytes a ++ b to their end give what a, and then b to its end gives
pub cut_in_two : {w held a b : List ℕ} {ps : List (List ℕ)} {handed : List Capsule} {later holds rest : List ℕ}
    {qs : List (List ℕ)} {first : List Capsule} {mid now over : List ℕ} {rs : List (List ℕ)} {second : List Capsule} {left keeps more : List ℕ}
    → Calls w held [] ps handed later holds rest → Through later holds rest → flatten ps ≡ a ++ b
    → Calls w held [] qs first mid now over → flatten qs ≡ a
    → Calls mid now over rs second left keeps more → Through left keeps more → flatten rs ≡ b
    → Ready w held → Bytes (a ++ b)
    → SameAs handed later holds (first ++ second) left (store_in left keeps).stopped
cut_in_two {ps = ps} {qs = qs} {rs = rs} c e p d q g f r k b =
    let z : flatten (qs ++ rs) ≡ flatten ps = flatten_append qs rs ∙ rw (q, r) (sym p) in
    cut-alike c e (calls_append d g) f k k refl refl (sym z) (rw (z, p) b)
