-- What reading hands back, by the code's cases: of a frame, of a list's value, and of a place of a buffer. Assumes nothing.
use Rattle.std.proofs.Common.{Result, Ok, Err}
use Rattle.std.proofs.lemmas.Option.{same_Some}
use Rattle.std.specs.Result.{result_ok}
use Prim.Native.Nat.{ℕ, ◌+◌, ◌-◌, ◌≤◌, ◌<◌, min}
use mathlib.Core.Bool.{Bool, true, false}
use mathlib.Core.Path.{◌≡◌, refl, sym, ap, ◌∙◌}
use mathlib.Core.List.{List}
use mathlib.Core.Logic.{◌⊎◌, ⊎_elim}
use native.Mathlib.Omega.{arith}
use borrow.Author.Tests.{ne_eqb, le-ltb, lt-ltb}
use lib.ListN.{length, take, drop, drop_of_length-le, length-take, length-drop}
use lib.Seq.{drop-drop}
use Rattle.answer.specs.declared.Refusal.{Refusal}
use Rattle.answer.specs.declared.Refusal.TheVariants.{Incomplete, TooLong}
use Rattle.answer.proofs.Tests.{order}
use Rattle.varint.specs.Numbers.{read_number}
use Rattle.varint.proofs.Reading as Number
use Rattle.lists.specs.Words.{max_addresses, max_ranges}
use Rattle.capsule.specs.declared.CapsuleRead.{CapsuleRead}
use Rattle.capsule.specs.declared.FrameRead.{FrameRead}
use Rattle.capsule.specs.declared.Kind.{Kind}
use Rattle.capsule.specs.declared.Kind.TheVariants.{Datagram, AddressAssign, AddressRequest, RouteAdvertisement, Other}
use Rattle.capsule.specs.Elements.{Parsed, fault, all, parsed_verdict, elements_in}
use Rattle.capsule.specs.Entries.{entry_format, range_format}
use Rattle.capsule.specs.Capsules.{frame_read, max_value, Capsule, kind_of, kind_number, kind_numbered, number-numbered, assign, request, advertise, entries_in, ranges_in, listed, refused, read_value, in_frame, frame_of, read_capsule}
use Rattle.capsule.specs.Results.{judged_found, other_kind, found_at, result_at, read_at, frame_result, frame_in, value_verdict, ReadsEntries, ReadsRanges}
use Rattle.capsule.proofs.FrameCases.{Framed, frame_facts, framed-frame}

-- ---- a list, by the length of its value
module _ (asked : Bool) (v : List ℕ) where
  pub entries-long : max_value < length v → fault TooLong ≡ entries_in asked v
  unfolding entries_in
  entries-long h = rw (lt-ltb max_value (length v) h)

  pub entries-short : length v ≤ max_value → elements_in (entry_format asked) asked max_addresses v ≡ entries_in asked v
  unfolding entries_in
  entries-short h = rw (le-ltb max_value (length v) h)

module _ (v : List ℕ) where
  pub ranges-long : max_value < length v → fault TooLong ≡ ranges_in v
  unfolding ranges_in
  ranges-long h = rw (lt-ltb max_value (length v) h)

  pub ranges-short : length v ≤ max_value → elements_in range_format false max_ranges v ≡ ranges_in v
  unfolding ranges_in
  ranges-short h = rw (le-ltb max_value (length v) h)

-- ---- the kind of a kind's number
pub numbered-number : (k : Kind) → kind_numbered (kind_number k) ≡ k
numbered-number Datagram = refl
numbered-number AddressAssign = refl
numbered-number AddressRequest = refl
numbered-number RouteAdvertisement = refl
numbered-number Other = refl

-- ---- the verdict of a value, by its kind
module _ {kind : Kind} (v : List ℕ) where
  pub assign-verdict : {r : Result Unit Refusal} {words : List ℕ} → kind ≡ AddressAssign → ReadsEntries (entries_in false v) r words → r ≡ value_verdict kind v
  unfolding value_verdict
  assign-verdict k t = rw k t.verdict

  pub request-verdict : {r : Result Unit Refusal} {words : List ℕ} → kind ≡ AddressRequest → ReadsEntries (entries_in true v) r words → r ≡ value_verdict kind v
  unfolding value_verdict
  request-verdict k t = rw k t.verdict

  pub advertise-verdict : {r : Result Unit Refusal} {words : List ℕ} → kind ≡ RouteAdvertisement → ReadsRanges (ranges_in v) r words → r ≡ value_verdict kind v
  unfolding value_verdict
  advertise-verdict k t = rw k t.verdict

  pub no_list_verdict : (kind ≡ Datagram) ⊎ (kind ≡ Other) → (Ok tt) ≡ value_verdict kind v
  unfolding value_verdict
  no_list_verdict k = ⊎_elim (λ q. rw q refl) (λ q. rw q refl) k

-- ---- a frame at a place of a buffer
module _ (s : List ℕ) (at : ℕ) where
  pub past_end : length s < at → Err Incomplete ≡ frame_in s at
  unfolding frame_in frame_of read_number
  past_end h = let l : length s ≤ at = omega arith in rw (drop_of_length-le s l)

  pub whole-frame : (type start size : ℕ) (kind : Kind) → frame_of (drop at s) ≡ Ok (frame_read type start size) → kind ≡ kind_numbered type
      → Ok (record { kind = kind; start = at + start; length = size; next = at + start + size }) ≡ frame_in s at
  unfolding frame_in
  whole-frame type start size kind e f = rw (e, f)

  pub refused-frame : (r : Refusal) → frame_of (drop at s) ≡ Err r → Err r ≡ frame_in s at
  unfolding frame_in
  refused-frame r e = rw e

-- ---- a value, by its kind

-- any type but 0 to 3 is read as the other kind
pub kind-value : (kind : ℕ) (v : List ℕ) (start : ℕ) → read_value kind v start ≡ read_value (min kind other_kind) v start
unfolding read_value
kind-value kind v start = ⊎_elim few many (order kind other_kind)
  where
    few : kind < other_kind → read_value kind v start ≡ read_value (min kind other_kind) v start
    few h = let e : min kind other_kind ≡ kind = omega arith in rw e refl

    many : other_kind ≤ kind → read_value kind v start ≡ read_value (min kind other_kind) v start
    many h =
        let e : min kind other_kind ≡ other_kind = omega arith in
        rw (e, ne_eqb kind 0 (λ q. omega arith), ne_eqb kind 1 (λ q. omega arith), ne_eqb kind 2 (λ q. omega arith), ne_eqb kind 3 (λ q. omega arith))

module _ (at start n : ℕ) where
  found-size : (kind : ℕ) → found_at at kind start (start + n - start) ≡ found_at at kind start n
  found-size kind = let z : start + n - start ≡ n = omega arith in rw z

  list_result : {A : Type 0} (c : List A → Capsule) (kind : ℕ) → ((xs : List A) → kind_of (c xs) ≡ kind) → (p : Parsed A)
      → result_at at (listed c start (start + n) p) ≡ judged_found (parsed_verdict p) (found_at at kind start n)
  list_result c kind k (fault r) = refl
  list_result c kind k (all xs) = rw (k xs) (ap Ok (found-size kind))

module _ (v : List ℕ) (at start : ℕ) where
  value_result : (kind : Kind) → (kind_number kind ≤ 3 → length v ≤ max_value)
      → result_at at (read_value (kind_number kind) v start) ≡ judged_found (value_verdict kind v) (found_at at (kind_number kind) start (length v))
  unfolding read_value value_verdict
  value_result Datagram l = ap Ok (found-size at start (length v) 0)
  value_result AddressAssign l =
      rw (entries-short false v (l (omega arith))) (list_result at start (length v) assign 1 (λ es. refl) (entries_in false v))
  value_result AddressRequest l =
      rw (entries-short true v (l (omega arith))) (list_result at start (length v) request 2 (λ es. refl) (entries_in true v))
  value_result RouteAdvertisement l =
      rw (ranges-short v (l (omega arith))) (list_result at start (length v) advertise 3 (λ rs. refl) (ranges_in v))
  value_result Other l = ap Ok (found-size at start (length v) 4)

-- ---- a capsule that a frame found: its type, where its value starts behind the place, and how long it is
pub record Found (s : List ℕ) (at : ℕ) (f : CapsuleRead) : Type 0 where
  pub type : ℕ
  pub behind : ℕ
  pub size : ℕ
  pub framed : Framed (drop at s) type behind size
  pub is : f ≡ found_at at type behind size

module _ (s : List ℕ) (at : ℕ) where
  of-frame : (f : CapsuleRead) (r : Result FrameRead Refusal) → frame_of (drop at s) ≡ r → Ok f ≡ frame_result at r → Found s at f
  of-frame f (Ok r) q e =
      record {
        type = r.kind;
        behind = r.start;
        size = r.length;
        framed = frame_facts (drop at s) r.kind r.start r.length q;
        is = same_Some _ _ (ap result_ok e);
      }
  of-frame f (Err r) q e = let z : ◌≡◌ {A = ℕ} 0 1 = cc in absurd (omega arith)

  pub found : (f : CapsuleRead) → Ok f ≡ frame_in s at → Found s at f
  unfolding frame_in
  found f e = of-frame f (frame_of (drop at s)) refl e

  of-refusal : (r : Refusal) (t : Result FrameRead Refusal) → frame_of (drop at s) ≡ t → frame_result at t ≡ Err r → read_capsule (drop at s) ≡ refused r
  unfolding read_capsule
  of-refusal r (Ok x) q e = let z : ◌≡◌ {A = ℕ} 0 1 = cc in absurd (omega arith)
  of-refusal r (Err w) q e =
      let y : w ≡ r = cc in
      ap (in_frame (drop at s)) q ∙ ap refused y

  pub refused-reading : (r : Refusal) → frame_in s at ≡ Err r → read_capsule (drop at s) ≡ refused r
  unfolding frame_in
  refused-reading r e = of-refusal r (frame_of (drop at s)) refl e

  -- a refused frame is a refused capsule
  pub frame_refused : (r : Refusal) → frame_in s at ≡ Err r → Err r ≡ read_at s at
  unfolding read_at
  frame_refused r e = sym (ap (result_at at) (refused-reading r e))

-- the value as the code cuts it
abbrev pub value_in : List ℕ → CapsuleRead → List ℕ
value_in s f = take (f.next - f.start) (drop f.start s)

module _ {s : List ℕ} {at : ℕ} {f : CapsuleRead} (k : Found s at f) where
  starts : f.start ≡ at + k.behind
  starts = ap (λ x. x.start) k.is

  ends : f.next ≡ at + k.behind + k.size
  ends = ap (λ x. x.next) k.is

  kind-is : f.kind ≡ kind_numbered k.type
  kind-is = ap (λ x. x.kind) k.is

  kind_number-is : kind_number f.kind ≡ min k.type other_kind
  kind_number-is = ap kind_number kind-is ∙ number-numbered k.type

  pub start-within : f.start ≤ f.next
  start-within = omega (arith, starts, ends)

  -- type and length take a byte each at least
  pub next-within : f.next ≤ length s
  next-within =
      let a = Number.taken (drop at s) k.type k.framed.n k.framed.type in
      omega (arith, ends, k.framed.there, k.framed.starts, a.some, length-drop at s)

  value-part : value_in s f ≡ take k.size (drop k.behind (drop at s))
  value-part =
      let z : f.next - f.start ≡ k.size = omega (arith, starts, ends) in
      let y : f.start ≡ at + k.behind = starts in
      rw (drop-drop k.behind at s, z, y) refl

  length_value : length (value_in s f) ≡ k.size
  length_value = simp (length-take, length-drop) (omega (arith, starts, ends, next-within))

  pub value-short : kind_number f.kind ≤ 3 → length (value_in s f) ≤ max_value
  value-short h =
      let t : k.type ≤ 3 = omega (arith, kind_number-is) in
      omega (arith, length_value, k.framed.short t)

  -- the capsule is its value read by its kind
  pub reading : read_capsule (drop at s) ≡ read_value (kind_number f.kind) (value_in s f) k.behind
  unfolding read_capsule
  reading =
      ap (in_frame (drop at s)) (framed-frame k.framed)
      ∙ ap (λ v. read_value k.type v k.behind) (sym value-part)
      ∙ kind-value k.type (value_in s f) k.behind
      ∙ ap (λ t. read_value t (value_in s f) k.behind) (sym kind_number-is)

  found_again : found_at at (kind_number f.kind) k.behind (length (value_in s f)) ≡ found_at at k.type k.behind k.size
  found_again = rw (numbered-number f.kind, kind-is, length_value) refl

  pub judged-value : read_at s at ≡ judged_found (value_verdict f.kind (value_in s f)) f
  unfolding read_at
  judged-value =
      ap (result_at at) reading ∙ value_result (value_in s f) at k.behind f.kind value-short
      ∙ ap (judged_found (value_verdict f.kind (value_in s f))) (found_again ∙ sym k.is)

  pub found-read : value_verdict f.kind (value_in s f) ≡ Ok tt → Ok f ≡ read_at s at
  found-read g = sym (judged-value ∙ ap (λ (v : Result Unit Refusal). judged_found v f) g)

  pub found-fault : (r : Refusal) → value_verdict f.kind (value_in s f) ≡ Err r → Err r ≡ read_at s at
  found-fault r g = sym (judged-value ∙ ap (λ (v : Result Unit Refusal). judged_found v f) g)
