-- What a call may answer, and what it takes and leaves then. Assumes nothing.
use Rattle.std.proofs.Common.{Result, Ok, Err}
use Prim.Native.Nat.{ℕ, zero, suc, ◌+◌, ◌-◌, ◌≤◌, ◌<◌}
use mathlib.Core.Bool.{Bool, true, false}
use mathlib.Core.Path.{◌≡◌, refl, sym, ap, ◌∙◌}
use mathlib.Core.List.{List, [], ◌∷◌, ◌++◌}
use mathlib.Core.Logic.{◌⊎◌, inl, inr}
use native.Mathlib.Omega.{arith}
use borrow.Author.Tests.{ltb-true, ltb-false, not-false}
use lib.Dec.{ltb, eqb, lit<}
use lib.ListN.{length, get_or, drop, length-take, length-append, take-append-drop}
use Rattle.answer.specs.declared.Refusal.{Refusal}
use Rattle.capsule.specs.declared.Kind.{Kind}
use Rattle.answer.specs.declared.Refusal.TheVariants.{BrokenState, NoRoom}
use Rattle.answer.specs.Choice.{pick}
use Rattle.answer.specs.Verdict.{◌⇒◌, output_of}
use Rattle.answer.proofs.Tables.{go-at}
use Rattle.answer.specs.Number.{number_of}
use Rattle.octets.specs.Big.{Bytes}
use Rattle.varint.specs.Numbers.{read_number}
use Rattle.capsule.specs.Heads.{head_of}
use Rattle.capsule.specs.Capsules.{Capsule, unknown, Reading, refused, capsule, max_value, read_capsule}
use Rattle.capsule.proofs.ReadLaws.{read-within}
use Rattle.capsule.proofs.FrontLaws.{ends-behind}
use Rattle.state.specs.State.{store_at, state_in, sound_state}
use Rattle.exchange.specs.Reading.{asked}
use Rattle.stream.specs.declared.feeding.Call.TheVariants.{Handed, Between, Wait}
use Rattle.stream.specs.declared.feeding.Piece.{Piece}
use Rattle.stream.specs.Store.{Store, empty, to_skip, sound_stop, sound_store, keeping, out, clean, wait, no, Fed, waits, remembers, says, on_reading, feed_open, feed_live, feed_store}
use Rattle.stream.specs.Feeding.{store_in, feed_tests, feed_verdict, fed, datagram_bytes, on_out, state_fed, call_of, piece_of, call_by, taken_by, Feeds}
use Rattle.stream.specs.Buffer.{given}
use Rattle.stream.specs.Runs.{Lent, Ready, lists_after_all, Unfinished, EndsIn, read_to_end, skipped_to_end, LeavesAll, Remembers, Rests, Waits}
use Rattle.stream.proofs.TestLaws.{verdict-room, verdict-state, verdict-store}
use Rattle.stream.proofs.StepLaws.{Open}
use Rattle.stream.proofs.StoreLaws.{stored, remembered-number, stored_same, stored-stop}
use Rattle.stream.proofs.FeedLaws.{ready_open, ready-within, call-answer, call-said, call-taken, call-state, call-bytes, call-output, call-requested, call-store, call-lists, call-follows}

-- ---- one call on a store that keeps its rules

-- what goes with each word
pub data Fits (k : Store) (t : List ℕ) : Fed → Type 0 where
  handed_out : {c : Capsule} {n : ℕ} → EndsIn k t n → n ≤ length t → Fits k t (record { said = out c; taken = n; store = empty })
  between : t ≡ [] → k ≡ empty → Fits k t (record { said = clean; taken = 0; store = empty })
  waited : {l : Store} → Unfinished l → Fits k t (record { said = wait; taken = length t; store = l })
  remembered : {r : Refusal} → Fits k t (remembers k r)
  repeated : {r : Refusal} → k.stopped ≡ Err r → Fits k t (says k r)

unfinished : (b : ℕ) (s : List ℕ) (n : ℕ) → Unfinished (keeping (b ∷ s) n)
unfinished b s zero = inl (omega arith)
unfinished b s (suc n) = inr (omega arith)

pub append_none : (a b : List ℕ) → a ++ b ≡ [] → (a ≡ []) × (b ≡ [])
append_none [] b e = (refl, e)
append_none (x ∷ a) b e = let y : ◌≡◌ {A = ℕ} 0 1 = cc in absurd (omega arith)

as_empty : (k : Store) → k.kept ≡ [] → k.skip ≡ 0 → k.stopped ≡ Ok tt → k ≡ empty
as_empty k a b c =
    ap (λ (s : List ℕ). record { kept = s; skip = k.skip; stopped = k.stopped }) a
    ∙ ap (λ (n : ℕ). record { kept = []; skip = n; stopped = k.stopped }) b
    ∙ ap (λ (v : Result Unit Refusal). record { kept = []; skip = 0; stopped = v }) c

module _ (k : Store) (t : List ℕ) (o : Open k) where
  module _ (live : k.stopped ≡ Ok tt) (none : k.skip ≡ 0) where
    on-waits : (s : List ℕ) → k.kept ++ t ≡ s → Fits k t (waits (length t) s)
    unfolding to_skip head_of read_number
    on-waits [] e =
        let z = append_none k.kept t e in
        rw (ap length z.1) (between z.1 (as_empty k z.0 none live))
    on-waits (b ∷ s) e = waited (unfinished b s (to_skip (b ∷ s)))

    on-refused : (r : Refusal) (b : Bool) → Fits k t (pick b (waits (length t) (k.kept ++ t)) (remembers k r))
    on-refused r true = on-waits (k.kept ++ t) refl
    on-refused r false = remembered

    on-reading : (r : Reading) → read_capsule (k.kept ++ t) ≡ r → Fits k t (on_reading k (length t) (k.kept ++ t) r)
    on-reading (refused r) e = on-refused r (eqb (number_of r) 1)
    on-reading (capsule c start size) e =
        let p = ends-behind k.kept t c start size (o.waits none) e in
        let w = read-within (k.kept ++ t) c start size e in
        let l : size - length k.kept ≤ length t = omega (arith, w.1, length-append k.kept t) in
        let n : size ≡ length k.kept + (size - length k.kept) = omega arith in
        handed_out (read_to_end (e ∙ ap (capsule c start) n)) l

  on-skip : (n : ℕ) → k.skip ≡ suc n → (b : Bool) → ltb (length t) (suc n) ≡ b
      → Fits k t (pick b (record { said = wait; taken = length t; store = record { kept = []; skip = suc n - length t; stopped = (Ok tt) } }) (record { said = out unknown; taken = suc n; store = empty }))
  on-skip n z true e = let l = ltb-true (length t) (suc n) e in let p : 0 < suc n - length t = omega arith in waited (inr p)
  on-skip n z false e = let p : 0 < suc n = omega arith in handed_out (skipped_to_end p z) (ltb-false (length t) (suc n) e)

  on_open : k.stopped ≡ Ok tt → (n : ℕ) → k.skip ≡ n → Fits k t (feed_open k t n)
  on_open live zero e = on-reading live e (read_capsule (k.kept ++ t)) refl
  on_open live (suc n) e = on-skip n e (ltb (length t) (suc n)) refl

  on-live : (v : Result Unit Refusal) → k.stopped ≡ v → Fits k t (feed_live k t v)
  on-live (Ok _) e = on_open e k.skip refl
  on-live (Err r) e = repeated e

  pub fits : Fits k t (feed_store k t)
  unfolding feed_store
  fits = on-live k.stopped refl

pub repeats-store : (k : Store) (t : List ℕ) (r : Refusal) → k.stopped ≡ Err r → feed_store k t ≡ says k r
unfolding feed_store
repeats-store k t r e = rw e

module _ {k : Store} {t : List ℕ} where
  fits-wait : {f : Fed} → Fits k t f → call_of f.said ≡ Ok Wait → Unfinished f.store × (f ≡ record { said = wait; taken = length t; store = f.store })
  fits-wait (handed_out x l) e = let y : ◌≡◌ {A = ℕ} 0 1 = cc in absurd (omega arith)
  fits-wait (between x z) e = let y : ◌≡◌ {A = ℕ} 0 1 = cc in absurd (omega arith)
  fits-wait (waited u) e = (u, refl)
  fits-wait remembered e = let y : ◌≡◌ {A = ℕ} 0 1 = cc in absurd (omega arith)
  fits-wait (repeated x) e = let y : ◌≡◌ {A = ℕ} 0 1 = cc in absurd (omega arith)

  fits-between : {f : Fed} → Fits k t f → call_of f.said ≡ Ok Between
      → (t ≡ []) × (k ≡ empty) × (f ≡ record { said = clean; taken = 0; store = empty })
  fits-between (handed_out x l) e = let y : ◌≡◌ {A = ℕ} 0 1 = cc in absurd (omega arith)
  fits-between (between x z) e = (x, z, refl)
  fits-between (waited u) e = let y : ◌≡◌ {A = ℕ} 0 1 = cc in absurd (omega arith)
  fits-between remembered e = let y : ◌≡◌ {A = ℕ} 0 1 = cc in absurd (omega arith)
  fits-between (repeated x) e = let y : ◌≡◌ {A = ℕ} 0 1 = cc in absurd (omega arith)

  fits-handed : {f : Fed} (kind : Kind) (n : ℕ) → Fits k t f → call_of f.said ≡ Ok (Handed kind n) → EndsIn k t f.taken × (f.store ≡ empty)
  fits-handed kind n (handed_out x l) e = (x, refl)
  fits-handed kind n (between x z) e = let y : ◌≡◌ {A = ℕ} 0 1 = cc in absurd (omega arith)
  fits-handed kind n (waited u) e = let y : ◌≡◌ {A = ℕ} 0 1 = cc in absurd (omega arith)
  fits-handed kind n remembered e = let y : ◌≡◌ {A = ℕ} 0 1 = cc in absurd (omega arith)
  fits-handed kind n (repeated x) e = let y : ◌≡◌ {A = ℕ} 0 1 = cc in absurd (omega arith)

  fits-stopped : {f : Fed} (why : Refusal) → Fits k t f → call_of f.said ≡ Err why → f ≡ remembers k why
  fits-stopped why (handed_out x l) e = let y : ◌≡◌ {A = ℕ} 0 1 = cc in absurd (omega arith)
  fits-stopped why (between x z) e = let y : ◌≡◌ {A = ℕ} 0 1 = cc in absurd (omega arith)
  fits-stopped why (waited u) e = let y : ◌≡◌ {A = ℕ} 0 1 = cc in absurd (omega arith)
  fits-stopped why (remembered {r}) e = let y : r ≡ why = cc in ap (remembers k) y
  fits-stopped why (repeated {r} x) e =
      let y : r ≡ why = cc in
      ap (λ (v : Result Unit Refusal). record { said = no r; taken = 0; store = record { kept = k.kept; skip = k.skip; stopped = v } }) x ∙ ap (remembers k) y

-- ---- a tunnel that keeps its rules
module _ {w held : List ℕ} (k : Ready w held) where
  -- the value of a capsule that is skipped is never kept
  pub skipped_not_kept : 0 < (store_in w held).skip → (store_in w held).kept ≡ []
  skipped_not_kept h = (ready_open k).alone h

  -- the first word counts the kept bytes
  pub kept-count : length (store_in w held).kept ≡ get_or w store_at 0
  kept-count = omega (arith, ready-within k, length-take (get_or w store_at 0) held, k.lent.memory)

  kept-front : (store_in w held).kept ++ drop (length (store_in w held).kept) held ≡ held
  kept-front = ap (λ (n : ℕ). (store_in w held).kept ++ drop n held) kept-count ∙ take-append-drop (get_or w store_at 0) held

  stored_back : stored w (store_in w held) ≡ w
  stored_back =
      stored_same w k.lent.words (store_in w held) kept-count refl (remembered-number (get_or w (store_at + 2) 0) (ready_open k).stop)

same-refusal : {a b : Refusal} → ◌≡◌ {A = Result Piece Refusal} (Err a) (Err b) → a ≡ b
same-refusal e = cc

-- no test holds: there is room, and lists, templates and store keep their rules
go-ready : (w held : List ℕ) (n : ℕ) → Lent w held → feed_verdict w held n ≡ Ok tt → (max_value ≤ n) × Ready w held
unfolding feed_tests
go-ready w held n m e =
    let failed = go-at (feed_tests w held n) (false ⇒ NoRoom) in
    (ltb-false _ _ (failed 0 e (lit< tt)), record { lent = m; lists = not-false _ (failed 1 e (lit< tt)); store = not-false _ (failed 2 e (lit< tt)) })

-- ---- a call by its contract
module _ {w held t before l : List ℕ} {r : Result Piece Refusal} {later holds after list : List ℕ} (x : Feeds w held t before l r later holds after list) where
  -- 9 and 16: nothing changes, so they are not remembered
  refused_leaves : (why : Refusal) → feed_verdict w held (length before) ≡ Err why → LeavesAll why w held before l r later holds after list
  refused_leaves why e =
      record {
        answer = x.answer ∙ rw e;
        untouched =
            record { state = x.state ∙ rw e; bytes = x.bytes ∙ rw e; output = x.output ∙ rw e; requested = x.requested ∙ rw e };
      }

  pub no_room : length before < max_value → LeavesAll NoRoom w held before l r later holds after list
  no_room h = refused_leaves NoRoom (verdict-room w held (length before) h)

  pub broken-lists : max_value ≤ length before → sound_state (state_in w) ≡ false → LeavesAll BrokenState w held before l r later holds after list
  broken-lists h e = refused_leaves BrokenState (verdict-state w held (length before) h e)

  pub broken-store : max_value ≤ length before → sound_state (state_in w) ≡ true → sound_store (store_in w held) ≡ false
      → LeavesAll BrokenState w held before l r later holds after list
  broken-store h g e = refused_leaves BrokenState (verdict-store w held (length before) h g e)

  module _ (k : Ready w held) (room : max_value ≤ length before) where
    -- a refusal that is remembered is repeated, and alters nothing
    pub repeats : (why : Refusal) → (store_in w held).stopped ≡ Err why → LeavesAll why w held before l r later holds after list
    repeats why e =
        let f : fed w held t ≡ says (store_in w held) why = repeats-store (store_in w held) t why e in
        record {
          answer = call-answer x k room ∙ ap (piece_of (Ok tt)) f;
          untouched =
              record {
                state = call-state x k room ∙ rw f (stored_back k);
                bytes = call-bytes x k room ∙ rw f (kept-front k);
                output = call-output x k room ∙ rw f;
                requested = call-requested x k room ∙ rw f;
              };
        }

    module _ (b : Bytes t) where
      fitting : Fits (store_in w held) t (fed w held t)
      fitting = fits (store_in w held) t (ready_open k)

      -- 1 is answered only while a capsule is open, and takes all bytes
      pub wait-unfinished : call_by r ≡ Ok Wait → Waits w t before l r later holds after list
      wait-unfinished e =
          let p = fits-wait fitting (sym (call-said x k room) ∙ e) in
          record {
            answer = call-answer x k room ∙ ap (piece_of (Ok tt)) p.1;
            unfinished = rw (sym (call-store x k room b)) at p.0;
            lists = call-lists x k room b ∙ ap (λ (y : Fed). lists_after_all (state_in w) (given y.said)) p.1;
            output = call-output x k room ∙ ap (λ (y : Fed). output_of (Ok tt) (on_out datagram_bytes [] y.said) before) p.1;
            requested = call-requested x k room ∙ ap (λ (y : Fed). on_out (asked l) l y.said) p.1;
          }

      -- 0 with no capsule only between capsules, where no byte is given
      pub between_rests : call_by r ≡ Ok Between → Rests w held t before l r later holds after list
      between_rests e =
          let p = fits-between fitting (sym (call-said x k room) ∙ e) in
          record {
            answer = call-answer x k room ∙ ap (piece_of (Ok tt)) p.2;
            none = p.0;
            store = p.1;
            untouched =
                record {
                  state = call-state x k room ∙ ap (state_fed w) p.2 ∙ ap (stored w) (sym p.1) ∙ stored_back k;
                  bytes = call-bytes x k room ∙ ap (λ (y : Fed). y.store.kept ++ drop (length y.store.kept) held) p.2;
                  output = call-output x k room ∙ ap (λ (y : Fed). output_of (Ok tt) (on_out datagram_bytes [] y.said) before) p.2;
                  requested = call-requested x k room ∙ ap (λ (y : Fed). on_out (asked l) l y.said) p.2;
                };
          }

      -- no byte past the end of a capsule is taken
      pub handed-ends : (kind : Kind) (n : ℕ) → call_by r ≡ Ok (Handed kind n) → EndsIn (store_in w held) t (taken_by r) × (store_in later holds ≡ empty)
      handed-ends kind n e =
          let p = fits-handed kind n fitting (sym (call-said x k room) ∙ e) in
          (rw (call-taken x k room) p.0, call-store x k room b ∙ p.1)

      pub taken-within : taken_by r ≤ length t
      taken-within = (call-follows x k room b).within

      -- any other number is remembered, and that is all it changes
      pub stopped-remembers : (why : Refusal) → r ≡ Err why → Remembers why w held before l r later holds after list
      stopped-remembers why e =
          let f : fed w held t ≡ remembers (store_in w held) why = fits-stopped why fitting (sym (call-said x k room) ∙ ap call_by e) in
          let s : (store_in later holds).stopped ≡ Err why =
          ap (λ (y : Store). y.stopped) (call-store x k room b) ∙ ap (λ (y : Fed). y.store.stopped) f in
          record {
            number = ap sound_stop (sym s) ∙ (ready_open (call-follows x k room b).ready).stop;
            answer = call-answer x k room ∙ ap (piece_of (Ok tt)) f;
            state = call-state x k room ∙ rw f (stored-stop w k.lent.words (remembers (store_in w held) why).store (kept-count k) refl);
            stopped = s;
            bytes = call-bytes x k room ∙ rw f (kept-front k);
            output = call-output x k room ∙ rw f;
            requested = call-requested x k room ∙ rw f;
          }

  -- whatever the room, the lists and the store: a refusal alters nothing, or it is remembered and alters no more than that
  pub refused-either : Lent w held → Bytes t → (why : Refusal) → r ≡ Err why
      → LeavesAll why w held before l r later holds after list ⊎ Remembers why w held before l r later holds after list
  refused-either m b why e = of (feed_verdict w held (length before)) refl
    where
      of : (v : Result Unit Refusal) → feed_verdict w held (length before) ≡ v
          → LeavesAll why w held before l r later holds after list ⊎ Remembers why w held before l r later holds after list
      of (Err other) g =
          let a = refused_leaves other g in
          let z : other ≡ why = same-refusal (sym a.answer ∙ e) in
          inl (rw z at a)
      of (Ok _) g = let q = go-ready w held (length before) m g in inr (stopped-remembers q.1 q.0 b why e)
