-- What the code does with the lent memory is what the call says, case by case. Assumes nothing.
use Rattle.std.proofs.Common.{Option, Some, None, Result, Ok, Err}
use Prim.Native.Nat.{ℕ, ◌+◌, ◌-◌, ◌≤◌, ◌<◌, min}
use mathlib.Core.Bool.{Bool, true, false}
use mathlib.Core.Path.{◌≡◌, refl, sym, ap, ◌∙◌}
use mathlib.Core.List.{List, [], ◌∷◌, ◌++◌, append_assoc}
use mathlib.Core.Logic.{inr, ⊎_elim}
use native.Mathlib.Omega.{arith}
use borrow.Author.Tests.{lt-ltb, le-ltb}
use lib.Dec.{ltb}
use lib.ListN.{length, get_or, set, take, drop, length-take, length-append, take-append-drop, drop_of_length-le}
use lib.Seq.{length-take-le, drop-append-le, drop-append-add}
use Rattle.answer.specs.declared.Refusal.{Refusal}
use Rattle.capsule.specs.declared.Kind.TheVariants.{Datagram, Other}
use Rattle.answer.specs.declared.Refusal.TheVariants.{TooLong}
use Rattle.answer.specs.Choice.{pick}
use Rattle.answer.specs.Number.{number_of}
use Rattle.answer.proofs.Tests.{order}
use Rattle.octets.specs.Parts.{with_part}
use Rattle.output.specs.Places.{Put}
use Rattle.output.proofs.Placing.{put_front}
use Rattle.varint.specs.Numbers.{limit}
use Rattle.capsule.specs.declared.CapsuleRead.{CapsuleRead}
use Rattle.capsule.specs.declared.Head.{Head}
use Rattle.capsule.specs.Heads.{head, head_size, head_of, HeadRead}
use Rattle.capsule.specs.Capsules.{max_value, Capsule, unknown, kind_of, kind_numbered, Reading, refused, capsule, read_capsule}
use Rattle.capsule.specs.Results.{result_at}
use Rattle.capsule.proofs.FrameCases.{Short}
use Rattle.capsule.proofs.HeadLaws.{head_append, head_more}
use Rattle.capsule.proofs.ReadFacts.{Taken, is-datagram, is-assign, is-request, is-advertise, is-unknown}
use Rattle.state.specs.State.{store_at, state_words}
use Rattle.exchange.specs.Reading.{taken, asked, received, requested, TakesCapsule}
use Rattle.stream.specs.declared.feeding.Call.TheVariants.{Between, Wait}
use Rattle.stream.specs.declared.feeding.Piece.{Piece}
use Rattle.stream.specs.Store.{out, wait, Fed, waiting, empty, remembers, on_skip}
use Rattle.stream.specs.Feeding.{kept_size, remembered_by, store_in, fed, datagram_bytes, on_out, state_fed, call_of, piece_with}
use Rattle.stream.specs.Inner.{handing, Refuses, HandsOut, Settles, Moves, Keeps, Lists, Goes, keeps_all, Live, Collecting, OneList}
use Rattle.stream.proofs.WordLaws.{words-kept, words-skip, words-stopped, taken-stopped}
use Rattle.stream.proofs.FeedLaws.{length_taken}
use Rattle.stream.proofs.CaseLaws.{Idle, fed-reading, fed-cut, ends-after, fed-lacks, fed-long, fed-other, front-list, fed-front, fed-datagram, list-whole, list-ends}

-- ---- type and length from the first bytes

-- no bytes are kept
pub head-none : (kept bytes : List ℕ) {r : Option Head} → length kept ≡ 0 → HeadRead bytes r → HeadRead (kept ++ bytes) r
head-none [] bytes e h = h
head-none (b ∷ kept) bytes e h = absurd (omega arith)

-- type and length are among them
pub head-kept : (kept bytes : List ℕ) {kind start size : ℕ} {r : Option Head} → r ≡ Some (head kind start size) → HeadRead kept r → HeadRead (kept ++ bytes) r
head-kept kept bytes {kind} {start} {size} e h =
    rw e
    (let k : HeadRead kept (Some (head kind start size)) = rw e at h in
    record {
      reading = sym (head_append kept bytes kind start size (sym k.reading));
      within = (k.within.0, omega (arith, k.within.1, length-append kept bytes), k.within.2);
    })

-- or cut, and then few
pub head_few : (kept : List ℕ) {r : Option Head} → r ≡ None → HeadRead kept r → length kept ≤ head_size
head_few kept e h = let k : HeadRead kept None = rw e at h in omega (arith, k.within)

-- few are kept: with the first bytes given, `head_size` in all where there are so many
module _ (kept bytes : List ℕ) (n : ℕ) (few : length kept ≤ head_size) (e : n ≡ min (length bytes) (head_size - length kept)) where
  pub front_fits : length kept + length (take n bytes) ≤ head_size
  front_fits = omega (arith, length-take n bytes)

  pub front-size : {space after : List ℕ} {m : ℕ} → Put (kept ++ take n bytes) 0 space m after → m ≤ head_size
  front-size p = omega (arith, front_fits, p.place, length-append kept (take n bytes))

  pub head-joined : (r : Option Head) → HeadRead (kept ++ take n bytes) r → HeadRead (kept ++ bytes) r
  head-joined r h =
      let z : (kept ++ take n bytes) ++ drop n bytes ≡ kept ++ bytes =
      append_assoc kept (take n bytes) (drop n bytes) ∙ ap (λ (x : List ℕ). kept ++ x) (take-append-drop n bytes) in
      rw z at
      (head_more (kept ++ take n bytes) (drop n bytes) r h
      (λ (q : length (kept ++ take n bytes) < head_size). let v : length bytes ≤ n = omega (arith, length-append kept (take n bytes), length-take n bytes) in drop_of_length-le bytes v))

-- ---- the value of a DATAGRAM
module _ (kept bytes : List ℕ) (start : ℕ) where
  -- all of it is given
  pub value-given : length kept ≤ start → drop (start - length kept) bytes ≡ drop start (kept ++ bytes)
  value-given h =
      let e : length kept + (start - length kept) ≡ start = omega arith in
      sym (ap (λ (n : ℕ). drop n (kept ++ bytes)) (sym e) ∙ drop-append-add kept bytes (start - length kept))

  -- its front is kept
  pub value-kept : start ≤ length kept → drop start kept ++ bytes ≡ drop start (kept ++ bytes)
  value-kept h = sym (drop-append-le start kept bytes h)

-- ---- what a call leaves, by what it says
waiting-out : {A : Type 0} (f : Capsule → A) (a : A) (s : List ℕ) → on_out f a (waiting s) ≡ a
waiting-out f a [] = refl
waiting-out f a (b ∷ s) = refl

waiting_none : (s : List ℕ) → length s ≡ 0 → Ok Between ≡ call_of (waiting s)
waiting_none [] e = refl
waiting_none (b ∷ s) e = absurd (omega arith)

waiting-some : (s : List ℕ) → (length s ≡ 0 → ⊥) → Ok Wait ≡ call_of (waiting s)
waiting-some [] e = absurd (e refl)
waiting-some (b ∷ s) e = refl

pub same-front : (n : ℕ) (held : List ℕ) → n ≤ length held → held ≡ take n held ++ drop (length (take n held)) held
same-front n held h =
    sym (ap (λ (m : ℕ). take n held ++ drop m held) (length-take-le n held h) ∙ take-append-drop n held)

-- all bytes are kept
module _ {w held t holds : List ℕ} {n : ℕ} (v : Live w) (fits : get_or w store_at 0 + length t ≤ length held) (p : Put t (get_or w store_at 0) held n holds) where
  abbrev s : List ℕ
  s = take (get_or w store_at 0) held ++ t

  long : length s ≡ n
  long = length-append (take (get_or w store_at 0) held) t ∙ omega (arith, length-take-le (get_or w store_at 0) held (omega arith), p.place)

  abbrev later : List ℕ
  later = set w store_at n

  state-kept : later ≡ state_fed w (keeps_all (take (get_or w store_at 0) held) t)
  state-kept =
      words-kept w v n ∙ ap (λ (m : ℕ). with_part w store_at state_words (m ∷ 0 ∷ 0 ∷ [])) (sym long)
      ∙ ap (λ (x : List ℕ). with_part x store_at state_words (length s ∷ 0 ∷ 0 ∷ [])) (sym (waiting-out (taken w) w s))

  bytes-kept : holds ≡ s ++ drop (length s) held
  bytes-kept =
      sym (take-append-drop n holds) ∙ ap (λ (l : List ℕ). l ++ drop n holds) p.front ∙ ap (λ (l : List ℕ). s ++ l) p.rest
      ∙ ap (λ (m : ℕ). s ++ drop m held) (sym long)

  pub keeps-none : n ≡ 0 → Keeps (keeps_all (take (get_or w store_at 0) held) t) w held (Ok (record { call = Between; taken = 0 })) later holds
  keeps-none z =
      let e : 0 ≡ length t = omega (arith, p.place) in
      record {
        moves =
            record {
              answer =
                  ap (piece_with 0) (waiting_none s (long ∙ z))
                  ∙ ap (λ (m : ℕ). piece_with m (call_of (waiting s))) e;
              state = state-kept;
            };
        bytes = bytes-kept;
      }

  pub keeps-some : (n ≡ 0 → ⊥) → Keeps (keeps_all (take (get_or w store_at 0) held) t) w held (Ok (record { call = Wait; taken = length t })) later holds
  keeps-some z =
      record {
        moves =
            record {
              answer = ap (piece_with (length t)) (waiting-some s (λ q. z (sym long ∙ q)));
              state = state-kept;
            };
        bytes = bytes-kept;
      }

-- a capsule is skipped
module _ {w : List ℕ} (l : length w ≡ state_words) (live : get_or w (store_at + 2) 0 ≡ 0) {n m : ℕ} where
  pub skips-on : m < n → Moves (on_skip n m) w (Ok (record { call = Wait; taken = m })) (set (set w store_at 0) (store_at + 1) (n - m))
  skips-on h = rw (lt-ltb m n h) (record { answer = refl; state = words-skip w l live (n - m) })

  pub skips-done : n ≤ m → {r : Result Piece Refusal} {later : List ℕ} → HandsOut Other 0 n w r later → Moves (on_skip n m) w r later
  skips-done h o = rw (le-ltb m n h) (record { answer = o.answer; state = o.state ∙ words-skip w l live 0 })

-- by whether the bytes given are fewer
abbrev pub skips_if : Bool → ℕ → ℕ → Fed
skips_if b n m =
    pick b (record { said = wait; taken = m; store = record { kept = []; skip = n - m; stopped = (Ok tt) } })
    (record { said = out unknown; taken = n; store = empty })

pub goes-skip : {w held before l later : List ℕ} {r : Result Piece Refusal} (n m : ℕ) → Moves (on_skip n m) w r later → Goes (on_skip n m) w held before l r later held before l
goes-skip {w} {held} {before} {l} {later} {r} n m f = of (ltb m n) f
  where
    of : (b : Bool) → Moves (skips_if b n m) w r later → Goes (skips_if b n m) w held before l r later held before l
    of true g = record { moves = g; bytes = refl; output = refl; requested = refl }
    of false g = record { moves = g; bytes = refl; output = refl; requested = refl }

-- a refusal is remembered
pub refused-by : {why : Refusal} {w : List ℕ} {n : ℕ} {r : Result Piece Refusal} → n ≡ number_of why → r ≡ Err why → Refuses why w r (set w (store_at + 2) n)
refused-by {why} {w} e q = record { answer = q; state = ap (set w (store_at + 2)) e }

-- a list is read from a copy of the kept bytes and those given
module _ (kept bytes : List ℕ) {n : ℕ} {space after : List ℕ} (p : Put (kept ++ bytes) 0 space n after) where
  pub copy_size : length kept + length bytes ≤ kept_size → n ≤ kept_size
  copy_size h = omega (arith, p.place, length-append kept bytes)

  pub copy_taken : {w l later list : List ℕ} {r : Result CapsuleRead Refusal} → TakesCapsule w (take n after) 0 l r later list → TakesCapsule w (kept ++ bytes) 0 l r later list
  copy_taken t = rw p.front at t

-- nothing is kept
pub none_kept : (held bytes : List ℕ) {n : ℕ} → n ≡ 0 → bytes ≡ take n held ++ bytes
none_kept held bytes e = ap (λ (n : ℕ). take n held ++ bytes) (sym e)

-- ---- a store that skips nothing
module _ {w held : List ℕ} (rd : Collecting w held) where
  abbrev kept : List ℕ
  kept = take (get_or w store_at 0) held

  idle : Idle (store_in w held)
  idle = record { sound = rd.sound; skip = rd.live.skip; stopped = ap remembered_by rd.live.stopped }

  kept-size : length kept ≡ get_or w store_at 0
  kept-size = length-take-le (get_or w store_at 0) held (omega (arith, rd.within, rd.room))

  kept_same : held ≡ kept ++ drop (length kept) held
  kept_same = same-front (get_or w store_at 0) held (omega (arith, rd.within, rd.room))

  refuses-moves : {why : Refusal} {r : Result Piece Refusal} {later : List ℕ} → Refuses why w r later → Moves (remembers (store_in w held) why) w r later
  refuses-moves {why} f =
      record { answer = f.answer; state = f.state ∙ words-stopped w rd.live.size why (length kept) (get_or w (store_at + 1) 0) (sym kept-size) refl }

  -- ---- a capsule that holds a list
  module _ (bytes : List ℕ) (x : OneList (kept ++ bytes)) where
    no_bytes : (c : Capsule) {v : List ℕ} → Taken x.kind v c → datagram_bytes c ≡ []
    no_bytes c (is-datagram k) = absurd (omega (arith, x.known.0))
    no_bytes c (is-assign k q) = refl
    no_bytes c (is-request k q) = refl
    no_bytes c (is-advertise k q) = refl
    no_bytes c (is-unknown k) = refl

    list-refused : (why : Refusal) → read_capsule (kept ++ bytes) ≡ refused why → fed w held bytes ≡ remembers (store_in w held) why
    list-refused why e = fed-reading idle bytes (refused why) e ∙ rw (list-whole x why e)

    list_read : (c : Capsule) (a z : ℕ) → read_capsule (kept ++ bytes) ≡ capsule c a z → fed w held bytes ≡ record { said = out c; taken = z - length kept; store = empty }
    list_read c a z e = fed-reading idle bytes (capsule c a z) e

    -- no bytes are handed out or kept
    list_leaves : (on_out datagram_bytes [] (fed w held bytes).said ≡ []) × (held ≡ (fed w held bytes).store.kept ++ drop (length (fed w held bytes).store.kept) held)
    list_leaves = of (read_capsule (kept ++ bytes)) refl
      where
        of : (q : Reading) → read_capsule (kept ++ bytes) ≡ q
            → (on_out datagram_bytes [] (fed w held bytes).said ≡ []) × (held ≡ (fed w held bytes).store.kept ++ drop (length (fed w held bytes).store.kept) held)
        of (refused why) e = rw (list-refused why e) (refl, kept_same)
        of (capsule c a z) e = rw (list_read c a z e) (no_bytes c (list-ends x c a z e).1, refl)

    list_finished : (u l : List ℕ) {read : Result CapsuleRead Refusal} {after list later : List ℕ} {r : Result Piece Refusal} → u ≡ kept ++ bytes → TakesCapsule w u 0 l read after list
        → Settles read (length bytes) after r later → Lists (fed w held bytes) w l r later list
    list_finished u l {read} {after} {list} {later} {r} eu t f = of (read_capsule (kept ++ bytes)) refl
      where
        of : (q : Reading) → read_capsule (kept ++ bytes) ≡ q → Lists (fed w held bytes) w l r later list
        of (refused why) e =
            let q : read_capsule u ≡ refused why = ap read_capsule eu ∙ e in
            let g : Refuses why after r later = rw (t.answer ∙ ap (result_at 0) q) at f in
            let h : Refuses why w r later = rw (t.state ∙ ap (received w) q) at g in
            rw (list-refused why e) (record { moves = refuses-moves h; requested = t.requested ∙ ap (requested l) q })
        of (capsule c a z) e =
            let q : read_capsule u ≡ capsule c a z = ap read_capsule eu ∙ e in
            let g : HandsOut (kind_numbered (kind_of c)) 0 (length bytes) after r later = rw (t.answer ∙ ap (result_at 0) q) at f in
            let h : HandsOut (kind_numbered (kind_of c)) 0 (length bytes) (taken w c) r later = rw (t.state ∙ ap (received w) q) at g in
            let p = list-ends x c a z e in
            let m : length bytes ≡ z - length kept = omega (arith, p.0, length-append kept bytes) in
            rw (list_read c a z e)
            (record {
              moves =
                  record {
                    answer =
                        h.answer ∙ ap (λ (i : ℕ). handing (kind_numbered (kind_of c)) i (length bytes)) (ap length (sym (no_bytes c p.1)))
                        ∙ ap (handing (kind_numbered (kind_of c)) (length (datagram_bytes c))) m;
                    state =
                        h.state ∙ words-skip (taken w c) (length_taken w c (omega (arith, rd.live.size)) ∙ rd.live.size) (taken-stopped w rd.live.size c ∙ rd.live.stopped) 0;
                  };
              requested = t.requested ∙ ap (requested l) q;
            })

  -- ---- the cases of a call
  module _ (t : List ℕ) {h : Option Head} (hr : HeadRead (kept ++ t) h) where
    abbrev Called : List ℕ → List ℕ → Result Piece Refusal → List ℕ → List ℕ → List ℕ → List ℕ → Type 0
    Called before l r later holds after list = Goes (fed w held t) w held before l r later holds after list

    goes_kept : {before l : List ℕ} {r : Result Piece Refusal} {later holds : List ℕ} → fed w held t ≡ keeps_all kept t → Keeps (keeps_all kept t) w held r later holds → Called before l r later holds before l
    goes_kept {before} {l} e k =
        rw e
        (record {
          moves = k.moves;
          bytes = k.bytes;
          output = sym (rw (waiting-out datagram_bytes [] (kept ++ t)));
          requested = sym (waiting-out (asked l) l (kept ++ t));
        })

    -- type and length are cut
    pub cut_fits : h ≡ None → get_or w store_at 0 + length t ≤ length held
    cut_fits e = let b = rw e at hr.within in omega (arith, length-append kept t, kept-size, rd.room)

    pub cut_keeps : {before l : List ℕ} {r : Result Piece Refusal} {later holds : List ℕ} → h ≡ None → Keeps (keeps_all kept t) w held r later holds → Called before l r later holds before l
    cut_keeps e k = goes_kept (fed-cut idle t (sym hr.reading ∙ e)) k

    module _ {kind start len : ℕ} (e : h ≡ Some (head kind start len)) where
      front : head_of (kept ++ t) ≡ Some (head kind start len)
      front = sym hr.reading ∙ e

      pub bounds : (start ≤ head_size) × (start ≤ length (kept ++ t)) × (len < limit)
      bounds = rw e at hr.within

      pub ends : Short kind len → get_or w store_at 0 < start + len
      ends s = omega (arith, ends-after idle t kind start len front s, kept-size)

      pub goes_other : {before l : List ℕ} {r : Result Piece Refusal} {later : List ℕ} → 3 < kind → (n : ℕ) → n ≡ start + len - get_or w store_at 0 → Moves (on_skip n (length t)) w r later → Called before l r later held before l
      goes_other a n en f =
          let m : start + len - length kept ≡ n = omega (arith, kept-size) in
          let g : fed w held t ≡ on_skip n (length t) = fed-other idle t kind start len front a ∙ ap (λ (i : ℕ). on_skip i (length t)) m in
          rw g (goes-skip n (length t) f)

      pub goes-long : {before l : List ℕ} {r : Result Piece Refusal} {later : List ℕ} → kind ≤ 3 → max_value < len → Refuses TooLong w r later → Called before l r later held before l
      goes-long a b f =
          rw (fed-long idle t kind start len front a b)
          (record { moves = refuses-moves f; bytes = kept_same; output = refl; requested = refl })

      pub lacks-fits : kind ≤ 3 → len ≤ max_value → length t < start + len - get_or w store_at 0 → get_or w store_at 0 + length t ≤ length held
      lacks-fits a b q = omega (arith, bounds.0, rd.room)

      pub goes-lacks : {before l : List ℕ} {r : Result Piece Refusal} {later holds : List ℕ} → kind ≤ 3 → len ≤ max_value → length t < start + len - get_or w store_at 0
          → Keeps (keeps_all kept t) w held r later holds → Called before l r later holds before l
      goes-lacks a b q k =
          goes_kept (fed-lacks idle t kind start len front a b (omega (arith, length-append kept t, kept-size))) k

      -- the capsule is all there: n of the bytes given end it
      module _ (n : ℕ) (en : n ≡ start + len - get_or w store_at 0) (there : n ≤ length t) (short : len ≤ max_value) where
        sum : length kept + n ≡ start + len
        sum = omega (arith, kept-size, ends (inr short))

        pub whole-fits : length kept + length (take n t) ≤ kept_size
        whole-fits = omega (arith, sum, bounds.0, length-take-le n t there)

        pub value-fits : (space : List ℕ) → max_value ≤ length space → (start ≤ length kept + length (take n t)) × (length kept + length (take n t) ≤ start + length space)
        value-fits space b = (omega (arith, sum, length-take-le n t there), omega (arith, sum, length-take-le n t there))

        whole-list : (kind ≡ 0 → ⊥) → kind ≤ 3 → OneList (kept ++ take n t)
        whole-list z a =
            let p : 0 < kind = ⊎_elim (λ q. q) (λ q. absurd (z (omega arith))) (order 0 kind) in
            front-list idle t kind start len front (inr short) n sum there p a

        goes-list : {before l : List ℕ} {r : Result Piece Refusal} {later list : List ℕ} → (kind ≡ 0 → ⊥) → kind ≤ 3 → Lists (fed w held (take n t)) w l r later list → Called before l r later held before list
        goes-list z a f =
            let p = list_leaves (take n t) (whole-list z a) in
            rw (fed-front idle t kind start len front (inr short) n sum there)
            (record { moves = f.moves; bytes = p.1; output = sym (rw p.0); requested = f.requested })

        -- read where it lies, or from a copy u
        pub goes-read : {before u l : List ℕ} {read : Result CapsuleRead Refusal} {after list later : List ℕ} {r : Result Piece Refusal} → (kind ≡ 0 → ⊥) → kind ≤ 3 → u ≡ kept ++ take n t
            → TakesCapsule w u 0 l read after list → Settles read n after r later → Called before l r later held before list
        goes-read {before} {u} {l} {read} {after} {list} {later} {r} z a eu f g =
            let q : Settles read (length (take n t)) after r later = rw (length-take-le n t there) g in
            goes-list z a (list_finished (take n t) (whole-list z a) u l eu f q)

        pub goes-datagram : {before l : List ℕ} {r : Result Piece Refusal} {later after : List ℕ} {m : ℕ} → kind ≡ 0 → Put (drop start (kept ++ take n t)) 0 before m after → HandsOut Datagram m n w r later
            → Called before l r later held after l
        goes-datagram z p f =
            let q = put_front p in
            rw (fed-datagram idle t kind start len front (inr short) n sum there z)
            (record {
              moves =
                  record {
                    answer = f.answer ∙ ap (λ (i : ℕ). handing Datagram i n) q.0;
                    state = f.state ∙ words-skip w rd.live.size rd.live.stopped 0;
                  };
              bytes = refl;
              output = q.1;
              requested = refl;
            })
