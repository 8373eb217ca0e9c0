-- Lists of elements of any kind, read and written: what is read keeps the rules, what is written is read back, and what is read in shortest
-- form is what would be written. Each is an induction over the elements. Assumes nothing.
use Rattle.std.proofs.Common.{Result, Ok, Err}
use Prim.Native.Nat.{ℕ, zero, suc, ◌+◌, ◌*◌, ◌≤◌, ◌<◌}
use mathlib.Core.Bool.{Bool, true, false, not}
use mathlib.Core.Path.{◌≡◌, refl, ap, ◌∙◌}
use mathlib.Core.List.{List, [], ◌∷◌, ◌++◌}
use native.Mathlib.Nat.{not-suc-le-zero}
use native.Mathlib.Omega.{arith}
use borrow.Author.Tests.{leb-true}
use lib.Dec.{leb}
use lib.ListN.{length, drop, length-append}
use lib.Seq.{drop-append_seam}
use Rattle.answer.specs.declared.Refusal.{Refusal}
use Rattle.answer.specs.declared.Refusal.TheVariants.{TooMany}
use Rattle.answer.specs.Verdict.{stop_if, ◌then◌}
use Rattle.answer.proofs.Tests.{and_both}
use Rattle.octets.specs.Big.{Bytes}
use Rattle.octets.proofs.BigLaws as Big
use Rattle.octets.specs.Scan.{all_of}
use Rattle.capsule.specs.Elements.{Element, element, broken, Format, Parsed, fault, all, before, passing, after_element, parse, count_verdict, settled, elements_in, judged, written}
use Rattle.capsule.specs.Sound.{Ruled}
use Rattle.capsule.specs.Shortest.{every_element, after_passing}
use Rattle.capsule.proofs.Turn as T

-- what a kind of element keeps to, where `words` is asked of what is written and `short` of bytes that are as if written
pub record Lawful {A : Type 0} (f : Format A) (words : A → Bool) (short : List ℕ → Bool) : Type 0 where
  pub sized : (s : List ℕ) (a : A) (n : ℕ) → f.read s ≡ element a n → (1 ≤ n) × (n ≤ length s)
  pub sound : (s : List ℕ) (a : A) (n : ℕ) → f.read s ≡ element a n → f.sound a ≡ true
  pub worded : (s : List ℕ) (a : A) (n : ℕ) → Bytes s → f.read s ≡ element a n → words a ≡ true
  pub written : (a : A) (rest : List ℕ) → f.sound a ≡ true → words a ≡ true → f.read (f.bytes a ++ rest) ≡ element a (length (f.bytes a))
  pub most : (a : A) → length (f.bytes a) ≤ 34
  pub shortest : (s : List ℕ) (a : A) (n : ℕ) → Bytes s → f.read s ≡ element a n → short s ≡ true → s ≡ f.bytes a ++ drop n s

-- ---- a list that was parsed: at its end, or an element and a parsed list behind it
pub data Step {A : Type 0} (f : Format A) (fuel : ℕ) (earlier : List A) : List ℕ → List A → Type 0 where
  done : Step f fuel earlier [] []
  more : {b : ℕ} {s : List ℕ} {a : A} {n : ℕ} {ys : List A} → f.read (b ∷ s) ≡ element a n → f.follows earlier a ≡ Ok tt
      → parse f fuel (a ∷ earlier) (drop n (b ∷ s)) ≡ all ys → Step f fuel earlier (b ∷ s) (a ∷ ys)

module _ {A : Type 0} (f : Format A) (fuel : ℕ) (earlier : List A) where
  behind : (b : ℕ) (s : List ℕ) (a : A) (n : ℕ) → f.read (b ∷ s) ≡ element a n → f.follows earlier a ≡ Ok tt
      → (p : Parsed A) → parse f fuel (a ∷ earlier) (drop n (b ∷ s)) ≡ p → (xs : List A) → before (a ∷ []) p ≡ all xs → Step f fuel earlier (b ∷ s) xs
  behind b s a n q g (fault r) e xs h = let z : ◌≡◌ {A = ℕ} 0 1 = cc in absurd (omega arith)
  behind b s a n q g (all ys) e xs h = let z : a ∷ ys ≡ xs = cc in rw (← z) (more q g e)

  ruled : (b : ℕ) (s : List ℕ) (a : A) (n : ℕ) → f.read (b ∷ s) ≡ element a n
      → (v : Result Unit Refusal) → f.follows earlier a ≡ v → (xs : List A)
      → passing v (before (a ∷ []) (parse f fuel (a ∷ earlier) (drop n (b ∷ s)))) ≡ all xs → Step f fuel earlier (b ∷ s) xs
  ruled b s a n q (Err r) g xs h = let z : ◌≡◌ {A = ℕ} 0 1 = cc in absurd (omega arith)
  ruled b s a n q (Ok _) g xs h = behind b s a n q g (parse f fuel (a ∷ earlier) (drop n (b ∷ s))) refl xs h

  laid : (b : ℕ) (s : List ℕ) (r : Element A) → f.read (b ∷ s) ≡ r → (xs : List A)
      → after_element f (parse f fuel) earlier (b ∷ s) r ≡ all xs → Step f fuel earlier (b ∷ s) xs
  laid b s (element a n) q xs h = ruled b s a n q (f.follows earlier a) refl xs h
  laid b s broken q xs h = let z : ◌≡◌ {A = ℕ} 0 1 = cc in absurd (omega arith)

  pub parse-step : (s : List ℕ) (xs : List A) → parse f (suc fuel) earlier s ≡ all xs → Step f fuel earlier s xs
  unfolding parse
  parse-step [] xs h = let z : [] ≡ xs = cc in rw (← z) done
  parse-step (b ∷ s) xs h = laid b s (f.read (b ∷ s)) refl xs h

parse-fuel : {A : Type 0} (f : Format A) (earlier : List A) (s : List ℕ) (xs : List A) → parse f zero earlier s ≡ all xs → ◌≡◌ {A = ℕ} 0 1
unfolding parse
parse-fuel f earlier s xs e = cc

-- ---- the rules of a list
judged_cons : (b : Bool) (r : Refusal) (v w : Result Unit Refusal) → b ≡ true → v ≡ Ok tt → w ≡ Ok tt → stop_if (not b) r (v then w) ≡ Ok tt
judged_cons b r v w e g h = rw (e, g, h)

pub stop-go : (b : Bool) (r : Refusal) (v : Result Unit Refusal) → stop_if (not b) r v ≡ Ok tt → (b ≡ true) × (v ≡ Ok tt)
stop-go true r v h = (refl, h)
stop-go false r v h = let z : ◌≡◌ {A = ℕ} 0 1 = cc in absurd (omega arith)

then_go : (v w : Result Unit Refusal) → (v then w) ≡ Ok tt → (v ≡ Ok tt) × (w ≡ Ok tt)
then_go (Ok _) w h = (refl, h)
then_go (Err r) w h = let z : ◌≡◌ {A = ℕ} 0 1 = cc in absurd (omega arith)

-- what judging a list that goes says of its first element and of the others
pub judged-go : {A : Type 0} (f : Format A) (earlier : List A) (a : A) (xs : List A) → judged f earlier (a ∷ xs) ≡ Ok tt
    → (f.sound a ≡ true) × (f.follows earlier a ≡ Ok tt) × (judged f (a ∷ earlier) xs ≡ Ok tt)
judged-go f earlier a xs h =
    let p = stop-go (f.sound a) f.wrong (f.follows earlier a then judged f (a ∷ earlier) xs) h in
    let q = then_go (f.follows earlier a) (judged f (a ∷ earlier) xs) p.1 in
    (p.0, q.0, q.1)

-- a count that goes is within the limit
count-go : {A : Type 0} (asked : Bool) (limit : ℕ) (xs : List A) → count_verdict asked limit (length xs) ≡ Ok tt → length xs ≤ limit
count-go asked limit [] h = omega arith
count-go asked limit (x ∷ xs) h = within (leb (suc (length xs)) limit) refl h
  where
    within : (b : Bool) → leb (suc (length xs)) limit ≡ b → stop_if (not b) TooMany (Ok tt) ≡ Ok tt → suc (length xs) ≤ limit
    within true e g = leb-true (suc (length xs)) limit e
    within false e g = let z : ◌≡◌ {A = ℕ} 0 1 = cc in absurd (omega arith)

module _ {A : Type 0} {f : Format A} {asked : Bool} {limit : ℕ} {xs : List A} (r : Ruled f asked limit xs) where
  pub ruled-within : length xs ≤ limit
  ruled-within = count-go asked limit xs r.number

  ruled-settled : settled asked limit (all xs) ≡ all xs
  ruled-settled = rw r.number

-- a list that is read whole
module _ {A : Type 0} (f : Format A) (asked : Bool) (limit : ℕ) where
  read_all : (s : List ℕ) (xs : List A) → elements_in f asked limit s ≡ all xs
      → (parse f (suc (length s)) [] s ≡ all xs) × (count_verdict asked limit (length xs) ≡ Ok tt)
  unfolding elements_in
  read_all s xs h = parsed (parse f (suc (length s)) [] s) refl h
    where
      counted : (ys : List A) (v : Result Unit Refusal) → count_verdict asked limit (length ys) ≡ v → passing v (all ys) ≡ all xs
          → (ys ≡ xs) × (count_verdict asked limit (length xs) ≡ Ok tt)
      counted ys (Ok _) e g = let z : ys ≡ xs = cc in (z, rw z at e)
      counted ys (Err r) e g = let z : ◌≡◌ {A = ℕ} 0 1 = cc in absurd (omega arith)

      parsed : (p : Parsed A) → parse f (suc (length s)) [] s ≡ p → settled asked limit p ≡ all xs
          → (parse f (suc (length s)) [] s ≡ all xs) × (count_verdict asked limit (length xs) ≡ Ok tt)
      parsed (fault r) e g = let z : ◌≡◌ {A = ℕ} 0 1 = cc in absurd (omega arith)
      parsed (all ys) e g =
          let w = counted ys (count_verdict asked limit (length ys)) refl g in
          (e ∙ ap all w.0, w.1)

-- a test that every list passes
pub every_true : (A : Type 0) (read : List ℕ → Element A) (fuel : ℕ) (s : List ℕ) → every_element read (λ t. true) fuel s ≡ true
unfolding every_element
every_true A read zero s = refl
every_true A read (suc fuel) [] = refl
every_true A read (suc fuel) (b ∷ s) = after (λ t. every_true A read fuel t) (read (b ∷ s))
  where
    after : ((t : List ℕ) → every_element read (λ t. true) fuel t ≡ true) → (r : Element A) → after_passing (every_element read (λ t. true) fuel) (b ∷ s) r ≡ true
    after again (element a n) = again (drop n (b ∷ s))
    after again broken = refl

module _ {A : Type 0} {f : Format A} {words : A → Bool} {short : List ℕ → Bool} (l : Lawful f words short) where
  -- ---- what is read keeps the rules
  parse-judged : (fuel : ℕ) (earlier : List A) (s : List ℕ) (xs : List A) → parse f fuel earlier s ≡ all xs → judged f earlier xs ≡ Ok tt
  parse-judged zero earlier s xs e = absurd (omega (arith, parse-fuel f earlier s xs e))
  parse-judged (suc fuel) earlier s xs e = step (λ later t ys h. parse-judged fuel later t ys h) s xs (parse-step f fuel earlier s xs e)
    where
      step : ((later : List A) (t : List ℕ) (ys : List A) → parse f fuel later t ≡ all ys → judged f later ys ≡ Ok tt)
          → (t : List ℕ) (zs : List A) → Step f fuel earlier t zs → judged f earlier zs ≡ Ok tt
      step again t zs done = refl
      step again t zs (more {b} {s} {a} {n} {ys} q g e) =
          judged_cons (f.sound a) f.wrong (f.follows earlier a) (judged f (a ∷ earlier) ys) (l.sound (b ∷ s) a n q) g
          (again (a ∷ earlier) (drop n (b ∷ s)) ys e)

  pub read-ruled : (asked : Bool) (limit : ℕ) (s : List ℕ) (xs : List A) → elements_in f asked limit s ≡ all xs → Ruled f asked limit xs
  read-ruled asked limit s xs e =
      let w = read_all f asked limit s xs e in
      record { elements = parse-judged (suc (length s)) [] s xs w.0; number = w.1 }

  parse-words : (fuel : ℕ) (earlier : List A) (s : List ℕ) (xs : List A) → Bytes s → parse f fuel earlier s ≡ all xs → all_of words xs ≡ true
  parse-words zero earlier s xs h e = absurd (omega (arith, parse-fuel f earlier s xs e))
  parse-words (suc fuel) earlier s xs h e = step (λ later t ys k g. parse-words fuel later t ys k g) s xs h (parse-step f fuel earlier s xs e)
    where
      step : ((later : List A) (t : List ℕ) (ys : List A) → Bytes t → parse f fuel later t ≡ all ys → all_of words ys ≡ true)
          → (t : List ℕ) (zs : List A) → Bytes t → Step f fuel earlier t zs → all_of words zs ≡ true
      step again t zs h done = refl
      step again t zs h (more {b} {s} {a} {n} {ys} q g e) =
          rw (l.worded (b ∷ s) a n h q) (again (a ∷ earlier) (drop n (b ∷ s)) ys (Big.bytes_drop n (b ∷ s) h) e)

  pub read-words : (asked : Bool) (limit : ℕ) (s : List ℕ) (xs : List A) → Bytes s → elements_in f asked limit s ≡ all xs → all_of words xs ≡ true
  read-words asked limit s xs h e = parse-words (suc (length s)) [] s xs h (read_all f asked limit s xs e).0

  -- ---- what is written is read back
  parse-written : (fuel : ℕ) (earlier xs : List A) → length (written f xs) < fuel → judged f earlier xs ≡ Ok tt → all_of words xs ≡ true
      → parse f fuel earlier (written f xs) ≡ all xs
  parse-written zero earlier xs h j w = absurd (not-suc-le-zero h)
  parse-written (suc fuel) earlier [] h j w = T.parse-end f fuel earlier [] (omega arith)
  parse-written (suc fuel) earlier (a ∷ xs) h j w =
      let g = judged-go f earlier a xs j in
      let v = and_both (words a) (all_of words xs) w in
      let rest = written f xs in
      let q = l.written a rest g.0 v.0 in
      let z = l.sized (f.bytes a ++ rest) a (length (f.bytes a)) q in
      let k : length (f.bytes a ++ rest) ≡ length (f.bytes a) + length rest = length-append (f.bytes a) rest in
      T.parse-next f fuel earlier (f.bytes a ++ rest) a (length (f.bytes a)) (omega (arith, z.0, z.1)) q g.1
      ∙ rw (drop-append_seam (f.bytes a) rest, parse-written fuel (a ∷ earlier) xs (omega (arith, z.0)) g.2 v.1)

  pub read-written : (asked : Bool) (limit : ℕ) (xs : List A) → Ruled f asked limit xs → all_of words xs ≡ true
      → elements_in f asked limit (written f xs) ≡ all xs
  unfolding elements_in
  read-written asked limit xs r w =
      rw (parse-written (suc (length (written f xs))) [] xs (omega arith) r.elements w) (ruled-settled r)

  pub length_written : (xs : List A) → length (written f xs) ≤ 34 * length xs
  length_written [] = omega arith
  length_written (a ∷ xs) = omega (arith, length-append (f.bytes a) (written f xs), l.most a, length_written xs)

  -- ---- what is read in shortest form is what is written
  every_step : (fuel b : ℕ) (s : List ℕ) (a : A) (n : ℕ) → f.read (b ∷ s) ≡ element a n → every_element f.read short (suc fuel) (b ∷ s) ≡ true
      → (short (b ∷ s) ≡ true) × (every_element f.read short fuel (drop n (b ∷ s)) ≡ true)
  unfolding every_element
  every_step fuel b s a n q e =
      let p = and_both (short (b ∷ s)) (after_passing (every_element f.read short fuel) (b ∷ s) (f.read (b ∷ s))) e in
      (p.0, rw q at p.1)

  parse-shortest : (fuel : ℕ) (earlier : List A) (s : List ℕ) (xs : List A) → Bytes s → parse f fuel earlier s ≡ all xs
      → every_element f.read short fuel s ≡ true → s ≡ written f xs
  parse-shortest zero earlier s xs h e t = absurd (omega (arith, parse-fuel f earlier s xs e))
  parse-shortest (suc fuel) earlier s xs h e t =
      step (λ later r ys k g v. parse-shortest fuel later r ys k g v) s xs h t (parse-step f fuel earlier s xs e)
    where
      step : ((later : List A) (r : List ℕ) (ys : List A) → Bytes r → parse f fuel later r ≡ all ys → every_element f.read short fuel r ≡ true → r ≡ written f ys)
          → (r : List ℕ) (zs : List A) → Bytes r → every_element f.read short (suc fuel) r ≡ true → Step f fuel earlier r zs → r ≡ written f zs
      step again r zs h t done = refl
      step again r zs h t (more {b} {s} {a} {n} {ys} q g e) =
          let v = every_step fuel b s a n q t in
          l.shortest (b ∷ s) a n h q v.0
          ∙ ap (λ (r : List ℕ). f.bytes a ++ r)
          (again (a ∷ earlier) (drop n (b ∷ s)) ys (Big.bytes_drop n (b ∷ s) h) e v.1)

  pub read-shortest : (asked : Bool) (limit : ℕ) (s : List ℕ) (xs : List A) → Bytes s → elements_in f asked limit s ≡ all xs
      → every_element f.read short (suc (length s)) s ≡ true → s ≡ written f xs
  read-shortest asked limit s xs h e t = parse-shortest (suc (length s)) [] s xs h (read_all f asked limit s xs e).0 t
