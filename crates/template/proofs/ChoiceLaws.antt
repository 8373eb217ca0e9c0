-- The template that is used is the lowest that fits, and its Context ID finds it again. Assumes nothing.
use Prim.Native.Nat.{ℕ, ◌≤◌, ◌<◌}
use mathlib.Core.Path.{◌≡◌, refl, ap, sym, ◌∙◌}
use mathlib.Core.Logic.{◌⊎◌, inl, inr, ⊎_elim, ◌≢◌}
use mathlib.Core.List.{List, [], ◌∷◌}
use mathlib.Core.Bool.{Bool, true, false}
use native.Mathlib.Omega.{arith}
use borrow.Author.Tests.{eq-eqb, ne_eqb}
use Rattle.answer.specs.Choice.{pick}
use Rattle.table.specs.Sound.{SoundTemplate, SoundTemplates}
use Rattle.table.specs.Templates.{Template}
use Rattle.template.specs.Fits.{fits, Choice, full, short, first_fit, listed, with_id}
use Rattle.template.specs.Members.{In, Unused, Distinct}

-- ---- the Context ID finds the template

unused_in : (id : ℕ) (t : Template) (ts : List Template) → Unused id ts → In t ts → t.id ≢ id
unfolding Unused In
unused_in id t [] u m = absurd m
unused_in id t (s ∷ ts) u m = ⊎_elim (λ e q. u.0 (ap (λ (x : Template). x.id) (sym e) ∙ q)) (λ r. unused_in id t ts u.1 r) m

-- of templates with distinct Context IDs, the ID of each finds it
pub with_id_in : (t : Template) (ts : List Template) → Distinct ts → In t ts → with_id t.id ts ≡ listed t
unfolding with_id Distinct In
with_id_in t [] d m = absurd m
with_id_in t (s ∷ ts) d m =
    ⊎_elim (λ e. let q : s.id ≡ t.id = ap (λ (x : Template). x.id) (sym e) in rw (eq-eqb s.id t.id q) (ap listed (sym e)))
    (λ r. let n = unused_in s.id t ts d.0 r in rw (ne_eqb s.id t.id (λ q. n (sym q))) (with_id_in t ts d.1 r))
    m

-- ---- the first that fits

picked : (b : Bool) (s t : Template) (c : Choice) → pick b (short s) c ≡ short t → ((b ≡ true) × (t ≡ s)) ⊎ ((b ≡ false) × (c ≡ short t))
picked true s t c e = inl (refl, cc)
picked false s t c e = inr (refl, e)

unpicked : (b : Bool) (s : Template) (c : Choice) → pick b (short s) c ≡ full → (b ≡ false) × (c ≡ full)
unpicked true s c e = let z : ◌≡◌ {A = ℕ} 0 1 = cc in absurd (omega arith)
unpicked false s c e = (refl, e)

-- the template that is used is one of the list, and fits
pub first_fit_in : (t : Template) (ts : List Template) (p : List ℕ) → first_fit ts p ≡ short t → In t ts × (fits t p ≡ true)
unfolding first_fit In
first_fit_in t [] p e = let z : ◌≡◌ {A = ℕ} 0 1 = cc in absurd (omega arith)
first_fit_in t (s ∷ ts) p e =
    ⊎_elim (λ a. (inl a.1, ap (λ (x : Template). fits x p) a.1 ∙ a.0))
    (λ b. let r = first_fit_in t ts p b.1 in (inr r.0, r.1))
    (picked (fits s p) s t (first_fit ts p) e)

-- where a template fits, one is used
pub first_fit-some : (t : Template) (ts : List Template) (p : List ℕ) → first_fit ts p ≡ full → In t ts → fits t p ≡ false
unfolding first_fit In
first_fit-some t [] p e m = absurd m
first_fit-some t (s ∷ ts) p e m =
    let q = unpicked (fits s p) s (first_fit ts p) e in
    ⊎_elim (λ a. ap (λ (x : Template). fits x p) a ∙ q.0) (λ r. first_fit-some t ts p q.1 r) m

-- where none fits, none is used
pub first_fit-none : (ts : List Template) (p : List ℕ) → ((t : Template) → In t ts → fits t p ≡ false) → first_fit ts p ≡ full
unfolding first_fit In
first_fit-none [] p h = refl
first_fit-none (s ∷ ts) p h = rw (h s (inl refl)) (first_fit-none ts p (λ t m. h t (inr m)))

-- ---- of sound templates

pub sound_in : (t : Template) (ts : List Template) (previous : ℕ) → SoundTemplates previous ts → In t ts → SoundTemplate t
unfolding SoundTemplates In
sound_in t [] previous s m = absurd m
sound_in t (u ∷ ts) previous s m =
    ⊎_elim (λ e. rw e s.1.0) (λ r. sound_in t ts u.id s.1.1 r) m

pub sound-above : (t : Template) (ts : List Template) (previous : ℕ) → SoundTemplates previous ts → In t ts → previous < t.id
unfolding SoundTemplates In
sound-above t [] previous s m = absurd m
sound-above t (u ∷ ts) previous s m =
    ⊎_elim (λ e. rw e s.0) (λ r. omega (arith, s.0, sound-above t ts u.id s.1.1 r)) m

sound_unused : (id : ℕ) (ts : List Template) (previous : ℕ) → SoundTemplates previous ts → id ≤ previous → Unused id ts
unfolding SoundTemplates Unused
sound_unused id [] previous s h = tt
sound_unused id (t ∷ ts) previous s h = (λ e. omega (arith, s.0), sound_unused id ts t.id s.1.1 (omega (arith, s.0)))

pub sound_distinct : (ts : List Template) (previous : ℕ) → SoundTemplates previous ts → Distinct ts
unfolding SoundTemplates Distinct
sound_distinct [] previous s = tt
sound_distinct (t ∷ ts) previous s = (sound_unused t.id ts t.id s.1.1 (omega arith), sound_distinct ts t.id s.1.1)

-- the template that is used has the lowest Context ID of all that fit
pub first_fit-lowest : (t u : Template) (ts : List Template) (previous : ℕ) (p : List ℕ) → SoundTemplates previous ts → first_fit ts p ≡ short t → In u ts → fits u p ≡ true → t.id ≤ u.id
unfolding first_fit SoundTemplates In
first_fit-lowest t u [] previous p s e m f = absurd m
first_fit-lowest t u (x ∷ ts) previous p s e m f =
    ⊎_elim
    (λ a.
    let q : t.id ≡ x.id = ap (λ (y : Template). y.id) a.1 in
    ⊎_elim (λ b. omega (arith, ap (λ (y : Template). y.id) b)) (λ r. omega (arith, sound-above u ts x.id s.1.1 r)) m)
    (λ a.
    ⊎_elim (λ b. let z : ◌≡◌ {A = Bool} true false = sym f ∙ ap (λ (y : Template). fits y p) b ∙ a.0 in let w : ◌≡◌ {A = ℕ} 0 1 = cc in absurd (omega arith))
    (λ r. first_fit-lowest t u ts x.id p s.1.1 a.1 r f)
    m)
    (picked (fits x p) x t (first_fit ts p) e)
