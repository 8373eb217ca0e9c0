-- Values that are lists of elements, read and written by one definition for every kind of element.
use Rattle.std.specs.Prelude.{ℕ, zero, suc, Bool, not, List, [], ◌∷◌, ◌++◌, leb, length, drop, Result, Ok, Err}
use Rattle.answer.specs.declared.Refusal.{Refusal}
use Rattle.answer.specs.declared.Refusal.TheVariants.{BadRequestId, TooMany}
use Rattle.answer.specs.Verdict.{stop_if, ◌then◌}

-- what stands at the front of some bytes: an element and how many bytes it took, or none
pub data Element (A : Type 0) : Type 0 where
  element : A → ℕ → Element A
  broken : Element A

-- a kind of element
pub record Format (A : Type 0) : Type 0 where
  pub read : List ℕ → Element A
  pub sound : A → Bool
  pub wrong : Refusal
  pub follows : List A → A → Result Unit Refusal
  pub bytes : A → List ℕ

-- ---- reading

-- the first fault, or all elements
pub data Parsed (A : Type 0) : Type 0 where
  fault : Refusal → Parsed A
  all : List A → Parsed A

abbrev pub parsed_verdict : {A : Type 0} → Parsed A → Result Unit Refusal
parsed_verdict (fault r) = Err r
parsed_verdict (all xs) = Ok tt

-- the elements: of a fault none
abbrev pub elements_of : {A : Type 0} → Parsed A → List A
elements_of (fault r) = []
elements_of (all xs) = xs

-- xs, and then what follows
abbrev pub before : {A : Type 0} → List A → Parsed A → Parsed A
before xs (fault r) = fault r
before xs (all bs) = all (xs ++ bs)

-- what a verdict lets pass
abbrev pub passing : {A : Type 0} → Result Unit Refusal → Parsed A → Parsed A
passing (Ok _) p = p
passing (Err r) p = fault r

-- the element at the front of s, after the earlier ones, and what next finds behind it
abbrev pub after_element : {A : Type 0} → Format A → (List A → List ℕ → Parsed A) → List A → List ℕ → Element A → Parsed A
after_element f next earlier s (element a n) = passing (f.follows earlier a) (before (a ∷ []) (next (a ∷ earlier) (drop n s)))
after_element f next earlier s broken = fault f.wrong

-- the elements of s up to its end, after the earlier ones, the newest of which stands first: of each element its layout before its rule.
-- An element takes a byte at least, so fuel above the length is enough
unfoldable pub parse : {A : Type 0} → Format A → ℕ → List A → List ℕ → Parsed A
parse f zero earlier s = fault f.wrong
parse f (suc fuel) earlier [] = all []
parse f (suc fuel) earlier (b ∷ s) = after_element f (parse f fuel) earlier (b ∷ s) (f.read (b ∷ s))

-- the refusals of a whole list: an empty one where one element at least is asked for, and one over the limit
abbrev pub count_verdict : Bool → ℕ → ℕ → Result Unit Refusal
count_verdict asked limit zero = stop_if asked BadRequestId (Ok tt)
count_verdict asked limit (suc n) = stop_if (not (leb (suc n) limit)) TooMany (Ok tt)

abbrev pub settled : {A : Type 0} → Bool → ℕ → Parsed A → Parsed A
settled asked limit (fault r) = fault r
settled asked limit (all xs) = passing (count_verdict asked limit (length xs)) (all xs)

unfoldable pub elements_in : {A : Type 0} → Format A → Bool → ℕ → List ℕ → Parsed A
elements_in f asked limit s = settled asked limit (parse f (suc (length s)) [] s)

-- ---- writing

-- the first fault of a list, element by element as in reading
abbrev pub judged : {A : Type 0} → Format A → List A → List A → Result Unit Refusal
judged f earlier [] = Ok tt
judged f earlier (a ∷ xs) = stop_if (not (f.sound a)) f.wrong (f.follows earlier a then judged f (a ∷ earlier) xs)

abbrev pub written : {A : Type 0} → Format A → List A → List ℕ
written f [] = []
written f (a ∷ xs) = f.bytes a ++ written f xs
