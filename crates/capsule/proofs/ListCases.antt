-- The list of a value, as it is read: a fault, or all elements packed; and what a caller learns from the verdict, and hands back by value. Assumes nothing.
use Rattle.std.proofs.Common.{Result, Ok, Err}
use Prim.Native.Nat.{ℕ}
use mathlib.Core.Path.{◌≡◌, refl, sym, ap, ◌∙◌}
use mathlib.Core.List.{List}
use native.Mathlib.Omega.{arith}
use Rattle.answer.specs.declared.Refusal.{Refusal}
use Rattle.lists.specs.declared.AddressEntry.{AddressEntry}
use Rattle.lists.specs.declared.RouteRange.{RouteRange}
use Rattle.lists.specs.Words.{address_words, route_words}
use Rattle.lists.specs.declared.WordList.{WordList}
use Rattle.capsule.specs.Elements.{Parsed, fault, all, parsed_verdict, elements_of}
use Rattle.capsule.specs.Results.{entries_result, ranges_result, ReadsList, ReadsEntries, ReadsRanges}

module _ {A : Type 0} {pack : List A → List ℕ} {p : Parsed A} {words : List ℕ} where
  -- whatever the words are
  pub reads-fault : {why : Refusal} → fault why ≡ p → ReadsList pack p (Err why) words
  reads-fault e = rw (← e) (record { verdict = refl; list = λ g. let z : ◌≡◌ {A = ℕ} 0 1 = cc in absurd (omega arith) })

  pub reads_all : {xs : List A} → all xs ≡ p → words ≡ pack xs → ReadsList pack p (Ok tt) words
  reads_all e f = rw (← e) (record { verdict = refl; list = λ g. f })

  -- the same by other words for what was parsed
  pub reads_as : {q : Parsed A} {r : Result Unit Refusal} → q ≡ p → ReadsList pack q r words → ReadsList pack p r words
  reads_as e t = rw e at t

  -- what the verdict turns out to be is the verdict of what was parsed
  pub reads-says : {r u : Result Unit Refusal} → ReadsList pack p r words → r ≡ u → parsed_verdict p ≡ u
  reads-says t e = sym t.verdict ∙ e

-- what was parsed, by its verdict
module _ {A : Type 0} where
  parsed-all : (p : Parsed A) → parsed_verdict p ≡ Ok tt → all (elements_of p) ≡ p
  parsed-all (fault w) g = let z : ◌≡◌ {A = ℕ} 0 1 = cc in absurd (omega arith)
  parsed-all (all xs) g = refl

  parsed-fault : (p : Parsed A) {why : Refusal} → parsed_verdict p ≡ Err why → fault why ≡ p
  parsed-fault (fault w) g = cc
  parsed-fault (all xs) g = let z : ◌≡◌ {A = ℕ} 0 1 = cc in absurd (omega arith)

-- ---- the list that is handed back by value
module _ {p : Parsed AddressEntry} {r : Result Unit Refusal} {words : List ℕ} (t : ReadsEntries p r words) where
  pub entries-all : r ≡ Ok tt → ◌≡◌ {A = Result (WordList address_words) Refusal} (Ok (record { words = words })) (entries_result p)
  entries-all g = rw (t.list g) (ap entries_result (parsed-all p (reads-says t g)))

  pub entries-fault : {why : Refusal} → r ≡ Err why → entries_result (fault why) ≡ entries_result p
  entries-fault g = ap entries_result (parsed-fault p (reads-says t g))

module _ {p : Parsed RouteRange} {r : Result Unit Refusal} {words : List ℕ} (t : ReadsRanges p r words) where
  pub ranges-all : r ≡ Ok tt → ◌≡◌ {A = Result (WordList route_words) Refusal} (Ok (record { words = words })) (ranges_result p)
  ranges-all g = rw (t.list g) (ap ranges_result (parsed-all p (reads-says t g)))

  pub ranges-fault : {why : Refusal} → r ≡ Err why → ranges_result (fault why) ≡ ranges_result p
  ranges-fault g = ap ranges_result (parsed-fault p (reads-says t g))
