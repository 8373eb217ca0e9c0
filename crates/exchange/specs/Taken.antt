-- A list that was taken from the bytes of a value is written as it was taken: the words that hold it go, and hold the same elements. Assumes nothing.
use Rattle.std.specs.Prelude.{ℕ, ◌≡◌, refl, Bool, List, Ok}
use Rattle.std.proofs.Common.{arith}
use Rattle.lists.specs.Words.{entries_of, ranges_of, pack_entries, pack_ranges}
use Rattle.capsule.specs.Elements.{Parsed, fault, all, parsed_verdict, elements_of}
use Rattle.capsule.specs.Capsules.{entries_in, ranges_in}
use Rattle.capsule.proofs.ReadLaws.{entries-ruled, ranges-ruled, entries_packed, ranges_packed}
use Rattle.capsule_write.specs.Verdicts.{entries_verdict, ranges_verdict}
use Rattle.capsule_write.proofs.ReadBack.{ruled-entries_go, ruled-ranges_go}
use Rattle.exchange.specs.Writing.{ranges_taken}

-- all elements were taken
pub parsed-all : {A : Type 0} (p : Parsed A) → parsed_verdict p ≡ Ok tt → p ≡ all (elements_of p)
parsed-all (fault r) e = let z : ◌≡◌ {A = ℕ} 0 1 = cc in absurd (omega arith)
parsed-all (all xs) e = refl

module _ (asked : Bool) (v : List ℕ) (e : parsed_verdict (entries_in asked v) ≡ Ok tt) where
  pub taken-entries-go : entries_verdict asked (pack_entries (elements_of (entries_in asked v))) ≡ Ok tt
  taken-entries-go = ruled-entries_go asked _ (entries-ruled v asked _ (parsed-all (entries_in asked v) e))

  pub taken-entries : entries_of (pack_entries (elements_of (entries_in asked v))) ≡ elements_of (entries_in asked v)
  taken-entries = entries_packed asked _ (entries-ruled v asked _ (parsed-all (entries_in asked v) e))

module _ (v : List ℕ) (e : parsed_verdict (ranges_in v) ≡ Ok tt) where
  pub taken-ranges-go : ranges_verdict (pack_ranges (ranges_taken v)) ≡ Ok tt
  taken-ranges-go = ruled-ranges_go _ (ranges-ruled v _ (parsed-all (ranges_in v) e))

  pub taken-ranges : ranges_of (pack_ranges (ranges_taken v)) ≡ ranges_taken v
  taken-ranges = ranges_packed _ (ranges-ruled v _ (parsed-all (ranges_in v) e))
