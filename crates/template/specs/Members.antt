-- Templates of a list, by membership and by Context ID.
use Rattle.std.specs.Prelude.{ℕ, ◌≡◌, List, [], ◌∷◌, ◌⊎◌, ◌≢◌}
use Rattle.table.specs.Templates.{Template}

-- t is one of the templates
unfoldable pub In : Template → List Template → Type 0
In t [] = ⊥
In t (u ∷ us) = (t ≡ u) ⊎ In t us

-- no template has this Context ID
unfoldable pub Unused : ℕ → List Template → Type 0
Unused id [] = Unit
Unused id (t ∷ ts) = (t.id ≢ id) × Unused id ts

-- no two templates have the same Context ID, whatever their order
unfoldable pub Distinct : List Template → Type 0
Distinct [] = Unit
Distinct (t ∷ ts) = Unused t.id ts × Distinct ts
