-- Bytes put at a place of an output.
use Rattle.std.specs.Prelude.{ℕ, ◌+◌, ◌≡◌, List, ◌++◌, length, take, drop}

-- m stands at a place, r is the place behind it, and every other byte is as it was
pub record Put (m : List ℕ) (at : ℕ) (before : List ℕ) (r : ℕ) (after : List ℕ) : Type 0 where
  pub place : r ≡ at + length m
  pub front : take r after ≡ take at before ++ m
  pub rest : drop r after ≡ drop r before
  pub kept : length after ≡ length before
