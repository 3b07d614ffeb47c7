-- A list in a slice that is lent to it.
use Rattle.std.specs.Prelude.{ℕ, List}

-- The items, and how many there may be.
pub record Room (T : Type 0) : Type 0 where
  pub items : List T
  pub capacity : ℕ
