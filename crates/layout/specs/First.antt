-- The first of some entries at which a function answers.
use Rattle.std.specs.Prelude.{ℕ, zero, suc, ◌+◌, None, Option}
use Rattle.std.specs.Option.{option_or}

-- Of n entries, from e on
unfoldable pub first_some : {X : Type 0} → (ℕ → Option X) → ℕ → ℕ → Option X
first_some f e zero = None
first_some f e (suc n) = option_or (f e) (first_some f (e + 1) n)
