-- Reading as the inverse of printing: `print` writes the values of which `Valid` holds.
use Rattle.std.specs.Prelude.{◌≡◌, ℕ, List, Some, None, Option}

-- What is read of a text is a valid value that prints as that text.
abbrev pub Prints : {V : Type 0} → (V → Type 0) → (V → List ℕ) → List ℕ → Option V → Type 0
Prints Valid print text (Some v) = Valid v × (print v ≡ text)
Prints Valid print text None = Unit {0}

-- Of the text that a valid value prints as, that value is read.
abbrev pub Undoes : {V : Type 0} → (V → Type 0) → (V → List ℕ) → List ℕ → Option V → Type 0
Undoes {V} Valid print text r = (v : V) → Valid v → print v ≡ text → r ≡ Some v
