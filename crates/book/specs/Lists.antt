-- The pairs of a book as they lie: two words side by side.
use Rattle.std.specs.Prelude.{ℕ, List, slice_index}

-- Two words as a pair
abbrev pub as_pair : List ℕ → ℕ × ℕ
as_pair p = (slice_index p 0, slice_index p 1)
