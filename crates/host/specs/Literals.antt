-- The number that the four words of a literal write.
use Rattle.std.specs.Prelude.{ℕ, ◌+◌, ◌*◌, ◌^◌, cond, List, ℤ, pos, ◌-ℤ◌, nat_lt, slice_index}

-- 64 bits, least word first.
abbrev pub literal_bits : List ℕ → ℕ
literal_bits ws = slice_index ws 0 + 2 ^ 16 * slice_index ws 1 + 2 ^ 32 * slice_index ws 2 + 2 ^ 48 * slice_index ws 3

-- From the half on, a number of 64 bits is negative.
abbrev pub literal_number : List ℕ → ℤ
literal_number ws = cond (nat_lt (literal_bits ws) (2 ^ 63)) (pos (literal_bits ws)) (pos (literal_bits ws) -ℤ pos (2 ^ 64))
