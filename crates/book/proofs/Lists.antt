-- What stands in the lists of a book.
use Rattle.std.proofs.Common.{◌≡◌, ℕ, zero, suc, ◌+◌, ◌*◌, ◌/◌, ◌<◌, ◌≤◌, List, [], ◌∷◌, length, map, refl, ap, arith}
use Rattle.std.specs.Simd.{first_chunks}
use Rattle.book.specs.Lists.{as_pair}
use Rattle.book.specs.Nodes.{twos}

-- words cut in twos are pairs
twos_chunks : (k : ℕ) (ws : List ℕ) → 2 * k ≤ length ws → length ws < 2 * k + 2 → map as_pair (first_chunks 2 k ws) ≡ twos ws
twos_chunks zero [] l m = refl
twos_chunks zero (a ∷ []) l m = refl
twos_chunks zero (a ∷ b ∷ ws) l m = absurd (omega arith)
twos_chunks (suc k) [] l m = absurd (omega arith)
twos_chunks (suc k) (a ∷ []) l m = absurd (omega arith)
twos_chunks (suc k) (a ∷ b ∷ ws) l m = ap (λ ps. (a, b) ∷ ps) (twos_chunks k ws (omega arith) (omega arith))

pub pairs_of_chunks : (ws : List ℕ) → map as_pair (first_chunks 2 (length ws / 2) ws) ≡ twos ws
pairs_of_chunks ws = twos_chunks (length ws / 2) ws (omega arith) (omega arith)
