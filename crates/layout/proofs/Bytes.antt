-- Pairs of bytes are words.
use Rattle.std.proofs.Common.{◌≡◌, ℕ, zero, suc, ◌+◌, ◌*◌, ◌/◌, List, [], ◌∷◌, length, map, refl, ap, arith}
use Rattle.std.specs.Int.{w16, from_le_bytes}
use Rattle.std.specs.Simd.{first_chunks}
use Rattle.layout.specs.Words.{words_of}

pub pairs_are : (k : ℕ) (bs : List ℕ) → length bs / 2 ≡ k → map (from_le_bytes w16) (first_chunks 2 k bs) ≡ words_of bs
pairs_are zero [] h = refl
pairs_are zero (a ∷ []) h = refl
pairs_are zero (a ∷ b ∷ bs) h = absurd (omega arith)
pairs_are (suc k) [] h = absurd (omega arith)
pairs_are (suc k) (a ∷ []) h = absurd (omega arith)
pairs_are (suc k) (a ∷ b ∷ bs) h =
    ap (λ ws. (a + b * 256) ∷ ws) (pairs_are k bs (omega arith))
