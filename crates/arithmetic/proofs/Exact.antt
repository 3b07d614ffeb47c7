-- Exact results in 128 bits, of numbers of 64 bits.
use Rattle.std.proofs.Common.{◌≡◌, ℕ, ◌≤◌, true, ◌≢◌, ℤ, pos, neg_ℤ, nat_abs, None, Ok, ◌+ℤ◌, ◌-ℤ◌, ◌*ℤ◌, Some, refl, ap, subst, ◌∙◌, div-le_self, arith, w64, SFits, to_z, of_z}
use native.Mathlib.Nat.{mod-le}
use lib.Signed.{quot_z, rem_z}
use mir.Syntax.{w128}
use Rattle.std.proofs.lemmas.Int.{ints, to_z-of_z}
use Rattle.std.proofs.lemmas.Bool.Decides.{nat_tests}
use Rattle.scalar_value.specs.declared.ScalarType.{ScalarType}
use Rattle.arithmetic.specs.declared.Pair.{Pair}
use borrow.Author.Numbers.{signed_product}
use Rattle.scalar_value.specs.declared.Scalar.{Scalar}
use Rattle.host.specs.declared.Stage.{Stage}
use Rattle.host.specs.declared.HostFault.TheVariants.{NegOverflow}
use Rattle.scalar_value.specs.Types.{inside}
use Rattle.scalar_value.specs.Laws.{inside-fits}
use Rattle.scalar_value.specs.Numbers.{scalar, within}
use Rattle.arithmetic.specs.Operations.{unless, quotient, remainder}

-- The numbers of a pair fit 64 bits.
pub m_fits : (p : Pair) → SFits w64 p.m
m_fits p = inside-fits p.of p.m p.m_inside

pub n_fits : (p : Pair) → SFits w64 p.n
n_fits p = inside-fits p.of p.n p.n_inside

-- What 128 bits hold of a number of 64 bits, and of an operation on the numbers of a pair.
pub same : (z a : ℤ) → SFits w64 z → a ≡ to_z w64 (of_z w64 z) → to_z w128 (of_z w128 a) ≡ z
same z a f e = omega (arith, ints)

pub exact : (op : ℤ → ℤ → ℤ) (p : Pair) (a b : ℤ) → a ≡ to_z w64 (of_z w64 p.m) → b ≡ to_z w64 (of_z w64 p.n) → SFits w128 (op p.m p.n) → to_z w128 (of_z w128 (op (to_z w128 (of_z w128 a)) (to_z w128 (of_z w128 b)))) ≡ op p.m p.n
exact op p a b e f h =
    ap (λ (z : ℤ). to_z w128 (of_z w128 z)) (λ i. op (same p.m a (m_fits p) e i) (same p.n b (n_fits p) f i)) ∙ to_z-of_z w128 _ h

-- What is not 0 in 128 bits is not 0.
pub not_zero : (z a : ℤ) → a ≡ to_z w64 (of_z w64 z) → of_z w128 a ≢ 0 → z ≢ pos 0
not_zero z a e h q = h (ap (of_z w128) (e ∙ ap (λ (x : ℤ). to_z w64 (of_z w64 x)) q))

pub sum_fits : (p : Pair) → SFits w128 (p.m +ℤ p.n)
sum_fits p = omega (arith, ints, m_fits p, n_fits p)

pub difference_fits : (p : Pair) → SFits w128 (p.m -ℤ p.n)
difference_fits p = omega (arith, ints, m_fits p, n_fits p)

pub product_fits : (p : Pair) → SFits w128 (p.m *ℤ p.n)
product_fits p =
    let bound = signed_product w128 w64 w64 p.m p.n (m_fits p) (n_fits p) tt in
    subst (λ (x : ℤ). SFits w128 (x *ℤ p.n)) (same p.m _ (m_fits p) refl)
    (subst (λ (y : ℤ). SFits w128 (to_z w128 (of_z w128 (to_z w64 (of_z w64 p.m))) *ℤ y)) (same p.n _ (n_fits p) refl) bound)

abs_neg : (n : ℕ) → nat_abs (neg_ℤ (pos n)) ≡ n
abs_neg n = omega (arith, ints)

quot_abs : (m n : ℤ) → nat_abs (quot_z m n) ≤ nat_abs m
quot_abs m n = let e = div-le_self (nat_abs m) (nat_abs n) in grind (arith, ints)

pub quot_fits : (m n : ℤ) → SFits w64 m → SFits w128 (quot_z m n)
quot_fits m n f = omega (arith, ints, quot_abs m n)

pub rem_inside : (t : ScalarType) (m n : ℤ) → inside t m ≡ true → inside t (rem_z m n) ≡ true
rem_inside t m n h = let e = mod-le (nat_abs m) (nat_abs n) in grind (arith, nat_tests, ints)

pub quotient-outside : (stage : Stage) (t : ScalarType) (m n : ℤ) → n ≢ pos 0 → within t (quot_z m n) ≡ None → quotient stage t m n ≡ unless NegOverflow stage t (scalar t m)
quotient-outside stage t m n h e = grind (arith, ints, nat_tests)

pub remainder_is : (stage : Stage) (t : ScalarType) (m n : ℤ) → n ≢ pos 0 → remainder stage t m n ≡ Ok (scalar t (rem_z m n))
remainder_is stage t m n h = grind (arith, ints, nat_tests)

pub rem_fits : (p : Pair) → SFits w128 (rem_z p.m p.n)
rem_fits p = let f = inside-fits p.of (rem_z p.m p.n) (rem_inside p.of p.m p.n p.m_inside) in omega (arith, ints)

pub quotient-inside : (stage : Stage) (t : ScalarType) (m n : ℤ) (v : Scalar) → n ≢ pos 0 → within t (quot_z m n) ≡ Some v → quotient stage t m n ≡ Ok v
quotient-inside stage t m n v h e = grind (arith, ints, nat_tests)
