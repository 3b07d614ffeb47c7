-- What the decimals of a number begin with, and how long they are.
use Rattle.std.proofs.Common.{◌≡◌, ℕ, zero, suc, ◌-◌, ◌^◌, ◌<◌, ◌≤◌, List, ◌∷◌, length, get_or, take, drop, ℤ, pos, negsuc, ◌-ℤ◌, decimal, sym, refl, ap, ◌∙◌, subst, arith, length-take, w64, SFits, to_z, of_z}
use Rattle.std.proofs.lemmas.Slice.{first_rest}
use Rattle.std.proofs.lemmas.Int.{ints}
use Rattle.std.proofs.lemmas.Bool.Decides.{nat_tests}
use Rattle.std.specs.Str.Parse.{AllDigits, digits_value}
use Rattle.std.specs.Fmt.{signed_decimal}
use Rattle.std.specs.Char.{digit_value}
use Rattle.std.proofs.lemmas.Str.Parse.{IsNumeralModel, numerals_by_value, tells_digits, digits_value_short, digit_at}
use Rattle.std.proofs.lemmas.Fmt.{decimal_is_IsNumeral, decimal_nonempty, length-decimal-le, first_decimal, decimal_digit, decimal-digits_value}

pub own : IsNumeralModel (AllDigits 10) (digits_value 10)
own = numerals_by_value (AllDigits 10) tells_digits

pub at_most_19 : (n : ℕ) (bs : List ℕ) → n < 10 ^ 19 → decimal n ≡ bs → (0 < length bs) × (length bs ≤ 19)
at_most_19 n bs h e =
    subst (λ (x : List ℕ). (0 < length x) × (length x ≤ 19)) e (decimal_nonempty n (omega arith), length-decimal-le 19 n (omega arith) h (omega arith))

pub digits_of : (n : ℕ) (bs : List ℕ) → n < 10 ^ 19 → decimal n ≡ bs → AllDigits 10 bs
digits_of n bs h e = subst (AllDigits 10) e (decimal_is_IsNumeral n (omega arith)).0.1

pub no_zero_first : (n : ℕ) (bs : List ℕ) → n < 10 ^ 19 → decimal n ≡ bs → get_or bs 0 0 ≡ 48 → length bs ≡ 1
no_zero_first zero bs h e z = ap length (sym e ∙ decimal_digit 0 (omega arith))
no_zero_first (suc n) bs h e z =
    let f = first_decimal (suc n) (omega arith) (omega arith) in
    let g : get_or (decimal (suc n)) 0 0 ≡ 48 = ap (λ (x : List ℕ). get_or x 0 0) e ∙ z in
    absurd (omega arith)

pub short : (ds : List ℕ) (k : ℕ) → AllDigits 10 ds → length ds ≤ k → digits_value 10 ds < 10 ^ k
short ds k = digits_value_short own ds k

pub front_short : (bs : List ℕ) (i n : ℕ) → i < length bs → length bs ≤ 19 → AllDigits 10 (take i bs) → n ≡ digits_value 10 (take i bs) → n < 10 ^ 18
front_short bs i n h k d e =
    let l : length (take i bs) ≤ 18 = simp length-take (omega arith) in
    omega (arith, short (take i bs) 18 d l)

-- a byte from 48 to 57 is a digit
pub digit_is : (c : ℕ) → 48 ≤ c → c ≤ 57 → digit_value c ≡ c - 48
digit_is c h k = grind (arith, nat_tests)

pub digit_at_place : (n : ℕ) (bs : List ℕ) (i : ℕ) → n < 10 ^ 19 → decimal n ≡ bs → i < length bs → (48 ≤ get_or bs i 0) × (get_or bs i 0 ≤ 57)
digit_at_place n bs i h e l = let d = digit_at bs i (digits_of n bs h e) l in (omega arith, omega arith)

pub reads_back : (bs : List ℕ) (n : ℕ) → AllDigits 10 bs → n ≡ digits_value 10 bs → 0 < length bs → length bs ≤ 19 → (get_or bs 0 0 ≡ 48 → length bs ≡ 1) → (n < 10 ^ 19) × (decimal n ≡ bs)
reads_back bs n d e h k z =
    let s : digits_value 10 bs < 10 ^ 19 = short bs 19 d k in
    (omega arith, ap decimal e ∙ decimal-digits_value own bs d h z (omega arith))

-- what prints with a minus sign is negative
pub negative_from : (z : ℤ) (bs : List ℕ) → SFits w64 z → signed_decimal z ≡ 45 ∷ bs → (k : ℕ) × (z ≡ negsuc k) × (k < 2 ^ 63) × (decimal (suc k) ≡ bs)
negative_from (pos n) bs f e =
    let s : n < 2 ^ 63 = f.sfits in
    let d = digit_at_place n (45 ∷ bs) 0 (omega arith) e (omega arith) in
    absurd (omega arith)
negative_from (negsuc k) bs f e = (k, refl, f.sfits, cc)

pub negative_is : (n : ℕ) → 0 < n → n ≤ 2 ^ 63 → to_z w64 (of_z w64 (negsuc 0 -ℤ to_z w64 (n - 1))) ≡ negsuc (n - 1)
negative_is n h k = omega (arith, ints)

-- the first byte, and the rest as `&bytes[1..]` has it
pub first_and_rest : (bs : List ℕ) (b : ℕ) → 0 < length bs → get_or bs 0 0 ≡ b → b ∷ take (length bs - 1) (drop 1 bs) ≡ bs
first_and_rest bs b h e = ap (λ (x : ℕ). x ∷ take (length bs - 1) (drop 1 bs)) (sym e) ∙ sym (first_rest bs 0 h)

pub same_rest : (x y : ℕ) (xs ys text : List ℕ) → x ∷ xs ≡ text → y ∷ ys ≡ text → xs ≡ ys
same_rest x y xs ys text p q = cc
