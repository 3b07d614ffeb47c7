use Rattle.std.proofs.Common.{◌≡◌, take, Some, sym, ap, ◌∙◌, subst, ⊎_elim, arith}
use Rattle.std.specs.Str.Parse.{AllDigits, digits_value}
use Rattle.std.proofs.lemmas.Int.Digits.{digits_value_more, digits_more}
use Rattle.std.proofs.lemmas.List.{take_all}
use Rattle.std.proofs.lemmas.Fmt.{decimal_injective}
use Rattle.fields.proofs.Decimal.{at_most_19, no_zero_first, front_short, digit_is, digit_at_place, reads_back}
use Rattle.fields.proofs.natural.Goals as goal
use Rattle.fields.proofs.natural.Goals.{then-b-lt48-via-then-b-lt48, then-b-lt48-via-else-b-lt48+then-b-gt57}

pub returns-then-bytes-eq0 : goal.returns-then-bytes-eq0
returns-then-bytes-eq0 c = record {
  prints = tt;
  undoes = λ n small e. let l = at_most_19 n _ small e in absurd (grind arith);
}

pub returns-then-bytes-gt-ONE_DIGIT : goal.returns-then-bytes-gt-ONE_DIGIT
returns-then-bytes-gt-ONE_DIGIT c = record {
  prints = tt;
  undoes = λ n small e. let one = no_zero_first n _ small e c.if-bytes-eq48.true in absurd (omega arith);
}

pub returns-then-b-lt48 : goal.returns-then-b-lt48
returns-then-b-lt48 c = record {
  prints = tt;
  undoes = λ n small e. let d = digit_at_place n _ _ small e c.loop-b-test.true in absurd (elim c.then-b-lt48.branch [ then-b-lt48-via-then-b-lt48 w ↦ omega arith | then-b-lt48-via-else-b-lt48+then-b-gt57 w ↦ omega arith ]);
}

pub overflow_mul-n : goal.overflow_mul-n
overflow_mul-n c =
    let s = front_short _ _ _ c.loop-b-test.true c.if-bytes-gt-MOST_DIGITS.false c.loop-b.invariant.0 c.loop-b.invariant.1 in
    record { fits = omega arith }

pub overflow_add-n : goal.overflow_add-n
overflow_add-n c =
    let s = front_short _ _ _ c.loop-b-test.true c.if-bytes-gt-MOST_DIGITS.false c.loop-b.invariant.0 c.loop-b.invariant.1 in
    record { fits = omega arith }

pub loop-b-preserved : goal.loop-b-preserved
loop-b-preserved c =
    let d = digit_is _ c.if-b-lt48.false c.if-b-gt57.false in
    let v = digits_value_more 10 _ _ c.loop-b-test.true in
    (digits_more 10 _ _ c.loop-b-test.true c.loop-b.invariant.0 (omega arith), omega arith)

pub returns : goal.returns
returns c =
    let all : take c.loop-b.b-index c.args.bytes.now ≡ c.args.bytes.now = take_all _ _ c.loop-b-test.false in
    let back = reads_back c.args.bytes.now c.loop-b.n (subst (AllDigits 10) all c.loop-b.invariant.0) (c.loop-b.invariant.1 ∙ ap (digits_value 10) all) (omega arith) c.if-bytes-gt-MOST_DIGITS.false (λ z. ⊎_elim (λ w. omega arith) (λ w. absurd (w z)) c.else-bytes-eq48.either) in
    record {
      prints = back;
      undoes = λ n small e. ap Some (decimal_injective _ _ (omega arith) (omega arith) (back.1 ∙ sym e));
    }
