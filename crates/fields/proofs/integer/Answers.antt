use Rattle.std.proofs.Common.{ℕ, List, subst, w64, SFits}
use Rattle.std.specs.Fmt.{signed_decimal}
use Rattle.fields.specs.Reading.{Prints, Undoes}
use Rattle.fields.proofs.Decimal.{first_and_rest}
use Rattle.fields.proofs.integer.Goals as goal

pub returns-then-bytes-eq45 : goal.returns-then-bytes-eq45
returns-then-bytes-eq45 c =
    let e = first_and_rest c.args.bytes.now 45 c.if-bytes-gt0.true c.if-bytes-eq45.true in
    record {
      prints = subst (λ (x : List ℕ). Prints (SFits w64) signed_decimal x c.negative.result) e c.negative.ensures.prints;
      undoes = subst (λ (x : List ℕ). Undoes (SFits w64) signed_decimal x c.negative.result) e c.negative.ensures.undoes;
    }
