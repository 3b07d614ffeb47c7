use Rattle.std.proofs.Common.{◌≡◌, ℕ, suc, ◌-◌, List, ◌∷◌, ℤ, negsuc, Some, decimal, sym, ap, ◌∙◌, subst, ⊎_elim, arith, w64, SFits}
use Rattle.std.specs.Fmt.{signed_decimal}
use Rattle.fields.proofs.Decimal.{negative_from, negative_is}
use Rattle.fields.proofs.negative.Goals as goal

pub returns-in_default : goal.returns-in_default
returns-in_default c = record {
  prints = tt;
  undoes = λ v f e.
      let k = negative_from v _ f e in
      absurd (c.in_default.not-Some _ (c.natural.ensures.undoes (suc k.0) (omega arith) k.3));
}

pub returns-then-n-eq0 : goal.returns-then-n-eq0
returns-then-n-eq0 c = record {
  prints = tt;
  undoes = λ v f e.
      let k = negative_from v _ f e in
      let u = c.in-Some.ensures.undoes (suc k.0) (omega arith) k.3 in
      let n : c.in-Some.n ≡ suc k.0 = cc in
      absurd (⊎_elim (λ w. omega arith) (λ w. omega arith) c.then-n-eq0.either);
}

pub returns : goal.returns
returns c =
    let bs = c.args.bytes.now in
    let n = c.in-Some.n in
    let z = sym (negative_is n (omega arith) c.if-n-gt-LOWEST.false) in
    let p : signed_decimal (negsuc (n - 1)) ≡ 45 ∷ bs = ap (λ (x : ℕ). 45 ∷ decimal x) (omega arith) ∙ ap (λ (x : List ℕ). 45 ∷ x) c.in-Some.ensures.prints.1 in
    let f : SFits w64 (negsuc (n - 1)) = record { sfits = omega arith } in
    record {
      prints = subst (λ (y : ℤ). SFits w64 y × (signed_decimal y ≡ 45 ∷ bs)) z (f, p);
      undoes = λ v f e.
          let k = negative_from v _ f e in
          let u = c.in-Some.ensures.undoes (suc k.0) (omega arith) k.3 in
          let m : n ≡ suc k.0 = cc in
          ap Some (sym z ∙ ap negsuc (omega arith) ∙ sym k.1);
    }
