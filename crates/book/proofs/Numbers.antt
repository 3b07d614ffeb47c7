-- What the number of a binary operator names.
use Rattle.std.proofs.Common.{◌≡◌, ℕ, ◌<◌, ltb, Some, None, Option, Result, refl, sym, ap, ◌∙◌}
use Rattle.std.specs.Option.{ok_or, option_map}
use Rattle.std.specs.Result.{result_ok}
use Rattle.std.specs.List.{slice_get}
use Rattle.std.proofs.lemmas.Bool.{cond-true, lt-ltb}
use Rattle.syntax.specs.Numbers.{binary_operators, numbered}
use Rattle.syntax.specs.declared.BinaryOperator.{BinaryOperator}
use Rattle.syntax.specs.declared.UnknownNumber.{UnknownNumber}
use Rattle.book.specs.Nodes.{binary_node}
use Rattle.book.specs.declared.node.Node.TheVariants as N

read : {T : Type 0} (o : Option T) (e : UnknownNumber) → result_ok (ok_or o e) ≡ o
read None e = refl
read (Some x) e = refl

pub binary_read : (n l r : ℕ) (op : BinaryOperator) (t : Result BinaryOperator UnknownNumber) → n < 14 → t ≡ numbered binary_operators n → result_ok t ≡ Some op → Some (N.Binary op l r) ≡ binary_node n l r
binary_read n l r op t h is some =
    ap (option_map (λ x. N.Binary x l r)) (sym some ∙ ap result_ok is ∙ read (slice_get binary_operators n) (record { 0 = n }))
    ∙ sym (cond-true (ltb n 14) _ _ (lt-ltb n 14 h))
