-- The functions that a call finds are in the book: each has a block for its body, and is fit where the book is.
use Rattle.std.proofs.Common.{◌≡◌, ℕ, eqb, List, [], ◌∷◌, is_some, IfSome, Some, None, Option, refl, arith}
use Rattle.std.specs.Option.{option_or}
use Rattle.std.proofs.lemmas.Bool.{cond_both}
use Rattle.shape.specs.declared.Child.TheVariants as Kind
use Rattle.book.specs.Children.{Children}
use Rattle.book.specs.Nodes.{node_at}
use Rattle.layout.specs.WellFormed.{WellFormed}
use Rattle.book.specs.declared.node.Node.{Node}
use Rattle.book.specs.declared.node.Node.TheVariants as N
use Rattle.book.proofs.Family.{children_of_lem}
use Rattle.control.specs.Control.{control, control_of}
use Rattle.fitness.specs.Fit.{Fit, FitFunction}
use Rattle.rules.specs.Eval.{first_named, function_named}
use Rattle.rules.specs.Tree.{Function, children_of, entry_at, entry_of, function_of, if_named}
use Rattle.rules.proofs.Claims.{Takes}

module _ (ws : List ℕ) where
  abbrev pub Written : Function → Type 0
  Written f = Takes ws Kind.Body f.body × (Fit ws → FitFunction ws (is_some f.ty) f.body)

  node_written : (e : ℕ) (n : Option Node) → control ws e ≡ control_of n → IfSome n (Children ws e) → IfSome (function_of (entry_of ws n)) Written
  node_written e None is h = tt
  node_written e (Some (N.Unit s)) is h = tt
  node_written e (Some N.Empty) is h = tt
  node_written e (Some (N.Compound s)) is h = tt
  node_written e (Some (N.Assignment op l r)) is h = tt
  node_written e (Some (N.Increment c)) is h = tt
  node_written e (Some (N.Decrement c)) is h = tt
  node_written e (Some (N.If s o)) is h = tt
  node_written e (Some (N.Switch c s)) is h = tt
  node_written e (Some (N.Loop b c)) is h = tt
  node_written e (Some (N.For i c u b)) is h = tt
  node_written e (Some (N.While c b)) is h = tt
  node_written e (Some N.Break) is h = tt
  node_written e (Some N.Continue) is h = tt
  node_written e (Some (N.Return c)) is h = tt
  node_written e (Some N.Discard) is h = tt
  node_written e (Some (N.CallStatement c)) is h = tt
  node_written e (Some (N.ConstAssert c)) is h = tt
  node_written e (Some (N.Declaration k n t c)) is h = tt
  node_written e (Some (N.Continuing b c)) is h = tt
  node_written e (Some (N.Literal k w)) is h = tt
  node_written e (Some (N.Parenthesized c)) is h = tt
  node_written e (Some (N.Unary op c)) is h = tt
  node_written e (Some (N.Binary op l r)) is h = tt
  node_written e (Some (N.ShortCircuit op l r)) is h = tt
  node_written e (Some (N.Name n)) is h = tt
  node_written e (Some (N.Call n s)) is h = tt
  node_written e (Some (N.Function n a b t c s)) is h =
      ((h.1, h.2), λ fit. fit.functions e n (is_some t) c (omega arith) is)

  named-written : (name : ℕ) (o : Option Function) → IfSome o Written → IfSome (if_named name o) Written
  named-written name None h = tt
  named-written name (Some f) h =
      cond_both {A = Option Function} (eqb f.name name) _ _ (λ x. IfSome x Written) (λ is. h) (λ is. tt)

  either_written : (a b : Option Function) → IfSome a Written → IfSome b Written → IfSome (option_or a b) Written
  either_written None b h k = k
  either_written (Some f) b h k = h

  module _ (w : WellFormed ws) where
    first-written : (name : ℕ) (es : List ℕ) → IfSome (first_named ws name es) Written
    unfolding control entry_at
    first-written name [] = tt
    first-written name (e ∷ es) =
        either_written (if_named name (function_of (entry_at ws e))) (first_named ws name es)
        (named-written name (function_of (entry_at ws e)) (node_written e (node_at ws e) refl (children_of_lem ws e w)))
        (first-written name es)

    pub function-written : (name : ℕ) → IfSome (function_named ws name) Written
    function-written name = first-written name (children_of (entry_at ws 0))
