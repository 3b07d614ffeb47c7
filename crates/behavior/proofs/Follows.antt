-- The children of an entry come after it.
use Rattle.std.proofs.Common.{◌≡◌, ℕ, zero, suc, List, [], ◌∷◌, ◌++◌, IfSome, Some, None, Option, refl, subst, arith}
use Rattle.std.specs.Option.{option_to_list}
use Rattle.std.specs.List.{slice_get}
use Rattle.book.specs.Children.{Children, IsChild, MayBeChild}
use Rattle.book.specs.Nodes.{paired}
use Rattle.book.specs.declared.node.Node.{Node}
use Rattle.book.specs.declared.node.Node.TheVariants as N
use Rattle.shape.specs.declared.Child.{Child}
use Rattle.shape.specs.declared.Child.TheVariants as C
use Rattle.behavior.specs.Below.{children_of, seconds}
use Rattle.control.specs.Control.{control_of, for_of}
use Rattle.behavior.specs.Summaries.{After, BodiesFollow, Follows, MayFollow}
use Rattle.control.specs.declared.Control.{Control}
use Rattle.control.specs.declared.Control.TheVariants.{Break, Continue, Continuing, Forever, Function, If, Loop, Other, Plain, Return, Sequence, Switch, While}

module _ (ws : List ℕ) (e : ℕ) where
  after : (k : Child) (c : ℕ) → IsChild ws e k c → After ws e c
  after k c h = (h.0, h.1)

  may_follow : (k : Child) (o : Option ℕ) → MayBeChild ws e k o → MayFollow ws e o
  may_follow k None h = tt
  may_follow k (Some c) h = (h.0, h.1)

  for_follows : (c : Option ℕ) (b : ℕ) → After ws e b → Follows ws e (for_of c b)
  for_follows None b h = h
  for_follows (Some c) b h = h

  pub follows : (o : Option Node) → IfSome o (Children ws e) → Follows ws e (control_of o)
  follows None h = tt
  follows (Some (N.Unit s)) h = tt
  follows (Some N.Empty) h = tt
  follows (Some (N.Compound s)) h = λ i c k. ((h i c k).0, (h i c k).1)
  follows (Some (N.Assignment op l r)) h = tt
  follows (Some (N.Increment c)) h = tt
  follows (Some (N.Decrement c)) h = tt
  follows (Some (N.If s o)) h = ((λ i p k. ((h.1 i p k).0, (h.1 i p k).1)), may_follow C.Body o h.2)
  follows (Some (N.Switch c s)) h = λ i p k. ((h.2 i p k).0, (h.2 i p k).1)
  follows (Some (N.Loop b c)) h = ((h.0.0, h.0.1), may_follow C.Continuing c h.1)
  follows (Some (N.For i c u b)) h = for_follows c b (h.3.0, h.3.1)
  follows (Some (N.While c b)) h = (h.1.0, h.1.1)
  follows (Some N.Break) h = tt
  follows (Some N.Continue) h = tt
  follows (Some (N.Return c)) h = tt
  follows (Some N.Discard) h = tt
  follows (Some (N.CallStatement c)) h = tt
  follows (Some (N.ConstAssert c)) h = tt
  follows (Some (N.Declaration k n t c)) h = tt
  follows (Some (N.Continuing b c)) h = (h.0.0, h.0.1)
  follows (Some (N.Literal k w)) h = tt
  follows (Some (N.Parenthesized c)) h = tt
  follows (Some (N.Unary op c)) h = tt
  follows (Some (N.Binary op l r)) h = tt
  follows (Some (N.ShortCircuit op l r)) h = tt
  follows (Some (N.Name n)) h = tt
  follows (Some (N.Call n s)) h = tt
  follows (Some (N.Function n a b t c s)) h = (h.0, h.1)

  -- each of the children
  seconds-follow : (ps : List (ℕ × ℕ)) → BodiesFollow ws e ps → (i c : ℕ) → slice_get (seconds ps) i ≡ Some c → After ws e c
  seconds-follow [] h i c k = let w : ◌≡◌ {A = ℕ} 0 1 = cc in absurd (omega arith)
  seconds-follow (p ∷ ps) h zero c k = let q : p.1 ≡ c = cc in subst (After ws e) q (h 0 p refl)
  seconds-follow (p ∷ ps) h (suc i) c k = seconds-follow ps (λ j. h (suc j)) i c k

  one_follows : (b : ℕ) → After ws e b → (i c : ℕ) → slice_get (b ∷ []) i ≡ Some c → After ws e c
  one_follows b h zero c k = let q : b ≡ c = cc in subst (After ws e) q h
  one_follows b h (suc i) c k = let w : ◌≡◌ {A = ℕ} 0 1 = cc in absurd (omega arith)

  none_follows : (i c : ℕ) → slice_get [] i ≡ Some c → After ws e c
  none_follows i c k = let w : ◌≡◌ {A = ℕ} 0 1 = cc in absurd (omega arith)

  if_follows : (o : Option ℕ) (ps : List (ℕ × ℕ)) → BodiesFollow ws e ps → MayFollow ws e o → (i c : ℕ) → slice_get (option_to_list o ++ seconds ps) i ≡ Some c → After ws e c
  if_follows None ps h m i c k = seconds-follow ps h i c k
  if_follows (Some b) ps h m zero c k = let q : b ≡ c = cc in subst (After ws e) q m
  if_follows (Some b) ps h m (suc i) c k = seconds-follow ps h i c k

  loop_follows : (b : ℕ) (o : Option ℕ) → After ws e b → MayFollow ws e o → (i c : ℕ) → slice_get (b ∷ option_to_list o) i ≡ Some c → After ws e c
  loop_follows b o h m zero c k = let q : b ≡ c = cc in subst (After ws e) q h
  loop_follows b None h m (suc i) c k = none_follows i c k
  loop_follows b (Some d) h m (suc i) c k = one_follows d m i c k

  pub child_follows : (t : Control) → Follows ws e t → (i c : ℕ) → slice_get (children_of ws t) i ≡ Some c → After ws e c
  child_follows Other h i c k = none_follows i c k
  child_follows Plain h i c k = none_follows i c k
  child_follows (Sequence s) h i c k = h i c k
  child_follows (If s o) h i c k = if_follows o (paired ws s) h.0 h.1 i c k
  child_follows (Switch s) h i c k = seconds-follow (paired ws s) h i c k
  child_follows (Loop b o) h i c k = loop_follows b o h.0 h.1 i c k
  child_follows (While b) h i c k = one_follows b h i c k
  child_follows (Forever b) h i c k = one_follows b h i c k
  child_follows Break h i c k = none_follows i c k
  child_follows Continue h i c k = none_follows i c k
  child_follows (Return v) h i c k = none_follows i c k
  child_follows (Continuing b x) h i c k = one_follows b h i c k
  child_follows (Function n t b) h i c k = one_follows b h i c k
