-- The set of an entry, and the least entry below it, in terms of its children.
use Rattle.std.proofs.Common.{◌≡◌, ℕ, suc, ◌<◌, Bool, true, cond, not, List, [], ◌∷◌, Some, None, Option, sym, refl, ap, ◌∙◌, subst}
use Rattle.std.specs.List.{slice_get}
use Rattle.layout.specs.Layout.{entries}
use Rattle.book.specs.Nodes.{listed, node_at, paired}
use Rattle.layout.specs.WellFormed.{WellFormed}
use Rattle.layout.specs.Verdict.{accepted}
use Rattle.layout.proofs.Accepted.{loaded}
use Rattle.book.proofs.Family.{children_of_lem}
use Rattle.behavior.specs.Below.{children_of, earlier, earliest, least, least_of}
use Rattle.control.specs.Control.{control}
use Rattle.behavior.specs.Rules.{behavior, control_behavior, else_of, exits_by, followed, forever, has_default, in_turn, joined, looped, none, only_next, plus_next, tested, turned, union}
use Rattle.control.specs.declared.Control.{Control}
use Rattle.control.specs.declared.Control.TheVariants.{Break, Continue, Continuing, Forever, Function, If, Loop, Other, Plain, Return, Sequence, Switch, While}
use Rattle.behavior.specs.declared.set.Behavior.{Behavior}
use Rattle.behavior.proofs.Descents.{Local, opened}
use Rattle.behavior.specs.Summaries.{Follows, MayFollow}
use Rattle.behavior.proofs.Follows.{child_follows, follows}

-- folds over lists at which two functions agree
same_turn : (f g : ℕ → Behavior) (s : Behavior) (cs : List ℕ) → ((i c : ℕ) → slice_get cs i ≡ Some c → f c ≡ g c) → in_turn f s cs ≡ in_turn g s cs
same_turn f g s [] h = refl
same_turn f g s (c ∷ cs) h =
    ap (λ x. in_turn f (followed s x) cs) (h 0 c refl) ∙ same_turn f g (followed s (g c)) cs (λ i. h (suc i))

same-joined : (f g : ℕ → Behavior) (s : Behavior) (ps : List (ℕ × ℕ)) → ((i : ℕ) (p : ℕ × ℕ) → slice_get ps i ≡ Some p → f p.1 ≡ g p.1) → joined f s ps ≡ joined g s ps
same-joined f g s [] h = refl
same-joined f g s (p ∷ ps) h =
    ap (λ x. joined f (union s x) ps) (h 0 p refl) ∙ same-joined f g (union s (g p.1)) ps (λ i. h (suc i))

same-earliest : (f g : ℕ → Option ℕ) (s : Option ℕ) (cs : List ℕ) → ((i c : ℕ) → slice_get cs i ≡ Some c → f c ≡ g c) → earliest f s cs ≡ earliest g s cs
same-earliest f g s [] h = refl
same-earliest f g s (c ∷ cs) h =
    ap (λ x. earliest f (earlier s x) cs) (h 0 c refl) ∙ same-earliest f g (earlier s (g c)) cs (λ i. h (suc i))

module _ (ws : List ℕ) where
  same_else : (f g : ℕ → Behavior) (e : ℕ) (o : Option ℕ) → MayFollow ws e o → ((c : ℕ) → e < c → c < entries ws → f c ≡ g c) → else_of f o ≡ else_of g o
  same_else f g e None m h = refl
  same_else f g e (Some b) m h = h b m.0 m.1

  same-behavior : (f g : ℕ → Behavior) (e : ℕ) (t : Control) → Follows ws e t → ((c : ℕ) → e < c → c < entries ws → f c ≡ g c) → control_behavior ws f t ≡ control_behavior ws g t
  same-behavior f g e Other k h = refl
  same-behavior f g e Plain k h = refl
  same-behavior f g e (Sequence s) k h = same_turn f g only_next (listed ws s) (λ i c n. h c (k i c n).0 (k i c n).1)
  same-behavior f g e (If s o) k h =
      ap (λ x. joined f x (paired ws s)) (same_else f g e o k.1 h)
      ∙ same-joined f g (else_of g o) (paired ws s) (λ i p n. h p.1 (k.0 i p n).0 (k.0 i p n).1)
  same-behavior f g e (Switch s) k h =
      ap (λ x. plus_next (turned x) (not (has_default (paired ws s))))
      (same-joined f g none (paired ws s) (λ i p n. h p.1 (k i p n).0 (k i p n).1))
  same-behavior f g e (Loop b c) k h = ap (λ x. looped x (exits_by ws c)) (h b k.0.0 k.0.1)
  same-behavior f g e (While b) k h = ap tested (h b k.0 k.1)
  same-behavior f g e (Forever b) k h = ap forever (h b k.0 k.1)
  same-behavior f g e Break k h = refl
  same-behavior f g e Continue k h = refl
  same-behavior f g e (Return v) k h = refl
  same-behavior f g e (Continuing b x) k h = h b k.0 k.1
  same-behavior f g e (Function n t b) k h = h b k.0 k.1

  module _ (w : WellFormed ws) where
    pub control_follows : (e : ℕ) → Follows ws e (control ws e)
    unfolding control
    control_follows e = follows ws e (node_at ws e) (children_of_lem ws e w)

    behavior_local : Local (entries ws) (λ f c. control_behavior ws f (control ws c))
    behavior_local f g e h k = same-behavior f g e (control ws e) (control_follows e) k

    pub opened-behavior : (e : ℕ) → e < entries ws → behavior ws e ≡ control_behavior ws (behavior ws) (control ws e)
    unfolding behavior
    opened-behavior e h = opened (entries ws) none (λ f c. control_behavior ws f (control ws c)) behavior_local e h

    least_local : (p : ℕ → Bool) → Local (entries ws) (least_of ws p)
    least_local p f g e h k =
        ap (λ x. cond (p e) (Some e) x)
        (same-earliest f g None (children_of ws (control ws e))
        (λ i c n. let a = child_follows ws e (control ws e) (control_follows e) i c n in k c a.0 a.1))

    pub opened-least : (p : ℕ → Bool) (e : ℕ) → e < entries ws → least ws p e ≡ least_of ws p (least ws p) e
    unfolding least
    opened-least p e h = opened (entries ws) None (least_of ws p) (least_local p) e h

-- of the control that was read at an entry of a loaded book
pub follow_at : (ws : List ℕ) → accepted ws ≡ true → (e : ℕ) (t : Control) → t ≡ control ws e → Follows ws e t
follow_at ws ok e t is = subst (Follows ws e) (sym is) (control_follows ws (loaded ws ok) e)
