-- The children of each node of a well formed book are what their fields take.
use Rattle.std.proofs.Common.{◌≡◌, ℕ, suc, ◌+◌, ◌-◌, ◌*◌, ◌<◌, true, ◌||◌, eqb, ltb, List, length, get_or, is_some, IfSome, Some, None, Option, sym, refl, ap, ◌∙◌, subst, inl, inr, ⊎_elim, arith}
use Rattle.std.specs.Option.{option_map}
use Rattle.std.specs.List.{slice_get}
use Rattle.std.proofs.lemmas.Bool.{and_parts, cases_lt, cond_both, eqb-false, eqb-true, le-ltb, lt-ltb, ltb-true, or_cases}
use Rattle.syntax.specs.Numbers.{binary_operators, declaration_kinds, short_circuits, unary_operators}
use Rattle.shape.specs.Shapes.{Layout, layout_of, shape_of}
use Rattle.shape.specs.declared.Child.{Child}
use Rattle.shape.specs.declared.Child.TheVariants as C
use Rattle.shape.specs.declared.Construct.{Construct}
use Rattle.shape.specs.declared.Construct.TheVariants.{Unit as UnitEntry, Empty, Compound, Assignment, Increment, Decrement, If, Switch, Loop, For, While, Break, Continue, Return, Discard, CallStatement, ConstAssert, Declaration, Continuing, Literal, Parenthesized, Unary, Binary, Name, Call, Function}
use Rattle.shape.specs.declared.Field.{Field}
use Rattle.shape.specs.declared.Field.TheVariants as F
use Rattle.book.specs.Children.{AreChildren, Children, HaveBodies, HaveConditions, HaveSelectors, IsChild, MayBeChild}
use Rattle.layout.specs.Layout.{construct, entries, groups, groups_from, place, shape, tail_from}
use Rattle.book.specs.Nodes.{decode, items, listed, node_at, optional, paired, pairs}
use Rattle.layout.specs.Verdict.{accepted, child_fits, is_child}
use Rattle.layout.specs.WellFormed.{EachField, WellFormed}
use Rattle.layout.proofs.Accepted.{loaded}
use Rattle.layout.proofs.Bodies.{groups-some}
use Rattle.book.specs.declared.node.Node.{Node}
use Rattle.book.proofs.Reading.{every_entry, listed_at, listed_past, node_past, node_within, paired_at, paired_past}

module _ (ws : List ℕ) (e : ℕ) where
  -- what the test of a child says
  is_child_lem : (k : Child) (c : ℕ) → is_child ws e k c ≡ true → IsChild ws e k c
  is_child_lem k c h =
      let a = and_parts (ltb e c) _ h in
      let b = and_parts (ltb c (entries ws)) _ a.1 in
      (ltb-true e c a.0, ltb-true c (entries ws) b.0, b.1)

  may_be_child : (k : Child) (c : ℕ) → (eqb c 0 || is_child ws e k c) ≡ true → MayBeChild ws e k (optional c)
  may_be_child k c h =
      cond_both {A = Option ℕ} (eqb c 0) None (Some c) (MayBeChild ws e k) (λ is. tt)
      (λ is. ⊎_elim (λ z. absurd (eqb-false c 0 is (eqb-true c 0 z))) (is_child_lem k c) (or_cases (eqb c 0) (is_child ws e k c) h))

  module _ (p : ℕ) (each : EachField (λ f w. child_fits ws e f w ≡ true) ws p) (c : Construct) (is : construct ws p ≡ Some c) where
    laid : layout_of c ≡ shape ws p
    laid = ap shape_of (sym is)

    -- the i-th field of the head
    head : (i : ℕ) (f : Field) → slice_get (layout_of c).head i ≡ Some f → child_fits ws e f (get_or ws (p + 1 + i) 0) ≡ true
    head i f k = each.in_head i f (subst (λ (l : Layout). slice_get l.head i ≡ Some f) laid k)

    -- the i-th field of the j-th group, where a group has g + 1 fields
    group : (h g j i : ℕ) (f : Field) → length (layout_of c).head ≡ h → length (layout_of c).group ≡ suc g → j < get_or ws (p + h) 0 → slice_get (layout_of c).group i ≡ Some f → child_fits ws e f (get_or ws (p + 1 + h + suc g * j + i) 0) ≡ true
    group h g j i f sh sg lj k =
        let n = groups-some ws p (layout_of c) laid (omega arith) ∙ ap (λ x. get_or ws (p + x) 0) sh in
        let a = each.in_groups j i f (omega arith) (subst (λ (l : Layout). slice_get l.group i ≡ Some f) laid k) in
        let q : groups_from ws p + length (shape ws p).group * j + i ≡ p + 1 + h + suc g * j + i =
        ap (λ (l : Layout). p + 1 + length l.head + length l.group * j + i) (sym laid) ∙ ap (λ x. p + 1 + x + length (layout_of c).group * j + i) sh ∙ ap (λ x. p + 1 + h + x * j + i) sg in
        sym (ap (λ x. child_fits ws e f (get_or ws x 0)) q) ∙ a

    -- the one field of the tail
    last : (h g : ℕ) (f : Field) → length (layout_of c).head ≡ h → length (layout_of c).group ≡ suc g → slice_get (layout_of c).tail 0 ≡ Some f → child_fits ws e f (get_or ws (p + 1 + h + suc g * get_or ws (p + h) 0) 0) ≡ true
    last h g f sh sg k =
        let n = groups-some ws p (layout_of c) laid (omega arith) ∙ ap (λ x. get_or ws (p + x) 0) sh in
        let a = each.in_tail 0 f (subst (λ (l : Layout). slice_get l.tail 0 ≡ Some f) laid k) in
        let y : tail_from ws p + 0 ≡ tail_from ws p = omega arith in
        let q : tail_from ws p + 0 ≡ p + 1 + h + suc g * get_or ws (p + h) 0 =
        y ∙ ap (λ (l : Layout). p + 1 + length l.head + length l.group * groups ws p) (sym laid) ∙ ap (λ x. p + 1 + x + length (layout_of c).group * groups ws p) sh ∙ ap (λ x. p + 1 + h + x * groups ws p) sg ∙ ap (λ x. p + 1 + h + suc g * x) n in
        sym (ap (λ x. child_fits ws e f (get_or ws x 0)) q) ∙ a

  -- what stands in a list, and in a list of pairs
  some_one : {X : Type 0} (o : Option X) (x : X) → o ≡ None → o ≡ Some x → ⊥
  some_one o x n h = let w : ◌≡◌ {A = ℕ} 0 1 = cc in omega arith

  from_listed : (s n i c : ℕ) → slice_get (listed ws (items s n)) i ≡ Some c → (i < n) × (c ≡ get_or ws (s + i) 0)
  from_listed s n i c h =
      ⊎_elim
      (λ l.
      ⊎_elim (λ k. let r = listed_at ws s n i l k in (l, cc)) (λ k. absurd (some_one (slice_get (listed ws (items s n)) i) c (listed_past ws s n i (inr k)) h))
      (cases_lt (s + i) (length ws)))
      (λ l. absurd (some_one (slice_get (listed ws (items s n)) i) c (listed_past ws s n i (inl l)) h)) (cases_lt i n)

  from_paired : (s n i : ℕ) (q : ℕ × ℕ) → slice_get (paired ws (pairs s n)) i ≡ Some q → (i < n) × (q.0 ≡ get_or ws (s + 2 * i) 0) × (q.1 ≡ get_or ws (s + 2 * i + 1) 0)
  from_paired s n i q h =
      ⊎_elim
      (λ l.
      ⊎_elim
      (λ k.
      let r = paired_at ws s n i l k in
      let m : q ≡ (get_or ws (s + 2 * i) 0, get_or ws (s + 2 * i + 1) 0) = cc in
      (l, ap (λ (x : ℕ × ℕ). x.0) m, ap (λ (x : ℕ × ℕ). x.1) m))
      (λ k. absurd (some_one (slice_get (paired ws (pairs s n)) i) q (paired_past ws s n i (inr k)) h))
      (cases_lt (s + 2 * i + 1) (length ws)))
      (λ l. absurd (some_one (slice_get (paired ws (pairs s n)) i) q (paired_past ws s n i (inl l)) h)) (cases_lt i n)

  found_mapped : {X : Type 0} (f : X → Node) (P : Node → Type 0) (o : Option X) → ((x : X) → P (f x)) → IfSome (option_map f o) P
  found_mapped f P None h = tt
  found_mapped f P (Some x) h = h x

  module _ (p : ℕ) (each : EachField (λ f w. child_fits ws e f w ≡ true) ws p) where
    -- a child of the head that must be there, and one that may be absent; k is where its word stands
    child-at : (c : Construct) (is : construct ws p ≡ Some c) (i k : ℕ) (kind : Child) → p + 1 + i ≡ k → slice_get (layout_of c).head i ≡ Some (F.Child kind) → IsChild ws e kind (get_or ws k 0)
    child-at c is i k kind at f =
        is_child_lem kind (get_or ws k 0) (sym (ap (λ x. is_child ws e kind (get_or ws x 0)) at) ∙ head p each c is i (F.Child kind) f)

    optional-at : (c : Construct) (is : construct ws p ≡ Some c) (i k : ℕ) (kind : Child) → p + 1 + i ≡ k → slice_get (layout_of c).head i ≡ Some (F.Optional kind) → MayBeChild ws e kind (optional (get_or ws k 0))
    optional-at c is i k kind at f =
        may_be_child kind (get_or ws k 0) (sym (ap (λ x. eqb (get_or ws x 0) 0 || is_child ws e kind (get_or ws x 0)) at) ∙ head p each c is i (F.Optional kind) f)

    list_at : (c : Construct) (is : construct ws p ≡ Some c) (h : ℕ) (kind : Child) → length (layout_of c).head ≡ h → length (layout_of c).group ≡ 1 → slice_get (layout_of c).group 0 ≡ Some (F.Child kind) → AreChildren ws e kind (items (p + (h + 1)) (get_or ws (p + h) 0))
    list_at c is h kind sh sg f i w n =
        let a = from_listed (p + (h + 1)) (get_or ws (p + h) 0) i w n in
        let g = group p each c is h 0 i 0 (F.Child kind) sh sg a.0 f in
        let q : p + 1 + h + 1 * i + 0 ≡ p + (h + 1) + i = omega arith in
        is_child_lem kind w (ap (is_child ws e kind) a.1 ∙ sym (ap (λ x. is_child ws e kind (get_or ws x 0)) q) ∙ g)

    -- the second part of each pair is a body
    bodies_at : (c : Construct) (is : construct ws p ≡ Some c) (h : ℕ) → length (layout_of c).head ≡ h → length (layout_of c).group ≡ 2 → slice_get (layout_of c).group 1 ≡ Some (F.Child C.Body) → HaveBodies ws e (pairs (p + (h + 1)) (get_or ws (p + h) 0))
    bodies_at c is h sh sg f i w n =
        let a = from_paired (p + (h + 1)) (get_or ws (p + h) 0) i w n in
        let g = group p each c is h 1 i 1 (F.Child C.Body) sh sg a.0 f in
        let q : p + 1 + h + 2 * i + 1 ≡ p + (h + 1) + 2 * i + 1 = omega arith in
        is_child_lem C.Body w.1 (ap (is_child ws e C.Body) a.2 ∙ sym (ap (λ x. is_child ws e C.Body (get_or ws x 0)) q) ∙ g)

    conditions_at : (c : Construct) (is : construct ws p ≡ Some c) (h : ℕ) → length (layout_of c).head ≡ h → length (layout_of c).group ≡ 2 → slice_get (layout_of c).group 0 ≡ Some (F.Child C.Expression) → HaveConditions ws e (pairs (p + (h + 1)) (get_or ws (p + h) 0))
    conditions_at c is h sh sg f i w n =
        let a = from_paired (p + (h + 1)) (get_or ws (p + h) 0) i w n in
        let g = group p each c is h 1 i 0 (F.Child C.Expression) sh sg a.0 f in
        let q : p + 1 + h + 2 * i + 0 ≡ p + (h + 1) + 2 * i = omega arith in
        is_child_lem C.Expression w.0 (ap (is_child ws e C.Expression) a.1 ∙ sym (ap (λ x. is_child ws e C.Expression (get_or ws x 0)) q) ∙ g)

    selectors_at : (c : Construct) (is : construct ws p ≡ Some c) (h : ℕ) → length (layout_of c).head ≡ h → length (layout_of c).group ≡ 2 → slice_get (layout_of c).group 0 ≡ Some (F.Optional C.Expression) → HaveSelectors ws e (pairs (p + (h + 1)) (get_or ws (p + h) 0))
    selectors_at c is h sh sg f i w n nz =
        let a = from_paired (p + (h + 1)) (get_or ws (p + h) 0) i w n in
        let g = group p each c is h 1 i 0 (F.Optional C.Expression) sh sg a.0 f in
        let q : p + 1 + h + 2 * i + 0 ≡ p + (h + 1) + 2 * i = omega arith in
        let t : (eqb w.0 0 || is_child ws e C.Expression w.0) ≡ true = ap (λ x. eqb x 0 || is_child ws e C.Expression x) a.1 ∙ sym (ap (λ x. eqb (get_or ws x 0) 0 || is_child ws e C.Expression (get_or ws x 0)) q) ∙ g in
        ⊎_elim (λ z. absurd (nz (eqb-true w.0 0 z))) (is_child_lem C.Expression w.0) (or_cases (eqb w.0 0) (is_child ws e C.Expression w.0) t)

    if_else : (c : Construct) (is : construct ws p ≡ Some c) → c ≡ If → MayBeChild ws e C.Body (optional (get_or ws (p + 2 + 2 * get_or ws (p + 1) 0) 0))
    if_else c is z =
        let t = last p each If (is ∙ ap Some z) 1 1 (F.Optional C.Body) refl refl refl in
        let q : p + 1 + 1 + 2 * get_or ws (p + 1) 0 ≡ p + 2 + 2 * get_or ws (p + 1) 0 = omega arith in
        may_be_child C.Body (get_or ws (p + 2 + 2 * get_or ws (p + 1) 0) 0) (sym (ap (λ x. eqb (get_or ws x 0) 0 || is_child ws e C.Body (get_or ws x 0)) q) ∙ t)

    family : (o : Option Construct) → construct ws p ≡ o → IfSome (decode o ws p) (Children ws e)
    family None is = tt
    family (Some UnitEntry) is = list_at UnitEntry is 1 C.Member refl refl refl
    family (Some Empty) is = tt
    family (Some Compound) is = list_at Compound is 1 C.Statement refl refl refl
    family (Some Assignment) is =
        let l = child-at Assignment is 1 (p + 2) C.Expression (omega arith) refl in
        let r = child-at Assignment is 2 (p + 3) C.Expression (omega arith) refl in
        cond_both {A = Option Node} (eqb (get_or ws (p + 1) 0) 0) _ _ (λ x. IfSome x (Children ws e)) (λ z. (l, r))
        (λ z. found_mapped _ (Children ws e) (slice_get binary_operators (get_or ws (p + 1) 0 - 1)) (λ op. (l, r)))
    family (Some Increment) is = child-at Increment is 0 (p + 1) C.Expression (omega arith) refl
    family (Some Decrement) is = child-at Decrement is 0 (p + 1) C.Expression (omega arith) refl
    family (Some If) is = (
      conditions_at If is 1 refl refl refl,
      bodies_at If is 1 refl refl refl,
      if_else If is refl,
    )
    family (Some Switch) is = (
      child-at Switch is 0 (p + 1) C.Expression (omega arith) refl,
      selectors_at Switch is 2 refl refl refl,
      bodies_at Switch is 2 refl refl refl,
    )
    family (Some Loop) is = (
      child-at Loop is 0 (p + 1) C.Body (omega arith) refl,
      optional-at Loop is 1 (p + 2) C.Continuing (omega arith) refl,
    )
    family (Some For) is = (
      optional-at For is 0 (p + 1) C.Initializer (omega arith) refl,
      optional-at For is 1 (p + 2) C.Expression (omega arith) refl,
      optional-at For is 2 (p + 3) C.Update (omega arith) refl,
      child-at For is 3 (p + 4) C.Body (omega arith) refl,
    )
    family (Some While) is = (
      child-at While is 0 (p + 1) C.Expression (omega arith) refl,
      child-at While is 1 (p + 2) C.Body (omega arith) refl,
    )
    family (Some Break) is = tt
    family (Some Continue) is = tt
    family (Some Return) is = optional-at Return is 0 (p + 1) C.Expression (omega arith) refl
    family (Some Discard) is = tt
    family (Some CallStatement) is = child-at CallStatement is 0 (p + 1) C.Call (omega arith) refl
    family (Some ConstAssert) is = child-at ConstAssert is 0 (p + 1) C.Expression (omega arith) refl
    family (Some Declaration) is =
        found_mapped _ (Children ws e) (slice_get declaration_kinds (get_or ws (p + 1) 0))
        (λ k. optional-at Declaration is 3 (p + 4) C.Expression (omega arith) refl)
    family (Some Continuing) is = (
      child-at Continuing is 0 (p + 1) C.Body (omega arith) refl,
      optional-at Continuing is 1 (p + 2) C.Expression (omega arith) refl,
    )
    family (Some Literal) is = tt
    family (Some Parenthesized) is = child-at Parenthesized is 0 (p + 1) C.Expression (omega arith) refl
    family (Some Unary) is =
        found_mapped _ (Children ws e) (slice_get unary_operators (get_or ws (p + 1) 0))
        (λ op. child-at Unary is 1 (p + 2) C.Expression (omega arith) refl)
    family (Some Binary) is =
        let l = child-at Binary is 1 (p + 2) C.Expression (omega arith) refl in
        let r = child-at Binary is 2 (p + 3) C.Expression (omega arith) refl in
        cond_both {A = Option Node} (ltb (get_or ws (p + 1) 0) 14) _ _ (λ x. IfSome x (Children ws e))
        (λ z. found_mapped _ (Children ws e) (slice_get binary_operators (get_or ws (p + 1) 0)) (λ op. (l, r)))
        (λ z. found_mapped _ (Children ws e) (slice_get short_circuits (get_or ws (p + 1) 0 - 14)) (λ op. (l, r)))
    family (Some Name) is = tt
    family (Some Call) is = list_at Call is 2 C.Expression refl refl refl
    family (Some Function) is = child-at Function is 3 (p + 4) C.Body (omega arith) refl

  pub children_of_lem : WellFormed ws → IfSome (node_at ws e) (Children ws e)
  children_of_lem w =
      ⊎_elim
      (λ h.
      subst (λ (o : Option Node). IfSome o (Children ws e)) (sym (node_within ws e h (place ws e) refl (construct ws (place ws e)) refl))
      (family (place ws e) (w.children e h) (construct ws (place ws e)) refl))
      (λ h. subst (λ (o : Option Node). IfSome o (Children ws e)) (sym (node_past ws e h)) tt)
      (cases_lt e (entries ws))

-- What is known of a loaded book's node
pub known_every : (ws : List ℕ) (e : ℕ) → accepted ws ≡ true → is_some (node_at ws e) ≡ ltb e (entries ws)
known_every ws e ok =
    ⊎_elim (λ h. every_entry ws e (loaded ws ok) h ∙ sym (lt-ltb e (entries ws) h)) (λ h. ap is_some (node_past ws e h) ∙ sym (le-ltb e (entries ws) h))
    (cases_lt e (entries ws))

pub known_children : (ws : List ℕ) (e : ℕ) → accepted ws ≡ true → IfSome (node_at ws e) (Children ws e)
known_children ws e ok = children_of_lem ws e (loaded ws ok)
