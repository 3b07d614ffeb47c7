-- Statements, blocks and continuings keep the claim.
use Rattle.std.proofs.Common.{◌≡◌, ℕ, zero, suc, ◌<◌, Bool, true, false, not, ◌||◌, List, [], ◌∷◌, ◌++◌, get_or, is_some, IfSome, Some, None, Option, refl, ap, arith}
use Rattle.std.specs.Option.{option_to_list}
use Rattle.std.specs.List.{slice_get}
use Rattle.std.proofs.lemmas.Bool.{both_ways, false≢true, not_from_false, or_left, or_right}
use Rattle.shape.specs.Shapes.{takes}
use Rattle.shape.specs.declared.Child.{Child}
use Rattle.shape.specs.declared.Child.TheVariants as Kind
use Rattle.book.specs.Children.{AreChildren, Children, MayBeChild}
use Rattle.layout.specs.Layout.{entries, place}
use Rattle.book.specs.Nodes.{listed, node_at, paired}
use Rattle.layout.specs.WellFormed.{WellFormed}
use Rattle.book.specs.declared.node.Items.{Items}
use Rattle.book.specs.declared.node.Node.{Node}
use Rattle.book.specs.declared.node.Node.TheVariants as N
use Rattle.book.specs.declared.node.Pairs.{Pairs}
use Rattle.behavior.specs.Below.{children_of, itself, returning, seconds}
use Rattle.control.specs.Control.{control, control_of}
use Rattle.fitness.specs.Fit.{Fit}
use Rattle.behavior.specs.Rules.{behavior, beyond_next, control_behavior, else_of, exits_by, has_default, joined, none, only_next}
use Rattle.control.specs.Control.{exits}
use Rattle.control.specs.declared.Control.{Control}
use Rattle.control.specs.declared.Control.TheVariants as T
use Rattle.behavior.specs.declared.set.Behavior.{Behavior}
use Rattle.drive.specs.Act.{begin, end}
use Rattle.drive.specs.Drive.{opened}
use Rattle.rules.specs.Exec.{assigned, stepped, after_while_body, break_if, compound, for_body, to_continuing}
use Rattle.rules.specs.Flows.{has}
use Rattle.rules.specs.Language.{as_block, as_continuing, as_statement, block_of, statement_round}
use Rattle.rules.specs.Store.{Env, Store, block, closing}
use Rattle.rules.specs.Store as S
use Rattle.rules.specs.Tree.{called_by, entry_at, entry_of}
use Rattle.rules.specs.declared.error.Cause.TheVariants as C
use Rattle.rules.specs.declared.flow.CompoundScope.{CompoundScope}
use Rattle.rules.specs.declared.flow.CompoundScope.TheVariants.{Regular}
use Rattle.rules.specs.declared.flow.Flow.{Flow}
use Rattle.rules.specs.declared.flow.Flow.TheVariants as F
use Rattle.rules.proofs.Claims.{IsLoop, Lands, Quits, Returns, Takes, is_for, is_loop, is_while, rises, settles}
use Rattle.rules.proofs.Evals.{Keep}
use Rattle.rules.proofs.Execs.{Else, assigned_keeps, branch_keeps, calling_keeps, clauses_keeps, declaration_keeps, for_keeps, initialize_keeps, past, reference_keeps, selecting_keeps, stepped_keeps, turn_keeps}
use Rattle.rules.proofs.Sets.{joined_at, joined_left}
use Rattle.rules.proofs.Tags.{Told, a_block, a_call, a_continuing, another, initializer_taken, node_tag, taken, told, update_taken}

-- ## Children

module _ (ws : List ℕ) (e : ℕ) where
  may_take : (kind : Child) (o : Option ℕ) → MayBeChild ws e kind o → IfSome o (Takes ws kind)
  may_take kind None h = tt
  may_take kind (Some c) h = (h.1, h.2)

  initializer : (o : Option ℕ) → MayBeChild ws e Kind.Initializer o → IfSome o (Takes ws Kind.Statement)
  initializer None h = tt
  initializer (Some c) h = (h.1, initializer_taken (get_or ws (place ws c) 0) h.2)

  updating : (o : Option ℕ) → MayBeChild ws e Kind.Update o → IfSome o (Takes ws Kind.Statement)
  updating None h = tt
  updating (Some c) h = (h.1, update_taken (get_or ws (place ws c) 0) h.2)

-- a call entry has a name to call
called : (ws : List ℕ) {n : Option Node} → Told n → takes Kind.Call (node_tag n) ≡ true → is_some (called_by (entry_of ws n)) ≡ true
called ws a_call h = refl
called ws a_block h = absurd (false≢true h)
called ws a_continuing h = absurd (false≢true h)
called ws (another b c d) h = absurd (both_ways _ c h)

-- the body of a clause, and the else, among the children
seconds-at : (ps : List (ℕ × ℕ)) (i : ℕ) (p : ℕ × ℕ) → slice_get ps i ≡ Some p → slice_get (seconds ps) i ≡ Some p.1
seconds-at [] i p at = let z : ◌≡◌ {A = ℕ} 0 1 = cc in absurd (omega arith)
seconds-at (q ∷ ps) zero p at = let z : q ≡ p = cc in ap (λ x. Some x.1) z
seconds-at (q ∷ ps) (suc i) p at = seconds-at ps i p at

clause_at : (o : Option ℕ) (cs : List ℕ) (i c : ℕ) → slice_get cs i ≡ Some c → (j : ℕ) × (slice_get (option_to_list o ++ cs) j ≡ Some c)
clause_at None cs i c at = (i, at)
clause_at (Some b) cs i c at = (suc i, at)

-- the set of a switch's bodies, and whether it has no default
abbrev bodies_of : List ℕ → Pairs → Behavior
bodies_of ws sp = joined (behavior ws) none (paired ws sp)

abbrev defaultless : List ℕ → Pairs → Bool
defaultless ws sp = not (has_default (paired ws sp))

bodies_have : (V : Type 0) (ws : List ℕ) (sp : Pairs) (i : ℕ) (p : ℕ × ℕ) → slice_get (paired ws sp) i ≡ Some p → (f : Flow V) → has (behavior ws p.1) f ≡ true → has (bodies_of ws sp) f ≡ true
bodies_have V ws sp i p at f h = joined_at (behavior ws) none (paired ws sp) i p at f h

-- ## Statements

module _ {V : Type 0} (env : Env V) (w : WellFormed env.words) (e : ℕ) (lt : e < entries env.words) where
  plain : control env.words e ≡ T.Plain → Lands env.words {V = V} e F.Next
  plain is = (settles env.words {V = V} w e T.Plain is lt F.Next refl, tt)

  compound_keeps : (G : Type 0) (sp : Items) → control env.words e ≡ T.Sequence sp → AreChildren env.words e Kind.Statement sp → (scope : CompoundScope) (s : Store V) → Keep env (Lands env.words e) G (compound scope (listed env.words sp) s)
  compound_keeps G sp is h scope s =
      turn_keeps env (Lands env.words e) G e scope only_next refl (listed env.words sp)
      (λ i c at. (((h i c at).1, (h i c at).2), rises env.words w e (T.Sequence sp) is i c at))
      (λ f k r. (settles env.words w e (T.Sequence sp) is lt f k, r)) _

  pub block_keeps : {n : Option Node} → Told n → control env.words e ≡ control_of n → takes Kind.Body (node_tag n) ≡ true → IfSome n (Children env.words e) → (scope : CompoundScope) (s : Store V) → Keep env (Lands env.words e) ⊥ (as_block env scope (block_of env (entry_of env.words n)) s)
  block_keeps (a_block {s = sp}) is k h scope s = compound_keeps ⊥ sp is h scope s
  block_keeps a_call is k h scope s = absurd (false≢true k)
  block_keeps a_continuing is k h scope s = absurd (false≢true k)
  block_keeps (another b c d) is k h scope s = absurd (both_ways _ b k)

  -- a continuing ends with Next, or with Break by its break-if; a body that leaves is none of a fit book's
  module _ (b : ℕ) (c : Option ℕ) (is : control env.words e ≡ T.Continuing b (is_some c)) where
    stays : Fit env.words → (beyond_next (behavior env.words b) ≡ true) → ⊥
    stays fit h = both_ways _ (fit.continuings e b (is_some c) lt is) h

  break_keeps : (b : ℕ) (c : Option ℕ) → IfSome c (Takes env.words Kind.Expression) → (s : Store V) → Keep env (Quits (T.Continuing b (is_some c))) ⊥ (break_if env c s)
  break_keeps b None h s = tt
  break_keeps b (Some c) h s =
      (h, (λ r t a. a), λ o s' z. branch_keeps env (Quits (T.Continuing b true)) ⊥ (env.values.truth (S.loaded o)) s' (λ t. end F.Break (closing t)) (λ t. end F.Next (closing t)) refl tt)

  pub continuing_keeps : {n : Option Node} → Told n → control env.words e ≡ control_of n → takes Kind.Continuing (node_tag n) ≡ true → IfSome n (Children env.words e) → (s : Store V) → Keep env (Quits (control_of n)) ⊥ (as_continuing env (entry_of env.words n) s)
  continuing_keeps (a_continuing {b = b} {c = c}) is k h s =
      let set = behavior env.words b in (
        (h.0.1, h.0.2),
        (λ r t a. a),
        elim [
          | F.Next ↦ λ s' l. break_keeps b c (may_take env.words e Kind.Expression c h.1) s'
          | F.Break ↦ λ s' l fit. stays b c is fit (or_left set.breaks (set.continues || set.returns) l.0)
          | F.Continue ↦ λ s' l fit. stays b c is fit (or_right set.breaks (set.continues || set.returns) (or_left set.continues set.returns l.0))
          | F.Return v ↦ λ s' l fit. stays b c is fit (or_right set.breaks (set.continues || set.returns) (or_right set.continues set.returns l.0))
        ],
      )
  continuing_keeps a_call is k h s = absurd (false≢true k)
  continuing_keeps a_block is k h s = absurd (false≢true k)
  continuing_keeps (another b c d) is k h s = absurd (both_ways _ d k)

  -- an if ends as its else or the body of one of its clauses
  module _ (sp : Pairs) (o : Option ℕ) (is : control env.words e ≡ T.If sp o) where
    if_lands : (i c : ℕ) → slice_get (children_of env.words (T.If sp o)) i ≡ Some c → (f : Flow V) → has (control_behavior env.words (behavior env.words) (T.If sp o)) f ≡ true → Returns env.words c f → Lands env.words e f
    if_lands i c at f h r = (settles env.words w e (T.If sp o) is lt f h, rises env.words w e (T.If sp o) is i c at f r)

    clause_lands : (i : ℕ) (p : ℕ × ℕ) → slice_get (paired env.words sp) i ≡ Some p → (f : Flow V) → Lands env.words p.1 f → Lands env.words e f
    clause_lands i p at f h =
        let j = clause_at o (seconds (paired env.words sp)) i p.1 (seconds-at (paired env.words sp) i p at) in
        if_lands j.0 p.1 j.1 f
        (joined_at (behavior env.words) (else_of (behavior env.words) o) (paired env.words sp) i p at f h.0) h.1

  else_lands : (G : Type 0) (sp : Pairs) (o : Option ℕ) → control env.words e ≡ T.If sp o → MayBeChild env.words e Kind.Body o → Else env (Lands env.words e) G o
  else_lands G sp None is h =
      (settles env.words {V = V} w e (T.If sp None) is lt F.Next (joined_left {V = V} (behavior env.words) only_next (paired env.words sp) F.Next refl), tt)
  else_lands G sp (Some b) is h =
      ((h.1, h.2), λ f k. if_lands sp (Some b) is 0 b refl f (joined_left (behavior env.words) (behavior env.words b) (paired env.words sp) f k.0) k.1)

  -- a switch ends as one of its bodies, but for Break, and with Next if it has no default
  module _ (sp : Pairs) (is : control env.words e ≡ T.Switch sp) where
    switch_next : (((bodies_of env.words sp).next || (bodies_of env.words sp).breaks) || defaultless env.words sp) ≡ true → Lands env.words {V = V} e F.Next
    switch_next h = (settles env.words {V = V} w e (T.Switch sp) is lt F.Next h, tt)

    switch_lands : (i : ℕ) (p : ℕ × ℕ) → slice_get (paired env.words sp) i ≡ Some p → (f : Flow V) → Lands env.words p.1 f → Lands env.words e (past f)
    switch_lands i p at F.Next h =
        let all = bodies_of env.words sp in
        switch_next
        (or_left (all.next || all.breaks) (defaultless env.words sp)
        (or_left all.next all.breaks (bodies_have V env.words sp i p at F.Next h.0)))
    switch_lands i p at F.Break h =
        let all = bodies_of env.words sp in
        switch_next
        (or_left (all.next || all.breaks) (defaultless env.words sp)
        (or_right all.next all.breaks (bodies_have V env.words sp i p at F.Break h.0)))
    switch_lands i p at F.Continue h =
        (settles env.words {V = V} w e (T.Switch sp) is lt F.Continue (bodies_have V env.words sp i p at F.Continue h.0), tt)
    switch_lands i p at (F.Return v) h = (
      settles env.words w e (T.Switch sp) is lt (F.Return v) (bodies_have V env.words sp i p at (F.Return v) h.0),
      rises env.words w e (T.Switch sp) is i p.1 (seconds-at (paired env.words sp) i p at) (F.Return v) h.1,
    )

  -- a loop ends with Next at a break of its body or by its break-if, and with the returns of its body
  module _ (b : ℕ) (c : Option ℕ) (is : control env.words e ≡ T.Loop b c) where
    loop_ends : (((behavior env.words b).breaks || exits_by env.words c) ≡ true) → Lands env.words {V = V} e F.Next
    loop_ends h = (settles env.words {V = V} w e (T.Loop b c) is lt F.Next h, tt)

  continues : (b : ℕ) (c : Option ℕ) → control env.words e ≡ T.Loop b c → MayBeChild env.words e Kind.Continuing c → (s : Store V) → Keep env (Lands env.words e) (IsLoop (Some (N.Loop b c))) (to_continuing env c s)
  continues b None is h s = is_loop
  continues b (Some c) is h s = (
    (h.1, h.2),
    (λ r t a. a),
    elim [
      | F.Next ↦ λ s' k. is_loop
      | F.Break ↦ λ s' k. loop_ends b (Some c) is (or_right (behavior env.words b).breaks (exits (control env.words c)) k)
      | F.Continue ↦ λ s' k. is_loop
      | F.Return v ↦ λ s' k. absurd k
    ],
  )

  -- what ends a loop with the body b that is its first child
  body-returns : (t : Control) → control env.words e ≡ t → (b : ℕ) → slice_get (children_of env.words t) 0 ≡ Some b → ((v : Option V) → has (behavior env.words b) (F.Return v) ≡ true → has (control_behavior env.words (behavior env.words) t) (F.Return v) ≡ true) → (v : Option V) → Lands env.words b (F.Return v) → Lands env.words e (F.Return v)
  body-returns t is b at up v h =
      (settles env.words w e t is lt (F.Return v) (up v h.0), rises env.words w e t is 0 b at (F.Return v) h.1)

  pub round_keeps : {n : Option Node} → IsLoop n → control env.words e ≡ control_of n → IfSome n (Children env.words e) → (s : Store V) → Keep env (Lands env.words e) (IsLoop n) (opened (statement_round env e (entry_of env.words n) s))
  unfolding opened
  round_keeps (is_loop {b = b} {c = c}) is h s = (
    (h.0.1, h.0.2),
    (λ r t a. a),
    elim [
      | F.Next ↦ λ s' k. continues b c is h.1 s'
      | F.Break ↦ λ s' k. loop_ends b c is (or_left (behavior env.words b).breaks (exits_by env.words c) k.0)
      | F.Continue ↦ λ s' k. continues b c is h.1 s'
      | F.Return v ↦ λ s' k. body-returns (T.Loop b c) is b refl (λ u x. x) v k
    ],
  )
  round_keeps (is_for {i = i} {c = Some c} {u = u} {b = b}) is h s =
      let ends : Lands env.words {V = V} e F.Next = (settles env.words {V = V} w e (T.While b) is lt F.Next refl, tt) in
      let G : Type 0 = IsLoop (Some (N.For i (Some c) u b)) in (
        (h.1.1, h.1.2),
        (λ r t a. a),
        λ o s' z. branch_keeps env (Lands env.words e) G (env.values.truth (S.loaded o)) s' (for_body env u b) (λ t. end F.Next (closing t)) (for_keeps env (Lands env.words e) G is_for u (updating env.words e u h.2) b ((h.3.1, h.3.2), (λ k. ends), body-returns (T.While b) is b refl (λ v x. x)) s') ends,
      )
  round_keeps (is_for {i = i} {c = None} {u = u} {b = b}) is h s =
      for_keeps env (Lands env.words e) (IsLoop (Some (N.For i None u b))) is_for u (updating env.words e u h.2) b (
        (h.3.1, h.3.2),
        (λ k. (settles env.words {V = V} w e (T.Forever b) is lt F.Next (or_left (behavior env.words b).breaks false k.0), tt)),
        body-returns (T.Forever b) is b refl (λ v x. x),
      )
      s
  round_keeps (is_while {c = c} {b = b}) is h s =
      let ends : Lands env.words {V = V} e F.Next = (settles env.words {V = V} w e (T.While b) is lt F.Next refl, tt) in
      let G : Type 0 = IsLoop (Some (N.While c b)) in (
        (h.0.1, h.0.2),
        (λ r t a. a),
        λ o s' z. branch_keeps env (Lands env.words e) G (env.values.truth (S.loaded o)) s' (λ t. begin (block Regular None b) t (after_while_body env)) (λ t. end F.Next t) (
          (h.1.1, h.1.2),
          (λ r t a. a),
          elim [
            | F.Next ↦ λ s'' k. is_while
            | F.Break ↦ λ s'' k. ends
            | F.Continue ↦ λ s'' k. is_while
            | F.Return v ↦ λ s'' k. body-returns (T.While b) is b refl (λ u x. x) v k
          ],
        ) ends,
      )

  pub statement_keeps : (n : Option Node) → control env.words e ≡ control_of n → takes Kind.Statement (node_tag n) ≡ true → IfSome n (Children env.words e) → (s : Store V) → Keep env (Lands env.words e) (IsLoop n) (as_statement env (entry_of env.words n) s)
  unfolding entry_at
  statement_keeps (Some N.Empty) is k h s = plain is
  statement_keeps (Some (N.Compound sp)) is k h s = compound_keeps (IsLoop (Some (N.Compound sp))) sp is h Regular s
  statement_keeps (Some (N.Assignment op l r)) is k h s = (
    (h.0.1, h.0.2),
    (λ x t a. a),
    λ o s' z. reference_keeps env (Lands env.words e) (IsLoop (Some (N.Assignment op l r))) o s' (λ place old s''. S.value r s'' (λ v t. assigned env op place old v t)) (λ place old. (
      (h.1.1, h.1.2),
      (λ x t a. a),
      λ v t y. assigned_keeps env (Lands env.words e) (IsLoop (Some (N.Assignment op l r))) (plain is) op place old (S.loaded v) t,
    )),
  )
  statement_keeps (Some (N.Increment c)) is k h s = (
    (h.1, h.2),
    (λ x t a. a),
    λ o s' z. reference_keeps env (Lands env.words e) (IsLoop (Some (N.Increment c))) o s' (λ place v t. stepped env C.IncrOverflow C.IncrType place (env.operators.up v) t) (λ place v. stepped_keeps env (Lands env.words e) (IsLoop (Some (N.Increment c))) (plain is) C.IncrOverflow C.IncrType (λ fit. tt) (λ fit. tt) place (env.operators.up v) s'),
  )
  statement_keeps (Some (N.Decrement c)) is k h s = (
    (h.1, h.2),
    (λ x t a. a),
    λ o s' z. reference_keeps env (Lands env.words e) (IsLoop (Some (N.Decrement c))) o s' (λ place v t. stepped env C.DecrOverflow C.DecrType place (env.operators.down v) t) (λ place v. stepped_keeps env (Lands env.words e) (IsLoop (Some (N.Decrement c))) (plain is) C.DecrOverflow C.DecrType (λ fit. tt) (λ fit. tt) place (env.operators.down v) s'),
  )
  statement_keeps (Some (N.If sp o)) is k h s =
      clauses_keeps env (Lands env.words e) (IsLoop (Some (N.If sp o))) (paired env.words sp) o
      (λ i p at. (((h.0 i p at).1, (h.0 i p at).2), (((h.1 i p at).1, (h.1 i p at).2), clause_lands sp o is i p at)))
      (else_lands (IsLoop (Some (N.If sp o))) sp o is h.2) s
  statement_keeps (Some (N.Switch c sp)) is k h s = (
    (h.0.1, h.0.2),
    (λ x t a. a),
    λ o s' z. selecting_keeps env (Lands env.words e) (IsLoop (Some (N.Switch c sp))) (S.loaded o) (paired env.words sp) None (λ i p at. ((λ some. ((h.1 i p at some).1, (h.1 i p at some).2)), (((h.2 i p at).1, (h.2 i p at).2), switch_lands sp is i p at))) (λ d. switch_next sp is (or_right ((bodies_of env.words sp).next || (bodies_of env.words sp).breaks) (defaultless env.words sp) (not_from_false (has_default (paired env.words sp)) d))) s',
  )
  statement_keeps (Some (N.Loop b c)) is k h s = is_loop
  statement_keeps (Some (N.For i c u b)) is k h s =
      initialize_keeps env (Lands env.words e) (IsLoop (Some (N.For i c u b))) is_for i c (initializer env.words e i h.0) _
  statement_keeps (Some (N.While c b)) is k h s = is_while
  statement_keeps (Some N.Break) is k h s = (settles env.words {V = V} w e T.Break is lt F.Break refl, tt)
  statement_keeps (Some N.Continue) is k h s = (settles env.words {V = V} w e T.Continue is lt F.Continue refl, tt)
  statement_keeps (Some (N.Return None)) is k h s =
      (settles env.words {V = V} w e (T.Return false) is lt (F.Return None) refl, (e, itself, ap (returning false) is))
  statement_keeps (Some (N.Return (Some c))) is k h s = (
    (h.1, h.2),
    (λ x t a. a),
    λ o s' z. (settles env.words {V = V} w e (T.Return true) is lt (F.Return (Some (S.loaded o))) refl, (e, itself, ap (returning true) is)),
  )
  statement_keeps (Some N.Discard) is k h s = λ fit. tt
  statement_keeps (Some (N.CallStatement c)) is k h s =
      calling_keeps env (Lands env.words e) (IsLoop (Some (N.CallStatement c))) (plain is) w c (h.1, h.2) (called_by (entry_at env.words c))
      (called env.words (told (node_at env.words c)) (taken env.words w Kind.Call c h.1 h.2)) s
  statement_keeps (Some (N.ConstAssert c)) is k h s = (
    (h.1, h.2),
    (λ x t a. a),
    λ o s' z. branch_keeps env (Lands env.words e) (IsLoop (Some (N.ConstAssert c))) (env.values.truth (S.loaded o)) _ (λ t. end F.Next t) (λ t. S.refuse C.ConstAssertFailure t) (plain is) (λ fit. tt),
  )
  statement_keeps (Some (N.Declaration kind name ty c)) is k h s =
      declaration_keeps env (Lands env.words e) (IsLoop (Some (N.Declaration kind name ty c))) (plain is) kind name ty c
      (may_take env.words e Kind.Expression c h) s
  statement_keeps None is k h s = absurd (false≢true k)
  statement_keeps (Some (N.Unit sp)) is k h s = absurd (false≢true k)
  statement_keeps (Some (N.Continuing b c)) is k h s = absurd (false≢true k)
  statement_keeps (Some (N.Literal kind words)) is k h s = absurd (false≢true k)
  statement_keeps (Some (N.Parenthesized c)) is k h s = absurd (false≢true k)
  statement_keeps (Some (N.Unary op c)) is k h s = absurd (false≢true k)
  statement_keeps (Some (N.Binary op l r)) is k h s = absurd (false≢true k)
  statement_keeps (Some (N.ShortCircuit op l r)) is k h s = absurd (false≢true k)
  statement_keeps (Some (N.Name name)) is k h s = absurd (false≢true k)
  statement_keeps (Some (N.Call name sp)) is k h s = absurd (false≢true k)
  statement_keeps (Some (N.Function name a m ty b sp)) is k h s = absurd (false≢true k)
