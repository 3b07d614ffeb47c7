-- An entry of a loaded book is what its parent takes it for: its tag is that of the node that it is read as.
use Rattle.std.proofs.Common.{◌≡◌, ℕ, zero, suc, ◌+◌, ◌-◌, ◌<◌, Bool, true, false, ◌&&◌, eqb, ltb, List, [], ◌∷◌, get_or, is_some, Some, None, Option, sym, refl, ap, ◌∙◌, ⊎_elim, arith}
use Rattle.std.specs.Option.{option_map}
use Rattle.std.specs.List.{slice_get}
use Rattle.std.proofs.lemmas.Bool.{and_parts, cond_both, eqb-true, false≢true, or_cases}
use Rattle.syntax.specs.Numbers.{binary_operators, declaration_kinds, short_circuits, unary_operators}
use Rattle.shape.specs.Shapes.{construct_of, constructs, one_of, takes}
use Rattle.shape.specs.declared.Child.{Child}
use Rattle.shape.specs.declared.Child.TheVariants as C
use Rattle.shape.specs.declared.Construct.{Construct}
use Rattle.shape.specs.declared.Construct.TheVariants.{Unit as UnitEntry, Empty, Compound, Assignment, Increment, Decrement, If, Switch, Loop, For, While, Break, Continue, Return, Discard, CallStatement, ConstAssert, Declaration, Continuing, Literal, Parenthesized, Unary, Binary, Name, Call, Function}
use Rattle.layout.specs.Layout.{construct, entries, place}
use Rattle.book.specs.Nodes.{assignment_node, binary_node, decode, node_at, node_of}
use Rattle.layout.specs.WellFormed.{WellFormed}
use Rattle.book.specs.declared.node.Items.{Items}
use Rattle.book.specs.declared.node.Node.{Node}
use Rattle.book.specs.declared.node.Node.TheVariants as N
use Rattle.rules.specs.Tree.{entry_of, is_statement}
use Rattle.book.proofs.Reading.{every_entry, node_within}

-- The tag of a construct, and that of the constructs which a node is read from
abbrev tag_of : Construct → ℕ
tag_of UnitEntry = 0
tag_of Empty = 1
tag_of Compound = 2
tag_of Assignment = 3
tag_of Increment = 4
tag_of Decrement = 5
tag_of If = 6
tag_of Switch = 7
tag_of Loop = 8
tag_of For = 9
tag_of While = 10
tag_of Break = 11
tag_of Continue = 12
tag_of Return = 13
tag_of Discard = 14
tag_of CallStatement = 15
tag_of ConstAssert = 16
tag_of Declaration = 17
tag_of Continuing = 18
tag_of Literal = 32
tag_of Parenthesized = 33
tag_of Unary = 34
tag_of Binary = 35
tag_of Name = 36
tag_of Call = 37
tag_of Function = 48

abbrev pub node_tag : Option Node → ℕ
node_tag None = 49
node_tag (Some (N.Unit s)) = 0
node_tag (Some N.Empty) = 1
node_tag (Some (N.Compound s)) = 2
node_tag (Some (N.Assignment op l r)) = 3
node_tag (Some (N.Increment c)) = 4
node_tag (Some (N.Decrement c)) = 5
node_tag (Some (N.If s o)) = 6
node_tag (Some (N.Switch c s)) = 7
node_tag (Some (N.Loop b c)) = 8
node_tag (Some (N.For i c u b)) = 9
node_tag (Some (N.While c b)) = 10
node_tag (Some N.Break) = 11
node_tag (Some N.Continue) = 12
node_tag (Some (N.Return c)) = 13
node_tag (Some N.Discard) = 14
node_tag (Some (N.CallStatement c)) = 15
node_tag (Some (N.ConstAssert c)) = 16
node_tag (Some (N.Declaration k n t c)) = 17
node_tag (Some (N.Continuing b c)) = 18
node_tag (Some (N.Literal k w)) = 32
node_tag (Some (N.Parenthesized c)) = 33
node_tag (Some (N.Unary op c)) = 34
node_tag (Some (N.Binary op l r)) = 35
node_tag (Some (N.ShortCircuit op l r)) = 35
node_tag (Some (N.Name n)) = 36
node_tag (Some (N.Call n s)) = 37
node_tag (Some (N.Function n a b t c s)) = 48

-- The nodes that a field for a block, a call or a continuing takes, and the others
pub data Told : Option Node → Type 0 where
  a_block : {s : Items} → Told (Some (N.Compound s))
  a_call : {n : ℕ} {s : Items} → Told (Some (N.Call n s))
  a_continuing : {b : ℕ} {c : Option ℕ} → Told (Some (N.Continuing b c))
  another :
      {n : Option Node} → takes C.Body (node_tag n) ≡ false → takes C.Call (node_tag n) ≡ false
      → takes C.Continuing (node_tag n) ≡ false → Told n

pub told : (n : Option Node) → Told n
told None = another refl refl refl
told (Some (N.Unit s)) = another refl refl refl
told (Some N.Empty) = another refl refl refl
told (Some (N.Compound s)) = a_block
told (Some (N.Assignment op l r)) = another refl refl refl
told (Some (N.Increment c)) = another refl refl refl
told (Some (N.Decrement c)) = another refl refl refl
told (Some (N.If s o)) = another refl refl refl
told (Some (N.Switch c s)) = another refl refl refl
told (Some (N.Loop b c)) = another refl refl refl
told (Some (N.For i c u b)) = another refl refl refl
told (Some (N.While c b)) = another refl refl refl
told (Some N.Break) = another refl refl refl
told (Some N.Continue) = another refl refl refl
told (Some (N.Return c)) = another refl refl refl
told (Some N.Discard) = another refl refl refl
told (Some (N.CallStatement c)) = another refl refl refl
told (Some (N.ConstAssert c)) = another refl refl refl
told (Some (N.Declaration k n t c)) = another refl refl refl
told (Some (N.Continuing b c)) = a_continuing
told (Some (N.Literal k w)) = another refl refl refl
told (Some (N.Parenthesized c)) = another refl refl refl
told (Some (N.Unary op c)) = another refl refl refl
told (Some (N.Binary op l r)) = another refl refl refl
told (Some (N.ShortCircuit op l r)) = another refl refl refl
told (Some (N.Name n)) = another refl refl refl
told (Some (N.Call n s)) = a_call
told (Some (N.Function n a b t c s)) = another refl refl refl

-- A construct stands in the table where its tag says
abbrev right_at : List (Option Construct) → ℕ → Bool
right_at [] i = true
right_at (None ∷ cs) i = right_at cs (suc i)
right_at (Some c ∷ cs) i = eqb (tag_of c) i && right_at cs (suc i)

right-place : (cs : List (Option Construct)) (i : ℕ) → right_at cs i ≡ true → (k : ℕ) (c : Construct) → get_or cs k None ≡ Some c → tag_of c ≡ i + k
right-place [] i h k c is = let w : ◌≡◌ {A = ℕ} 0 1 = cc in absurd (omega arith)
right-place (None ∷ cs) i h zero c is = let w : ◌≡◌ {A = ℕ} 0 1 = cc in absurd (omega arith)
right-place (None ∷ cs) i h (suc k) c is = let r = right-place cs (suc i) h k c is in omega arith
right-place (Some d ∷ cs) i h zero c is =
    let q : d ≡ c = cc in
    let t = eqb-true (tag_of d) i (and_parts (eqb (tag_of d) i) (right_at cs (suc i)) h).0 in
    sym (ap tag_of q) ∙ t ∙ omega arith
right-place (Some d ∷ cs) i h (suc k) c is =
    let r = right-place cs (suc i) (and_parts (eqb (tag_of d) i) (right_at cs (suc i)) h).1 k c is in
    omega arith

construct_tag : (t : ℕ) (c : Construct) → construct_of t ≡ Some c → tag_of c ≡ t
unfolding construct_of
construct_tag t c is = right-place constructs 0 refl t c is ∙ omega arith

-- A construct is read as a node of its tag
mapped_tag : {X : Type 0} (f : X → Node) (t : ℕ) (o : Option X) → ((x : X) → node_tag (Some (f x)) ≡ t) → is_some (option_map f o) ≡ true → node_tag (option_map f o) ≡ t
mapped_tag f t None h some = absurd (false≢true some)
mapped_tag f t (Some x) h some = h x

assignment_tag : (n l r : ℕ) → is_some (assignment_node n l r) ≡ true → node_tag (assignment_node n l r) ≡ 3
assignment_tag n l r =
    cond_both {A = Option Node} (eqb n 0) _ _ (λ x. is_some x ≡ true → node_tag x ≡ 3) (λ is some. refl)
    (λ is some. mapped_tag _ 3 (slice_get binary_operators (n - 1)) (λ op. refl) some)

binary_tag : (n l r : ℕ) → is_some (binary_node n l r) ≡ true → node_tag (binary_node n l r) ≡ 35
binary_tag n l r =
    cond_both {A = Option Node} (ltb n 14) _ _ (λ x. is_some x ≡ true → node_tag x ≡ 35)
    (λ is some. mapped_tag _ 35 (slice_get binary_operators n) (λ op. refl) some)
    (λ is some. mapped_tag _ 35 (slice_get short_circuits (n - 14)) (λ op. refl) some)

module _ (ws : List ℕ) where
  read_tag : (p : ℕ) (c : Construct) → is_some (node_of c ws p) ≡ true → node_tag (node_of c ws p) ≡ tag_of c
  read_tag p UnitEntry some = refl
  read_tag p Empty some = refl
  read_tag p Compound some = refl
  read_tag p Assignment some = assignment_tag (get_or ws (p + 1) 0) (get_or ws (p + 2) 0) (get_or ws (p + 3) 0) some
  read_tag p Increment some = refl
  read_tag p Decrement some = refl
  read_tag p If some = refl
  read_tag p Switch some = refl
  read_tag p Loop some = refl
  read_tag p For some = refl
  read_tag p While some = refl
  read_tag p Break some = refl
  read_tag p Continue some = refl
  read_tag p Return some = refl
  read_tag p Discard some = refl
  read_tag p CallStatement some = refl
  read_tag p ConstAssert some = refl
  read_tag p Declaration some = mapped_tag _ 17 (slice_get declaration_kinds (get_or ws (p + 1) 0)) (λ k. refl) some
  read_tag p Continuing some = refl
  read_tag p Literal some = refl
  read_tag p Parenthesized some = refl
  read_tag p Unary some = mapped_tag _ 34 (slice_get unary_operators (get_or ws (p + 1) 0)) (λ op. refl) some
  read_tag p Binary some = binary_tag (get_or ws (p + 1) 0) (get_or ws (p + 2) 0) (get_or ws (p + 3) 0) some
  read_tag p Name some = refl
  read_tag p Call some = refl
  read_tag p Function some = refl

  decoded_tag : (p : ℕ) (o : Option Construct) → o ≡ construct ws p → is_some (decode o ws p) ≡ true → node_tag (decode o ws p) ≡ get_or ws p 0
  decoded_tag p None is some = absurd (false≢true some)
  decoded_tag p (Some c) is some = read_tag p c some ∙ construct_tag (get_or ws p 0) c (sym is)

  -- the tag of an entry is that of its node
  pub node_tag_lem : WellFormed ws → (e : ℕ) → e < entries ws → get_or ws (place ws e) 0 ≡ node_tag (node_at ws e)
  node_tag_lem w e h =
      let n = node_within ws e h (place ws e) refl (construct ws (place ws e)) refl in
      sym
      (ap node_tag n
      ∙ decoded_tag (place ws e) (construct ws (place ws e)) refl (sym (ap is_some n) ∙ every_entry ws e w h))

  -- what a field of a kind takes, the node is of it
  pub taken : WellFormed ws → (kind : Child) (e : ℕ) → e < entries ws → takes kind (get_or ws (place ws e) 0) ≡ true → takes kind (node_tag (node_at ws e)) ≡ true
  taken w kind e lt h = ap (takes kind) (sym (node_tag_lem w e lt)) ∙ h

-- An initializer and an update are statements
abbrev every : (ℕ → Bool) → List ℕ → Bool
every p [] = true
every p (m ∷ ms) = p m && every p ms

one_passes : (p : ℕ → Bool) (t : ℕ) (ms : List ℕ) → one_of t ms ≡ true → every p ms ≡ true → p t ≡ true
one_passes p t [] h all = absurd (false≢true h)
one_passes p t (m ∷ ms) h all =
    let a = and_parts (p m) (every p ms) all in
    ⊎_elim (λ is. ap p (eqb-true t m is) ∙ a.0) (λ is. one_passes p t ms is a.1) (or_cases (eqb t m) (one_of t ms) h)

pub initializer_taken : (t : ℕ) → takes C.Initializer t ≡ true → takes C.Statement t ≡ true
initializer_taken t h = one_passes (takes C.Statement) t (3 ∷ 4 ∷ 5 ∷ 15 ∷ 17 ∷ []) h refl

pub update_taken : (t : ℕ) → takes C.Update t ≡ true → takes C.Statement t ≡ true
update_taken t h = one_passes (takes C.Statement) t (3 ∷ 4 ∷ 5 ∷ 15 ∷ []) h refl

-- The statements are what a field for a statement takes
pub statement_tag : (ws : List ℕ) (n : Option Node) → is_statement (entry_of ws n) ≡ takes C.Statement (node_tag n)
statement_tag ws None = refl
statement_tag ws (Some (N.Unit s)) = refl
statement_tag ws (Some N.Empty) = refl
statement_tag ws (Some (N.Compound s)) = refl
statement_tag ws (Some (N.Assignment op l r)) = refl
statement_tag ws (Some (N.Increment c)) = refl
statement_tag ws (Some (N.Decrement c)) = refl
statement_tag ws (Some (N.If s o)) = refl
statement_tag ws (Some (N.Switch c s)) = refl
statement_tag ws (Some (N.Loop b c)) = refl
statement_tag ws (Some (N.For i c u b)) = refl
statement_tag ws (Some (N.While c b)) = refl
statement_tag ws (Some N.Break) = refl
statement_tag ws (Some N.Continue) = refl
statement_tag ws (Some (N.Return c)) = refl
statement_tag ws (Some N.Discard) = refl
statement_tag ws (Some (N.CallStatement c)) = refl
statement_tag ws (Some (N.ConstAssert c)) = refl
statement_tag ws (Some (N.Declaration k n t c)) = refl
statement_tag ws (Some (N.Continuing b c)) = refl
statement_tag ws (Some (N.Literal k w)) = refl
statement_tag ws (Some (N.Parenthesized c)) = refl
statement_tag ws (Some (N.Unary op c)) = refl
statement_tag ws (Some (N.Binary op l r)) = refl
statement_tag ws (Some (N.ShortCircuit op l r)) = refl
statement_tag ws (Some (N.Name n)) = refl
statement_tag ws (Some (N.Call n s)) = refl
statement_tag ws (Some (N.Function n a b t c s)) = refl
