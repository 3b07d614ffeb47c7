-- The laws of reading: lists of a book, and that every entry of a well formed book is a node.
use Rattle.std.proofs.Common.{◌≡◌, ℕ, zero, suc, ◌+◌, ◌-◌, ◌*◌, ◌<◌, ◌≤◌, min, true, ◌&&◌, eqb, ltb, leb, ◌⊎◌, List, [], ◌∷◌, length, get_or, take, drop, is_some, Some, None, Option, sym, refl, ap, ◌∙◌, subst, ⊎_elim, arith, length-drop, length-take, get_or-drop, get_or-take}
use Rattle.std.specs.Option.{option_map}
use Rattle.std.specs.List.{slice_get}
use Rattle.std.proofs.lemmas.Option.{slice_get-get_or, slice_get_past}
use Rattle.std.proofs.lemmas.Bool.{and_parts, cond_both, cond-false, cond-true, leb-true, le-ltb, lt-ltb, ltb-false, ltb-true}
use Rattle.syntax.specs.Numbers.{binary_operators, declaration_kinds, short_circuits, unary_operators}
use Rattle.layout.specs.Layout.{construct, entries, place}
use Rattle.book.specs.Nodes.{assignment_node, binary_node, decode, listed, node_at, paired, twos}
use Rattle.shape.specs.Shapes.{fits, layout_of, shape_of}
use Rattle.layout.specs.WellFormed.{EachField, WellFormed}
use Rattle.book.specs.declared.node.Items.{Items}
use Rattle.book.specs.declared.node.Node.{Node}
use Rattle.book.specs.declared.node.Node.TheVariants as N
use Rattle.book.specs.declared.node.Pairs.{Pairs}
use Rattle.shape.specs.declared.Construct.{Construct}
use Rattle.shape.specs.declared.Construct.TheVariants.{Unit as UnitEntry, Empty, Compound, Assignment, Increment, Decrement, If, Switch, Loop, For, While, Break, Continue, Return, Discard, CallStatement, ConstAssert, Declaration, Continuing, Literal, Parenthesized, Unary, Binary, Name, Call, Function}
use Rattle.shape.specs.declared.Field.TheVariants as F

-- The n words from s on
module _ (ws : List ℕ) (s n : ℕ) where
  part_length : length (take n (drop s ws)) ≡ min n (length ws - s)
  part_length = length-take n (drop s ws) ∙ ap (min n) (length-drop s ws)

  part_at : (i : ℕ) → i < n → get_or (take n (drop s ws)) i 0 ≡ get_or ws (s + i) 0
  part_at i h = get_or-take n (drop s ws) i 0 h ∙ get_or-drop s ws i 0

  pub listed_at : (i : ℕ) → i < n → s + i < length ws → slice_get (take n (drop s ws)) i ≡ Some (get_or ws (s + i) 0)
  listed_at i h k =
      let l = part_length in
      slice_get-get_or (take n (drop s ws)) i 0 (omega arith) ∙ ap Some (part_at i h)

  pub listed_past : (i : ℕ) → (n ≤ i) ⊎ (length ws ≤ s + i) → slice_get (take n (drop s ws)) i ≡ None
  listed_past i h =
      let l = part_length in
      slice_get_past (take n (drop s ws)) i (⊎_elim (λ a. omega arith) (λ b. omega arith) h)

-- Pairs
twos-at : (xs : List ℕ) (i : ℕ) → 2 * i + 1 < length xs → slice_get (twos xs) i ≡ Some (get_or xs (2 * i) 0, get_or xs (2 * i + 1) 0)
twos-at [] i h = absurd (omega arith)
twos-at (a ∷ []) i h = absurd (omega arith)
twos-at (a ∷ b ∷ xs) zero h = refl
twos-at (a ∷ b ∷ xs) (suc i) h =
    let u : 2 * suc i ≡ suc (suc (2 * i)) = omega arith in
    let v : 2 * suc i + 1 ≡ suc (suc (2 * i + 1)) = omega arith in
    let x : get_or (a ∷ b ∷ xs) (2 * suc i) 0 ≡ get_or xs (2 * i) 0 = ap (λ k. get_or (a ∷ b ∷ xs) k 0) u in
    let y : get_or (a ∷ b ∷ xs) (2 * suc i + 1) 0 ≡ get_or xs (2 * i + 1) 0 = ap (λ k. get_or (a ∷ b ∷ xs) k 0) v in
    let r = twos-at xs i (omega arith) in
    cc

twos_past : (xs : List ℕ) (i : ℕ) → length xs ≤ 2 * i + 1 → slice_get (twos xs) i ≡ None
twos_past [] i h = refl
twos_past (a ∷ []) i h = refl
twos_past (a ∷ b ∷ xs) zero h = absurd (omega arith)
twos_past (a ∷ b ∷ xs) (suc i) h = twos_past xs i (omega arith)

module _ (ws : List ℕ) (s n : ℕ) where
  pub paired_at : (i : ℕ) → i < n → s + 2 * i + 1 < length ws → slice_get (twos (take (2 * n) (drop s ws))) i ≡ Some (get_or ws (s + 2 * i) 0, get_or ws (s + 2 * i + 1) 0)
  paired_at i h k =
      let l = part_length ws s (2 * n) in
      let a = part_at ws s (2 * n) (2 * i) (omega arith) in
      let b = part_at ws s (2 * n) (2 * i + 1) (omega arith) in
      let e : s + (2 * i + 1) ≡ s + 2 * i + 1 = omega arith in
      let r = twos-at (take (2 * n) (drop s ws)) i (omega arith) in
      let f = ap (λ k. get_or ws k 0) e in
      cc

  pub paired_past : (i : ℕ) → (n ≤ i) ⊎ (length ws ≤ s + 2 * i + 1) → slice_get (twos (take (2 * n) (drop s ws))) i ≡ None
  paired_past i h =
      let l = part_length ws s (2 * n) in
      twos_past (take (2 * n) (drop s ws)) i (⊎_elim (λ a. omega arith) (λ b. omega arith) h)

-- A number that fits its field names an operator or a kind
nth_some : {X Y : Type 0} (f : X → Y) (xs : List X) (i : ℕ) → i < length xs → is_some (option_map f (slice_get xs i)) ≡ true
nth_some f [] i h = absurd (omega arith)
nth_some f (x ∷ xs) zero h = refl
nth_some f (x ∷ xs) (suc i) h = nth_some f xs i (omega arith)

some_assignment : (n l r : ℕ) → n ≤ 8 → is_some (assignment_node n l r) ≡ true
some_assignment n l r h =
    cond_both {A = Option Node} (eqb n 0) _ _ (λ x. is_some x ≡ true) (λ is. refl)
    (λ is. nth_some (λ op. N.Assignment (Some op) l r) binary_operators (n - 1) (omega arith))

some-binary : (n l r : ℕ) → n ≤ 15 → is_some (binary_node n l r) ≡ true
some-binary n l r h =
    cond_both {A = Option Node} (ltb n 14) _ _ (λ x. is_some x ≡ true)
    (λ is. let b = ltb-true n 14 is in nth_some (λ op. N.Binary op l r) binary_operators n (omega arith))
    (λ is. let b = ltb-false n 14 is in nth_some (λ op. N.ShortCircuit op l r) short_circuits (n - 14) (omega arith))

module _ (ws : List ℕ) (p : ℕ) (fitting : EachField (λ f w. fits f w ≡ true) ws p) where
  first_field :
      (c : Construct) (least most : ℕ) → construct ws p ≡ Some c
      → slice_get (layout_of c).head 0 ≡ Some (F.Number least most) → get_or ws (p + 1) 0 ≤ most
  first_field c least most is number =
      let h = fitting.in_head 0 (F.Number least most) (subst (λ (o : Option Construct). slice_get (shape_of o).head 0 ≡ Some (F.Number least most)) (sym is) number) in
      let e : p + 1 + 0 ≡ p + 1 = omega arith in
      let g : (leb least (get_or ws (p + 1) 0) && leb (get_or ws (p + 1) 0) most) ≡ true = sym (ap (λ k. fits (F.Number least most) (get_or ws k 0)) e) ∙ h in
      leb-true (get_or ws (p + 1) 0) most (and_parts (leb least (get_or ws (p + 1) 0)) _ g).1

  every_node : (o : Option Construct) → construct ws p ≡ o → is_some o ≡ true → is_some (decode o ws p) ≡ true
  every_node None is h = h
  every_node (Some UnitEntry) is h = refl
  every_node (Some Empty) is h = refl
  every_node (Some Compound) is h = refl
  every_node (Some Assignment) is h =
      some_assignment (get_or ws (p + 1) 0) (get_or ws (p + 2) 0) (get_or ws (p + 3) 0)
      (first_field Assignment 0 8 is refl)
  every_node (Some Increment) is h = refl
  every_node (Some Decrement) is h = refl
  every_node (Some If) is h = refl
  every_node (Some Switch) is h = refl
  every_node (Some Loop) is h = refl
  every_node (Some For) is h = refl
  every_node (Some While) is h = refl
  every_node (Some Break) is h = refl
  every_node (Some Continue) is h = refl
  every_node (Some Return) is h = refl
  every_node (Some Discard) is h = refl
  every_node (Some CallStatement) is h = refl
  every_node (Some ConstAssert) is h = refl
  every_node (Some Declaration) is h =
      let b = first_field Declaration 0 2 is refl in
      nth_some _ declaration_kinds (get_or ws (p + 1) 0) (omega arith)
  every_node (Some Continuing) is h = refl
  every_node (Some Literal) is h = refl
  every_node (Some Parenthesized) is h = refl
  every_node (Some Unary) is h =
      let b = first_field Unary 0 2 is refl in
      nth_some _ unary_operators (get_or ws (p + 1) 0) (omega arith)
  every_node (Some Binary) is h =
      some-binary (get_or ws (p + 1) 0) (get_or ws (p + 2) 0) (get_or ws (p + 3) 0) (first_field Binary 0 15 is refl)
  every_node (Some Name) is h = refl
  every_node (Some Call) is h = refl
  every_node (Some Function) is h = refl

-- The node of an entry
module _ (ws : List ℕ) (e : ℕ) where
  pub node_past : entries ws ≤ e → node_at ws e ≡ None
  unfolding node_at
  node_past h = cond-false _ _ _ (le-ltb e (entries ws) h)

  pub node_within : e < entries ws → (q : ℕ) → q ≡ place ws e → (o : Option Construct) → o ≡ construct ws q → node_at ws e ≡ decode o ws q
  unfolding node_at
  node_within h q here o is =
      cond-true _ _ _ (lt-ltb e (entries ws) h) ∙ ap (λ p. decode (construct ws p) ws p) (sym here) ∙ ap (λ c. decode c ws q) (sym is)

  pub every_entry : WellFormed ws → e < entries ws → is_some (node_at ws e) ≡ true
  every_entry w h =
      ap is_some (node_within h (place ws e) refl (construct ws (place ws e)) refl)
      ∙ every_node ws (place ws e) (w.fields e h) (construct ws (place ws e)) refl (w.tags e h)

-- No list is longer than its span says
pub listed-length : (ws : List ℕ) (s : Items) → length (listed ws s) ≤ s.count
listed-length ws s = let l = part_length ws s.start s.count in omega arith

twos-length : (xs : List ℕ) → 2 * length (twos xs) ≤ length xs
twos-length [] = omega arith
twos-length (a ∷ []) = omega arith
twos-length (a ∷ b ∷ xs) = let r = twos-length xs in omega arith

pub paired-length : (ws : List ℕ) (s : Pairs) → length (paired ws s) ≤ s.count
paired-length ws s =
    let l = part_length ws s.start (2 * s.count) in
    let t = twos-length (take (2 * s.count) (drop s.start ws)) in
    omega arith
