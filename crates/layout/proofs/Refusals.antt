-- The laws of the refusals: which test decides about an entry, and the first entry that is refused.
use Rattle.std.proofs.Common.{◌≡◌, ℕ, ◌+◌, ◌-◌, ◌<◌, ◌≤◌, true, false, cond, not, ◌||◌, eqb, ltb, leb, ◌⊎◌, List, length, get_or, is_some, Some, None, Ok, Err, Option, sym, refl, ap, ◌∙◌, ⊎_elim, add-one, arith}
use Rattle.std.proofs.lemmas.Bool.{and_from, and_parts, cond-false, cond-true, eq-eqb, eqb-true, le-leb, le-ltb, leb-false, leb-true, lt-ltb, ltb-false, ne_eqb, not-false, not_from_false, not_from_true, or_from, or_left, or_parts, or_right}
use Rattle.std.specs.Option.{option_or}
use Rattle.layout.specs.Layout.{body_passes, construct, end, entries, place, start}
use Rattle.shape.specs.Shapes.{fits}
use Rattle.layout.specs.Verdict.{answer, at, body_fault, child_fault, child_fits, first, layout_fault, left_over, located, misplaced, refusal, sized}
use Rattle.layout.proofs.Bodies.{body_there}
use Rattle.layout.proofs.Firsts.{cond_is_none, mapped_is_none, neither}
use Rattle.layout.proofs.Firsts as some
use Rattle.layout.specs.declared.error.BookError.{BookError}
use Rattle.layout.specs.declared.error.BookFault.{BookFault}
use Rattle.layout.specs.declared.error.BookFault.TheVariants.{BadField, BadLength, BadPlace, WrongChild}

-- A fault stays what it is, whatever comes behind it
kept : (e : ℕ) (o r : Option BookFault) (b : BookError) → located e o ≡ Some b → located e (option_or o r) ≡ Some b
kept e None r b h = cc
kept e (Some f) r b h = h

-- The body of entry e, which has to stand at q
module _ (ws : List ℕ) (e q : ℕ) (starts : q ≡ start ws e) where
  pub elsewhere : (place ws e ≡ q → ⊥) → layout_fault ws e ≡ Some BadPlace
  unfolding layout_fault
  elsewhere ne = cond-true _ _ _ (not_from_false _ (ne_eqb (place ws e) (start ws e) (λ same. ne (same ∙ sym starts))))

  module _ (here : place ws e ≡ q) where
    layout_left : layout_fault ws e ≡ option_or (body_fault ws q) (cond (misplaced e (get_or ws q 0) || not (body_passes fits ws q)) (Some BadField) None)
    unfolding layout_fault
    layout_left =
        cond-false _ _ _ (not_from_true _ (eq-eqb _ _ (here ∙ starts)))
        ∙ ap (λ p. option_or (body_fault ws p) (cond (misplaced e (get_or ws p 0) || not (body_passes fits ws p)) (Some BadField) None)) here

    pub faulty : (b : BookError) → located e (body_fault ws q) ≡ Some b → located e (layout_fault ws e) ≡ Some b
    faulty b h = ap (located e) layout_left ∙ kept e (body_fault ws q) _ b h

    module _ (whole : body_fault ws q ≡ None) where
      fields_left : layout_fault ws e ≡ cond (misplaced e (get_or ws q 0) || not (body_passes fits ws q)) (Some BadField) None
      fields_left = layout_left ∙ ap (λ o. option_or o (cond (misplaced e (get_or ws q 0) || not (body_passes fits ws q)) (Some BadField) None)) whole

      pub unfit : (misplaced e (get_or ws q 0) ≡ true) ⊎ (body_passes fits ws q ≡ false) → layout_fault ws e ≡ Some BadField
      unfit h =
          fields_left
          ∙ cond-true (misplaced e (get_or ws q 0) || not (body_passes fits ws q)) _ _
          (⊎_elim (λ m. or_left (misplaced e (get_or ws q 0)) (not (body_passes fits ws q)) m)
          (λ b. or_right (misplaced e (get_or ws q 0)) (not (body_passes fits ws q)) (not_from_false _ b))
          h)

      pub fine : misplaced e (get_or ws q 0) ≡ false → body_passes fits ws q ≡ true → layout_fault ws e ≡ None
      fine m b = fields_left ∙ cond-false _ _ _ (or_from _ _ m (not_from_true _ b))

-- The first entry with a fault
module _ (f : ℕ → Option BookFault) where
  abbrev at_each : ℕ → Option BookError
  at_each e = located e (f e)

  pub first_more : (e n : ℕ) → e < n → f e ≡ None → first f (e + 1) (n - (e + 1)) ≡ first f e (n - e)
  first_more e n h none = some.first_more at_each e n h (ap (located e) none)

  pub first_hit : (e n : ℕ) (b : BookError) → e < n → located e (f e) ≡ Some b → first f e (n - e) ≡ Some b
  first_hit e n b h is = some.first_hit at_each e n b h is

  pub first-none : (e n : ℕ) → n ≤ e → first f e (n - e) ≡ None
  first-none e n h = some.first-none at_each e n h

  pub first_each : (n e k : ℕ) → first f e n ≡ None → e ≤ k → k < e + n → f k ≡ None
  first_each n e k h a b = mapped_is_none (λ b. at b k) (f k) (some.first_each at_each n e k h a b)

  pub each_first : (n e : ℕ) → ((k : ℕ) → e ≤ k → k < e + n → f k ≡ None) → first f e n ≡ None
  each_first n e h = some.each_first at_each n e (λ k a b. ap (located k) (h k a b))

pub start_more : (ws : List ℕ) (e : ℕ) → start ws (e + 1) ≡ end ws (place ws e)
start_more ws e = ap (start ws) (add-one e)

-- What holds of an entry whose body has no fault
pub record Laid (ws : List ℕ) (e : ℕ) : Type 0 where
  pub here : place ws e ≡ start ws e
  pub inside : place ws e < length ws
  pub named : is_some (construct ws (place ws e)) ≡ true
  pub whole : end ws (place ws e) ≤ length ws
  pub unit : misplaced e (get_or ws (place ws e) 0) ≡ false
  pub fields : body_passes fits ws (place ws e) ≡ true

whole-body : (ws : List ℕ) (p : ℕ) → body_fault ws p ≡ None → (p < length ws) × (is_some (construct ws p) ≡ true) × (end ws p ≤ length ws)
whole-body ws p h =
    let a = cond_is_none (leb (length ws) p) BadPlace _ h in
    let b = cond_is_none (not (is_some (construct ws p))) BadField _ a.1 in
    let c = cond_is_none (ltb (length ws) (end ws p)) BadPlace _ b.1 in
    (leb-false (length ws) p a.0, not-false _ b.0, ltb-false (length ws) (end ws p) c.0)

pub laid : (ws : List ℕ) (e : ℕ) → layout_fault ws e ≡ None → Laid ws e
unfolding layout_fault
laid ws e h =
    let a = cond_is_none (not (eqb (place ws e) (start ws e))) BadPlace _ h in
    let b = neither (body_fault ws (place ws e)) _ a.1 in
    let c = whole-body ws (place ws e) b.0 in
    let d = cond_is_none (misplaced e (get_or ws (place ws e) 0) || not (body_passes fits ws (place ws e))) BadField _ b.1 in
    let f = or_parts (misplaced e (get_or ws (place ws e) 0)) (not (body_passes fits ws (place ws e))) d.0 in
    record {
      here = eqb-true _ _ (not-false _ a.0);
      inside = c.0;
      named = c.1;
      whole = c.2;
      unit = f.0;
      fields = not-false _ f.1;
    }

pub unlaid : (ws : List ℕ) (e : ℕ) → Laid ws e → layout_fault ws e ≡ None
unlaid ws e l = fine ws e (place ws e) l.here refl (body_there ws (place ws e) l.inside l.named l.whole) l.unit l.fields

-- The body of an entry with no fault is there
pub laid_body : (ws : List ℕ) (e : ℕ) → layout_fault ws e ≡ None → body_fault ws (place ws e) ≡ None
laid_body ws e h = let l = laid ws e h in body_there ws (place ws e) l.inside l.named l.whole

-- What holds of words that are sized
pub record Sized (ws : List ℕ) : Type 0 where
  pub some : 1 ≤ entries ws
  pub few : entries ws ≤ 4096
  pub room : entries ws + 1 ≤ length ws
  pub short : length ws ≤ 65535

pub sizes : (ws : List ℕ) → sized ws ≡ true → Sized ws
sizes ws h =
    let a = and_parts (leb 1 (entries ws)) _ h in
    let b = and_parts (leb (entries ws) 4096) _ a.1 in
    let c = and_parts (leb (entries ws + 1) (length ws)) _ b.1 in
    record {
      some = leb-true 1 (entries ws) a.0;
      few = leb-true (entries ws) 4096 b.0;
      room = leb-true (entries ws + 1) (length ws) c.0;
      short = leb-true (length ws) 65535 c.1;
    }

pub unsized : (ws : List ℕ) → Sized ws → sized ws ≡ true
unsized ws s =
    and_from (leb 1 (entries ws)) _ (le-leb 1 (entries ws) s.some)
    (and_from (leb (entries ws) 4096) _ (le-leb (entries ws) 4096 s.few)
    (and_from (leb (entries ws + 1) (length ws)) _ (le-leb (entries ws + 1) (length ws) s.room)
    (le-leb (length ws) 65535 s.short)))

-- The parts of the verdict, in their order
module _ (ws : List ℕ) where
  pub refused-sized : sized ws ≡ false → refusal ws ≡ Some (at BadLength 0)
  unfolding refusal
  refused-sized h =
      ap (λ o. option_or o (option_or (first (layout_fault ws) 0 (entries ws)) (option_or (left_over ws) (first (child_fault ws) 0 (entries ws)))))
      (cond-false (sized ws) None (Some (at BadLength 0)) h)

  module _ (h : sized ws ≡ true) where
    pub refused-next : refusal ws ≡ option_or (first (layout_fault ws) 0 (entries ws)) (option_or (left_over ws) (first (child_fault ws) 0 (entries ws)))
    unfolding refusal
    refused-next =
        ap (λ o. option_or o (option_or (first (layout_fault ws) 0 (entries ws)) (option_or (left_over ws) (first (child_fault ws) 0 (entries ws)))))
        (cond-true (sized ws) None (Some (at BadLength 0)) h)

  or_assoc : (a b c : Option BookError) → option_or (option_or a b) c ≡ option_or a (option_or b c)
  or_assoc None b c = refl
  or_assoc (Some x) b c = refl

  -- the layout is refused
  pub refused_layout : (b : BookError) → sized ws ≡ true → option_or (first (layout_fault ws) 0 (entries ws)) (left_over ws) ≡ Some b → refusal ws ≡ Some b
  refused_layout b h e =
      refused-next h ∙ sym (or_assoc (first (layout_fault ws) 0 (entries ws)) (left_over ws) _)
      ∙ ap (λ o. option_or o (first (child_fault ws) 0 (entries ws))) e

  pub refused-children : sized ws ≡ true → option_or (first (layout_fault ws) 0 (entries ws)) (left_over ws) ≡ None → refusal ws ≡ first (child_fault ws) 0 (entries ws)
  refused-children h e =
      refused-next h ∙ sym (or_assoc (first (layout_fault ws) 0 (entries ws)) (left_over ws) _)
      ∙ ap (λ o. option_or o (first (child_fault ws) 0 (entries ws))) e

-- An answer tells its refusal
pub answer_ok : (o : Option BookError) → Ok tt ≡ answer o → o ≡ None
answer_ok None h = refl
answer_ok (Some b) h = let w : ◌≡◌ {A = ℕ} 0 1 = cc in absurd (omega arith)

pub answer_err : (o : Option BookError) (b : BookError) → Err b ≡ answer o → o ≡ Some b
answer_err None b h = let w : ◌≡◌ {A = ℕ} 0 1 = cc in absurd (omega arith)
answer_err (Some x) b h = cc

-- Behind the last body
pub start-last : (ws : List ℕ) (e : ℕ) → e ≡ entries ws → 1 ≤ entries ws → start ws e ≡ end ws (place ws (entries ws - 1))
start-last ws e is h =
    let i : e ≡ entries ws - 1 + 1 = omega arith in
    ap (start ws) i ∙ start_more ws (entries ws - 1)

pub left_over_lem : (ws : List ℕ) (q n : ℕ) → n ≡ entries ws → q ≡ end ws (place ws (entries ws - 1)) → q < length ws → left_over ws ≡ Some (at BadPlace (n - 1))
left_over_lem ws q n m is h =
    cond-true _ _ _ (lt-ltb (end ws (place ws (entries ws - 1))) (length ws) (omega arith)) ∙ ap (λ k. Some (at BadPlace (k - 1))) (sym m)

pub none_left : (ws : List ℕ) (q : ℕ) → q ≡ end ws (place ws (entries ws - 1)) → length ws ≤ q → left_over ws ≡ None
none_left ws q is h = cond-false _ _ _ (le-ltb (end ws (place ws (entries ws - 1))) (length ws) (omega arith))

-- The children of one entry
module _ (ws : List ℕ) (e q : ℕ) (here : q ≡ place ws e) where
  pub child_wrong : body_passes (child_fits ws e) ws q ≡ false → child_fault ws e ≡ Some WrongChild
  unfolding child_fault
  child_wrong h = cond-false _ _ _ (ap (body_passes (child_fits ws e) ws) (sym here) ∙ h)

  pub child_fine : body_passes (child_fits ws e) ws q ≡ true → child_fault ws e ≡ None
  unfolding child_fault
  child_fine h = cond-true _ _ _ (ap (body_passes (child_fits ws e) ws) (sym here) ∙ h)
