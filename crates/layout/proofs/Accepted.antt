-- The words that the walk accepts are the well formed ones.
use Rattle.std.proofs.Common.{◌≡◌, ℕ, zero, suc, ◌+◌, ◌-◌, ◌*◌, ◌<◌, Bool, true, false, cond, not, List, [], ◌∷◌, length, get_or, is_some, is_ok, Some, None, Decides, Option, Result, sym, refl, ap, ◌∙◌, ⊎_elim, mul-zero, mul-one, mul-add, arith}
use Rattle.std.specs.List.{slice_get}
use Rattle.std.proofs.lemmas.Option.{none-some, same_Some}
use Rattle.std.proofs.lemmas.Bool.{and_from, and_parts, cases_Bool, cases_eq, ltb-false, true≢false}
use Rattle.std.specs.Option.{option_or}
use Rattle.layout.specs.Layout.{body_passes, end, entries, groups, groups_from, groups_pass, place, run_passes, shape, tail_from}
use Rattle.shape.specs.Shapes.{fits}
use Rattle.layout.specs.Verdict.{accepted, answer, at, child_fault, child_fits, first, layout_fault, left_over, refusal, sized, verdict}
use Rattle.layout.specs.WellFormed.{EachField, WellFormed}
use Rattle.layout.specs.declared.error.BookError.{BookError}
use Rattle.layout.specs.declared.error.BookFault.TheVariants.{BadLength, WrongChild}
use Rattle.shape.specs.declared.Field.{Field}
use Rattle.layout.proofs.Bodies.{known_end}
use Rattle.layout.proofs.Firsts.{cond_is_none, neither}
use Rattle.layout.proofs.Refusals.{Laid, child_fine, each_first, first_each, laid, none_left, refused-children, refused-next, refused-sized, sizes, unlaid, unsized}

module _ (t : Field → ℕ → Bool) (ws : List ℕ) where
  -- a run of fields passes where each of them does
  run_each : (fs : List Field) (q k : ℕ) (f : Field) → run_passes t fs ws q ≡ true → slice_get fs k ≡ Some f → t f (get_or ws (q + k) 0) ≡ true
  unfolding run_passes
  run_each [] q k f h is = absurd (none-some f is)
  run_each (x ∷ fs) q zero f h is =
      let a = and_parts (t x (get_or ws q 0)) (run_passes t fs ws (q + 1)) h in
      let v : q + 0 ≡ q = omega arith in
      ap (λ i. t f (get_or ws i 0)) v ∙ ap (λ y. t y (get_or ws q 0)) (sym (same_Some x f is)) ∙ a.0
  run_each (x ∷ fs) q (suc k) f h is =
      let a = and_parts (t x (get_or ws q 0)) (run_passes t fs ws (q + 1)) h in
      let v : q + suc k ≡ q + 1 + k = omega arith in
      ap (λ i. t f (get_or ws i 0)) v ∙ run_each fs (q + 1) k f a.1 is

  each_run : (fs : List Field) (q : ℕ) → ((k : ℕ) (f : Field) → slice_get fs k ≡ Some f → t f (get_or ws (q + k) 0) ≡ true) → run_passes t fs ws q ≡ true
  unfolding run_passes
  each_run [] q h = refl
  each_run (x ∷ fs) q h =
      let v : q + 0 ≡ q = omega arith in
      and_from (t x (get_or ws q 0)) _ (sym (ap (λ i. t x (get_or ws i 0)) v) ∙ h 0 x refl)
      (each_run fs (q + 1)
      (λ k f is.
      let u : q + 1 + k ≡ q + suc k = omega arith in
      ap (λ i. t f (get_or ws i 0)) u ∙ h (suc k) f is))

  -- groups pass where each of their fields does
  group_each : (fs : List Field) (n q j i : ℕ) (f : Field) → groups_pass t fs ws q n ≡ true → j < n → slice_get fs i ≡ Some f → t f (get_or ws (q + length fs * j + i) 0) ≡ true
  unfolding groups_pass
  group_each fs zero q j i f h l is = absurd (omega arith)
  group_each fs (suc n) q j i f h l is =
      let g = length fs in
      let a = and_parts (run_passes t fs ws q) (groups_pass t fs ws (q + g) n) h in
      ⊎_elim
      (λ z.
      let o : g * j ≡ 0 = ap (λ x. g * x) z ∙ mul-zero g in
      let v : q + g * j + i ≡ q + i = omega arith in
      ap (λ x. t f (get_or ws x 0)) v ∙ run_each fs q i f a.0 is)
      (λ nz.
      let e : j ≡ 1 + (j - 1) = omega arith in
      let o : g * j ≡ g + g * (j - 1) = ap (λ x. g * x) e ∙ mul-add g 1 (j - 1) ∙ ap (λ x. x + g * (j - 1)) (mul-one g) in
      let v : q + g * j + i ≡ q + g + g * (j - 1) + i = omega arith in
      ap (λ x. t f (get_or ws x 0)) v ∙ group_each fs n (q + g) (j - 1) i f a.1 (omega arith) is)
      (cases_eq j 0)

  each_group : (fs : List Field) (n q : ℕ) → ((j i : ℕ) (f : Field) → j < n → slice_get fs i ≡ Some f → t f (get_or ws (q + length fs * j + i) 0) ≡ true) → groups_pass t fs ws q n ≡ true
  unfolding groups_pass
  each_group fs zero q h = refl
  each_group fs (suc n) q h =
      let g = length fs in
      and_from (run_passes t fs ws q) _
      (each_run fs q
      (λ i f is.
      let o = mul-zero g in
      let v : q + i ≡ q + g * 0 + i = omega arith in
      ap (λ x. t f (get_or ws x 0)) v ∙ h 0 i f (omega arith) is))
      (each_group fs n (q + g)
      (λ j i f l is.
      let e : j + 1 ≡ 1 + j = omega arith in
      let o : g * (j + 1) ≡ g + g * j = ap (λ x. g * x) e ∙ mul-add g 1 j ∙ ap (λ x. x + g * j) (mul-one g) in
      let v : q + g + g * j + i ≡ q + g * (j + 1) + i = omega arith in
      ap (λ x. t f (get_or ws x 0)) v ∙ h (j + 1) i f (omega arith) is))

  pub body_each : (p : ℕ) → body_passes t ws p ≡ true → EachField (λ f w. t f w ≡ true) ws p
  unfolding body_passes
  body_each p h =
      let a = and_parts (run_passes t (shape ws p).head ws (p + 1)) _ h in
      let b = and_parts (groups_pass t (shape ws p).group ws (groups_from ws p) (groups ws p)) _ a.1 in
      record {
        in_head = λ i f is. run_each (shape ws p).head (p + 1) i f a.0 is;
        in_groups = λ j i f l is. group_each (shape ws p).group (groups ws p) (groups_from ws p) j i f b.0 l is;
        in_tail = λ i f is. run_each (shape ws p).tail (tail_from ws p) i f b.1 is;
      }

  pub each_body : (p : ℕ) → EachField (λ f w. t f w ≡ true) ws p → body_passes t ws p ≡ true
  unfolding body_passes
  each_body p r =
      and_from (run_passes t (shape ws p).head ws (p + 1)) _ (each_run (shape ws p).head (p + 1) r.in_head)
      (and_from (groups_pass t (shape ws p).group ws (groups_from ws p) (groups ws p)) _
      (each_group (shape ws p).group (groups ws p) (groups_from ws p) r.in_groups)
      (each_run (shape ws p).tail (tail_from ws p) r.in_tail))

-- the tests of the children and of the words left over, undone
child_passed : (b : Bool) → cond b None (Some WrongChild) ≡ None → b ≡ true
child_passed true h = refl
child_passed false h = let w : ◌≡◌ {A = ℕ} 0 1 = cc in absurd (omega arith)

child_passes : (ws : List ℕ) (e : ℕ) → child_fault ws e ≡ None → body_passes (child_fits ws e) ws (place ws e) ≡ true
unfolding child_fault
child_passes ws e h = child_passed (body_passes (child_fits ws e) ws (place ws e)) h

module _ (ws : List ℕ) where
  pub well_sized : refusal ws ≡ None → sized ws ≡ true
  well_sized h =
      ⊎_elim (λ y. y)
      (λ n. let z : Some (at BadLength 0) ≡ None = sym (refused-sized ws n) ∙ h in let w : ◌≡◌ {A = ℕ} 0 1 = cc in absurd (omega arith))
      (cases_Bool (sized ws))

  pub well_formed : refusal ws ≡ None → WellFormed ws
  well_formed h =
      let y = well_sized h in
      let s = sizes ws y in
      let a = neither (first (layout_fault ws) 0 (entries ws)) _ (sym (refused-next ws y) ∙ h) in
      let b = neither (left_over ws) _ a.1 in
      let l : (e : ℕ) → e < entries ws → Laid ws e = λ e m. laid ws e (first_each (layout_fault ws) (entries ws) 0 e a.0 (omega arith) (omega arith)) in
      let last = l (entries ws - 1) (omega arith) in
      let over = ltb-false (end ws (place ws (entries ws - 1))) (length ws) (cond_is_none _ _ None b.0).0 in
      record {
        some = s.some;
        few = s.few;
        room = s.room;
        short = s.short;
        starts = λ e m. (l e m).here;
        ends = omega (arith, last.whole);
        within = λ e m. (l e m).whole;
        tags = λ e m. (l e m).named;
        unit = λ e m. (l e m).unit;
        fields = λ e m. body_each fits ws (place ws e) (l e m).fields;
        children =
            λ e m. body_each (child_fits ws e) ws (place ws e)
            (child_passes ws e (first_each (child_fault ws) (entries ws) 0 e b.1 (omega arith) (omega arith)));
      }

  module _ (w : WellFormed ws) where
    formed_sized : sized ws ≡ true
    formed_sized = unsized ws (record { some = w.some; few = w.few; room = w.room; short = w.short })

    formed_laid : (e : ℕ) → e < entries ws → Laid ws e
    formed_laid e m =
        let r = known_end ws (place ws e) (w.tags e m) in
        let b = w.within e m in
        record {
          here = w.starts e m;
          inside = omega arith;
          named = w.tags e m;
          whole = w.within e m;
          unit = w.unit e m;
          fields = each_body fits ws (place ws e) (w.fields e m);
        }

    pub formed : refusal ws ≡ None
    formed =
        refused-children ws formed_sized
        (ap (λ o. option_or o (left_over ws)) (each_first (layout_fault ws) (entries ws) 0 (λ k a b. unlaid ws k (formed_laid k (omega arith))))
        ∙ none_left ws (length ws) (sym w.ends) (omega arith))
        ∙ each_first (child_fault ws) (entries ws) 0
        (λ k a b. child_fine ws k (place ws k) refl (each_body (child_fits ws k) ws (place ws k) (w.children k (omega arith))))

  -- what a book's invariant says
  unrefused : (o : Option BookError) → not (is_some o) ≡ true → o ≡ None
  unrefused None h = refl
  unrefused (Some b) h = absurd (true≢false (sym h))

  pub loaded : accepted ws ≡ true → WellFormed ws
  loaded h = well_formed (unrefused (refusal ws) h)

  -- the verdict is Ok exactly of the well formed
  ok_none : (o : Option BookError) → is_ok (answer o) ≡ true → o ≡ None
  ok_none None h = refl
  ok_none (Some b) h = absurd (true≢false (sym h))

  pub judged : (r : Result (Unit {0}) BookError) → r ≡ verdict ws → Decides (is_ok r) (WellFormed ws)
  judged r v =
      ((λ h. well_formed (ok_none (refusal ws) (sym (ap is_ok v) ∙ h))), (λ w. ap is_ok (v ∙ ap answer (formed w))))
