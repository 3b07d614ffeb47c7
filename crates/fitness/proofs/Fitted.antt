-- What is below an entry, and when a book is fit.
use Rattle.std.proofs.Common.{◌≡◌, ℕ, zero, suc, ◌-◌, ◌<◌, ◌≤◌, Bool, true, false, cond, not, ◌&&◌, ◌||◌, List, [], ◌∷◌, Some, None, Option, sym, refl, ap, ◌∙◌, arith}
use Rattle.std.specs.Option.{option_map, option_or}
use Rattle.std.specs.List.{slice_get}
use Rattle.std.proofs.lemmas.Bool.{cond-false, or_from, or_parts, true≢false}
use Rattle.layout.specs.First.{first_some}
use Rattle.layout.specs.Layout.{entries}
use Rattle.layout.specs.WellFormed.{WellFormed}
use Rattle.layout.proofs.Firsts.{cond_is_none, each_first, first_each, mapped_is_none, neither}
use Rattle.behavior.specs.Below.{Below, IsBelow, children_of, earlier, earliest, is_bare, is_leaving, is_valued, itself, least, leaving, returning, through}
use Rattle.control.specs.Control.{control}
use Rattle.fitness.specs.Fit.{Fit, FitFunction, fault_at, fault_of, function_fault, unfit}
use Rattle.behavior.specs.Rules.{behavior, beyond_next}
use Rattle.behavior.specs.Summaries.{After, summary}
use Rattle.control.specs.declared.Control.{Control}
use Rattle.control.specs.declared.Control.TheVariants.{Break, Continue, Continuing, Forever, Function, If, Loop, Other, Plain, Return, Sequence, Switch, While}
use Rattle.fitness.specs.declared.fault.Reason.TheVariants.{LeavingContinuing, MissingValue, UnexpectedValue}
use Rattle.behavior.proofs.Follows.{child_follows}
use Rattle.behavior.proofs.Openings.{control_follows, opened-least}

-- the least of a list is none where each is
earlier-none : (a b : Option ℕ) → earlier a b ≡ None → (a ≡ None) × (b ≡ None)
earlier-none None b h = (refl, h)
earlier-none (Some a) None h = let w : ◌≡◌ {A = ℕ} 0 1 = cc in absurd (omega arith)
earlier-none (Some a) (Some b) h = let w : ◌≡◌ {A = ℕ} 0 1 = cc in absurd (omega arith)

earliest-none : (f : ℕ → Option ℕ) (cs : List ℕ) (s : Option ℕ) → earliest f s cs ≡ None → (s ≡ None) × ((i c : ℕ) → slice_get cs i ≡ Some c → f c ≡ None)
earliest-none f [] s h = (h, λ i c n. let w : ◌≡◌ {A = ℕ} 0 1 = cc in absurd (omega arith))
earliest-none f (d ∷ cs) s h =
    let r = earliest-none f cs (earlier s (f d)) h in
    let a = earlier-none s (f d) r.0 in
    (a.0, each d cs a.1 r.1)
  where
    each : (d : ℕ) (cs : List ℕ) → f d ≡ None → ((i c : ℕ) → slice_get cs i ≡ Some c → f c ≡ None) → (i c : ℕ) → slice_get (d ∷ cs) i ≡ Some c → f c ≡ None
    each d cs z k zero c n = let q : d ≡ c = cc in ap f (sym q) ∙ z
    each d cs z k (suc i) c n = k i c n

none-earliest : (f : ℕ → Option ℕ) (cs : List ℕ) → ((i c : ℕ) → slice_get cs i ≡ Some c → f c ≡ None) → earliest f None cs ≡ None
none-earliest f [] h = refl
none-earliest f (c ∷ cs) h = ap (λ x. earliest f x cs) (h 0 c refl) ∙ none-earliest f cs (λ i. h (suc i))

module _ (ws : List ℕ) (w : WellFormed ws) where
  child_after : (e c : ℕ) → IsBelow ws e c → After ws e c
  child_after e c b = child_follows ws e (control ws e) (control_follows ws w e) b.0 c b.1

  below_within : (e k : ℕ) → e < entries ws → Below ws e k → k < entries ws
  below_within e k h itself = h
  below_within e k h (through {c = c} i b) = below_within c k (child_after e c i).1 b

  least-none : (p : ℕ → Bool) (e k : ℕ) → e < entries ws → least ws p e ≡ None → Below ws e k → p k ≡ false
  least-none p e k h n itself = (cond_is_none (p e) e _ (sym (opened-least ws w p e h) ∙ n)).0
  least-none p e k h n (through {c = c} i b) =
      let o = (cond_is_none (p e) e _ (sym (opened-least ws w p e h) ∙ n)).1 in
      least-none p c k (child_after e c i).1 ((earliest-none (least ws p) (children_of ws (control ws e)) None o).1 i.0 c i.1) b

  free_depth : (p : ℕ → Bool) (n e : ℕ) → entries ws - e ≤ n → e < entries ws → ((k : ℕ) → Below ws e k → p k ≡ false) → least ws p e ≡ None
  free_depth p zero e d h f = absurd (omega arith)
  free_depth p (suc n) e d h f =
      opened-least ws w p e h ∙ cond-false (p e) _ _ (f e itself)
      ∙ none-earliest (least ws p) (children_of ws (control ws e))
      (λ i c m. let a = child_after e c (i, m) in free_depth p n c (omega (arith, a.0, a.1)) a.1 (λ k b. f k (through (i, m) b)))

  free_least : (p : ℕ → Bool) (e : ℕ) → e < entries ws → ((k : ℕ) → Below ws e k → p k ≡ false) → least ws p e ≡ None
  free_least p e h f = free_depth p (entries ws - e) e (omega arith) h f

  -- the parts of a function's fault
  and_not : (a b : Bool) → (a && b) ≡ false → a ≡ true → b ≡ false
  and_not true b h t = h
  and_not false b h t = absurd (true≢false (sym t))

  wrong_returns : (typed : Bool) (b : ℕ) → b < entries ws → cond typed (least ws (is_bare ws) b) (least ws (is_valued ws) b) ≡ None → (k : ℕ) → Below ws b k → returning (not typed) (control ws k) ≡ false
  wrong_returns true b h n k l = least-none (is_bare ws) b k h n l
  wrong_returns false b h n k l = least-none (is_valued ws) b k h n l

  right_returns : (typed : Bool) (b : ℕ) → b < entries ws → ((k : ℕ) → Below ws b k → returning (not typed) (control ws k) ≡ false) → cond typed (least ws (is_bare ws) b) (least ws (is_valued ws) b) ≡ None
  right_returns true b h f = free_least (is_bare ws) b h f
  right_returns false b h f = free_least (is_valued ws) b h f

  fit_function : (e : ℕ) (typed : Bool) (b : ℕ) → b < entries ws → function_fault e typed b (summary ws b) ≡ None → FitFunction ws typed b
  unfolding summary
  fit_function e typed b h n =
      let s = behavior ws b in
      let x = cond_is_none (s.breaks || s.continues) _ _ n in
      let y = cond_is_none (typed && s.next) _ _ x.1 in
      let z = neither (option_map (unfit e (cond typed MissingValue UnexpectedValue)) (cond typed (least ws (is_bare ws) b) (least ws (is_valued ws) b))) _ y.1 in
      let o = or_parts s.breaks s.continues x.0 in
      record {
        no_break = o.0;
        no_continue = o.1;
        returns = and_not typed s.next y.0;
        values = wrong_returns typed b h (mapped_is_none _ _ z.0);
      }

  -- a fit book has no leaving continuing
  unleaving : Fit ws → (k : ℕ) → k < entries ws → (t : Control) → control ws k ≡ t → leaving ws t ≡ false
  unleaving f k h (Continuing b x) is = f.continuings k b x h is
  unleaving f k h Other is = refl
  unleaving f k h Plain is = refl
  unleaving f k h (Sequence s) is = refl
  unleaving f k h (If s o) is = refl
  unleaving f k h (Switch s) is = refl
  unleaving f k h (Loop b c) is = refl
  unleaving f k h (While b) is = refl
  unleaving f k h (Forever b) is = refl
  unleaving f k h Break is = refl
  unleaving f k h Continue is = refl
  unleaving f k h (Return v) is = refl
  unleaving f k h (Function n t b) is = refl

  and_none : (a b : Bool) → (a ≡ true → b ≡ false) → (a && b) ≡ false
  and_none true b h = h refl
  and_none false b h = refl

  function_fit : Fit ws → (e : ℕ) (typed : Bool) (b : ℕ) → b < entries ws → FitFunction ws typed b → function_fault e typed b (summary ws b) ≡ None
  unfolding summary
  function_fit f e typed b h r =
      let s = behavior ws b in
      cond-false (s.breaks || s.continues) _ _ (or_from s.breaks s.continues r.no_break r.no_continue)
      ∙ cond-false (typed && s.next) _ _ (and_none typed s.next r.returns)
      ∙ ap (λ o. option_or (option_map (unfit e (cond typed MissingValue UnexpectedValue)) o) (option_map (unfit e LeavingContinuing) (least ws (is_leaving ws) b))) (right_returns typed b h r.values)
      ∙ ap (option_map (unfit e LeavingContinuing)) (free_least (is_leaving ws) b h (λ k l. unleaving f k (below_within b k h l) (control ws k) refl))

  after_function : (e n : ℕ) (t : Bool) (b : ℕ) → control ws e ≡ Function n t b → b < entries ws
  after_function e n t b is = (child_after e b (0, ap (λ c. slice_get (children_of ws c) 0) is)).1

  fault_free : Fit ws → (e : ℕ) → e < entries ws → (t : Control) → control ws e ≡ t → fault_of ws e t ≡ None
  unfolding summary
  fault_free f e h (Function n t b) is =
      function_fit f e t b (after_function e n t b is) (f.functions e n t b h is)
  fault_free f e h (Continuing b x) is = cond-false (beyond_next (behavior ws b)) _ _ (f.continuings e b x h is)
  fault_free f e h Other is = refl
  fault_free f e h Plain is = refl
  fault_free f e h (Sequence s) is = refl
  fault_free f e h (If s o) is = refl
  fault_free f e h (Switch s) is = refl
  fault_free f e h (Loop b c) is = refl
  fault_free f e h (While b) is = refl
  fault_free f e h (Forever b) is = refl
  fault_free f e h Break is = refl
  fault_free f e h Continue is = refl
  fault_free f e h (Return v) is = refl

  pub fit_book : first_some (fault_at ws) 0 (entries ws) ≡ None → Fit ws
  unfolding summary
  fit_book n =
      let each : (e : ℕ) → e < entries ws → fault_at ws e ≡ None = λ e h. first_each (fault_at ws) (entries ws) 0 e n (omega arith) (omega arith) in
      record {
        continuings = λ e b x h is. (cond_is_none (beyond_next (behavior ws b)) (unfit e LeavingContinuing e) None (sym (ap (fault_of ws e) is) ∙ each e h)).0;
        functions = λ e m t b h is. fit_function e t b (after_function e m t b is) (sym (ap (fault_of ws e) is) ∙ each e h);
      }

  pub book_fit : Fit ws → first_some (fault_at ws) 0 (entries ws) ≡ None
  book_fit f = each_first (fault_at ws) (entries ws) 0 (λ k a b. fault_free f k (omega arith) (control ws k) refl)
