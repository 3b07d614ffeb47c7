-- Every run keeps the claim, and so the laws of flows hold.
use Rattle.std.proofs.Common.{◌≡◌, ℕ, ◌<◌, true, Ok, Err, Result, sym, refl, ap, ◌∙◌, subst, ⊎_elim}
use Rattle.std.proofs.lemmas.Bool.{cases_lt, false≢true}
use Rattle.shape.specs.Shapes.{takes}
use Rattle.shape.specs.declared.Child.TheVariants as Kind
use Rattle.layout.specs.Layout.{entries}
use Rattle.book.specs.Nodes.{node_at}
use Rattle.layout.specs.WellFormed.{WellFormed}
use Rattle.book.proofs.Family.{children_of_lem}
use Rattle.book.proofs.Reading.{node_past}
use Rattle.control.specs.Control.{control}
use Rattle.behavior.specs.Rules.{behavior}
use Rattle.drive.specs.Act.{end}
use Rattle.drive.specs.Drive.{FailsBy, Fault, opened}
use Rattle.drive.specs.Hoare.{Came, Sound}
use Rattle.drive.proofs.Hoare.{outside_meets, run_meets}
use Rattle.rules.specs.Calls.{deepest, ran_call, ran_entry}
use Rattle.rules.specs.Eval.{call}
use Rattle.rules.specs.Flows.{EndsIn, FitNever, FlowsInSets, NeverAstray, NeverRefused}
use Rattle.rules.specs.Language.{act_of, round_of, rules}
use Rattle.rules.specs.Store.{Begun, Env, Refusal, Store, astray, because, block, callee, continuing, expression, statement}
use Rattle.rules.specs.Tree.{entry_at, entry_of, is_statement}
use Rattle.rules.specs.declared.error.Cause.TheVariants as C
use Rattle.rules.specs.declared.flow.Flow.{Flow}
use Rattle.rules.proofs.Claims.{Allowed, EndsOf, Fitting, GoesOf, IsLoop, Lands, Takes, aim, claim}
use Rattle.rules.proofs.Evals.{Keep, call_keeps, callee_keeps, expression_keeps}
use Rattle.rules.proofs.Tags.{node_tag_lem, statement_tag, taken, told}
use Rattle.rules.proofs.Statements.{block_keeps, continuing_keeps, round_keeps, statement_keeps}

module _ {V : Type 0} (env : Env V) (w : WellFormed env.words) where
  act_keeps : (c : Begun) (s : Store V) → Fitting env.words V c → Keep env (EndsOf env.words V c) (GoesOf env.words V c) (act_of env c s)
  unfolding control entry_at
  act_keeps (statement e) s h =
      statement_keeps env w e h.0 (node_at env.words e) refl (taken env.words w Kind.Statement e h.0 h.1)
      (children_of_lem env.words e w) s
  act_keeps (block scope f e) s h =
      block_keeps env w e h.0 (told (node_at env.words e)) refl (taken env.words w Kind.Body e h.0 h.1)
      (children_of_lem env.words e w) scope s
  act_keeps (continuing e) s h =
      continuing_keeps env w e h.0 (told (node_at env.words e)) refl (taken env.words w Kind.Continuing e h.0 h.1)
      (children_of_lem env.words e w) s
  act_keeps (expression e) s h =
      expression_keeps env w e (node_at env.words e) (taken env.words w Kind.Expression e h.0 h.1)
      (children_of_lem env.words e w) s
  act_keeps (callee e) s h =
      callee_keeps env w e (told (node_at env.words e)) (taken env.words w Kind.Call e h.0 h.1)
      (children_of_lem env.words e w) s

  rounds_keep : (c : Begun) (s : Store V) → Fitting env.words V c → GoesOf env.words V c → Keep env (EndsOf env.words V c) (GoesOf env.words V c) (opened (round_of env c s))
  unfolding control entry_at
  rounds_keep (statement e) s h l = round_keeps env w e h.0 l refl (children_of_lem env.words e w) s
  rounds_keep (block scope f e) s h l = absurd l
  rounds_keep (continuing e) s h l = absurd l
  rounds_keep (expression e) s h l = absurd l
  rounds_keep (callee e) s h l = absurd l

  sound : Sound (rules env) (claim env.words V)
  unfolding rules
  sound =
      record {
        spent = λ c s h fit. tt;
        full = λ c s h fit. tt;
        acts = act_keeps;
        rounds = λ c s₀ s h l. rounds_keep c s h l;
      }

  -- a statement of the book can be begun as one
  within : (e : ℕ) → is_statement (entry_at env.words e) ≡ true → e < entries env.words
  unfolding entry_at
  within e h =
      ⊎_elim (λ lt. lt)
      (λ le. absurd (false≢true (sym (ap (λ n. is_statement (entry_of env.words n)) (node_past env.words e le)) ∙ h)))
      (cases_lt e (entries env.words))

  fitting : (e : ℕ) → is_statement (entry_at env.words e) ≡ true → Takes env.words Kind.Statement e
  unfolding entry_at
  fitting e h =
      let lt = within e h in (
        lt,
        ap (takes Kind.Statement) (node_tag_lem env.words w e lt) ∙ sym (statement_tag env.words (node_at env.words e)) ∙ h,
      )

  -- what comes of a goal
  came_in : (e : ℕ) (G : Type 0) (r : Result (Flow V) (Fault Refusal)) (s : Store V) → Came (aim env.words V (Lands env.words e) G) r s → EndsIn (behavior env.words e) r
  came_in e G (Ok f) s h = h.0
  came_in e G (Err f) s h = tt

  came_never : {A : Type 0} (Q : A → Type 0) (G : Type 0) (c : Refusal) → (Allowed env.words c → ⊥) → (r : Result A (Fault Refusal)) (s : Store V) → Came (aim env.words V Q G) r s → FailsBy c r → ⊥
  came_never Q G c out (Ok o) s h is = is
  came_never Q G c out (Err f) s h is = out (subst (Allowed env.words) is h)

  pub flows_in_sets : FlowsInSets env
  unfolding ran_entry
  flows_in_sets e s g h = came_in e (IsLoop (node_at env.words e)) _ _ (run_meets (rules env) (claim env.words V) sound deepest (statement e) s g (fitting e h))

  never_refused : (c : Refusal) → (Allowed env.words c → ⊥) → NeverRefused env c
  unfolding ran_entry ran_call
  never_refused c out =
      record {
        runs = λ e s g h.
            came_never (Lands env.words e) (IsLoop (node_at env.words e)) c out _ _
            (run_meets (rules env) (claim env.words V) sound deepest (statement e) s g (fitting e h));
        calls = λ name vs s g.
            came_never (λ o. Unit {0}) ⊥ c out _ _
            (outside_meets (rules env) (claim env.words V) sound (aim env.words V (λ o. Unit {0}) ⊥) (λ t z. z) deepest (call env name vs s end) g (call_keeps env (λ o. Unit {0}) ⊥ end (λ o t. tt) w name vs s));
      }

  pub never_astray : NeverAstray env
  never_astray = never_refused astray (λ z. z)

  pub fit_never : FitNever env
  fit_never fit = (
    never_refused (because C.NoReturn) (λ h. h fit),
    never_refused (because C.UnexpectedReturn) (λ h. h fit),
    never_refused (because C.FlowInContinuing) (λ h. h fit),
    never_refused (because C.FlowInFunction) (λ h. h fit),
  )
