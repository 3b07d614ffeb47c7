-- What an entry does once it is begun: a small tree of what it begins, in which order, and how it ends.
use Rattle.std.specs.Prelude.{ℕ, Option}

-- What a language speaks of: what can be begun, what each such thing ends with, why a run is refused, and the state.
pub record Shape : Type 1 where
  pub Call : Type 0
  pub Out : Call → Type 0
  pub Cause : Type 0
  pub State : Type 0

-- An act that ends with an A.
pub data Act (σ : Shape) (A : Type 0) : Type 0 where
  end : A → σ.State → Act σ A
  -- the whole run is refused; the function to blame, if the act knows one
  stop : σ.Cause → Option ℕ → σ.State → Act σ A
  -- a child is begun; what follows takes what it ended with
  begin : (c : σ.Call) → σ.State → (σ.Out c → σ.State → Act σ A) → Act σ A
  -- another round of the entry, which is a loop
  again : σ.State → Act σ A

-- A round of a loop: the child that it begins first, and what follows. So every round begins something.
pub record Round (σ : Shape) (A : Type 0) : Type 0 where
  pub child : σ.Call
  pub state : σ.State
  pub next : σ.Out child → σ.State → Act σ A

-- What each thing does that can be begun.
pub record Lang (σ : Shape) : Type 0 where
  pub act : (c : σ.Call) → σ.State → Act σ (σ.Out c)
  -- a round of it, where it is a loop
  pub round : (c : σ.Call) → σ.State → Round σ (σ.Out c)
  -- the number of its entry, and the function that it is the body of
  pub entry : σ.Call → ℕ
  pub blames : σ.Call → Option ℕ
  -- why a run is refused whose grant is spent, or in which too many entries are pending
  pub spent : σ.Cause
  pub full : σ.Cause
