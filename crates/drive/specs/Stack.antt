-- What a stack of pending records stands for.
use Rattle.std.specs.Prelude.{ℕ, suc, ◌-◌, None, Option}
use Rattle.std.specs.Option.{option_or}
use Rattle.drive.specs.Act.{Act, Lang, Shape, begin, end}
use Rattle.drive.specs.Act as A
use Rattle.drive.specs.Drive.{Res, and_then, blame, enter, go_on, opened, outside}

-- A pending record: what was begun, the child that it waits for, and what it does with what the child ends with.
pub record Pending (σ : Shape) : Type 1 where
  pub Record : Type 0
  pub begun : Record → σ.Call
  pub awaits : Record → σ.Call
  pub resume : (f : Record) → σ.Out (awaits f) → σ.State → Act σ (σ.Out (begun f))

-- Pending records, the newest first, that wait for c: each waits for what the one above it began, and below all is an act that is no entry's.
pub data Stack {σ : Shape} (p : Pending σ) (A : Type 0) : σ.Call → Type 0 where
  outermost : {c : σ.Call} → (σ.Out c → σ.State → Act σ A) → Stack p A c
  push : (f : p.Record) → Stack p A (p.begun f) → Stack p A (p.awaits f)

module _ {σ : Shape} {p : Pending σ} {A : Type 0} where
  abbrev pub height : {c : σ.Call} → Stack p A c → ℕ
  height (outermost k) = 0
  height (push f fs) = suc (height fs)

module _ {σ : Shape} (L : Lang σ) (D : ℕ) {p : Pending σ} {A : Type 0} where
  -- The entry begun last, and the function to blame.
  abbrev pub top : {c : σ.Call} → Stack p A c → ℕ
  top (outermost k) = 0
  top (push f fs) = L.entry (p.begun f)

  abbrev pub blamed_by : {c : σ.Call} → Stack p A c → Option ℕ
  blamed_by (outermost k) = None
  blamed_by (push f fs) = option_or (L.blames (p.begun f)) (blamed_by fs)

  -- An act of something pending under fs.
  unfoldable pub acts : {c : σ.Call} → Stack p A c → Act σ (σ.Out c) → ℕ → Res (σ.Out c) σ.Cause σ.State
  acts {c} fs a l = go_on L (enter L (D - suc (height fs)) (L.entry c)) c a l

  -- What is left to do once c has come out: each record takes up what came, from the newest on.
  unfoldable pub unwind : {c : σ.Call} → Stack p A c → Res (σ.Out c) σ.Cause σ.State → Res A σ.Cause σ.State
  unwind (outermost k) r = and_then r (λ o s l. outside L D (k o s) l)
  unwind (push f fs) r = unwind fs (blame (L.blames (p.begun f)) (and_then r (λ o s l. acts fs (p.resume f o s) l)))

  -- c must begin; c acts; c has ended.
  unfoldable pub must : {c : σ.Call} → Stack p A c → σ.State → ℕ → Res A σ.Cause σ.State
  must {c} fs s l = unwind fs (enter L (D - height fs) (top fs) c s l)

  unfoldable pub acting : {c : σ.Call} → Stack p A c → Act σ (σ.Out c) → ℕ → Res A σ.Cause σ.State
  acting {c} fs a l = unwind fs (blame (L.blames c) (acts fs a l))

-- An act whose next round, if it asks for one, is begun at once.
unfoldable pub settle : {σ : Shape} (L : Lang σ) (c : σ.Call) → Act σ (σ.Out c) → Act σ (σ.Out c)
settle L c (end o s) = end o s
settle L c (A.stop n g s) = A.stop n g s
settle L c (begin c' s k) = begin c' s k
settle L c (A.again s) = opened (L.round c s)
