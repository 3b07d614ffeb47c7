-- Where the bodies of a book stand, and a test of every field of a body.
use Rattle.std.specs.Prelude.{◌≡◌, ℕ, zero, suc, ◌+◌, ◌*◌, Bool, true, cond, ◌&&◌, List, [], ◌∷◌, length, is_some, Option, ◌==◌, slice_index}
use Rattle.std.specs.List.{list_all, zip}
use Rattle.shape.specs.Shapes.{Layout, construct_of, shape_of}
use Rattle.shape.specs.declared.Construct.{Construct}
use Rattle.shape.specs.declared.Field.{Field}

-- How many entries the book has
abbrev pub entries : List ℕ → ℕ
entries ws = slice_index ws 0

-- Where the body of an entry stands
abbrev pub place : List ℕ → ℕ → ℕ
place ws e = slice_index ws (e + 1)

-- The construct and the layout of the body that stands at p
abbrev pub construct : List ℕ → ℕ → Option Construct
construct ws p = construct_of (slice_index ws p)

abbrev pub shape : List ℕ → ℕ → Layout
shape ws p = shape_of (construct ws p)

-- How many groups the body has, as the last field of its head says
unfoldable pub groups : List ℕ → ℕ → ℕ
groups ws p = cond (length (shape ws p).group == 0) 0 (slice_index ws (p + length (shape ws p).head))

-- The first field of the body's groups, and of its tail
abbrev pub groups_from : List ℕ → ℕ → ℕ
groups_from ws p = p + 1 + length (shape ws p).head

abbrev pub tail_from : List ℕ → ℕ → ℕ
tail_from ws p = groups_from ws p + length (shape ws p).group * groups ws p

-- Where the body ends; one of an unknown tag has no word
unfoldable pub end : List ℕ → ℕ → ℕ
end ws p = cond (is_some (construct ws p)) (tail_from ws p + length (shape ws p).tail) p

-- Where the body of an entry has to stand: the first behind the places, each next one where the last ends
abbrev pub start : List ℕ → ℕ → ℕ
start ws zero = entries ws + 1
start ws (suc e) = end ws (place ws e)

-- A test of fields, whose words stand from q on
unfoldable pub run_passes : (Field → ℕ → Bool) → List Field → List ℕ → ℕ → Bool
run_passes t [] ws q = true
run_passes t (f ∷ fs) ws q = t f (slice_index ws q) && run_passes t fs ws (q + 1)

-- A test of k groups of fields, whose words stand from q on
unfoldable pub groups_pass : (Field → ℕ → Bool) → List Field → List ℕ → ℕ → ℕ → Bool
groups_pass t fs ws q zero = true
groups_pass t fs ws q (suc k) = run_passes t fs ws q && groups_pass t fs ws (q + length fs) k

-- A test of every field of the body at p
unfoldable pub body_passes : (Field → ℕ → Bool) → List ℕ → ℕ → Bool
body_passes t ws p =
    run_passes t (shape ws p).head ws (p + 1)
    && (groups_pass t (shape ws p).group ws (groups_from ws p) (groups ws p)
    && run_passes t (shape ws p).tail ws (tail_from ws p))

-- A test of fields and as many words
abbrev pub all_pass : (Field → ℕ → Bool) → List Field → List ℕ → Bool
all_pass t fs ws = list_all (λ p. t p.0 p.1) (zip fs ws)

-- t is what the calls of a test answer
abbrev pub Answers : (Field → ℕ → Bool → Type 0) → (Field → ℕ → Bool) → Type 0
Answers post t = (f : Field) (w : ℕ) (b : Bool) → post f w b → b ≡ t f w
