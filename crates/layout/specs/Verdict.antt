-- What load answers: the first refusal, in the order of the tests.
use Rattle.std.specs.Prelude.{ℕ, zero, suc, ◌+◌, ◌-◌, Bool, true, cond, not, ◌&&◌, ◌||◌, List, [], ◌∷◌, length, is_some, Some, None, Ok, Err, Option, Result, ◌==◌, nat_le, nat_lt, slice_index, codes}
use Rattle.std.specs.Option.{option_map, option_or}
use Rattle.layout.specs.First.{first_some}
use Rattle.layout.specs.Layout.{body_passes, construct, end, entries, place, start}
use Rattle.shape.specs.Shapes.{fits, takes}
use Rattle.layout.specs.declared.error.BookError.{BookError}
use Rattle.layout.specs.declared.error.BookFault.{BookFault}
use Rattle.layout.specs.declared.error.BookFault.TheVariants.{BadField, BadLength, BadPlace, WrongChild}
use Rattle.shape.specs.declared.Child.{Child}
use Rattle.shape.specs.declared.Field.{Field}
use Rattle.shape.specs.declared.Field.TheVariants as F

-- The number of each refusal
abbrev pub number_of : BookFault → ℕ
number_of BadLength = 1
number_of BadPlace = 2
number_of BadField = 3
number_of WrongChild = 4

-- and its name
abbrev pub name_of : BookFault → List ℕ
name_of BadLength = codes "BadLength"
name_of BadPlace = codes "BadPlace"
name_of BadField = codes "BadField"
name_of WrongChild = codes "WrongChild"

-- 1 to 4,096 entries, room for their places, and at most 65,535 words
abbrev pub sized : List ℕ → Bool
sized ws = nat_le 1 (entries ws) && (nat_le (entries ws) 4096 && (nat_le (entries ws + 1) (length ws) && nat_le (length ws) 65535))

-- Entry 0 alone is the unit
abbrev pub misplaced : ℕ → ℕ → Bool
misplaced zero tag = not (tag == 0)
misplaced (suc e) tag = tag == 0

-- What is wrong with the words of the body at p, if anything: none is there, its tag is unknown, or it is cut short
abbrev pub body_fault : List ℕ → ℕ → Option BookFault
body_fault ws p =
    cond (nat_le (length ws) p) (Some BadPlace)
    (cond (not (is_some (construct ws p))) (Some BadField)
    (cond (nat_lt (length ws) (end ws p)) (Some BadPlace)
    None))

-- The fault of an entry's body, if any
unfoldable pub layout_fault : List ℕ → ℕ → Option BookFault
layout_fault ws e =
    cond (not (place ws e == start ws e)) (Some BadPlace)
    (option_or (body_fault ws (place ws e))
    (cond (misplaced e (slice_index ws (place ws e)) || not (body_passes fits ws (place ws e))) (Some BadField)
    None))

-- A child is larger than its parent, below the number of entries, and one that its field takes
abbrev pub is_child : List ℕ → ℕ → Child → ℕ → Bool
is_child ws e c w = nat_lt e w && (nat_lt w (entries ws) && takes c (slice_index ws (place ws w)))

-- Whether the word of a field of entry e is such a child, or 0 where it may be absent
abbrev pub child_fits : List ℕ → ℕ → Field → ℕ → Bool
child_fits ws e (F.Number least most) w = true
child_fits ws e (F.Child c) w = is_child ws e c w
child_fits ws e (F.Optional c) w = w == 0 || is_child ws e c w

-- The fault of an entry's children, if any
unfoldable pub child_fault : List ℕ → ℕ → Option BookFault
child_fault ws e = cond (body_passes (child_fits ws e) ws (place ws e)) None (Some WrongChild)

abbrev pub at : BookFault → ℕ → BookError
at f e = record { fault = f; entry = e }

-- A fault, if any, and the entry at which it arose
abbrev pub located : ℕ → Option BookFault → Option BookError
located e = option_map (λ b. at b e)

-- The first of n entries, from e on, that has a fault
abbrev pub first : (ℕ → Option BookFault) → ℕ → ℕ → Option BookError
first f = first_some (λ e. located e (f e))

-- Words left over behind the last body
abbrev pub left_over : List ℕ → Option BookError
left_over ws =
    cond (nat_lt (end ws (place ws (entries ws - 1))) (length ws)) (Some (at BadPlace (entries ws - 1))) None

-- The refusal of the words, if any: their number, then each entry's body, then words left over, then each entry's
-- children
unfoldable pub refusal : List ℕ → Option BookError
refusal ws =
    option_or (cond (sized ws) None (Some (at BadLength 0)))
    (option_or (first (layout_fault ws) 0 (entries ws)) (option_or (left_over ws) (first (child_fault ws) 0 (entries ws))))

abbrev pub answer : Option BookError → Result (Unit {0}) BookError
answer None = Ok tt
answer (Some b) = Err b

abbrev pub verdict : List ℕ → Result (Unit {0}) BookError
verdict ws = answer (refusal ws)

abbrev pub accepted : List ℕ → Bool
accepted ws = not (is_some (refusal ws))

-- The smallest book: one entry, a unit with no children
abbrev pub smallest : List ℕ
smallest = 1 ∷ 2 ∷ 0 ∷ 0 ∷ []
