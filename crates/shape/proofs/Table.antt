-- The code's table is the table of the layouts, at every tag at once.
use Rattle.std.proofs.Common.{◌≡◌, ℕ, zero, suc, List, [], ◌∷◌, map, get_or, None, Option, refl}
use Rattle.std.specs.Option.{option_map}
use Rattle.shape.specs.Shapes.{Layout, constructs, construct_of, layout_of, row, row_at}
use Rattle.shape.specs.declared.Construct.{Construct}
use Rattle.shape.specs.declared.Shape.{Shape}

abbrev pub laid : Construct → Construct × Layout
laid c = (c, layout_of c)

at_each : (rows : List (Option Shape)) (cs : List (Option Construct)) (tag : ℕ) → map (option_map row) rows ≡ map (option_map laid) cs → row_at rows tag ≡ option_map laid (get_or cs tag None)
unfolding row_at
at_each [] [] tag same = refl
at_each [] (c ∷ cs) tag same = cc
at_each (r ∷ rows) [] tag same = cc
at_each (r ∷ rows) (c ∷ cs) zero same = cc
at_each (r ∷ rows) (c ∷ cs) (suc tag) same = at_each rows cs tag cc

pub table : (rows : List (Option Shape)) (tag : ℕ) → map (option_map row) rows ≡ map (option_map laid) constructs → row_at rows tag ≡ option_map laid (construct_of tag)
unfolding construct_of
table rows tag same = at_each rows constructs tag same
