-- The books that are accepted, as the format says it.
use Rattle.std.specs.Prelude.{◌≡◌, ℕ, ◌+◌, ◌-◌, ◌*◌, ◌<◌, ◌≤◌, true, false, List, length, is_some, Some, slice_index}
use Rattle.std.specs.List.{slice_get}
use Rattle.layout.specs.Layout.{construct, end, entries, groups, groups_from, place, shape, start, tail_from}
use Rattle.shape.specs.Shapes.{fits}
use Rattle.layout.specs.Verdict.{child_fits, misplaced}
use Rattle.shape.specs.declared.Field.{Field}

-- P of every field of the body at p and its word
pub record EachField (P : Field → ℕ → Type 0) (ws : List ℕ) (p : ℕ) : Type 0 where
  pub in_head : (i : ℕ) (f : Field) → slice_get (shape ws p).head i ≡ Some f → P f (slice_index ws (p + 1 + i))
  pub in_groups :
      (j i : ℕ) (f : Field) → j < groups ws p → slice_get (shape ws p).group i ≡ Some f
      → P f (slice_index ws (groups_from ws p + length (shape ws p).group * j + i))
  pub in_tail : (i : ℕ) (f : Field) → slice_get (shape ws p).tail i ≡ Some f → P f (slice_index ws (tail_from ws p + i))

pub record WellFormed (ws : List ℕ) : Type 0 where
  pub some : 1 ≤ entries ws
  pub few : entries ws ≤ 4096
  pub room : entries ws + 1 ≤ length ws
  pub short : length ws ≤ 65535
  -- each body starts where the last ends, and the last where the words end
  pub starts : (e : ℕ) → e < entries ws → place ws e ≡ start ws e
  pub ends : end ws (place ws (entries ws - 1)) ≡ length ws
  pub within : (e : ℕ) → e < entries ws → end ws (place ws e) ≤ length ws
  -- tag and fields fit
  pub tags : (e : ℕ) → e < entries ws → is_some (construct ws (place ws e)) ≡ true
  pub unit : (e : ℕ) → e < entries ws → misplaced e (slice_index ws (place ws e)) ≡ false
  pub fields : (e : ℕ) → e < entries ws → EachField (λ f w. fits f w ≡ true) ws (place ws e)
  -- each child is larger than its parent, below the number of entries, and of a tag that its field takes
  pub children : (e : ℕ) → e < entries ws → EachField (λ f w. child_fits ws e f w ≡ true) ws (place ws e)
