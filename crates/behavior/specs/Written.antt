-- How a set is written, as bytes.
use Rattle.std.specs.Prelude.{ℕ, Bool, false, cond, ◌||◌, List, [], ◌++◌, codes}
use Rattle.behavior.specs.declared.set.Behavior.{Behavior}

-- A way that is in a set, behind a comma if it follows another
abbrev pub member_text : Bool → Bool → List ℕ → List ℕ
member_text is_member follows name = cond is_member (cond follows (codes ", " ++ name) name) []

-- As `{Next, Return}`
abbrev pub set_text : Behavior → List ℕ
set_text s =
    codes "{" ++ member_text s.next false (codes "Next") ++ member_text s.breaks s.next (codes "Break")
    ++ member_text s.continues (s.next || s.breaks) (codes "Continue")
    ++ member_text s.returns (s.next || (s.breaks || s.continues)) (codes "Return")
    ++ codes "}"
