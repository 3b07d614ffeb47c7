-- A list made by a closure that changes what it captures, and keeps a fact of it.
use Rattle.std.proofs.Common.{◌≡◌, List, [], ◌∷◌, map, Option, ap, ◌∙◌}
use Rattle.std.specs.declared.iter.Map.{Map}
use Rattle.std.specs.Fn.{Called}
use Rattle.std.specs.Iterator.{AlwaysYields}
use Rattle.std.specs.Iterator.Adapters.{map_callee, map_source}
use Rattle.std.proofs.lemmas.Iterator.{YieldsList, maps}
use denote.Param.Members.{Mut}

module _ {S A B F R : Type 0} (steps : S → Option A → S → Type 0) (v : A → B) (g : Mut F (A × Unit {0}) R) (Keeps : F → Type 0) (h : B → R)
    (kept : (f : F) (x : A) (r : R) (q : F) → Keeps f → Called g f (x, tt) r q → Keeps q × (r ≡ h (v x))) where
  each : (ys : List B) (s : Map S F) → AlwaysYields steps v (map_source s) ys → Keeps (map_callee s) → AlwaysYields (maps steps g) (λ r. r) s (map h ys)
  each [] s a k = λ y t m. a m.0 (map_source t) m.1
  each (b ∷ ys) s a k = (
    (λ t m. a.0 (map_source t) m.0),
    (λ y t m.
        let n = a.1 m.0 (map_source t) m.1 in
        let p = kept (map_callee s) m.0 y (map_callee t) k m.2 in
        (p.1 ∙ ap h n.0, each ys t n.1 p.0)),
  )

  pub YieldsList-from_map_keeping : {s : Map S F} {ys : List B} → YieldsList steps v (map_source s) ys → Keeps (map_callee s) → YieldsList (maps steps g) (λ r. r) s (map h ys)
  YieldsList-from_map_keeping {s} {ys} a k = record { runs = each ys s a.runs k }
