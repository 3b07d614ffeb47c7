-- The open scopes of a table, one more, one less, and the outermost.
use Rattle.std.proofs.Common.{◌≡◌, ℕ, ◌+◌, ◌-◌, ◌<◌, ◌≤◌, true, false, cond, leb, List, [], ◌∷◌, ◌++◌, reverse, length, get_or, take, set, Some, Option, refl, ap, ◌∙◌, arith}
use Rattle.std.proofs.lemmas.List.{reverse-append, take_more, take_more_set}
use Rattle.std.proofs.lemmas.Bool.{leb-true, le-leb, and_from, and_parts}
use Rattle.std.specs.List.{find}
use Rattle.std.specs.Option.{option_map, unwrap_or}
use Rattle.names.specs.Scopes.{call_first, closed, if_call, is_call, nested, opened, root_end}
use Rattle.names.specs.declared.scope.Scope.{Scope}
use Rattle.names.specs.declared.scope.ScopeKind.{ScopeKind}
use Rattle.names.specs.declared.scope.ScopeKind.TheVariants.{Regular, Transparent, Call}

root_end-last : (xs : List Scope) (s : Scope) (n : ℕ) → root_end (xs ++ s ∷ []) n ≡ s.first
root_end-last [] s n = refl
root_end-last (x ∷ xs) s n = root_end-last xs s x.first

-- of the open scopes, the outermost first
pub root_end-reverse : (scopes : List Scope) (n : ℕ) → 0 < length scopes → root_end (reverse scopes) n ≡ (get_or scopes 0 closed).first
root_end-reverse [] n h = absurd (omega arith)
root_end-reverse (s ∷ rest) n h = ap (λ xs. root_end xs n) (reverse-append (s ∷ []) rest) ∙ root_end-last (reverse rest) s n

pub root_end_le : (scopes : List Scope) (n : ℕ) → nested scopes n ≡ true → root_end scopes n ≤ n
root_end_le [] n h = omega arith
root_end_le (s ∷ outer) n h =
    let p = and_parts (leb s.first n) (nested outer s.first) h in
    let a : s.first ≤ n = leb-true _ _ p.0 in
    let b : root_end outer s.first ≤ s.first = root_end_le outer s.first p.1 in
    omega arith

-- one scope more, of a call or not
call_first-more : (kind : ScopeKind) (s : Scope) (o : Option Scope) → unwrap_or (option_map (λ t. t.first) (cond (if_call kind true false) (Some s) o)) 0 ≡ if_call kind s.first (unwrap_or (option_map (λ t. t.first) o) 0)
call_first-more Call s o = refl
call_first-more Regular s o = refl
call_first-more Transparent s o = refl

-- the innermost call's scope is the first that is a call's
pub call_first-find : (scopes : List Scope) → unwrap_or (option_map (λ s. s.first) (find is_call scopes)) 0 ≡ call_first scopes
call_first-find [] = refl
call_first-find (s ∷ outer) = call_first-more s.kind s (find is_call outer) ∙ ap (if_call s.kind s.first) (call_first-find outer)

-- one scope more in a table, and the top of one
pub opened-push : (table : List Scope) (d : ℕ) (s : Scope) → d < length table → opened (set table d s) (d + 1) ≡ s ∷ opened table d
opened-push table d s h = ap reverse (take_more_set table d s h) ∙ reverse-append (take d table) (s ∷ [])

pub opened-top : (table : List Scope) (d : ℕ) → 0 < d → d ≤ length table → opened table d ≡ get_or table (d - 1) closed ∷ opened table (d - 1)
opened-top table d low high =
    let h : d - 1 < length table = omega arith in
    let e : d ≡ d - 1 + 1 = omega arith in
    ap (opened table) e ∙ ap reverse (take_more table (d - 1) closed h) ∙ reverse-append (take (d - 1) table) (get_or table (d - 1) closed ∷ [])

-- more names behind the same scopes
pub nested_more : (scopes : List Scope) (n k : ℕ) → n ≤ k → nested scopes n ≡ true → nested scopes k ≡ true
nested_more [] n k l h = refl
nested_more (s ∷ outer) n k l h =
    let p = and_parts (leb s.first n) (nested outer s.first) h in
    let a : s.first ≤ n = leb-true _ _ p.0 in
    let b : s.first ≤ k = omega arith in
    and_from _ _ (le-leb _ _ b) p.1
