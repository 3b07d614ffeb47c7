-- Worked rules. Each book is the words of the text above it; entries are numbered from the unit, 0, in the order of the text.
use Rattle.std.specs.Prelude.{◌≡◌, ℕ, List, [], ◌∷◌, pos, negsuc, Some, None, Ok, Err, Option}
use Rattle.behavior.specs.Rules.{behavior, none}
use Rattle.names.specs.Rules.{open_scopes}
use Rattle.names.specs.declared.error.NameFault.TheVariants.{DuplicateDecl, UnknownDecl}
use Rattle.scalar.specs.Operators.{operators}
use Rattle.scalar.specs.Values.{values}
use Rattle.scalar_value.specs.declared.Scalar.{Scalar}
use Rattle.scalar_value.specs.declared.Scalar.TheVariants.{I32}
use Rattle.rules.specs.Calls.{Answered, Call, Lent, Reply, call, flow, holds, look, perform, run, set_stage, start}
use Rattle.rules.specs.Ledger.{store_after}
use Rattle.rules.specs.Store.{Env, because, over}
use Rattle.rules.specs.declared.error.Cause.{Cause}
use Rattle.rules.specs.declared.error.Cause.TheVariants as C
use Rattle.rules.specs.declared.flow.Flow.TheVariants.{Next, Return}

abbrev pub scalars : List ℕ → Env Scalar
scalars ws = over values operators ws

abbrev pub enough : Lent
enough = record { pending = 256; values = 4096 }

-- What the last of some calls answers, from the making of an engine with 64 records for names.
abbrev pub last_of : List ℕ → List (Call Scalar) → Call Scalar → Answered Scalar
last_of ws cs c = perform (scalars ws) c (store_after (scalars ws) cs (start 64))

-- In stage Exec.
abbrev pub in_exec : List ℕ → List (Call Scalar) → Call Scalar → Answered Scalar
in_exec ws cs c = last_of ws (set_stage 2 ∷ cs) c

abbrev pub Accepted : Reply Scalar → ℕ → Answered Scalar → Type 0
Accepted r n a = (a.outcome ≡ Ok r) × (a.steps ≡ n)

-- A refusal, with the entry at which it arose and the function that it blames.
abbrev pub Refused : Cause → ℕ → Option ℕ → ℕ → Answered Scalar → Type 0
Refused cause entry blamed n a =
    (a.outcome ≡ Err (record { cause = because cause; entry = entry; blamed = blamed })) × (a.steps ≡ n)

-- loop { break; }
abbrev pub loop_break : List ℕ
loop_break = 4 ∷ 5 ∷ 8 ∷ 11 ∷ 14 ∷ 0 ∷ 1 ∷ 1 ∷ 8 ∷ 2 ∷ 0 ∷ 2 ∷ 1 ∷ 3 ∷ 11 ∷ []

-- loop {}
abbrev pub loop_forever : List ℕ
loop_forever = 3 ∷ 4 ∷ 7 ∷ 10 ∷ 0 ∷ 1 ∷ 1 ∷ 8 ∷ 2 ∷ 0 ∷ 2 ∷ 0 ∷ []

-- for (var i = 0i; i < 3i; i++) {}
abbrev pub count_to_three : List ℕ
count_to_three =
    10 ∷ 11 ∷ 14 ∷ 19 ∷ 24 ∷ 30 ∷ 34 ∷ 36 ∷ 42 ∷ 44 ∷ 46 ∷ 0 ∷ 1 ∷ 1 ∷ 9 ∷ 2 ∷ 4 ∷ 7 ∷ 9 ∷ 17 ∷ 2 ∷ 1 ∷ 65535 ∷ 3 ∷ 32 ∷ 2 ∷ 0 ∷ 0 ∷ 0 ∷ 0 ∷ 35 ∷ 10 ∷ 5 ∷ 6 ∷ 36 ∷ 1 ∷ 32 ∷ 2 ∷ 3 ∷ 0 ∷ 0 ∷ 0 ∷ 4 ∷ 8 ∷ 36 ∷ 1 ∷ 2 ∷ 0 ∷ []

-- for (;;) { return; }
abbrev pub for_return : List ℕ
for_return = 4 ∷ 5 ∷ 8 ∷ 13 ∷ 16 ∷ 0 ∷ 1 ∷ 1 ∷ 9 ∷ 0 ∷ 0 ∷ 0 ∷ 2 ∷ 2 ∷ 1 ∷ 3 ∷ 13 ∷ 0 ∷ []

-- for (var i = 0i; i < 3i; i++) { var i = 1i; }
abbrev pub declared_again : List ℕ
declared_again =
    12 ∷ 13 ∷ 16 ∷ 21 ∷ 26 ∷ 32 ∷ 36 ∷ 38 ∷ 44 ∷ 46 ∷ 48 ∷ 51 ∷ 56 ∷ 0 ∷ 1 ∷ 1 ∷ 9 ∷ 2 ∷ 4 ∷ 7 ∷ 9 ∷ 17 ∷ 2 ∷ 1 ∷ 65535 ∷ 3 ∷ 32 ∷ 2 ∷ 0 ∷ 0 ∷ 0 ∷ 0 ∷ 35 ∷ 10 ∷ 5 ∷ 6 ∷ 36 ∷ 1 ∷ 32 ∷ 2 ∷ 3 ∷ 0 ∷ 0 ∷ 0 ∷ 4 ∷ 8 ∷ 36 ∷ 1 ∷ 2 ∷ 1 ∷ 10 ∷ 17 ∷ 2 ∷ 1 ∷ 65535 ∷ 11 ∷ 32 ∷ 2 ∷ 1 ∷ 0 ∷ 0 ∷ 0 ∷ []

-- switch 1i { default { return 7i; } case 1 { return 8i; } }
abbrev pub switch_default_first : List ℕ
switch_default_first =
    10 ∷ 11 ∷ 14 ∷ 21 ∷ 27 ∷ 30 ∷ 32 ∷ 38 ∷ 44 ∷ 47 ∷ 49 ∷ 0 ∷ 1 ∷ 1 ∷ 7 ∷ 2 ∷ 2 ∷ 0 ∷ 3 ∷ 6 ∷ 7 ∷ 32 ∷ 2 ∷ 1 ∷ 0 ∷ 0 ∷ 0 ∷ 2 ∷ 1 ∷ 4 ∷ 13 ∷ 5 ∷ 32 ∷ 2 ∷ 7 ∷ 0 ∷ 0 ∷ 0 ∷ 32 ∷ 1 ∷ 1 ∷ 0 ∷ 0 ∷ 0 ∷ 2 ∷ 1 ∷ 8 ∷ 13 ∷ 9 ∷ 32 ∷ 2 ∷ 8 ∷ 0 ∷ 0 ∷ 0 ∷ []

-- var a = 2147483647i; a++;
abbrev pub counted_over : List ℕ
counted_over = 5 ∷ 6 ∷ 10 ∷ 15 ∷ 21 ∷ 23 ∷ 0 ∷ 2 ∷ 1 ∷ 3 ∷ 17 ∷ 2 ∷ 1 ∷ 65535 ∷ 2 ∷ 32 ∷ 2 ∷ 65535 ∷ 32767 ∷ 0 ∷ 0 ∷ 4 ∷ 4 ∷ 36 ∷ 1 ∷ []

-- var a = 1i; a += f(); fn f() -> i32 { a = 10i; return 2i; }
abbrev pub read_before_call : List ℕ
read_before_call =
    13 ∷ 14 ∷ 19 ∷ 24 ∷ 30 ∷ 34 ∷ 36 ∷ 39 ∷ 45 ∷ 49 ∷ 53 ∷ 55 ∷ 61 ∷ 63 ∷ 0 ∷ 3 ∷ 1 ∷ 3 ∷ 6 ∷ 17 ∷ 2 ∷ 1 ∷ 65535 ∷ 2 ∷ 32 ∷ 2 ∷ 1 ∷ 0 ∷ 0 ∷ 0 ∷ 3 ∷ 1 ∷ 4 ∷ 5 ∷ 36 ∷ 1 ∷ 37 ∷ 9 ∷ 0 ∷ 48 ∷ 9 ∷ 0 ∷ 2 ∷ 7 ∷ 0 ∷ 2 ∷ 2 ∷ 8 ∷ 11 ∷ 3 ∷ 0 ∷ 9 ∷ 10 ∷ 36 ∷ 1 ∷ 32 ∷ 2 ∷ 10 ∷ 0 ∷ 0 ∷ 0 ∷ 13 ∷ 12 ∷ 32 ∷ 2 ∷ 2 ∷ 0 ∷ 0 ∷ 0 ∷ []

-- fn f(n: i32) -> i32 { return n; }
abbrev pub not_const : List ℕ
not_const = 5 ∷ 6 ∷ 9 ∷ 17 ∷ 20 ∷ 22 ∷ 0 ∷ 1 ∷ 1 ∷ 48 ∷ 9 ∷ 0 ∷ 2 ∷ 2 ∷ 1 ∷ 1 ∷ 2 ∷ 2 ∷ 1 ∷ 3 ∷ 13 ∷ 4 ∷ 36 ∷ 1 ∷ []

-- fn f() -> i32 { var x = 4i; return g(); } fn g() -> i32 { return x; }
abbrev pub callers_name : List ℕ
callers_name =
    11 ∷ 12 ∷ 16 ∷ 22 ∷ 26 ∷ 31 ∷ 37 ∷ 39 ∷ 42 ∷ 48 ∷ 51 ∷ 53 ∷ 0 ∷ 2 ∷ 1 ∷ 7 ∷ 48 ∷ 9 ∷ 0 ∷ 2 ∷ 2 ∷ 0 ∷ 2 ∷ 2 ∷ 3 ∷ 5 ∷ 17 ∷ 2 ∷ 1 ∷ 65535 ∷ 4 ∷ 32 ∷ 2 ∷ 4 ∷ 0 ∷ 0 ∷ 0 ∷ 13 ∷ 6 ∷ 37 ∷ 8 ∷ 0 ∷ 48 ∷ 8 ∷ 0 ∷ 2 ∷ 8 ∷ 0 ∷ 2 ∷ 1 ∷ 9 ∷ 13 ∷ 10 ∷ 36 ∷ 1 ∷ []

pub record WorkedRules : Type 0 where
  pub loop_ends_by_break : Accepted (flow Next) 3 (in_exec loop_break [] (run enough 1 1000))
  pub endless_loop_has_no_way_out : behavior loop_forever 1 ≡ none
  pub counting_takes24_steps : Accepted (flow Next) 24 (in_exec count_to_three [] (run enough 1 24))
  pub twenty_three_are_too_few : Refused C.OutOfFuel 4 None 23 (in_exec count_to_three [] (run enough 1 23))
  pub absent_condition_goes_on : Accepted (flow (Return None)) 3 (in_exec for_return [] (run enough 1 1000))
  pub body_shares_the_scope_of_for : Refused (C.Name DuplicateDecl) 10 None 8 (in_exec declared_again [] (run enough 1 1000))
  pub one_scope_is_open_then : open_scopes (in_exec declared_again [] (run enough 1 1000)).store.names ≡ 1
  pub default_waits_for_the_selectors :
      Accepted (flow (Return (Some (I32 (pos 8))))) 6 (in_exec switch_default_first [] (run enough 1 1000))
  pub increment_wraps : Accepted (holds (I32 (negsuc 2147483647))) 0 (in_exec counted_over (run enough 1 9 ∷ run enough 3 9 ∷ []) (look 1))
  pub compound_assignment_reads_first :
      Accepted (holds (I32 (pos 3))) 0 (in_exec read_before_call (run enough 1 9 ∷ run enough 3 99 ∷ []) (look 1))
  pub flag_before_count : Refused C.NotConst 0 None 0 (last_of not_const [] (call enough 9 [] 9))
  pub callee_sees_no_caller : Refused (C.Name UnknownDecl) 10 (Some 8) 8 (in_exec callers_name [] (call enough 9 [] 99))
