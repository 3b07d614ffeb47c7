-- The language of rules: what each entry does as what it is begun as.
use Rattle.std.specs.Prelude.{ℕ, List, Some, None, Option}
use Rattle.drive.specs.Act.{Act, Lang, Round, end}
use Rattle.rules.specs.Eval.{eval, eval_callee}
use Rattle.rules.specs.Exec.{compound, exec, exec_continuing, exec_round, no_round}
use Rattle.rules.specs.Store.{Begun, Env, OutOf, Store, because, block, body_of, callee, continuing, entry_number, expression, lost, shape, statement}
use Rattle.rules.specs.Tree.{Entry, Statement, entry_at}
use Rattle.rules.specs.Tree as T
use Rattle.rules.specs.declared.error.Cause.TheVariants.{OutOfFuel, TooDeep}
use Rattle.rules.specs.declared.flow.CompoundScope.{CompoundScope}
use Rattle.rules.specs.declared.flow.Flow.{Flow}
use Rattle.rules.specs.declared.flow.Operand.{Operand}

module _ {V : Type 0} (env : Env V) where
  abbrev pub as_statement : Entry → Store V → Act (shape V) (Flow V)
  as_statement (T.statement x) s = exec env x s
  as_statement (T.unit cs) s = lost s
  as_statement (T.continuing b c) s = lost s
  as_statement (T.expression x) s = lost s
  as_statement (T.function f) s = lost s
  as_statement T.absent s = lost s

  -- What list a compound has.
  abbrev pub statements_of : Statement → Option (List ℕ)
  statements_of (T.Compound es) = Some es
  statements_of T.Empty = None
  statements_of (T.Assignment op l r) = None
  statements_of (T.Increment c) = None
  statements_of (T.Decrement c) = None
  statements_of (T.If cs o) = None
  statements_of (T.Switch c cs) = None
  statements_of (T.Loop b c) = None
  statements_of (T.For i c u b) = None
  statements_of (T.While c b) = None
  statements_of T.Break = None
  statements_of T.Continue = None
  statements_of (T.Return c) = None
  statements_of T.Discard = None
  statements_of (T.CallStatement c) = None
  statements_of (T.ConstAssert c) = None
  statements_of (T.Declaration kind name ty c) = None

  abbrev pub as_block : CompoundScope → Option (List ℕ) → Store V → Act (shape V) (Flow V)
  as_block scope None s = lost s
  as_block scope (Some es) s = compound scope es s

  abbrev pub block_of : Entry → Option (List ℕ)
  block_of (T.statement x) = statements_of x
  block_of (T.unit cs) = None
  block_of (T.continuing b c) = None
  block_of (T.expression x) = None
  block_of (T.function f) = None
  block_of T.absent = None

  abbrev pub as_continuing : Entry → Store V → Act (shape V) (Flow V)
  as_continuing (T.continuing b c) s = exec_continuing env b c s
  as_continuing (T.statement x) s = lost s
  as_continuing (T.unit cs) s = lost s
  as_continuing (T.expression x) s = lost s
  as_continuing (T.function f) s = lost s
  as_continuing T.absent s = lost s

  abbrev pub as_expression : Entry → Store V → Act (shape V) (Operand V)
  as_expression (T.expression x) s = eval env x s
  as_expression (T.statement x) s = lost s
  as_expression (T.unit cs) s = lost s
  as_expression (T.continuing b c) s = lost s
  as_expression (T.function f) s = lost s
  as_expression T.absent s = lost s

  abbrev pub as_callee : Entry → Store V → Act (shape V) (Option V)
  as_callee (T.expression x) s = eval_callee env x s
  as_callee (T.statement x) s = lost s
  as_callee (T.unit cs) s = lost s
  as_callee (T.continuing b c) s = lost s
  as_callee (T.function f) s = lost s
  as_callee T.absent s = lost s

  abbrev pub act_of : (c : Begun) → Store V → Act (shape V) (OutOf V c)
  act_of (statement e) s = as_statement (entry_at env.words e) s
  act_of (block scope f e) s = as_block scope (block_of (entry_at env.words e)) s
  act_of (continuing e) s = as_continuing (entry_at env.words e) s
  act_of (expression e) s = as_expression (entry_at env.words e) s
  act_of (callee e) s = as_callee (entry_at env.words e) s

  -- A statement's round; nothing else is a loop.
  abbrev pub statement_round : ℕ → Entry → Store V → Round (shape V) (Flow V)
  statement_round e (T.statement x) s = exec_round env e x s
  statement_round e (T.unit cs) s = no_round env e s
  statement_round e (T.continuing b c) s = no_round env e s
  statement_round e (T.expression x) s = no_round env e s
  statement_round e (T.function f) s = no_round env e s
  statement_round e T.absent s = no_round env e s

  abbrev pub round_of : (c : Begun) → Store V → Round (shape V) (OutOf V c)
  round_of (statement e) s = statement_round e (entry_at env.words e) s
  round_of (block scope f e) s = no_round env e s
  round_of (continuing e) s = no_round env e s
  round_of (expression e) s = record { child = expression e; state = s; next = end }
  round_of (callee e) s = record { child = callee e; state = s; next = end }

  unfoldable pub rules : Lang (shape V)
  rules =
      record {
        act = act_of;
        round = round_of;
        entry = entry_number;
        blames = body_of;
        spent = because OutOfFuel;
        full = because TooDeep;
      }
