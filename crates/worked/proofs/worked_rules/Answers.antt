use Rattle.std.proofs.Common.{refl}
use Rattle.shape.specs.Shapes.{construct_of}
use Rattle.book.specs.Nodes.{node_at}
use Rattle.control.specs.Control.{control}
use Rattle.behavior.specs.Rules.{behavior, descend}
use Rattle.drive.specs.Drive.{and_then, answer, blame, charge, enter, go_on, opened, outside, perform, rounds, run_outside}
use Rattle.drive.specs.Drive as D
use Rattle.rules.specs.Calls.{ran_call, ran_entry}
use Rattle.rules.specs.Language.{rules}
use Rattle.rules.specs.Tree.{entry_at}
use Rattle.worked.proofs.worked_rules.Goals as goal

pub returns : goal.returns
unfolding ran_entry ran_call rules D.run run_outside outside enter go_on perform rounds and_then blame charge answer opened entry_at node_at construct_of behavior descend control
returns c =
    record {
      loop_ends_by_break = (refl, refl);
      endless_loop_has_no_way_out = refl;
      counting_takes24_steps = (refl, refl);
      twenty_three_are_too_few = (refl, refl);
      absent_condition_goes_on = (refl, refl);
      body_shares_the_scope_of_for = (refl, refl);
      one_scope_is_open_then = refl;
      default_waits_for_the_selectors = (refl, refl);
      increment_wraps = (refl, refl);
      compound_assignment_reads_first = (refl, refl);
      flag_before_count = (refl, refl);
      callee_sees_no_caller = (refl, refl);
    }
