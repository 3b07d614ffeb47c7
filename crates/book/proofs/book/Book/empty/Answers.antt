use Rattle.std.proofs.Common.{refl}
use Rattle.layout.specs.Layout.{body_passes, end, groups, groups_pass, run_passes}
use Rattle.shape.specs.Shapes.{construct_of}
use Rattle.layout.specs.First.{first_some}
use Rattle.layout.specs.Verdict.{child_fault, layout_fault, refusal}
use Rattle.book.proofs.book.Book.empty.Goals as goal

pub invariant_of-result : goal.invariant_of-result
unfolding refusal first_some layout_fault child_fault body_passes groups_pass run_passes groups end construct_of
invariant_of-result c = record { loaded = refl }
