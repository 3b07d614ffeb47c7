use Rattle.behavior.proofs.Walked.{blank}
use Rattle.behavior.proofs.summary.Summaries.new.Goals as goal

pub invariant_of-result : goal.invariant_of-result
invariant_of-result c = blank c.args.book.words.now 4096
