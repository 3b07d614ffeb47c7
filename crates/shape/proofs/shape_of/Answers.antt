use Rattle.std.proofs.Common.{◌∙◌, refl}
use Rattle.shape.proofs.Table.{table}
use Rattle.shape.proofs.shape_of.Goals as goal

pub returns : goal.returns
returns c = c.row_at.ensures ∙ table _ c.args.tag refl
