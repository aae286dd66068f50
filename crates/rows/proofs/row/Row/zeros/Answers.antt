use Rattle.rows.proofs.Rows.{at_zeros}
use Rattle.rows.proofs.row.Row.zeros.Goals as goal

pub returns : goal.returns
returns c = at_zeros 8
