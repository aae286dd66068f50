use Rattle.std.proofs.Common.{refl}
use Rattle.columns.proofs.Worked.{all_worked}
use Rattle.columns.proofs.examples.worked_examples.Goals as goal

pub returns : goal.returns
returns c = record { all = all_worked; result = refl }
