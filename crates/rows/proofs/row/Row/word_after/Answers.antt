use Rattle.std.proofs.Common.{◌+◌, sym, arith}
use Rattle.std.proofs.lemmas.List.{get_or_past}
use Rattle.rows.proofs.row.Row.word_after.Goals as goal

pub returns-else-k : goal.returns-else-k
returns-else-k c = sym (get_or_past c.args.self.now.words (c.args.k + 1) 0 (omega arith))
