use Rattle.prefixes.specs.Keyed.{keys_of, rows_of}
use Rattle.prefixes.specs.Spelled.{spelled}
use Rattle.prefixes.proofs.FrontLaws.{row_longest}
use Rattle.prefixes.proofs.keyed.KeyedRows.row.Goals as goal

pub returns : goal.returns
returns c = λ fs.
    let s = c.args.self.now in
    row_longest (keys_of s) (rows_of s) fs (spelled c.args.key.now) c.longest.result c.index.result.now s.level c.longest.ensures c.index.ensures
