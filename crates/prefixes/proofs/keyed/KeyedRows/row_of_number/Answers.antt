use Rattle.prefixes.specs.Bits.{bits_of}
use Rattle.prefixes.specs.Keyed.{keys_of, rows_of}
use Rattle.prefixes.proofs.FrontLaws.{row_longest}
use Rattle.prefixes.proofs.keyed.KeyedRows.row_of_number.Goals as goal

pub returns : goal.returns
returns c = λ fs.
    let s = c.args.self.now in
    row_longest (keys_of s) (rows_of s) fs (bits_of 32 c.args.key) c.longest_number.result c.index.result.now s.level c.longest_number.ensures c.index.ensures
