use Rattle.rows.specs.Shown.{shown}
use Rattle.prefixes.specs.Keyed.{keys_of, rows_of}
use Rattle.prefixes.proofs.FrontLaws.{serves_any}
use Rattle.prefixes.proofs.keyed.KeyedRows.serves.Goals as goal

pub returns : goal.returns
returns c = λ fs.
    let s = c.args.self.now in
    serves_any (keys_of s) (rows_of s) fs c.args.at c.parent.result c.index.result.now c.index-2.result.now (shown c.clear.new.self)
    c.any.result s.set.set.ascending s.level c.requires.within c.parent.ensures c.index.ensures
    c.index-2.ensures c.clear.ensures c.any.ensures
