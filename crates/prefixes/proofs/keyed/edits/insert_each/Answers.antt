use Rattle.std.proofs.Common.{Bool, [], get_or, ap, ◌∙◌, subst, arith}
use Rattle.std.specs.Option.{option_map}
use Rattle.rows.specs.Tables.{Put}
use Rattle.prefixes.specs.Fronts.{covers}
use Rattle.prefixes.specs.Spelled.{spelled}
use Rattle.prefixes.specs.Stored.{at}
use Rattle.prefixes.specs.StoredStrings.{strings}
use Rattle.columns.proofs.Tables.{each_more}
use Rattle.prefixes.proofs.StoredLaws.{spelled_at}
use Rattle.prefixes.proofs.keyed.edits.insert_each.Goals as goal

pub loop-i-preserved : goal.loop-i-preserved
loop-i-preserved c =
    let p = c.args.place in
    let f = option_map spelled c.args.front.now in
    let xs = c.args.stored.now in
    let rows = c.loop-i.rows in
    let i = c.loop-i.i in
    let bit = c.covers-bit.ensures ∙ ap (covers f) (spelled_at xs i c.index-stored-i.result (omega arith)) in
    each_more (λ k. Put p (covers f (at (strings xs) k))) c.args.rows.now rows i c.insert.new.self (record { words = [] }) (omega arith) c.loop-i.invariant
    (subst (λ (b : Bool). Put p b (get_or rows i (record { words = [] })) c.insert.new.self) bit c.insert.ensures)
