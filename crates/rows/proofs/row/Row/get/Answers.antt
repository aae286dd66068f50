use Rattle.std.proofs.Common.{◌-◌, ◌/◌, ◌%◌, ◌^◌, eqb, get_or, sym, ap, arith}
use lib.Bits.{and_mask}
use Rattle.rows.specs.Bits.{at, bit}
use Rattle.rows.proofs.Rows.{at_past}
use Rattle.rows.proofs.row.Row.get.Goals as goal

pub returns-then-place-ge-PLACES : goal.returns-then-place-ge-PLACES
returns-then-place-ge-PLACES c = sym (at_past c.args.self.now.words c.args.place (omega arith))

pub returns : goal.returns
unfolding at bit
returns c =
    ap (λ x. eqb x 1) (and_mask (get_or c.args.self.now.words (c.args.place / 64) 0 / 2 ^ (63 - c.args.place % 64)) 1)
