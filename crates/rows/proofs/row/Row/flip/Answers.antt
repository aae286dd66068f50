use Rattle.std.proofs.Common.{◌≡◌, ℕ, ◌-◌, List, slice_index, refl, ap, ◌∙◌, rules, arith}
use lib.Bits.{bit_xor}
use Rattle.rows.specs.Bits.{top, differs}
use Rattle.rows.proofs.Bit.{bit_of_xor}
use Rattle.rows.proofs.Rows.{joined}
use Rattle.rows.proofs.row.Row.flip.Goals as goal

pub returns : goal.returns
returns c =
    let ws : List ℕ = c.args.self.now.words in
    let os : List ℕ = c.args.other.now.words in
    let us : List ℕ = c.combine.new.self.words in
    joined differs ws os us refl (omega arith) (omega arith) c.combine.ensures.long
    (λ k r h e. let t = c.combine.ensures.each k h in
    let x : ℕ = slice_index ws k in
    let y : ℕ = slice_index os k in
    let q : slice_index us k ≡ bit_xor x y = search rules in
    ap (λ z. top z r) q ∙ bit_of_xor x y (63 - r))
