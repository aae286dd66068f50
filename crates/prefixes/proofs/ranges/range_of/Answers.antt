use Rattle.std.proofs.Common.{◌≡◌, ℕ, ◌-◌, ◌/◌, ◌^◌, ◌<◌, ap, ◌∙◌, arith}
use Rattle.prefixes.proofs.RangeLaws.{read_0, read_1, half}
use Rattle.prefixes.proofs.ranges.range_of.Goals as goal
use Rattle.prefixes.proofs.ranges.range_of.Goals.{then-symbol-eq1, else-symbol-eq1}

pub loop-symbol-preserved : goal.loop-symbol-preserved
loop-symbol-preserved c =
    let s = c.args.string.now in
    let i = c.loop-symbol.symbol-index in
    let w = c.loop-symbol.width in
    let inv = c.loop-symbol.invariant in
    let h : 0 < w = omega arith in
    let p = half w h in
    let q : c.loop-symbol.size / 2 ≡ 2 ^ (w - 1) = ap (λ (n : ℕ). n / 2) inv.0 ∙ p in
    elim c.if-symbol-eq1.branch [
      | then-symbol-eq1 x ↦ let r = read_1 s i w (omega arith) h (omega arith) in (q, omega arith, omega arith, omega arith)
      | else-symbol-eq1 x ↦ let r = read_0 s i w (omega arith) h (omega arith) in (q, omega arith, omega arith, omega arith)
    ]
