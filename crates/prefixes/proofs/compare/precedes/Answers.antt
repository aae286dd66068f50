use Rattle.std.proofs.Common.{ℕ, ltb, get_or, sym, ap, ◌∙◌, arith}
use Rattle.prefixes.proofs.StringLaws.{ordered_all, ordered_short, ordered_at}
use Rattle.prefixes.proofs.compare.precedes.Goals as goal

pub returns-then-at-p : goal.returns-then-at-p
returns-then-at-p c = sym (ordered_all c.args.p.now c.args.s.now (omega arith))

pub returns-then-at-s : goal.returns-then-at-s
returns-then-at-s c = sym (ordered_short c.args.p.now c.args.s.now (omega arith) (omega arith))

pub returns : goal.returns
returns c =
    ap (λ (n : ℕ). ltb (get_or c.args.p.now n 0) (get_or c.args.s.now n 0)) c.requires
    ∙ ordered_at c.args.p.now c.args.s.now (omega arith) (omega arith)
