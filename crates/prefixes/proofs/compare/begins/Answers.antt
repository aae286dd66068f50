use Rattle.std.proofs.Common.{ℕ, eqb, length, ap, ◌∙◌}
use Rattle.prefixes.proofs.StringLaws.{begins_common}
use Rattle.prefixes.proofs.compare.begins.Goals as goal

pub returns : goal.returns
returns c = ap (λ (n : ℕ). eqb n (length c.args.p.now)) c.shared.ensures ∙ begins_common c.args.p.now c.args.s.now
