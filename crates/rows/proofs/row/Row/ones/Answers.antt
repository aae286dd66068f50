use Rattle.std.proofs.Common.{◌≡◌, ℕ, ◌-◌, ◌*◌, ◌<◌, min, ltb, ◌∙◌, refl, rules, arith}
use Rattle.std.proofs.lemmas.Bool.{le-ltb}
use Rattle.rows.specs.Bits.{top}
use Rattle.rows.proofs.Calls.{made}
use Rattle.rows.proofs.Rows.{at_each, ones_place}
use Rattle.rows.proofs.row.Row.ones.Goals as goal

pub returns : goal.returns
returns c = at_each (λ i. ltb i (min c.args.n 512)) c.from_fn.result (omega (arith, c.from_fn.ensures.items.long))
    (λ i h. le-ltb i (min c.args.n 512) (omega arith))
    (λ k r h e. made _ (λ p. p.0.now ≡ c.args.n) (λ j y. (r : ℕ) → r < 64 → top y r ≡ ltb r (min (c.args.n - 64 * j) 64))
    (λ p q i y own called. search rules) c.from_fn.ensures.items refl k 0 h r e ∙ ones_place c.args.n k r h e)
