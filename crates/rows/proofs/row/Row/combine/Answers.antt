use Rattle.std.proofs.Common.{◌≡◌, ◌^◌, ◌<◌, slice_index, refl, rules}
use Rattle.rows.proofs.Calls.{made}
use Rattle.rows.proofs.row.Row.combine.Given.{F-post}
use Rattle.rows.proofs.row.Row.combine.Goals as goal

pub returns : goal.returns
returns g c = record {
  long = c.from_fn-self.ensures.items.long;
  each = λ k. made _
      (λ p. (p.0.now ≡ c.args.join) × (p.1.now ≡ c.args.self.now.words) × (p.2.now.words ≡ c.args.other.now.words))
      (λ j y. (slice_index c.args.other.now.words j < 2 ^ 64) × F-post g c.args.join (slice_index c.args.self.now.words j) (slice_index c.args.other.now.words j) y)
      (λ p q i y own called. search rules)
      c.from_fn-self.ensures.items (refl, refl, refl) k 0;
}
