use Rattle.std.proofs.Common.{◌≡◌, ℕ, ◌&&◌, leb, ltb, ap, ◌∙◌, arith}
use Rattle.fields.specs.Strings.{begins}
use Rattle.prefixes.specs.Bits.{bits_of}
use Rattle.prefixes.specs.Ranges.{low}
use Rattle.prefixes.specs.StoredStrings.{string_of}
use Rattle.prefixes.proofs.StretchLaws.{begins_range}
use Rattle.prefixes.proofs.key.U32Key.begins_with.Goals as goal

pub returns : goal.returns
returns c =
    let x = c.args.stored.now in
    let p = string_of x in
    let e : c.from.result ≡ c.args.self.now = omega arith in
    record {
      result = c.contains.ensures ∙ ap (λ (n : ℕ). leb n c.from.result && ltb c.from.result x.range.past) x.low
          ∙ ap (λ (n : ℕ). leb (low 32 p) c.from.result && ltb c.from.result n) x.past
          ∙ begins_range p c.from.result (omega arith) ∙ ap (λ (n : ℕ). begins p (bits_of 32 n)) e;
    }
