use Rattle.std.proofs.Common.{◌≡◌, ℕ, List, ap, ◌∙◌, subst, arith}
use Rattle.prefixes.specs.Stored.{Longest}
use Rattle.prefixes.specs.Bits.{bits_of}
use Rattle.prefixes.specs.Indexed.{kept}
use Rattle.prefixes.proofs.indexed.IndexedSet.longest_number.Goals as goal

pub returns-in-None : goal.returns-in-None
returns-in-None c =
    let e : c.from.result ≡ c.args.key = omega arith in
    subst (λ (s : List ℕ). Longest (kept c.args.self.now) s c.longest.result) (c.spell_bits.ensures ∙ ap (bits_of 32) e) c.longest.ensures
