-- The worked examples, line by line.
use Rattle.std.proofs.Common.{◌≡◌, ℕ, Bool, eqb, [], ◌∷◌, codes, refl, ap, ◌∙◌}
use Rattle.fields.specs.Addresses.{first_bits}
use Rattle.fields.specs.Strings.{begins}
use Rattle.columns.specs.Examples.{AllWorked, word_of, dotted}

-- a prefix by its bits and its length, so that it computes
abbrev at : ℕ → ℕ → ℕ → Bool
at bits length a = eqb (first_bits length a) (first_bits length bits)

pub all_worked : AllWorked
all_worked e = record {
  inside_both = two (dotted 10 1 2 3).bits 0xC000_0000_0000_0000 refl;
  inside_one = two (dotted 10 2 0 0).bits 0x8000_0000_0000_0000 refl;
  other_port = refl;
  same_port = refl;
  no_port = refl;
  exact_name = ap (begins _) e.exact_bytes ∙ ap (λ p. begins p (codes "eth")) e.eth_bytes;
  longer_name = ap (begins _) e.longer_bytes ∙ ap (λ p. begins p (codes "eth0")) e.eth_bytes;
  shorter_name = ap (begins _) e.short_bytes ∙ ap (λ p. begins p (codes "et")) e.eth_bytes;
}
  where
    two : (a w : ℕ) → word_of 64 (at (dotted 10 0 0 0).bits 8 a ∷ at (dotted 10 1 0 0).bits 16 a ∷ []) ≡ w
        → word_of 64 (at e.wide.bits e.wide.length a ∷ at e.narrow.bits e.narrow.length a ∷ []) ≡ w
    two a w h = rw (e.wide_bits, e.wide_length, e.narrow_bits, e.narrow_length) h
