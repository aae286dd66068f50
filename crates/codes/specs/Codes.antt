-- The codes of protocols, flags and labels, and the values back from their codes.
use Rattle.std.specs.Prelude.{ℕ, zero, suc, ◌%◌}
use Rattle.std.proofs.Common.{lit<, mod-lt}
use Rattle.fields.specs.declared.values.flags.Flags.{Flags}
use Rattle.fields.specs.declared.values.label.Label.{Label}
use Rattle.fields.specs.declared.values.label.Label.TheVariants.{New, Established, Invalid}
use Rattle.fields.specs.declared.values.protocol.Protocol.{Protocol}

abbrev pub protocol_of : ℕ → Protocol
protocol_of k = record { number = k }

abbrev pub flags_of : ℕ → Flags
flags_of k = record { bits = k % 64; within = mod-lt k (lit< tt) }

abbrev pub label_code : Label → ℕ
label_code New = 0
label_code Established = 1
label_code Invalid = 2

abbrev pub label_of : ℕ → Label
label_of zero = New
label_of (suc zero) = Established
label_of (suc (suc k)) = Invalid
