-- Which values pass the tests of protocols, ports, flags and labels.
use Rattle.std.specs.Prelude.{Bool, not, ◌==◌, bit_and}
use Rattle.fields.specs.Labels.{label_value}
use Rattle.fields.specs.declared.patterns.flags.FlagsPattern.{FlagsPattern}
use Rattle.fields.specs.declared.patterns.label.LabelSet.{LabelSet}
use Rattle.fields.specs.declared.patterns.protocol.ProtocolNumber.{ProtocolNumber}
use Rattle.fields.specs.declared.values.flags.Flags.{Flags}
use Rattle.fields.specs.declared.values.label.Label.{Label}
use Rattle.fields.specs.declared.values.port.Port.{Port}
use Rattle.fields.specs.declared.values.protocol.Protocol.{Protocol}

-- the protocol itself
abbrev pub protocol_passes : ProtocolNumber → Protocol → Bool
protocol_passes p v = v.number == p.number

-- the port itself
abbrev pub port_passes : Port → Port → Bool
port_passes p v = v.number == p.number

-- those flags of the mask are set that are wanted, and no others of the mask
abbrev pub flags_pass : FlagsPattern → Flags → Bool
flags_pass p v = bit_and v.bits p.mask == p.wanted

-- the label is one of the set, a sum of label values
abbrev pub label_passes : LabelSet → Label → Bool
label_passes s v = not (bit_and s.members (label_value v) == 0)
