-- When the condition of each field holds.
use Rattle.std.specs.Prelude.{Bool, Option}
use Rattle.fields.specs.Addresses.{within}
use Rattle.fields.specs.Conditions.{plain_admits, sided_admits}
use Rattle.fields.specs.NamePatterns.{name_passes}
use Rattle.fields.specs.Passing.{protocol_passes, port_passes, flags_pass, label_passes}
use Rattle.fields.specs.declared.condition.plain.Plain.{Plain}
use Rattle.fields.specs.declared.condition.sided.Sided.{Sided}
use Rattle.fields.specs.declared.patterns.address.AddressPrefix.{AddressPrefix}
use Rattle.fields.specs.declared.patterns.flags.FlagsPattern.{FlagsPattern}
use Rattle.fields.specs.declared.patterns.label.LabelSet.{LabelSet}
use Rattle.fields.specs.declared.patterns.name.NamePattern.{NamePattern}
use Rattle.fields.specs.declared.patterns.protocol.ProtocolNumber.{ProtocolNumber}
use Rattle.fields.specs.declared.values.address.Address.{Address}
use Rattle.fields.specs.declared.values.flags.Flags.{Flags}
use Rattle.fields.specs.declared.values.label.Label.{Label}
use Rattle.fields.specs.declared.values.name.InterfaceName.{InterfaceName}
use Rattle.fields.specs.declared.values.port.Port.{Port}
use Rattle.fields.specs.declared.values.protocol.Protocol.{Protocol}

abbrev pub address_admits : Sided (Plain AddressPrefix) → Option Address → Bool
address_admits = sided_admits (plain_admits within)

abbrev pub protocol_admits : Sided (Plain ProtocolNumber) → Option Protocol → Bool
protocol_admits = sided_admits (plain_admits protocol_passes)

abbrev pub port_admits : Sided (Plain Port) → Option Port → Bool
port_admits = sided_admits (plain_admits port_passes)

abbrev pub flags_admit : Sided (Plain FlagsPattern) → Option Flags → Bool
flags_admit = sided_admits (plain_admits flags_pass)

abbrev pub label_admits : Sided (Plain LabelSet) → Option Label → Bool
label_admits = sided_admits (plain_admits label_passes)

abbrev pub name_admits : Sided (Plain NamePattern) → Option InterfaceName → Bool
name_admits = sided_admits (plain_admits name_passes)
