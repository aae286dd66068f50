-- The fields of a packet, by its header and its payload; a field that the packet does not have is None.
use Rattle.std.specs.Prelude.{◌≡◌, ℕ, Bool, cond, not, ◌||◌, List, Some, None, Option, ◌==◌}
use Rattle.fields.specs.declared.values.flags.Flags.{Flags}
use Rattle.reader.specs.declared.values.Ports.{Ports}
use Rattle.reader.specs.declared.values.Echo.{Echo}
use Rattle.reader.specs.declared.values.EchoKind.{EchoKind}
use Rattle.reader.specs.declared.values.EchoKind.TheVariants.{Request, Reply}
use Rattle.reader.specs.declared.values.Fields.{Fields}
use Rattle.reader.specs.Layouts.{ip_fragment_offset, ip_protocol, ip_source, ip_destination, source_port, destination_port, tcp_flags, icmp_type, icmp_identifier}

abbrev pub ports_at : List ℕ → Ports
ports_at payload = record { source = record { number = source_port payload }; destination = record { number = destination_port payload } }

-- TCP and UDP have ports
abbrev pub ports_of : ℕ → List ℕ → Option Ports
ports_of protocol payload = cond (protocol == 6 || protocol == 17) (Some (ports_at payload)) None

-- TCP has flags
abbrev pub flags_of : ℕ → List ℕ → Option ℕ
flags_of protocol payload = cond (protocol == 6) (Some (tcp_flags payload)) None

-- an ICMP message of type 8 asks for an echo, and one of type 0 is it
abbrev pub echo_kind : ℕ → Option EchoKind
echo_kind type = cond (type == 8) (Some Request) (cond (type == 0) (Some Reply) None)

abbrev pub echo_as : Option EchoKind → ℕ → Option Echo
echo_as None i = None
echo_as (Some k) i = Some (record { kind = k; identifier = i })

abbrev pub echo_of : ℕ → List ℕ → Option Echo
echo_of protocol payload = cond (protocol == 1) (echo_as (echo_kind (icmp_type payload)) (icmp_identifier payload)) None

-- only a packet that is no later fragment has the header of its protocol
abbrev pub is_later : List ℕ → Bool
is_later header = not (ip_fragment_offset header == 0)

abbrev pub unless_later : {T : Type 0} → List ℕ → Option T → Option T
unless_later header field = cond (is_later header) None field

-- the flags as a number
abbrev pub flag_bits : Option Flags → Option ℕ
flag_bits None = None
flag_bits (Some f) = Some f.bits

-- the flags that the fields of a packet hold
abbrev pub flags_held : Fields → Option ℕ
flags_held f = flag_bits f.flags

pub record FieldsOf (header payload : List ℕ) (f : Fields) : Type 0 where
  pub source : f.source.bits ≡ ip_source header
  pub destination : f.destination.bits ≡ ip_destination header
  pub protocol : f.protocol.number ≡ ip_protocol header
  pub offset : f.offset ≡ ip_fragment_offset header
  pub later : f.later ≡ is_later header
  pub ports : f.ports ≡ unless_later header (ports_of (ip_protocol header) payload)
  pub flags : flags_held f ≡ unless_later header (flags_of (ip_protocol header) payload)
  pub echo : f.echo ≡ unless_later header (echo_of (ip_protocol header) payload)
