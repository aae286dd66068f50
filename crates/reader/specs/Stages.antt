-- What is shown on the way through the checks: after checks 2 to 5, and after check 7.
use Rattle.std.specs.Prelude.{◌≡◌, ℕ, true, false, List, [], ◌∷◌, length, Some, None, Option}
use Rattle.fields.specs.declared.refusal.Refusal.{Refusal}
use Rattle.fields.specs.declared.refusal.Reason.TheVariants as reason
use Rattle.reader.specs.declared.datagram.Datagram.{Datagram}
use Rattle.reader.specs.declared.transport.Transport.{Transport}
use Rattle.reader.specs.Layouts.{ip_protocol}
use Rattle.reader.specs.Checks.{refusal, header_length, header_of, payload_of, bad_checksum, short_payload, first_of, packet_fault}
use Rattle.reader.specs.Values.{is_later}

-- checks 6 and 7
abbrev pub content_fault : Datagram → Option Refusal
content_fault d = first_of (
    (bad_checksum d.header.bytes.now, refusal reason.Checksum 10)
    ∷ (short_payload d.header.bytes.now d.payload.now, refusal reason.Payload (length d.header.bytes.now))
    ∷ [])

-- the parts of a packet that passes checks 2 to 5; only what they hold is left to check
pub record Cut (bs : List ℕ) (d : Datagram) : Type 0 where
  pub header : d.header.bytes.now ≡ header_of bs
  pub payload : d.payload.now ≡ payload_of bs
  pub start : length d.header.bytes.now ≡ header_length bs
  pub left : packet_fault bs ≡ content_fault d

-- what the payload begins with, where it passes check 7: a later fragment has no header of its protocol
abbrev pub Begins : Datagram → Option Transport → Type 0
Begins d None = is_later d.header.bytes.now ≡ true
Begins d (Some t) =
    (is_later d.header.bytes.now ≡ false)
    × (short_payload d.header.bytes.now d.payload.now ≡ false)
    × (t.protocol ≡ ip_protocol d.header.bytes.now)
    × (t.payload.now ≡ d.payload.now)

-- how check 7 fails: at the end of the header
abbrev pub IsShort : Datagram → Refusal → Type 0
IsShort d e = (short_payload d.header.bytes.now d.payload.now ≡ true) × (e ≡ refusal reason.Payload (length d.header.bytes.now))
