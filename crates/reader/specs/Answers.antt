-- What reading a packet answers.
use Rattle.std.specs.Prelude.{◌≡◌, ℕ, List, Some, None, Ok, Err, Result}
use Rattle.fields.specs.declared.refusal.Refusal.{Refusal}
use Rattle.reader.specs.declared.packet.Packet.{Packet}
use Rattle.reader.specs.Checks.{header_length, header_of, payload_of, packet_fault}
use Rattle.reader.specs.Values.{FieldsOf}

-- a packet that passes every check: its parts, their places, and its fields
pub record Accepted (bs : List ℕ) (p : Packet) : Type 0 where
  pub passes : packet_fault bs ≡ None
  pub header : p.header.bytes.now ≡ header_of bs
  pub header_place : p.header.place ≡ 0
  pub payload : p.payload.bytes.now ≡ payload_of bs
  pub payload_place : p.payload.place ≡ header_length bs
  pub fields : FieldsOf (header_of bs) (payload_of bs) p.fields

-- a packet is accepted, or refused for the first check that fails
abbrev pub ReadAs : List ℕ → Result Packet Refusal → Type 0
ReadAs bs (Ok p) = Accepted bs p
ReadAs bs (Err e) = packet_fault bs ≡ Some e
