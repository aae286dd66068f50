-- The checks of a packet, in the order of their numbers, and what the reader says where one fails.
use Rattle.std.specs.Prelude.{ℕ, ◌-◌, ◌*◌, Bool, cond, not, ◌&&◌, ◌||◌, List, [], ◌∷◌, length, take, drop, Some, None, Option, Ok, Err, Result, ◌==◌, nat_lt}
use Rattle.fields.specs.declared.refusal.Refusal.{Refusal}
use Rattle.fields.specs.declared.refusal.Reason.{Reason}
use Rattle.fields.specs.declared.refusal.Reason.TheVariants as reason
use Rattle.fields.specs.declared.refusal.Part.TheVariants as part
use Rattle.reader.specs.Layouts.{ip_version, ip_header_rows, ip_total_length, ip_fragment_offset, ip_protocol}
use Rattle.reader.specs.Sums.{words_sum}

abbrev pub refusal : Reason → ℕ → Refusal
refusal why where_found = record { reason = why; part = part.Reader; place = where_found }

-- the answer of a single check
abbrev pub refused_if : Bool → Reason → ℕ → Result (Unit {0}) Refusal
refused_if fault why where_found = cond fault (Err (refusal why where_found)) (Ok tt)

-- a row of the header has four bytes
abbrev pub header_length : List ℕ → ℕ
header_length bs = 4 * ip_header_rows bs

-- the header, and what stands behind it up to the total length
abbrev pub header_of : List ℕ → List ℕ
header_of bs = take (header_length bs) bs

abbrev pub payload_of : List ℕ → List ℕ
payload_of bs = take (ip_total_length bs - header_length bs) (drop (header_length bs) bs)

-- the least payload of a packet that is no later fragment: a TCP header without options, a UDP or an ICMP header
abbrev pub least_payload : ℕ → ℕ
least_payload protocol = cond (protocol == 6) 20 (cond (protocol == 17 || protocol == 1) 8 0)

-- there are fewer bytes than the shortest header has
abbrev pub truncated : List ℕ → Bool
truncated bs = nat_lt (length bs) 20

abbrev pub other_version : List ℕ → Bool
other_version bs = not (ip_version bs == 4)

-- the header has fewer than five rows, or passes the end of the packet
abbrev pub bad_header_length : List ℕ → Bool
bad_header_length bs = nat_lt (ip_header_rows bs) 5 || nat_lt (length bs) (header_length bs)

-- the packet is stated shorter than its header, or longer than it is
abbrev pub bad_total_length : List ℕ → Bool
bad_total_length bs = nat_lt (ip_total_length bs) (header_length bs) || nat_lt (length bs) (ip_total_length bs)

-- the words of the header, the checksum among them, do not have all ones as their sum
abbrev pub bad_checksum : List ℕ → Bool
bad_checksum header = not (words_sum header == 65535)

-- a packet that is no later fragment has less than the header of its protocol
abbrev pub short_payload : List ℕ → List ℕ → Bool
short_payload header payload = ip_fragment_offset header == 0 && nat_lt (length payload) (least_payload (ip_protocol header))

-- what the first test that is true says
abbrev pub first_of : List (Bool × Refusal) → Option Refusal
first_of [] = None
first_of (x ∷ xs) = cond x.0 (Some x.1) (first_of xs)

-- what is wrong with a packet, if anything is: checks 2 to 7, in their order
unfoldable pub packet_fault : List ℕ → Option Refusal
packet_fault bs = first_of (
    (truncated bs, refusal reason.Truncated (length bs))
    ∷ (other_version bs, refusal reason.Version 0)
    ∷ (bad_header_length bs, refusal reason.HeaderLength 0)
    ∷ (bad_total_length bs, refusal reason.TotalLength 2)
    ∷ (bad_checksum (header_of bs), refusal reason.Checksum 10)
    ∷ (short_payload (header_of bs) (payload_of bs), refusal reason.Payload (header_length bs))
    ∷ [])
