-- The headers of RFC 791, 768, 9293 and 792, box by box.
use Rattle.std.specs.Prelude.{ℕ, List}
use Rattle.reader.specs.Drawings.{box}

-- RFC 791, section 3.1: Internet header
--
--   |0              |8              |16             |24            31|
--   +-------+-------+---------------+--------------------------------+
-- 0 |Version|  IHL  |Type of Service|         Total Length           |
--   +-------+-------+---------------+-----+--------------------------+
-- 1 |        Identification         |Flags|     Fragment Offset      |
--   +---------------+---------------+-----+--------------------------+
-- 2 | Time to Live  |   Protocol    |        Header Checksum         |
--   +---------------+---------------+--------------------------------+
-- 3 |                        Source Address                          |
--   +----------------------------------------------------------------+
-- 4 |                      Destination Address                       |
--   +----------------------------------------------------------------+
--   |                          Options ..                            |

abbrev pub ip_version : List ℕ → ℕ
ip_version = box 0 0 4

abbrev pub ip_header_rows : List ℕ → ℕ
ip_header_rows = box 0 4 4

abbrev pub ip_total_length : List ℕ → ℕ
ip_total_length = box 0 16 16

abbrev pub ip_fragment_offset : List ℕ → ℕ
ip_fragment_offset = box 1 19 13

abbrev pub ip_protocol : List ℕ → ℕ
ip_protocol = box 2 8 8

abbrev pub ip_source : List ℕ → ℕ
ip_source = box 3 0 32

abbrev pub ip_destination : List ℕ → ℕ
ip_destination = box 4 0 32

-- RFC 768 and RFC 9293, section 3.1: both begin with the ports
--
--   |0              |8              |16             |24            31|
--   +-------------------------------+--------------------------------+
-- 0 |          Source Port          |       Destination Port         |
--   +-------------------------------+--------------------------------+

abbrev pub source_port : List ℕ → ℕ
source_port = box 0 0 16

abbrev pub destination_port : List ℕ → ℕ
destination_port = box 0 16 16

-- RFC 9293, section 3.1: TCP header
--
--   |0              |8  |10         |16             |24            31|
--   +-------------------------------+--------------------------------+
-- 1 |                        Sequence Number                         |
--   +----------------------------------------------------------------+
-- 2 |                     Acknowledgment Number                      |
--   +-------+-------+---+-----------+--------------------------------+
-- 3 |Offset |Reservd|   |U A P R S F|            Window              |
--   +-------+-------+---+-----------+--------------------------------+
-- 4 |           Checksum            |        Urgent Pointer          |
--   +-------------------------------+--------------------------------+

abbrev pub tcp_flags : List ℕ → ℕ
tcp_flags = box 3 10 6

-- RFC 792: echo message and echo reply message
--
--   |0              |8              |16             |24            31|
--   +---------------+---------------+--------------------------------+
-- 0 |     Type      |     Code      |           Checksum             |
--   +---------------+---------------+--------------------------------+
-- 1 |          Identifier           |        Sequence Number         |
--   +-------------------------------+--------------------------------+

abbrev pub icmp_type : List ℕ → ℕ
icmp_type = box 0 0 8

abbrev pub icmp_identifier : List ℕ → ℕ
icmp_identifier = box 1 0 16
