-- The numbers of the enums.
use Rattle.std.specs.Prelude.{ℕ}
use Rattle.book.specs.declared.flow.Protocol.{Protocol}
use Rattle.book.specs.declared.flow.Protocol.TheVariants.{Tcp, Udp, Echo}
use Rattle.book.specs.declared.entry.State.{State}
use Rattle.book.specs.declared.entry.State.TheVariants.{Opened, Answered, Closing}

-- as in an IPv4 header
abbrev pub protocol_value : Protocol → ℕ
protocol_value Tcp = 6
protocol_value Udp = 17
protocol_value Echo = 1

-- in the order in which a connection goes through them
abbrev pub state_value : State → ℕ
state_value Opened = 0
state_value Answered = 1
state_value Closing = 2
