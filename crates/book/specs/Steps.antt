-- The table of labels and steps.
use Rattle.std.specs.Prelude.{ℕ, ◌+◌, Bool, false, cond, not, Some, None, Option, ◌==◌, bit_and}
use Rattle.book.specs.declared.flow.Protocol.{Protocol}
use Rattle.book.specs.declared.flow.Protocol.TheVariants.{Tcp, Udp, Echo}
use Rattle.book.specs.declared.entry.Entry.{Entry}
use Rattle.book.specs.declared.entry.State.{State}
use Rattle.book.specs.declared.entry.State.TheVariants.{Opened, Answered, Closing}
use Rattle.book.specs.declared.entry.Side.{Side}
use Rattle.book.specs.declared.entry.Side.TheVariants.{Opener, Other}
use Rattle.fields.specs.declared.values.label.Label.{Label}
use Rattle.fields.specs.declared.values.label.Label.TheVariants.{New, Established}

-- FIN is 1, SYN 2, RST 4, PSH 8, ACK 16, URG 32
abbrev pub has_flag : Option ℕ → ℕ → Bool
has_flag None flag = false
has_flag (Some bits) flag = not (bit_and bits flag == 0)

-- in seconds
abbrev pub lifetime_of : Protocol → State → ℕ
lifetime_of Tcp Opened = 120
lifetime_of Tcp Answered = 432000
lifetime_of Tcp Closing = 120
lifetime_of Udp Opened = 30
lifetime_of Udp Answered = 180
lifetime_of Udp Closing = 180
lifetime_of Echo s = 30

abbrev pub label_of : State → Side → Label
label_of Opened Opener = New
label_of Opened Other = Established
label_of Answered d = Established
label_of Closing d = Established

-- a reset ends the connection
abbrev pub erases : Option ℕ → Bool
erases flags = has_flag flags 4

-- the state after a packet that does not reset; `fin` says whether FIN is set
abbrev pub next_state : State → Side → Bool → State
next_state Opened Opener fin = Opened
next_state Opened Other fin = cond fin Closing Answered
next_state Answered d fin = cond fin Closing Answered
next_state Closing d fin = Closing

abbrev pub advanced : Entry → Side → Option ℕ → ℕ → Entry
advanced e side flags clock = record {
  flow = e.flow;
  state = next_state e.state side (has_flag flags 1);
  deadline = clock + lifetime_of e.flow.protocol (next_state e.state side (has_flag flags 1));
}
