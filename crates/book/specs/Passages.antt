-- The packets that a book tells apart, the entries that they fit, and the whole table of labels and steps.
use Rattle.std.specs.Prelude.{◌≡◌, ℕ, ◌+◌, Bool, true, false, cond, not, ◌&&◌, List, ◌∷◌, Some, None, MatchBool, Option, ◌==◌, bit_and, nat_lt}
use Rattle.fields.specs.declared.values.label.Label.{Label}
use Rattle.fields.specs.declared.values.label.Label.TheVariants.{New, Invalid}
use Rattle.book.specs.declared.flow.Protocol.{Protocol}
use Rattle.book.specs.declared.flow.Protocol.TheVariants.{Tcp, Udp, Echo}
use Rattle.book.specs.declared.flow.Flow.{Flow}
use Rattle.book.specs.declared.entry.Entry.{Entry}
use Rattle.book.specs.declared.entry.Side.{Side}
use Rattle.book.specs.declared.entry.Side.TheVariants.{Opener, Other}
use Rattle.book.specs.declared.entry.State.TheVariants.{Opened}
use Rattle.book.specs.declared.passage.Kind.{Kind}
use Rattle.book.specs.declared.passage.Kind.TheVariants as kind
use Rattle.book.specs.declared.passage.Passage.{Passage}
use Rattle.book.specs.declared.advance.Outcome.{Outcome}
use Rattle.book.specs.declared.advance.Outcome.TheVariants as outcome
use Rattle.book.specs.declared.fit.Fit.{Fit}
use Rattle.book.specs.declared.answer.Answer.{Answer}
use Rattle.book.specs.declared.answer.Answer.TheVariants as answer
use Rattle.book.specs.Steps.{lifetime_of, label_of, erases}
use Rattle.book.specs.Live.{live_entry, Same, live_total, without, after_fit}

-- an unconnected packet fits no entry and opens none, whatever stands here
abbrev pub protocol_of : Kind → Protocol
protocol_of (kind.Tcp flags) = Tcp
protocol_of kind.Udp = Udp
protocol_of kind.EchoRequest = Echo
protocol_of kind.EchoReply = Echo
protocol_of kind.Unconnected = Echo

-- the flow of the entry that a packet fits from the side
abbrev pub flow_from : Passage → Side → Flow
flow_from p Opener = record { protocol = protocol_of p.kind; opener = p.source; other = p.destination }
flow_from p Other = record { protocol = protocol_of p.kind; opener = p.destination; other = p.source }

abbrev pub flags_of : Kind → Option ℕ
flags_of (kind.Tcp flags) = Some flags
flags_of kind.Udp = None
flags_of kind.EchoRequest = None
flags_of kind.EchoReply = None
flags_of kind.Unconnected = None

-- of TCP: SYN set, and ACK, FIN and RST clear
abbrev pub opens_new : Kind → Bool
opens_new (kind.Tcp flags) = not (bit_and flags 2 == 0) && (bit_and flags 16 == 0 && (bit_and flags 1 == 0 && bit_and flags 4 == 0))
opens_new kind.Udp = true
opens_new kind.EchoRequest = true
opens_new kind.EchoReply = false
opens_new kind.Unconnected = false

-- an echo request fits from the opener only, and a reply from the other side only
abbrev pub fits_from : Side → Kind → Bool
fits_from Opener (kind.Tcp flags) = true
fits_from Opener kind.Udp = true
fits_from Opener kind.EchoRequest = true
fits_from Opener kind.EchoReply = false
fits_from Opener kind.Unconnected = false
fits_from Other (kind.Tcp flags) = true
fits_from Other kind.Udp = true
fits_from Other kind.EchoRequest = false
fits_from Other kind.EchoReply = true
fits_from Other kind.Unconnected = false

-- the entry that a packet opens
abbrev pub opened_entry : Passage → ℕ → Entry
opened_entry p t = record { flow = flow_from p Opener; state = Opened; deadline = t + lifetime_of (protocol_of p.kind) Opened }

abbrev pub from_side : Side → Option Entry → Option Fit
from_side side (Some e) = Some (record { entry = e; side = side })
from_side side None = None

-- the live entry that a packet fits from the side
abbrev pub fit_from : ℕ → Passage → List Entry → Side → Option Fit
fit_from t p es side = cond (fits_from side p.kind) (from_side side (live_entry t (flow_from p side) es)) None

abbrev pub or_fit : Option Fit → Option Fit → Option Fit
or_fit (Some x) o = Some x
or_fit None o = o

-- the live entry that a packet fits, from the opener first
abbrev pub fit_of : ℕ → Passage → List Entry → Option Fit
fit_of t p es = or_fit (fit_from t p es Opener) (fit_from t p es Other)

abbrev pub label_for : Kind → Option Fit → Label
label_for k (Some x) = label_of x.entry.state x.side
label_for k None = cond (opens_new k) New Invalid

abbrev pub answer_of : Outcome → Answer
answer_of outcome.Renewed = answer.Renewed
answer_of outcome.Erased = answer.Erased

-- es becomes fs, and the answer is r, by the step of a packet
abbrev pub Settles : Passage → ℕ → List Entry → List Entry → Answer → Option Fit → Type 0
Settles p t es fs r (Some x) =
    (r ≡ cond (erases (flags_of p.kind)) answer.Erased answer.Renewed) × Same t fs (after_fit (flow_from p x.side) x.side (flags_of p.kind) t x.entry es)
Settles p t es fs r None =
    MatchBool (opens_new p.kind)
    (MatchBool (nat_lt (live_total t es) 1024) ((r ≡ answer.Created) × Same t fs (opened_entry p t ∷ without (flow_from p Opener) es)) ((r ≡ answer.BookFull) × Same t fs es))
    ((r ≡ answer.Nothing) × Same t fs es)

abbrev pub answer_for : Passage → ℕ → List Entry → Option Fit → Answer
answer_for p t m (Some x) = cond (erases (flags_of p.kind)) answer.Erased answer.Renewed
answer_for p t m None = cond (opens_new p.kind) (cond (nat_lt (live_total t m) 1024) answer.Created answer.BookFull) answer.Nothing

abbrev pub entries_for : Passage → ℕ → List Entry → Option Fit → List Entry
entries_for p t m (Some x) = after_fit (flow_from p x.side) x.side (flags_of p.kind) t x.entry m
entries_for p t m None = cond (opens_new p.kind) (cond (nat_lt (live_total t m) 1024) (opened_entry p t ∷ without (flow_from p Opener) m) m) m

-- the label of a packet at the clock t, where the live entries are those of m
abbrev pub label_at : Passage → ℕ → List Entry → Label
label_at p t m = label_for p.kind (fit_of t p m)

-- what the step of a packet answers
abbrev pub answer_at : Passage → ℕ → List Entry → Answer
answer_at p t m = answer_for p t m (fit_of t p m)

-- the entries after the step of a packet
abbrev pub entries_at : Passage → ℕ → List Entry → List Entry
entries_at p t m = entries_for p t m (fit_of t p m)
