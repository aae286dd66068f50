use Rattle.std.proofs.Common.{◌+◌, ◌^◌, ◌<◌, ◌≤◌, get_or}
use Rattle.prefixes.proofs.stretches.Stretches.look_up.Given as goal

abbrev pub invariant-loop-shift : goal.invariant-loop-shift
invariant-loop-shift l =
    (l.shift ≤ 10)
    × (l.at + 2 ^ l.shift ≤ 1024)
    × (get_or l.self.starts l.at 0 ≤ l.number)
    × (l.number < get_or l.self.starts (l.at + 2 ^ l.shift) 0)

abbrev pub decreases-loop-shift : goal.decreases-loop-shift
decreases-loop-shift l = l.shift
