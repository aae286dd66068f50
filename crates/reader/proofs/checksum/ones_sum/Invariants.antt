use Rattle.std.proofs.Common.{◌≡◌, ◌*◌, ◌≤◌}
use Rattle.reader.specs.Sums.{carried, first_words_sum}
use Rattle.reader.proofs.checksum.ones_sum.Given as goal

abbrev pub invariant-loop-bytes : goal.invariant-loop-bytes
invariant-loop-bytes l = (l.sum ≤ 65535 * l.bytes-index) × (carried (carried l.sum) ≡ first_words_sum l.bytes-index l.header)
