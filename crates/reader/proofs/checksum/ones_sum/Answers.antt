use Rattle.std.proofs.Common.{◌∙◌, arith}
use Rattle.reader.proofs.Bits.{pair_bits}
use Rattle.reader.proofs.Carries.{one_more}
use Rattle.reader.proofs.checksum.ones_sum.Goals as goal

pub loop-bytes-preserved : goal.loop-bytes-preserved
loop-bytes-preserved c =
    let h = c.args.header.now in
    let i = c.loop-bytes.bytes-index in
    let word = c.from-sum.ensures ∙ pair_bits _ i _ h _ _ c.as_chunks.ensures.front (omega (arith, c.as_chunks.ensures.front_len)) (λ n. omega (arith, c.type_inv.header n)) c.from_be_bytes.ensures in
    (omega arith, one_more h i c.loop-bytes.sum c.from-sum.result _ (omega arith) (omega arith) c.loop-bytes.invariant.1 word (omega arith))
