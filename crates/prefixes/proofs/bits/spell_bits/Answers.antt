use Rattle.std.proofs.Common.{◌<◌, length, ◌∙◌, arith}
use Rattle.std.proofs.lemmas.List.{take_more}
use Rattle.prefixes.specs.Bits.{bits_of}
use Rattle.prefixes.proofs.BitLaws.{length_bits, get_or_bits}
use Rattle.prefixes.proofs.bits.spell_bits.Goals as goal

pub loop-i-preserved : goal.loop-i-preserved
loop-i-preserved c =
    let b = bits_of c.args.width c.args.value in
    let i = c.loop-i.i in
    let h : i < c.args.width = omega arith in
    let more = take_more b i 0 (let e : i < length b = omega (arith, length_bits c.args.width c.args.value) in e) in
    let bit = get_or_bits c.args.width c.args.value i h in
    let inv = c.loop-i.invariant in
    c.push.ensures ∙ (rw (inv, more, bit))
