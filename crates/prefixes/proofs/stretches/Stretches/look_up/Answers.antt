use Rattle.std.proofs.Common.{◌≡◌, ℕ, ◌+◌, ◌^◌, ◌<◌, ◌≤◌, List, length, get_or, ap, subst, ⊎_elim, arith}
use Rattle.std.proofs.lemmas.Bool.{cases_lt}
use Rattle.prefixes.specs.Bits.{bits_of}
use Rattle.prefixes.specs.Ranges.{Padded}
use Rattle.prefixes.specs.Stored.{Longest}
use Rattle.prefixes.proofs.stretches.Stretches.look_up.Goals as goal

-- a start that is not above the key is none of those behind the last stretch
inside : (starts : List ℕ) (n key at : ℕ) → Padded starts n → at < length starts → get_or starts at 0 ≤ key → key < get_or starts n 0 → at < n
inside starts n key at p h l k = ⊎_elim (λ lt. lt) (λ ge. let e = p at ge h in absurd (omega arith)) (cases_lt at n)

pub returns-clause-longest : goal.returns-clause-longest
returns-clause-longest c = λ ss divided.
    let s = c.args.self.now in
    let n = c.from-number.result in
    let at = c.loop-shift.at in
    let inv = c.loop-shift.invariant in
    let one : at + 2 ^ c.loop-shift.shift ≡ at + 1 = ap (λ (k : ℕ). at + 2 ^ k) (let z : c.loop-shift.shift ≡ 0 = omega arith in z) in
    let below : at < s.count = inside s.starts s.count n at s.padded (omega (arith, one)) inv.2 (omega arith) in
    let b = divided at below n inv.2 (subst (λ (k : ℕ). n < get_or s.starts k 0) one inv.3) in
    let e : n ≡ c.args.key = omega arith in
    subst (λ (k : ℕ). Longest ss (bits_of 32 k) (get_or s.answers at 0)) e (record { within = b.0; front = b.1; covers = b.2 })
