-- A value passes a test exactly where the front of the test begins the value's spelling.
use Rattle.std.specs.Prelude.{◌≡◌, ℕ, zero, suc, ◌+◌, ◌-◌, ◌*◌, ◌/◌, ◌%◌, ◌^◌, ◌<◌, ◌≤◌, true, false, cond, ◌&&◌, List, [], ◌∷◌, ◌++◌, length, take, ◌==◌, ◌≢◌, nat_eq, nat_lt, slice_index, refl}
use Rattle.std.proofs.Common.{sym, ap, subst, ◌∙◌, ⊎_elim, arith, length-take}
use Rattle.std.proofs.Math.Nat.{div-div-eq-div-mul}
use Rattle.std.proofs.lemmas.Nat.{pow-add}
use Rattle.std.proofs.lemmas.List.{get_or-take}
use Rattle.std.proofs.lemmas.Bool.{cases_eq, cases_lt, both_ways, eq-eqb, ne_eqb, lt-ltb, le-ltb, cond-true, cond-false}
use Rattle.std.proofs.lemmas.Bool.Decides.{nat_tests}
use Rattle.fields.specs.Addresses.{within}
use Rattle.fields.specs.NameBytes.{name_byte}
use Rattle.fields.specs.NamePatterns.{name_passes}
use Rattle.fields.specs.Names.{text_bytes, name_bytes}
use Rattle.fields.specs.Strings.{begins, same}
use Rattle.fields.specs.declared.patterns.address.AddressPrefix.{AddressPrefix}
use Rattle.fields.specs.declared.patterns.name.NamePattern.{NamePattern}
use Rattle.fields.specs.declared.patterns.name.NamePattern.TheVariants.{Whole, Beginning}
use Rattle.fields.specs.declared.values.address.Address.{Address}
use Rattle.fields.specs.declared.values.name.InterfaceName.{InterfaceName}
use Rattle.fields.specs.declared.values.name.NameText.{NameText}
use Rattle.prefixes.specs.Bits.{bits_of}
use Rattle.prefixes.specs.Spelling.{address_front, address_spelling, name_front, name_spelling}

-- two numbers with the same first bits have fewer first bits the same
fewer_bits : (x y k m : ℕ) → x / 2 ^ k ≡ y / 2 ^ k → x / 2 ^ (k + m) ≡ y / 2 ^ (k + m)
fewer_bits x y k m e = shifted x ∙ ap (λ (n : ℕ). n / 2 ^ m) e ∙ sym (shifted y)
  where
    shifted : (z : ℕ) → z / 2 ^ (k + m) ≡ z / 2 ^ k / 2 ^ m
    shifted z = ap (λ (n : ℕ). z / n) (pow-add 2 k m) ∙ sym (div-div-eq-div-mul z (2 ^ k) (2 ^ m))

halved : (w z : ℕ) → z / 2 ^ suc w ≡ z / 2 ^ w / 2
halved w z = ap (λ (n : ℕ). z / n) (let e : 2 ^ suc w ≡ 2 ^ w * 2 = omega arith in e) ∙ sym (div-div-eq-div-mul z (2 ^ w) 2)

-- where the bits before the last w agree, the first n of those w agree exactly where they agree as a number
bits_begin : (w n x y : ℕ) → n ≤ w → x / 2 ^ w ≡ y / 2 ^ w → (y / 2 ^ (w - n) == x / 2 ^ (w - n)) ≡ begins (take n (bits_of w x)) (bits_of w y)
bits_begin w zero x y h e =
    let z : w - 0 ≡ w = omega arith in
    eq-eqb (y / 2 ^ (w - 0)) (x / 2 ^ (w - 0)) (subst (λ (k : ℕ). y / 2 ^ k ≡ x / 2 ^ k) (sym z) (sym e))
bits_begin zero (suc n) x y h e = absurd (omega arith)
bits_begin (suc w) (suc n) x y h e = ⊎_elim
    (λ same. let next : x / 2 ^ w ≡ y / 2 ^ w = omega (arith, halved w x, halved w y) in
    ap (λ (k : ℕ). nat_eq (y / 2 ^ k) (x / 2 ^ k)) d ∙ bits_begin w n x y (omega arith) next ∙ sym (cond-true (x / 2 ^ w % 2 == y / 2 ^ w % 2) _ _ (eq-eqb (x / 2 ^ w % 2) (y / 2 ^ w % 2) same)))
    (λ other. ne_eqb (y / 2 ^ (suc w - suc n)) (x / 2 ^ (suc w - suc n))
    (λ q. let f = fewer_bits x y (suc w - suc n) n (sym q) in
    let g : suc w - suc n + n ≡ w = omega arith in
    other (ap (λ (k : ℕ). k % 2) (subst (λ (k : ℕ). x / 2 ^ k ≡ y / 2 ^ k) g f)))
    ∙ sym (cond-false (x / 2 ^ w % 2 == y / 2 ^ w % 2) _ _ (ne_eqb (x / 2 ^ w % 2) (y / 2 ^ w % 2) other)))
    (cases_eq (x / 2 ^ w % 2) (y / 2 ^ w % 2))
  where
    d : suc w - suc n ≡ w - n
    d = omega arith

-- no bits before the last 32
none_before : (x : ℕ) → x < 2 ^ 32 → x / 2 ^ 32 ≡ 0
none_before x l = omega arith

pub address_meets : (p : AddressPrefix) (a : Address) → a.bits < 2 ^ 32 → within p a ≡ begins (address_front p) (address_spelling a)
address_meets p a l = ⊎_elim
    (λ fits. bits_begin 32 p.length p.bits a.bits p.short (none_before p.bits fits ∙ sym (none_before a.bits l))
    ∙ sym (ap (λ (s : List ℕ). begins s (address_spelling a)) (cond-true (nat_lt p.bits (2 ^ 32)) _ _ (lt-ltb p.bits (2 ^ 32) fits))))
    (λ past. ne_eqb (a.bits / 2 ^ (32 - p.length)) (p.bits / 2 ^ (32 - p.length))
    (λ e. let f = fewer_bits a.bits p.bits (32 - p.length) p.length e in
    let g : 32 - p.length + p.length ≡ 32 = omega (arith, p.short) in
    let q : a.bits / 2 ^ 32 ≡ p.bits / 2 ^ 32 = subst (λ (k : ℕ). a.bits / 2 ^ k ≡ p.bits / 2 ^ k) g f in
    omega (arith, none_before a.bits l))
    ∙ sym (ap (λ (s : List ℕ). begins s (address_spelling a)) (cond-false (nat_lt p.bits (2 ^ 32)) _ _ (le-ltb p.bits (2 ^ 32) past))
    ∙ cond-false (2 == a.bits / 2 ^ 31 % 2) _ _ (ne_eqb 2 (a.bits / 2 ^ 31 % 2) (λ e. omega arith))))
    (cases_lt p.bits (2 ^ 32))

-- no end mark among the symbols
abbrev Endless : List ℕ → Type 0
Endless s = (k : ℕ) → k < length s → slice_index s k ≢ 0

text_endless : (t : NameText) → Endless (text_bytes t)
text_endless t k h e =
    let n = length-take t.length t.bytes in
    let l : k < t.length = omega arith in
    both_ways (name_byte (slice_index t.bytes k)) (ap name_byte (sym (get_or-take t.length t.bytes k 0 l) ∙ e)) (t.lawful k l)

rest : (x : ℕ) (s : List ℕ) → Endless (x ∷ s) → Endless s
rest x s endless k h e = endless (suc k) (omega arith) e

-- an end mark behind both strings: one begins the other only where they are the same
end_begins : (p s : List ℕ) → Endless p → Endless s → same p s ≡ begins (p ++ 0 ∷ []) (s ++ 0 ∷ [])
end_begins [] [] u v = refl
end_begins [] (y ∷ s) u v =
    ap (λ b. b && true) (ne_eqb 0 (length (y ∷ s)) (λ e. omega arith))
    ∙ sym (cond-false (0 == y) _ _ (ne_eqb 0 y (λ e. v 0 (omega arith) (sym e))))
end_begins (x ∷ p) [] u v =
    ap (λ b. b && false) (ne_eqb (length (x ∷ p)) 0 (λ e. omega arith))
    ∙ sym (cond-false (x == 0) _ _ (ne_eqb x 0 (λ e. u 0 (omega arith) e)))
end_begins (x ∷ p) (y ∷ s) u v = let a = end_begins p s (rest x p u) (rest y s v) in grind (arith, nat_tests)

-- an end mark behind a string does not change what begins it
front_begins : (p s : List ℕ) → Endless p → begins p s ≡ begins p (s ++ 0 ∷ [])
front_begins [] s u = refl
front_begins (x ∷ p) [] u = sym (cond-false (x == 0) _ _ (ne_eqb x 0 (λ e. u 0 (omega arith) e)))
front_begins (x ∷ p) (y ∷ s) u = ap (λ b. cond (x == y) b false) (front_begins p s (rest x p u))

pub name_meets : (t : NamePattern) (v : InterfaceName) → name_passes t v ≡ begins (name_front t) (name_spelling v)
name_meets (Whole n) v = end_begins (name_bytes n) (name_bytes v) (text_endless n.text) (text_endless v.text)
name_meets (Beginning b) v = front_begins (text_bytes b.text) (name_bytes v) (text_endless b.text)
