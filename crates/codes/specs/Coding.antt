-- Flags are known by their bits.
use Rattle.std.specs.Prelude.{◌≡◌, ◌<◌}
use mathlib.Core.HLevel.{is_prop→PathP}
use Rattle.std.proofs.Math.Bridge.{le_prop}
use Rattle.fields.specs.declared.values.flags.Flags.{Flags}

pub same_flags : (f h : Flags) → f.bits ≡ h.bits → f ≡ h
same_flags f h e = λ i. record { bits = e i; within = is_prop→PathP (λ j. e j < 64) (λ j. le_prop) f.within h.within i }
