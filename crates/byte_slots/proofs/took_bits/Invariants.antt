use mathlib.Core.Path.{◌≡◌}
use Prim.Native.Nat.{◌-◌}
use Rattle.byte_slots.specs.Foresight.{took_bits}
use Rattle.byte_slots.proofs.took_bits.Given as goal

abbrev pub invariant-loop-i : goal.invariant-loop-i
invariant-loop-i l = took_bits (8 - l._i) l.rest l.p ≡ took_bits 8 l.byte l.initial.p
