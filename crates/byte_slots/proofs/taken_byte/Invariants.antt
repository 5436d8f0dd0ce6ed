use mathlib.Core.Path.{◌≡◌}
use Rattle.line.proofs.Front.{stepped}
use Rattle.byte_slots.specs.Foresight.{took_bits}
use Rattle.byte_slots.proofs.taken_byte.Given as goal

abbrev pub invariant-loop-p : goal.invariant-loop-p
invariant-loop-p l = l.p-items ≡ stepped (took_bits 8 l.byte) l.p-index l.initial.p-items
