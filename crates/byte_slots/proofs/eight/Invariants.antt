use mathlib.Core.Path.{◌≡◌}
use Prim.Native.Nat.{◌-◌}
use Rattle.byte_slots.specs.SlotBySlot.{slots_in}
use Rattle.byte_slots.proofs.Turns.{gathered}
use Rattle.byte_slots.proofs.eight.Given as goal

abbrev pub invariant-loop-i : goal.invariant-loop-i
invariant-loop-i g l =
    let f = g.L.SlotBySlot.level_in in
    let t = g.L.SlotBySlot.taken_in in
    (gathered f t l.speed (8 - l._i) l.levels l.rest l.line ≡ gathered f t l.speed 8 0 l.byte l.initial.line)
    × (slots_in f t l.speed (8 - l._i) l.rest l.line ≡ slots_in f t l.speed 8 l.byte l.initial.line)
