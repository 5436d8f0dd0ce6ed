use mathlib.Core.Path.{◌≡◌}
use lib.ListN.{take}
use Rattle.wire.specs.Pairs.{paired}
use Rattle.wire.specs.Wire.{quieted}
use Rattle.wire.proofs.Wire.quiet_over.Given as goal

abbrev pub invariant-loop-i : goal.invariant-loop-i
invariant-loop-i l = l.p-items ≡ paired (quieted l.speed) (take l.i l.fn.self.chips.table) l.initial.p-items
