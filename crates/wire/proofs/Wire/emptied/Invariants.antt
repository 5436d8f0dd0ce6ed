use mathlib.Core.Path.{◌≡◌}
use lib.ListN.{take}
use Rattle.wire.specs.Pairs.{paired}
use Rattle.wire.specs.Wire.{emptied_by}
use Rattle.wire.proofs.Wire.emptied.Given as goal

abbrev pub invariant-loop-i : goal.invariant-loop-i
invariant-loop-i l = l.c-items ≡ paired (emptied_by l.speed) (take l.i l.fn.self.line.probes) l.initial.c-items
