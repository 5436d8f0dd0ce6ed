use mathlib.Core.Path.{◌≡◌}
use lib.ListN.{take}
use Rattle.wire.specs.Pairs.{paired}
use Rattle.wire.specs.Wire.{heard_by}
use Rattle.wire.proofs.Wire.hear_level.Given as goal

abbrev pub invariant-loop-i : goal.invariant-loop-i
invariant-loop-i l = l.c-items ≡ paired (heard_by l.speed l.level) (take l.i l.fn.self.line.probes) l.initial.c-items
