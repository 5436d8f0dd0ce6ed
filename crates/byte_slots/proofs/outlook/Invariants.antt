use mathlib.Core.Path.{◌≡◌}
use mathlib.Core.Bool.{true}
use lib.ListN.{take}
use Rattle.line.specs.Line.{all}
use Rattle.byte_slots.specs.Foresight.{foreseen, meet}
use Rattle.byte_slots.proofs.outlook.Given as goal

abbrev pub invariant-loop-p : goal.invariant-loop-p
invariant-loop-p l =
    (all (foreseen l.speed 8) (take l.p-index l.p-items) ≡ true) × (l.levels ≡ meet 8 l.byte (take l.p-index l.p-items))
