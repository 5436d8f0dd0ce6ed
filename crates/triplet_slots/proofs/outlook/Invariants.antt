use mathlib.Core.Path.{◌≡◌}
use mathlib.Core.Bool.{Bool, true}
use lib.ListN.{take}
use Rattle.probe.specs.Probe.{sends_at}
use Rattle.line.specs.Line.{all}
use Rattle.triplet_slots.specs.Triplet.{settled}
use Rattle.triplet_slots.proofs.Settled.{sends_after}
use Rattle.triplet_slots.proofs.outlook.Given as goal

abbrev pub invariant-loop-p : goal.invariant-loop-p
invariant-loop-p l =
    (all (settled l.speed) (take l.p-index l.p-items) ≡ true) × (l.first ≡ all (sends_at l.speed) (take l.p-index l.p-items))
    × ((a : Bool) → l.second ≡ all (sends_after l.speed a) (take l.p-index l.p-items))
