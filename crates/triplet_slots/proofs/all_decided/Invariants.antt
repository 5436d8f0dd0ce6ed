use mathlib.Core.Path.{◌≡◌}
use Rattle.line.proofs.Front.{stepped}
use Rattle.triplet_slots.specs.Triplet.{decided}
use Rattle.triplet_slots.proofs.all_decided.Given as goal

abbrev pub invariant-loop-p : goal.invariant-loop-p
invariant-loop-p l = l.p-items ≡ stepped (decided l.level) l.p-index l.initial.p-items
