use mathlib.Core.Path.{◌≡◌}
use Rattle.probe.specs.Probe.{reset}
use Rattle.line.proofs.Front.{stepped}
use Rattle.line.proofs.Line.reset_each.Given as goal

abbrev pub invariant-loop-p : goal.invariant-loop-p
invariant-loop-p l = l.p-items ≡ stepped (reset l.speed) l.p-index l.initial.p-items
