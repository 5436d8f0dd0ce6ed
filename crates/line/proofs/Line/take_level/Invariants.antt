use mathlib.Core.Path.{◌≡◌}
use Rattle.probe.specs.Probe.{took_at}
use Rattle.line.proofs.Front.{stepped}
use Rattle.line.proofs.Line.take_level.Given as goal

abbrev pub invariant-loop-p : goal.invariant-loop-p
invariant-loop-p l = l.p-items ≡ stepped (took_at l.speed l.level) l.p-index l.initial.p-items
