use Rattle.checksum.specs.Register.{entered}
use Rattle.checksum.proofs.Shift.{Left}
use Rattle.checksum.proofs.entered.Given as goal

abbrev pub invariant-loop-rest : goal.invariant-loop-rest
invariant-loop-rest g l = Left g.row.TAPS (entered g.row.TAPS l.register l.byte) l.after l.rest

abbrev pub decreases-loop-rest : goal.decreases-loop-rest
decreases-loop-rest g l = l.rest
