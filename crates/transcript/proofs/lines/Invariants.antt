-- The lines left to print bring the buffer to what is promised.
use Rattle.std.proofs.Common.{◌≡◌}
use Rattle.transcript.proofs.Events.{Runs}
use Rattle.transcript.proofs.lines.Given as goal

abbrev pub invariant-loop-before : goal.invariant-loop-before
invariant-loop-before l =
    Runs l.reader.script.now l.before-end l.initial.lines.out.now l.bridge l.before l.reader.place l.lines
    × (l.reader.script.now ≡ l.script)
    × (l.lines.out.ghost_name ≡ l.initial.lines.out.ghost_name)
