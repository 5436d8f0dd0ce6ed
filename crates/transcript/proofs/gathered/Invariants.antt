-- The bytes passed stand at the front of those to be filled, and the next byte's place is that behind the last.
use Rattle.std.proofs.Common.{◌≡◌, ◌+◌, ◌*◌, take}
use Rattle.script.specs.Script.{bytes_at}
use Rattle.transcript.proofs.gathered.Given as goal

abbrev pub invariant-loop-byte : goal.invariant-loop-byte
invariant-loop-byte l =
    (l.reader.script.now ≡ l.initial.reader.script.now)
    × (l.reader.place ≡ l.initial.reader.place + 8 * l.byte-index)
    × (take l.byte-index l.byte-items ≡ bytes_at l.initial.reader.script.now l.initial.reader.place l.byte-index)
