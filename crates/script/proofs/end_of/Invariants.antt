-- The events left end where all of them do, and no event takes more than 66 bits.
use Rattle.std.proofs.Common.{◌≡◌, ◌+◌, ◌-◌, ◌*◌, ◌≤◌}
use Rattle.script.specs.Script.{end_of}
use Rattle.script.proofs.end_of.Given as goal

abbrev pub invariant-loop : goal.invariant-loop
invariant-loop l =
    (l.reader.place ≤ 16 + 66 * l.counter)
    × (end_of l.reader.script.now (l.end - l.counter) l.reader.place ≡ end_of l.script l.end 16)
