-- No more bytes are whole than the loop has gone through.
use Rattle.std.proofs.Common.{◌≤◌}
use Rattle.bridge_cases.proofs.hex.decode.Given as goal

abbrev pub invariant-loop-byte : goal.invariant-loop-byte
invariant-loop-byte l = l.whole ≤ l.byte-index
