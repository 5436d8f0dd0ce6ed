use Rattle.std.proofs.Common.{◌≡◌, drop}
use Rattle.checksum.specs.Register.{crc_from, taps16}
use Rattle.checksum.proofs.through16.Given as goal

abbrev pub invariant-loop-byte : goal.invariant-loop-byte
invariant-loop-byte l = crc_from taps16 l.register (drop l.byte-index l.bytes) ≡ crc_from taps16 0 l.bytes
