use Rattle.std.proofs.Common.{◌≡◌, drop}
use Rattle.checksum.specs.Register.{crc_from}
use Rattle.checksum.specs.declared.TheConstants.{TAPS8}
use Rattle.checksum.proofs.crc8.Given as goal

abbrev pub invariant-loop-byte : goal.invariant-loop-byte
invariant-loop-byte l = crc_from TAPS8 l.register (drop l.byte-index l.bytes) ≡ crc_from TAPS8 0 l.bytes
