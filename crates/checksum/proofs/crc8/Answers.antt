-- `checksum::crc8` meets its contract: the register, with what is left of the slice still to go in, comes to the checksum of the whole.
use native.Mathlib.Omega.{arith}
use Rattle.checksum.specs.Register.{crc8_of, taps8, taps}
use Rattle.checksum.specs.declared.TheConstants.{TAPS8}
use Rattle.checksum.proofs.Shift.{crc_from_next, crc_from_done, crc8_of_lt}
use Rattle.checksum.proofs.crc8.Goals as goal

pub loop-byte-preserved : goal.loop-byte-preserved
loop-byte-preserved c =
    let l = c.loop-byte in
    crc_from_next TAPS8 _ l.register c.args.bytes.now l.byte-index _ (omega arith) l.invariant c.entered-register.ensures

pub returns : goal.returns
unfolding crc8_of taps8 taps
returns c =
    let l = c.loop-byte in
    crc_from_done TAPS8 _ l.register c.args.bytes.now l.byte-index (omega arith) l.invariant

pub overflow_cast-result : goal.overflow_cast-result
overflow_cast-result c = omega (arith, returns c, crc8_of_lt c.args.bytes.now)
