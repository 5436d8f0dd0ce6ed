-- `checksum::through16` meets its contract: the register, with what is left of the slice still to go in, comes to the checksum of the whole.
use native.Mathlib.Omega.{arith}
use Rattle.checksum.specs.Register.{crc16_of, taps16}
use Rattle.checksum.proofs.Shift.{crc_from_next, crc_from_done}
use Rattle.checksum.proofs.through16.Goals as goal

pub loop-byte-preserved : goal.loop-byte-preserved
loop-byte-preserved c =
    let l = c.loop-byte in
    crc_from_next taps16 _ l.register c.args.bytes.now l.byte-index _ (omega arith) l.invariant c.next16-register.ensures

pub returns : goal.returns
unfolding crc16_of
returns c =
    let l = c.loop-byte in
    crc_from_done taps16 _ l.register c.args.bytes.now l.byte-index (omega arith) l.invariant
