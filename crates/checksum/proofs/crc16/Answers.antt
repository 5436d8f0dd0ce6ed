-- `checksum::crc16` meets its contract: the constant and the table differ nowhere, which antt computes.
use native.Mathlib.Omega.{arith}
use mathlib.Core.Path.{refl}
use Rattle.checksum.specs.Register.{table_of, entries, entered, taps16, taps, shifts, shifted}
use Rattle.checksum.proofs.Shift.{crc16_of_lt}
use Rattle.checksum.proofs.Table.{differ, same}
use Rattle.checksum.proofs.crc16.Goals as goal

pub through16-requires : goal.through16-requires
unfolding differ table_of entries entered taps16 taps shifts shifted
through16-requires c = same _ (table_of taps16) refl

pub overflow_cast-result : goal.overflow_cast-result
overflow_cast-result c = omega (arith, c.through16.ensures, crc16_of_lt c.args.bytes.now)
