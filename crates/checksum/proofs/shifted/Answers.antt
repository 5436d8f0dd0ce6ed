-- `checksum::shifted` meets its contract: bits differ where their sum is odd.
use mathlib.Core.Path.{sym}
use native.Mathlib.Omega.{arith}
use lib.Bits.{xor_add_and}
use Rattle.checksum.proofs.Shift.{shift_odd, shift_even}
use Rattle.checksum.proofs.shifted.Goals as goal

pub returns-then-register-bits-eq1 : goal.returns-then-register-bits-eq1
returns-then-register-bits-eq1 g c =
    let a = c.args in
    sym (shift_odd g.row.TAPS a.register a.bits (omega (arith, xor_add_and a.register a.bits)))

pub returns-else-register-bits-eq1 : goal.returns-else-register-bits-eq1
returns-else-register-bits-eq1 g c =
    let a = c.args in
    sym (shift_even g.row.TAPS a.register a.bits (omega (arith, xor_add_and a.register a.bits)))
