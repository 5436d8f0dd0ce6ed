-- `checksum::next16` meets its contract: the entry is the table's rule at the sum of the register's low byte and the byte, and the high byte
-- comes down.
use mathlib.Core.Path.{sym, ap, ◌∙◌}
use Prim.Native.Nat.{ℕ, ◌%◌, ◌/◌, ◌<◌}
use native.Mathlib.Omega.{arith}
use lib.Bits.{bit_xor, xor_lt}
use Rattle.checksum.specs.Register.{taps16}
use Rattle.checksum.proofs.Table.{entry}
use Rattle.checksum.proofs.Shift.{entered_table}
use Rattle.checksum.proofs.next16.Goals as goal

pub returns : goal.returns
returns c =
    let a = c.args in
    let place : bit_xor (a.register % 256) a.byte < 256 = xor_lt 8 (a.register % 256) a.byte (omega arith) (omega arith) in
    ap (λ (k : ℕ). bit_xor k (a.register / 256))
    (entry taps16 a.table.now c.requires (bit_xor (a.register % 256) a.byte) place)
    ∙ sym (entered_table taps16 a.register a.byte (omega arith))
