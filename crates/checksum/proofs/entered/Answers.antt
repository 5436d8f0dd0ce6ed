-- `checksum::entered` meets its contract: the register, with the bits that are left still to go in, comes to that after the whole byte.
use mathlib.Core.Path.{refl}
use native.Mathlib.Omega.{arith}
use Rattle.checksum.specs.Register.{entered}
use Rattle.checksum.proofs.Shift.{left_next, left_over}
use Rattle.checksum.proofs.entered.Goals as goal

pub loop-rest-init : goal.loop-rest-init
unfolding entered
loop-rest-init g c = record { n = 8; bits = c.args.byte; below = omega arith; marked = omega arith; comes = refl }

pub loop-rest-preserved : goal.loop-rest-preserved
loop-rest-preserved g c =
    let l = c.loop-rest in
    left_next g.row.TAPS _ l.after l.rest _ l.invariant c.loop-rest-test.true c.shifted-after.ensures

pub returns : goal.returns
returns g c =
    let l = c.loop-rest in
    left_over g.row.TAPS _ l.after l.rest l.invariant c.loop-rest-test.false
