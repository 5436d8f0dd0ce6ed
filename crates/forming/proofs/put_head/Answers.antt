-- `forming::put_head` meets its contract: three stores, one after the other, are the three bytes at the front.
use native.Mathlib.Omega.{arith}
use mathlib.Core.List.{[], ◌∷◌}
use lib.Seq.{sets-eq}
use Rattle.forming.specs.Buffer.{over}
use Rattle.forming.proofs.put_head.Goals as goal

pub returns : goal.returns
unfolding over
returns c =
    let a = c.args in
    sets-eq (a.code ∷ a.address ∷ a.count ∷ []) a.buffer.now 0 (omega arith)
