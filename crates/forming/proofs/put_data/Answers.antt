-- `forming::put_data` meets its contract: after i turns the first i bytes of the data lie at the place and all other bytes are as they were.
use Rattle.std.proofs.Common.{◌≡◌, sym, ap, ◌∙◌, List, ℕ, ◌+◌, length, get_or, add-one, arith}
use lib.ListN.{set, length-set}
use lib.Seq.{paste, paste-suc}
use Rattle.forming.proofs.Buffer.{placed_done}
use Rattle.forming.proofs.put_data.Goals as goal

pub loop-i-preserved : goal.loop-i-preserved
loop-i-preserved c =
    let a = c.args in
    let d = a.buffer.now in
    let s = a.data.now in
    let i = c.loop-i.i in (
      simp length-set c.loop-i.invariant.0,
      ap (λ (b : List ℕ). set b (a.place + i) (get_or s i 0)) c.loop-i.invariant.1
          ∙ paste-suc d a.place s i 0 (omega arith) (omega arith)
          ∙ ap (paste d a.place s) (sym (add-one i)),
    )

pub returns : goal.returns
returns c =
    let a = c.args in
    let d = a.buffer.now in
    let s = a.data.now in
    let all : c.loop-i.i ≡ length s = omega arith in
    c.loop-i.invariant.1 ∙ ap (paste d a.place s) all ∙ placed_done a.place s d
