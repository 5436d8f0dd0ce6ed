-- `line::Line::take_level` meets its contract: the entries gone through have taken the level.
use native.Mathlib.Omega.{arith}
use Rattle.probe.specs.Probe.{took_at}
use Rattle.line.proofs.Front.{stepped_set}
use Rattle.line.proofs.Steps.{front_all}
use Rattle.line.proofs.Line.take_level.Goals as goal

pub loop-p-preserved : goal.loop-p-preserved
loop-p-preserved c =
    let l = c.loop-p in
    stepped_set (took_at c.args.speed c.args.level) _ l.p-items l.p-index _ c.take_slot.new.p (omega arith) l.invariant c.take_slot.ensures

pub returns : goal.returns
returns c =
    let e = c.entries-n in
    front_all (took_at c.args.speed c.args.level) c.args.self.now e.result c.loop-p.p-index c.loop-p.p-items c.loop-p.invariant c.loop-p-test.false e.ensures.2 e.ensures.3
