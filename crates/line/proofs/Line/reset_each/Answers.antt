-- `line::Line::reset_each` meets its contract: the entries gone through have been reset.
use native.Mathlib.Omega.{arith}
use Rattle.probe.specs.Probe.{reset}
use Rattle.line.specs.Line.{after_reset}
use Rattle.line.proofs.Front.{stepped_set}
use Rattle.line.proofs.Steps.{front_all}
use Rattle.line.proofs.Line.reset_each.Goals as goal

pub loop-p-preserved : goal.loop-p-preserved
loop-p-preserved c =
    stepped_set (reset c.args.speed) _ c.loop-p.p-items c.loop-p.p-index _ c.reset.result (omega arith) c.loop-p.invariant c.reset.ensures

pub returns : goal.returns
unfolding after_reset
returns c =
    let e = c.entries-n in
    front_all (reset c.args.speed) c.args.self.now e.result c.loop-p.p-index c.loop-p.p-items c.loop-p.invariant c.loop-p-test.false e.ensures.2 e.ensures.3
