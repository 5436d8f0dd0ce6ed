-- `Wire::quiet_over` meets its contract: of the probes gone through those whose chip listens and is over are deaf.
use mathlib.Core.Path.{refl, ap, ◌∙◌}
use mathlib.Core.List.{List}
use native.Mathlib.Omega.{arith}
use lib.ListN.{take, length-take}
use Rattle.probe.specs.declared.Probe.{Probe}
use Rattle.chip.specs.declared.Chip.{Chip}
use Rattle.line.specs.declared.Line.{Line}
use Rattle.wire.specs.Pairs.{paired}
use Rattle.wire.specs.Wire.{quieted, quieted_on}
use Rattle.wire.proofs.Beside.{paired_set, paired_all}
use Rattle.wire.proofs.Wire.quiet_over.Goals as goal

pub loop-i-init : goal.loop-i-init
unfolding paired
loop-i-init c = refl

pub loop-i-preserved : goal.loop-i-preserved
loop-i-preserved c =
    let l = c.loop-i in
    let e = c.pairs-n.ensures in
    let m = c.args.self.now in
    let within = length-take c.pairs-n.result m.line.probes in
    paired_set (quieted c.args.speed) m.chips.table (take c.pairs-n.result m.line.probes) l.p-items l.i _ _ _ (omega (arith, e.0, e.2, within))
    c.loop-i-test.true l.invariant c.deafen.ensures

pub returns : goal.returns
unfolding quieted_on
returns c =
    let l = c.loop-i in
    let e = c.pairs-n.ensures in
    let m = c.args.self.now in
    let within = length-take c.pairs-n.result m.line.probes in (
      ap {B = Line} (λ (t : List Probe). record { probes = t; count = m.line.count })
          (paired_all (quieted c.args.speed) m.chips.table m.line.probes l.p-items c.pairs-n.result l.i l.invariant (omega (arith, e.0, e.1, within))
          ∙ ap (λ (cs : List Chip). paired (quieted c.args.speed) cs m.line.probes) e.4),
      refl,
    )
