-- `Wire::hear_level` meets its contract: of the chips gone through each has its turn.
use mathlib.Core.Path.{refl, ap, ◌∙◌}
use mathlib.Core.List.{List}
use native.Mathlib.Omega.{arith}
use lib.ListN.{take, length-take}
use Rattle.probe.specs.declared.Probe.{Probe}
use Rattle.chip.specs.declared.Chip.{Chip}
use Rattle.wire.specs.declared.Chips.{Chips}
use Rattle.wire.specs.Pairs.{paired}
use Rattle.wire.specs.Wire.{heard_by, heard_on}
use Rattle.wire.proofs.Beside.{paired_set, paired_all}
use Rattle.wire.proofs.Wire.hear_level.Goals as goal

pub loop-i-init : goal.loop-i-init
unfolding paired
loop-i-init c = refl

pub loop-i-preserved : goal.loop-i-preserved
loop-i-preserved c =
    let l = c.loop-i in
    let e = c.pairs-n.ensures in
    let m = c.args.self.now in
    let within = length-take c.pairs-n.result m.chips.table in
    paired_set (heard_by c.args.speed c.args.level) m.line.probes (take c.pairs-n.result m.chips.table) l.c-items l.i _ _ _ (omega (arith, e.0, e.1, within))
    c.loop-i-test.true l.invariant c.hear.ensures

pub returns : goal.returns
unfolding heard_on
returns c =
    let l = c.loop-i in
    let e = c.pairs-n.ensures in
    let m = c.args.self.now in
    let within = length-take c.pairs-n.result m.chips.table in (
      refl,
      ap {B = Chips} (λ (t : List Chip). record { table = t; count = m.chips.count })
          (paired_all (heard_by c.args.speed c.args.level) m.line.probes m.chips.table l.c-items c.pairs-n.result l.i l.invariant (omega (arith, e.0, e.2, within))
          ∙ ap (λ (ps : List Probe). paired (heard_by c.args.speed c.args.level) ps m.chips.table) e.3),
    )
