-- `wire::pairs` meets its contract: the smaller of both counts.
use mathlib.Core.Logic.{◌⊎◌, inl, inr}
use native.Mathlib.Omega.{arith}
use Rattle.line.specs.Line.{fitted}
use Rattle.wire.specs.Wire.{fellows}
use Rattle.wire.proofs.Tables.{take_both, bounded, whole_or, smaller, whole_either}
use Rattle.wire.proofs.pairs.Goals as goal

other : {A B C : Type 0} → A ⊎ (B ⊎ C) → B ⊎ (A ⊎ C)
other (inl a) = inr (inl a)
other (inr (inl b)) = inl b
other (inr (inr c)) = inr (inr c)

pub returns : goal.returns
unfolding fellows fitted
returns c =
    let l = c.args.line.now in
    let k = c.args.chips.now in
    let e = c.entries-probes.ensures in
    let g = c.entries-entries.ensures in
    let b = bounded c.entries-probes.result l.count e.4 in
    let s = smaller c.min.result c.entries-probes.result c.entries-entries.result c.min.ensures in
    let at = whole_either s.2 (whole_or c.entries-probes.result l.count e.1 b.1) (whole_or c.entries-entries.result k.count g.1 g.3) in (
      omega (arith, s.0, e.1),
      e.0,
      g.0,
      take_both l.probes l.count k.count _ e.0 (omega (arith, s.0, b.0)) (omega (arith, s.1, g.2)) at,
      take_both k.table k.count l.count _ g.0 (omega (arith, s.1, g.2)) (omega (arith, s.0, b.0)) (other at),
    )
