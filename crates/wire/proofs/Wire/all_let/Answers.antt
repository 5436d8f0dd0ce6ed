-- `Wire::all_let` meets its contract: the library's `all` of the same test of each pair.
use mathlib.Core.Path.{ap, ◌∙◌}
use mathlib.Core.List.{List}
use native.Mathlib.Omega.{arith}
use Rattle.std.proofs.Common.{rules, tests}
use Rattle.std.proofs.lemmas.Iterator.{YieldsList-from_slice, YieldsList-from_zip}
use Rattle.std.proofs.lemmas.Iterator.Search.{all_from_yields_List}
use Rattle.std.specs.List.{zip}
use lib.ListN.{take, length-take}
use Rattle.probe.specs.declared.Probe.{Probe}
use Rattle.chip.specs.declared.Chip.{Chip}
use Rattle.line.proofs.Front.{all_std}
use Rattle.wire.specs.Pairs.{both_all}
use Rattle.wire.specs.Wire.{lets}
use Rattle.wire.proofs.Beside.{all_zip}
use Rattle.wire.proofs.Wire.all_let.Goals as goal

pub returns : goal.returns
returns c =
    let m = c.args.self.now in
    let f = lets c.args.speed in
    let e = c.pairs-n in
    let ps = take e.result m.line.probes in
    let cs = take e.result m.chips.table in
    let each = λ (z : Probe × Chip). f z.0 z.1 in
    all_from_yields_List each c.all.new.self _ _ c.all.ensures.ran (YieldsList-from_zip (YieldsList-from_slice ps cc) (YieldsList-from_slice cs cc)) (λ x b q k. search (rules, tests))
    ∙ all_std each (zip ps cs) ∙ all_zip f ps m.chips.table e.result (omega (arith, length-take e.result m.line.probes))
    ∙ ap (λ (qs : List Probe). both_all f qs m.chips.table) e.ensures.3
