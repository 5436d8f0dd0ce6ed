-- `wire::chips_calm` meets its contract: the library's `all` of the same test of each pair.
use mathlib.Core.Path.{ap, ◌∙◌}
use mathlib.Core.List.{List}
use native.Mathlib.Omega.{arith}
use Rattle.std.proofs.Common.{rules, tests}
use Rattle.std.proofs.lemmas.Iterator.{YieldsList-from_slice, YieldsList-from_zip}
use Rattle.std.proofs.lemmas.Iterator.Search.{all_from_yields_List}
use Rattle.std.specs.List.{zip}
use lib.ListN.{take, length-take}
use Rattle.probe.specs.declared.Probe.{Probe}
use Rattle.chip.specs.declared.Chip.{Chip}
use Rattle.line.proofs.Front.{all_std}
use Rattle.wire.specs.Pairs.{both_all}
use Rattle.wire.specs.Calm.{calm_with, all_calm}
use Rattle.wire.proofs.Beside.{all_zip}
use Rattle.wire.proofs.chips_calm.Goals as goal

pub returns : goal.returns
unfolding all_calm
returns c =
    let line = c.args.line.now in
    let chips = c.args.chips.now in
    let f = calm_with c.args.n in
    let e = c.pairs-m in
    let ps = take e.result line.probes in
    let cs = take e.result chips.table in
    let each = λ (z : Probe × Chip). f z.0 z.1 in
    all_from_yields_List each c.all.new.self _ _ c.all.ensures.ran (YieldsList-from_zip (YieldsList-from_slice ps cc) (YieldsList-from_slice cs cc)) (λ x b q k. search (rules, tests))
    ∙ all_std each (zip ps cs) ∙ all_zip f ps chips.table e.result (omega (arith, length-take e.result line.probes))
    ∙ ap (λ (qs : List Probe). both_all f qs chips.table) e.ensures.3
