-- `byte_slots::all_rest` meets its contract: the library's `all` of the same test.
use mathlib.Core.Path.{ap, ◌∙◌}
use Rattle.std.proofs.Common.{rules, tests}
use Rattle.std.proofs.lemmas.Iterator.{YieldsList-from_slice}
use Rattle.std.proofs.lemmas.Iterator.Search.{all_from_yields_List}
use lib.ListN.{take}
use Rattle.probe.specs.Probe.{rests}
use Rattle.line.specs.Line.{all}
use Rattle.line.proofs.Front.{all_std}
use Rattle.byte_slots.proofs.all_rest.Goals as goal

pub returns : goal.returns
returns c =
    let e = c.entries-n in
    let ps = take e.result c.args.line.now.probes in
    all_from_yields_List rests _ _ _ c.all.ensures.ran (YieldsList-from_slice ps cc) (λ x b q k. search (rules, tests))
    ∙ all_std rests ps ∙ ap (all rests) e.ensures.2
