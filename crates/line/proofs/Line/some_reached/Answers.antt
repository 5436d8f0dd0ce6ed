-- `line::Line::some_reached` meets its contract: the library's `any` of the same test.
use mathlib.Core.Path.{ap, ◌∙◌}
use Rattle.std.proofs.Common.{rules, tests}
use Rattle.std.proofs.lemmas.Iterator.{YieldsList-from_slice}
use Rattle.std.proofs.lemmas.Iterator.Search.{any_from_yields_List}
use Rattle.probe.specs.Probe.{reaches}
use Rattle.line.specs.Line.{any}
use Rattle.line.proofs.Front.{any_std}
use Rattle.line.proofs.Line.some_reached.Goals as goal

pub returns : goal.returns
returns c =
    let test = reaches c.args.speed in
    any_from_yields_List test _ _ _ c.any.ensures.ran (YieldsList-from_slice c.fitted.result.now cc) (λ x b q k. search (rules, tests))
    ∙ any_std test c.fitted.result.now ∙ ap (any test) c.fitted.ensures
