-- `line::Line::all_send` meets its contract: the library's `all` of the same test.
use mathlib.Core.Path.{ap, ◌∙◌}
use Rattle.std.proofs.Common.{rules, tests}
use Rattle.std.proofs.lemmas.Iterator.{YieldsList-from_slice}
use Rattle.std.proofs.lemmas.Iterator.Search.{all_from_yields_List}
use Rattle.probe.specs.Probe.{sends_at}
use Rattle.line.specs.Line.{all}
use Rattle.line.proofs.Front.{all_std}
use Rattle.line.proofs.Line.all_send.Goals as goal

pub returns : goal.returns
returns c =
    let test = sends_at c.args.speed in
    all_from_yields_List test _ _ _ c.all.ensures.ran (YieldsList-from_slice c.fitted.result.now cc) (λ x b q k. search (rules, tests))
    ∙ all_std test c.fitted.result.now ∙ ap (all test) c.fitted.ensures
