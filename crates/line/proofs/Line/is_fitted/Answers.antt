-- `line::Line::is_fitted` meets its contract: the library's `any` of the same test.
use mathlib.Core.Path.{sym, ap, ◌∙◌}
use lib.Dec.{eqb}
use Rattle.std.proofs.Common.{rules, tests}
use Rattle.std.proofs.lemmas.Iterator.{YieldsList-from_slice}
use Rattle.std.proofs.lemmas.Iterator.Search.{any_from_yields_List}
use Rattle.probe.specs.declared.Probe.{Probe}
use Rattle.line.specs.Line.{any, is_fitted, ids_of, id_of}
use Rattle.line.proofs.Front.{any_std, any_map}
use Rattle.line.proofs.Line.is_fitted.Goals as goal

pub returns : goal.returns
unfolding is_fitted ids_of
returns c =
    let test = λ (p : Probe). eqb c.args.id p.id in
    any_from_yields_List test _ _ _ c.any.ensures.ran (YieldsList-from_slice c.fitted.result.now cc) (λ x b q k. search (rules, tests))
    ∙ any_std test c.fitted.result.now ∙ ap (any test) c.fitted.ensures ∙ sym (any_map (eqb c.args.id) id_of _)
