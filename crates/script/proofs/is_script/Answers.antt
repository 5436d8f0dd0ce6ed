-- `script::is_script` meets its contract: each test is a part of the definition, in its order.
use Rattle.std.proofs.Common.{arith, ap, ◌∙◌}
use Rattle.std.proofs.lemmas.Bool.Decides.{nat_tests}
use Rattle.script.specs.Script.{is_script, is_padded}
use Rattle.script.proofs.is_script.Goals as goal

pub returns-then-contains : goal.returns-then-contains
unfolding is_script
returns-then-contains c =
    let s = c.args.script.now in
    let padded = c.is_padded.ensures ∙ ap (is_padded s) c.end_of.ensures in
    grind (arith, nat_tests, padded)

pub returns-else-contains : goal.returns-else-contains
unfolding is_script
returns-else-contains c = grind (arith, nat_tests)
