-- `script::is_padded` meets its contract: what is left behind the events is less than a byte, and its bits are 0.
use Rattle.std.proofs.Common.{min, ◌-◌, ◌*◌, arith, ap, ◌∙◌, length, ◌≡◌}
use Rattle.std.proofs.lemmas.Bool.Decides.{nat_tests}
use Rattle.script.specs.Script.{is_padded, number_at}
use Rattle.script.proofs.Numbers.{piece_number}
use Rattle.script.proofs.is_padded.Goals as goal

pub returns-in-Some : goal.returns-in-Some
unfolding is_padded
returns-in-Some c =
    let a = c.args in
    let p = c.bits_from-padding in
    let left = c.in-Some.ensures in
    let few : min c.in-Some.left 8 ≡ 8 * length a.script.now - a.end = omega (arith, left) in
    let read : p.result.number ≡ number_at a.script.now a.end (8 * length a.script.now - a.end) = piece_number a.script.now a.end (min c.in-Some.left 8) p.result p.ensures ∙ ap (number_at a.script.now a.end) few in
    grind (arith, nat_tests, read, left)

pub returns-in_default : goal.returns-in_default
unfolding is_padded
returns-in_default c = grind (arith, nat_tests, c.in-Some.ensures)

pub returns-in_default-2 : goal.returns-in_default-2
unfolding is_padded
returns-in_default-2 c = grind (arith, nat_tests, c.in_default.ensures)
