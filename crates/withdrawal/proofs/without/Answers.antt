-- `withdrawal::without` meets its contract: of the entries gone through all others are laid.
use mathlib.Core.Path.{ap, ◌∙◌}
use mathlib.Core.List.{List}
use Prim.Native.Nat.{◌≤◌}
use native.Mathlib.Omega.{arith}
use borrow.Author.Tests.{eq-eqb, ne_eqb}
use lib.ListN.{length, take, length-take}
use lib.Seq.{take_all}
use Rattle.probe.specs.declared.Probe.{Probe}
use Rattle.line.specs.declared.Line.{Line}
use Rattle.line.specs.Line.{bare}
use Rattle.withdrawal.specs.Withdrawal.{others, line_with, without}
use Rattle.withdrawal.proofs.Others.{laid_passed, laid_kept}
use Rattle.withdrawal.proofs.without.Goals as goal
use Rattle.withdrawal.proofs.without.Goals.{then-id-p, else-id-p}

pub loop-p-init : goal.loop-p-init
unfolding bare line_with others
loop-p-init c = (omega (arith, ap (λ (l : Line). l.count) c.bare-rest.ensures), c.bare-rest.ensures)

pub loop-p-preserved : goal.loop-p-preserved
loop-p-preserved c =
    let l = c.loop-p in
    let i = c.args.id in
    let xs = take c.entries-n.result c.args.line.probes in
    let few : length xs ≤ 64 = omega (arith, length-take c.entries-n.result c.args.line.probes) in
    elim c.if-id-p.branch [
      | then-id-p w ↦ (
        omega (arith, ap (λ (m : Line). m.count) w.rest-is),
        w.rest-is
            ∙ laid_kept i xs l.p-index _ l.rest (omega arith) l.invariant.1 few (ne_eqb _ _ w.if-id-p.true) _ _ (omega arith) (omega arith),
      )
      | else-id-p w ↦ (
        omega (arith, ap (λ (m : Line). m.count) w.rest-is),
        w.rest-is ∙ laid_passed i xs l.p-index _ l.rest (omega arith) l.invariant.1 (eq-eqb _ _ w.if-id-p.false),
      )
    ]

pub returns : goal.returns
unfolding without
returns c =
    let xs = take c.entries-n.result c.args.line.probes in
    c.loop-p.invariant.1
    ∙ ap (λ (ps : List Probe). line_with (others c.args.id ps)) (take_all c.loop-p.p-index xs c.loop-p-test.false ∙ c.entries-n.ensures.2)
