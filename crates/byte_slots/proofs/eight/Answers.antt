-- `byte_slots::eight` meets its contract: the slots that are left, from the line as it is, come to all eight; and so do their levels.
use native.Mathlib.Omega.{arith}
use mathlib.Core.Path.{◌≡◌, sym, ap, ◌∙◌}
use Prim.Native.Nat.{ℕ, ◌+◌, ◌-◌}
use Rattle.byte_slots.specs.SlotBySlot.{slots_in}
use Rattle.byte_slots.proofs.Turns.{gathered, gathered_levels, turn}
use Rattle.byte_slots.proofs.eight.Goals as goal

pub loop-i-preserved : goal.loop-i-preserved
loop-i-preserved g c =
    let l = c.loop-i in
    let on = g.L.SlotBySlot in
    turn on.level_in on.taken_in c.args.speed (8 - l._i) (8 - (l._i + 1)) l.levels l.rest l.line _ _ _ _ _ (omega arith)
    c.level-level.ensures c.taken-line.ensures c.with_level-levels.ensures l.invariant

pub returns : goal.returns
unfolding gathered slots_in
returns g c =
    let on = g.L.SlotBySlot in
    let l = c.loop-i in
    let a = c.args in
    let done : 8 - l._i ≡ 0 = omega arith in (
      ap (λ (n : ℕ). gathered on.level_in on.taken_in a.speed n l.levels l.rest l.line) (sym done) ∙ l.invariant.0
          ∙ gathered_levels on.level_in on.taken_in a.speed a.byte a.start,
      ap (λ (n : ℕ). slots_in on.level_in on.taken_in a.speed n l.rest l.line) (sym done) ∙ l.invariant.1,
    )
