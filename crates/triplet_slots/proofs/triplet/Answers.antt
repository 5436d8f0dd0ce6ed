-- `triplet_slots::triplet` meets its contract: on a settled line by the law of the three slots, else slot after slot.
use mathlib.Core.Path.{◌≡◌, sym, ap, ap₂, ◌∙◌}
use mathlib.Core.Bool.{Bool}
use Rattle.line.specs.Line.{on_fitted, slot}
use Rattle.byte_slots.specs.SlotBySlot.{slot_in}
use Rattle.triplet_slots.specs.Triplet.{chosen, written_bit, decided}
use Rattle.triplet_slots.proofs.Settled.{triplet_settled}
use Rattle.triplet_slots.proofs.triplet.Goals as goal

pub returns-in_default : goal.returns-in_default
unfolding slot_in slot
returns-in_default c = c.three.ensures

pub returns-in-Some : goal.returns-in-Some
returns-in-Some c =
    let a = c.args in
    let o = c.in-Some.ensures in
    let bit : c.chosen-bit.result ≡ written_bit a.speed a.direction a.line =
    c.chosen-bit.ensures ∙ ap₂ (λ (x y : Bool). chosen x y a.direction) o.1 o.2 in (
      o.1,
      o.2,
      bit,
      c.all_decided.ensures ∙ ap (λ (w : Bool). on_fitted (decided w) a.line) bit ∙ sym (triplet_settled a.speed a.line o.0 a.direction),
    )
