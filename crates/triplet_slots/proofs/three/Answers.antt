-- `triplet_slots::three` meets its contract: it is the definition, slot after slot.
use Rattle.triplet_slots.proofs.ThreeSlots.{three_slots}
use Rattle.triplet_slots.proofs.three.Goals as goal

pub returns : goal.returns
returns g c =
    let on = g.L.SlotBySlot in
    three_slots on.level_in on.taken_in c.args.speed c.args.direction c.args.start _ _ _ _ _ _ _
    c.level-first.ensures c.taken-once.ensures c.level-second.ensures c.taken-twice.ensures c.chosen-written.ensures c.level-third.ensures c.taken.ensures
