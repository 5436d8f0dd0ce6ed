-- Each contract leaves one answer for each argument. A result of several parts is those parts.
use mathlib.Core.Path.{sym, ◌∙◌}
use Rattle.checksum.proofs.Unique.{OneAnswer}
use Rattle.line.proofs.Unique as one
use Rattle.byte_slots.proofs.Unique as eight
use Rattle.triplet_slots.proofs.Unique as three
use Rattle.wire.proofs.Chips.none.Reads as none
use Rattle.wire.proofs.WireSlotBySlot.level.Reads as level
use Rattle.wire.proofs.WireSlotBySlot.taken.Reads as taken
use Rattle.wire.proofs.Wire.slot.Reads as slot
use Rattle.wire.proofs.Wire.slots.Reads as slots
use Rattle.wire.proofs.Wire.triplet.Reads as triplet
use Rattle.wire.proofs.Wire.emptied.Reads as emptied
use Rattle.wire.proofs.Wire.without.Reads as without
use Rattle.wire.proofs.Wire.all_calm.Reads as all_calm
use Rattle.wire.proofs.chips_calm.Reads as chips_calm

pub one_none : OneAnswer none.Post
one_none κ a x y s t p q = p ∙ sym q

pub one_level : OneAnswer level.Post
one_level κ a x y s t p q = p ∙ sym q

pub one_taken : OneAnswer taken.Post
one_taken κ a x y s t p q = p ∙ sym q

pub one_slot : OneAnswer slot.Post
one_slot κ a x y s t p q = one.parts (p.0 ∙ sym q.0) (p.1 ∙ sym q.1)

pub one_slots : OneAnswer slots.Post
one_slots κ a x y s t p q = eight.parts (p.0 ∙ sym q.0) (p.1 ∙ sym q.1)

pub one_triplet : OneAnswer triplet.Post
one_triplet κ a x y s t p q = three.parts (p.0 ∙ sym q.0) (p.1 ∙ sym q.1) (p.2 ∙ sym q.2) (p.3 ∙ sym q.3)

pub one_emptied : OneAnswer emptied.Post
one_emptied κ a x y s t p q = p ∙ sym q

pub one_without : OneAnswer without.Post
one_without κ a x y s t p q = p ∙ sym q

pub one_all_calm : OneAnswer all_calm.Post
one_all_calm κ a x y s t p q = p ∙ sym q

pub one_chips_calm : OneAnswer chips_calm.Post
one_chips_calm κ a x y s t p q = p ∙ sym q
