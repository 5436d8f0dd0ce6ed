-- Each contract leaves one answer for each argument.
use mathlib.Core.Path.{◌≡◌, sym, ◌∙◌}
use mathlib.Core.Bool.{Bool}
use Rattle.line.proofs.Refusals.{same_answer}
use Rattle.line.specs.declared.Slotted.{Slotted}
use Rattle.checksum.proofs.Unique.{OneAnswer}
use Rattle.line.proofs.Line.bare.Reads as bare
use Rattle.line.proofs.Line.present.Reads as present
use Rattle.line.proofs.Line.entries.Reads as entries
use Rattle.line.proofs.Line.level.Reads as level
use Rattle.line.proofs.Line.taken.Reads as taken
use Rattle.line.proofs.Line.slot.Reads as slot
use Rattle.line.proofs.Line.reset.Reads as reset
use Rattle.line.proofs.Line.fit.Reads as fit
use Rattle.line.proofs.Refusal.number.Reads as number
use Rattle.line.proofs.RefusalFromIdentityRefusal.from.Reads as from_identity_refusal

pub one_bare : OneAnswer bare.Post
one_bare κ a x y s t p q = p ∙ sym q

pub one_present : OneAnswer present.Post
one_present κ a x y s t p q = p ∙ sym q

pub one_entries : OneAnswer entries.Post
one_entries κ a x y s t p q = p.4 ∙ sym q.4

pub one_level : OneAnswer level.Post
one_level κ a x y s t p q = p ∙ sym q

pub one_taken : OneAnswer taken.Post
one_taken κ a x y s t p q = p ∙ sym q

pub one_reset : OneAnswer reset.Post
one_reset κ a x y s t p q = p ∙ sym q

-- A result of two parts is those two parts.
pub parts : {A : Type 0} {v w : Bool} {a b : A} → v ≡ w → a ≡ b
    → ◌≡◌ {A = Slotted A} (record { level = v; line = a }) (record { level = w; line = b })
parts p q i = record { level = p i; line = q i }

pub one_slot : OneAnswer slot.Post
one_slot κ a x y s t p q = parts (p.0 ∙ sym q.0) (p.1 ∙ sym q.1)

pub one_number : OneAnswer number.Post
one_number κ a x y s t p q = p ∙ sym q

pub one_from_identity_refusal : OneAnswer from_identity_refusal.Post
one_from_identity_refusal κ a x y s t p q = p ∙ sym q

pub one_fit : OneAnswer fit.Post
one_fit κ a x y s t p q = same_answer _ x y (p.0 ∙ sym q.0) (p.1 ∙ sym q.1)
