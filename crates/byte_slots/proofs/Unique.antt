-- Each contract leaves one answer for each argument.
use mathlib.Core.Path.{◌≡◌, sym, ◌∙◌}
use Prim.Native.Nat.{ℕ}
use Rattle.checksum.proofs.Unique.{OneAnswer}
use Rattle.byte_slots.specs.declared.Levels.{Levels}
use Rattle.byte_slots.proofs.eight.Reads as eight
use Rattle.byte_slots.proofs.slots.Reads as slots
use Rattle.byte_slots.proofs.LineSlotBySlot.level.Reads as level
use Rattle.byte_slots.proofs.LineSlotBySlot.taken.Reads as taken

-- A result of two parts is those parts.
pub parts : {A : Type 0} {m n : ℕ} {a b : A} → m ≡ n → a ≡ b
    → ◌≡◌ {A = Levels A} (record { byte = m; line = a }) (record { byte = n; line = b })
parts p q i = record { byte = p i; line = q i }

pub one_eight : (g : _) (l : _) (c : _) (m : _) (d : _) (n : _) (e : _) → OneAnswer (eight.Post g l c m d n e)
one_eight g l c m d n e κ a x y s t p q = parts (p.0 ∙ sym q.0) (p.1 ∙ sym q.1)

pub one_slots : OneAnswer slots.Post
one_slots κ a x y s t p q = parts (p.0 ∙ sym q.0) (p.1 ∙ sym q.1)

pub one_level : OneAnswer level.Post
one_level κ a x y s t p q = p ∙ sym q

pub one_taken : OneAnswer taken.Post
one_taken κ a x y s t p q = p ∙ sym q
