-- Each contract leaves one answer for each argument.
use mathlib.Core.Path.{◌≡◌, sym, ◌∙◌}
use mathlib.Core.Bool.{Bool}
use Rattle.checksum.proofs.Unique.{OneAnswer}
use Rattle.triplet_slots.specs.declared.Tripled.{Tripled}
use Rattle.triplet_slots.proofs.three.Reads as three
use Rattle.triplet_slots.proofs.triplet.Reads as triplet

-- A result of four parts is those four parts.
pub parts : {A : Type 0} {a b : Bool} {c d : Bool} {e f : Bool} {l m : A} → a ≡ b → c ≡ d → e ≡ f → l ≡ m
    → ◌≡◌ {A = Tripled A} (record { first = a; second = c; bit = e; line = l }) (record { first = b; second = d; bit = f; line = m })
parts p q r s i = record { first = p i; second = q i; bit = r i; line = s i }

pub one_three : (g : _) (l : _) (c : _) (m : _) (d : _) (n : _) (e : _) → OneAnswer (three.Post g l c m d n e)
one_three g l c m d n e κ a x y s t p q = parts (p.0 ∙ sym q.0) (p.1 ∙ sym q.1) (p.2 ∙ sym q.2) (p.3 ∙ sym q.3)

pub one_triplet : OneAnswer triplet.Post
one_triplet κ a x y s t p q = parts (p.0 ∙ sym q.0) (p.1 ∙ sym q.1) (p.2 ∙ sym q.2) (p.3 ∙ sym q.3)
