-- Each contract leaves one answer for each argument.
use mathlib.Core.Path.{◌≡◌, refl, sym, ap, ◌∙◌}
use Prim.Native.Nat.{ℕ}
use native.Mathlib.Omega.{arith}
use Rattle.std.specs.Prelude.{Result, Ok, Err, IfOk}
use Rattle.identity.specs.Identity.{number_in}
use Rattle.identity.specs.declared.Refusal.{Refusal}
use Rattle.identity.specs.declared.Refusal.TheVariants.{Crc, Family}
use Rattle.checksum.proofs.Unique.{OneAnswer}
use Rattle.identity.proofs.number.Reads as number
use Rattle.identity.proofs.bit.Reads as bit
use Rattle.identity.proofs.Refusal.number.Reads as refusal_number
use Rattle.identity.proofs.admitted.Reads as admitted

pub one_number : OneAnswer number.Post
one_number κ a x y s t p q = p ∙ sym q

pub one_bit : OneAnswer bit.Post
one_bit κ a x y s t p q = p ∙ sym q

pub one_refusal_number : OneAnswer refusal_number.Post
one_refusal_number κ a x y s t p q = p ∙ sym q

-- What is admitted by its number and its ID is one answer.
same_answer : (i : ℕ) (x y : Result ℕ Refusal) → number_in x ≡ number_in y → IfOk x (λ k. k ≡ i) → IfOk y (λ k. k ≡ i) → x ≡ y
same_answer i (Ok k) (Ok l) e p q = ap Ok (p ∙ sym q)
same_answer i (Ok k) (Err Crc) e p q = absurd (omega (arith, e))
same_answer i (Ok k) (Err Family) e p q = absurd (omega (arith, e))
same_answer i (Err Crc) (Ok l) e p q = absurd (omega (arith, e))
same_answer i (Err Family) (Ok l) e p q = absurd (omega (arith, e))
same_answer i (Err Crc) (Err Crc) e p q = refl
same_answer i (Err Crc) (Err Family) e p q = absurd (omega (arith, e))
same_answer i (Err Family) (Err Crc) e p q = absurd (omega (arith, e))
same_answer i (Err Family) (Err Family) e p q = refl

pub one_admitted : OneAnswer admitted.Post
one_admitted κ a x y s t p q = same_answer _ x y (p.0 ∙ sym q.0) p.1 q.1
