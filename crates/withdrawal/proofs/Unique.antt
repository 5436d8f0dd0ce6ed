-- Each contract leaves one answer for each argument.
use mathlib.Core.Path.{◌≡◌, refl, sym, ap, ◌∙◌}
use native.Mathlib.Omega.{arith}
use Rattle.std.specs.Prelude.{Result, Ok, Err}
use Rattle.line.specs.declared.Line.{Line}
use Rattle.line.specs.Line.{line_in}
use Rattle.checksum.proofs.Unique.{OneAnswer}
use Rattle.withdrawal.specs.declared.Refusal.{Refusal}
use Rattle.withdrawal.specs.declared.Refusal.TheVariants.{NotFitted}
use Rattle.withdrawal.specs.Withdrawal.{number_in}
use Rattle.withdrawal.proofs.Refusal.number.Reads as number
use Rattle.withdrawal.proofs.withdraw.Reads as withdraw

pub one_number : OneAnswer number.Post
one_number κ a x y s t p q = p ∙ sym q

same_answer : (l : Line) (x y : Result Line Refusal) → number_in x ≡ number_in y → line_in l x ≡ line_in l y → x ≡ y
same_answer l (Ok m) (Ok n) e p = ap Ok p
same_answer l (Ok m) (Err NotFitted) e p = absurd (omega (arith, e))
same_answer l (Err NotFitted) (Ok m) e p = absurd (omega (arith, e))
same_answer l (Err NotFitted) (Err NotFitted) e p = refl

pub one_withdraw : OneAnswer withdraw.Post
one_withdraw κ a x y s t p q = same_answer _ x y (p.0 ∙ sym q.0) (p.1 ∙ sym q.1)
