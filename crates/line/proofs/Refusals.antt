-- A fitting's answer is told by its number and its line.
--   returned_by n     the refusal that has the number n
--   by_number         each refusal has a number of its own; not_zero, which is not 0
--   same_answer       answers with one number and one line are one
use mathlib.Core.Path.{◌≡◌, refl, sym, ap, ◌∙◌}
use mathlib.Core.Bool.{cond}
use Prim.Native.Nat.{ℕ}
use native.Mathlib.Omega.{arith}
use lib.Dec.{eqb}
use Rattle.std.specs.Prelude.{Result, Ok, Err}
use Rattle.line.specs.declared.Line.{Line}
use Rattle.line.specs.declared.Refusal.{Refusal}
use Rattle.line.specs.declared.Refusal.TheVariants.{Full, Crc, Family, Fitted}
use Rattle.line.specs.Line.{number_returned, number_in, line_in}

abbrev pub returned_by : ℕ → Refusal
returned_by n = cond (eqb n 1) Full (cond (eqb n 2) Crc (cond (eqb n 3) Family Fitted))

pub by_number : (r : Refusal) → returned_by (number_returned r) ≡ r
by_number Full = refl
by_number Crc = refl
by_number Family = refl
by_number Fitted = refl

pub not_zero : (r : Refusal) → number_returned r ≡ 0 → ⊥
not_zero Full e = omega (arith, e)
not_zero Crc e = omega (arith, e)
not_zero Family e = omega (arith, e)
not_zero Fitted e = omega (arith, e)

pub same_answer : (l : Line) (x y : Result Line Refusal) → number_in x ≡ number_in y → line_in l x ≡ line_in l y → x ≡ y
same_answer l (Ok m) (Ok n) e p = ap Ok p
same_answer l (Ok m) (Err r) e p = absurd (not_zero r (sym e))
same_answer l (Err r) (Ok m) e p = absurd (not_zero r e)
same_answer l (Err q) (Err r) e p = ap Err (sym (by_number q) ∙ ap returned_by e ∙ by_number r)
