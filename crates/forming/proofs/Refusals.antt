-- A number says which refusal it is, or that there is none.
use Rattle.std.proofs.Common.{◌≡◌, refl, arith, Result, Ok, Err}
use Rattle.forming.specs.declared.Refusal.{Refusal}
use Rattle.forming.specs.declared.Refusal.TheVariants.{Limits, Buffer}
use Rattle.forming.specs.Forming.{number_in}

pub by_number : (x y : Result Unit Refusal) → number_in x ≡ number_in y → x ≡ y
by_number (Ok x) (Ok y) e = refl
by_number (Err Limits) (Err Limits) e = refl
by_number (Err Buffer) (Err Buffer) e = refl
by_number (Ok x) (Err Limits) e = absurd (omega (arith, e))
by_number (Ok x) (Err Buffer) e = absurd (omega (arith, e))
by_number (Err Limits) (Ok x) e = absurd (omega (arith, e))
by_number (Err Buffer) (Ok x) e = absurd (omega (arith, e))
by_number (Err Limits) (Err Buffer) e = absurd (omega (arith, e))
by_number (Err Buffer) (Err Limits) e = absurd (omega (arith, e))
