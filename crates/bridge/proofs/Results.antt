-- A result is its number and the state afterwards, where each refusal has a number of its own and none has 0.
--   told                by any numbers f of the refusals, which `at` gives back, and any state `left` by a result
--   told_withdrawal     of a withdrawal
--   never_refused, never_withdrawn     no refusal of a fitting and none of a withdrawal has the number 0
use mathlib.Core.Path.{◌≡◌, refl, sym, ap, ◌∙◌}
use Prim.Native.Nat.{ℕ, ◌<◌}
use native.Mathlib.Omega.{arith}
use Rattle.std.specs.Prelude.{Result, Ok, Err}
use Rattle.line.specs.declared.Refusal.{Refusal as Unfit}
use Rattle.line.specs.declared.Refusal.TheVariants.{Full, Crc, Family, Fitted}
use Rattle.line.specs.Line.{number_returned as line_number}
use Rattle.withdrawal.specs.declared.Refusal.{Refusal as NoWithdrawal}
use Rattle.withdrawal.specs.declared.Refusal.TheVariants.{NotFitted}
use Rattle.withdrawal.specs.Withdrawal.{number_returned}
use Rattle.bridge.specs.Bridge.{number_by}

module _ {S E : Type 0} (f : E → ℕ) (at : ℕ → E) (back : (e : E) → at (f e) ≡ e) (never : (e : E) → 0 < f e) (left : Result S E → S) (same : (c : S) → left (Ok c) ≡ c) where
  pub told : (r s : Result S E) → number_by f r ≡ number_by f s → left r ≡ left s → r ≡ s
  told (Ok c) (Ok d) n p = ap Ok (sym (same c) ∙ p ∙ same d)
  told (Ok c) (Err e) n p = absurd (omega (arith, never e, n))
  told (Err e) (Ok c) n p = absurd (omega (arith, never e, n))
  told (Err d) (Err e) n p = ap Err (sym (back d) ∙ ap at n ∙ back e)

pub never_refused : (e : Unfit) → 0 < line_number e
never_refused Full = omega arith
never_refused Crc = omega arith
never_refused Family = omega arith
never_refused Fitted = omega arith

pub never_withdrawn : (e : NoWithdrawal) → 0 < number_returned e
never_withdrawn NotFitted = omega arith

only : (e : NoWithdrawal) → NotFitted ≡ e
only NotFitted = refl

pub told_withdrawal : {S : Type 0} (left : Result S NoWithdrawal → S) → ((c : S) → left (Ok c) ≡ c)
    → (r s : Result S NoWithdrawal) → number_by number_returned r ≡ number_by number_returned s → left r ≡ left s → r ≡ s
told_withdrawal left same = told number_returned (λ _. NotFitted) only never_withdrawn left same
