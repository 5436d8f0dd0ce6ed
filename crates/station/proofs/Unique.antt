-- Each contract leaves one answer for each argument.
use mathlib.Core.Path.{◌≡◌, refl, sym, ap, ◌∙◌}
use mathlib.Core.Bool.{cond}
use Prim.Native.Nat.{ℕ}
use lib.Dec.{eqb}
use Rattle.checksum.proofs.Unique.{OneAnswer}
use Rattle.line.specs.declared.Refusal.TheVariants as line
use Rattle.line.proofs.Refusals.{returned_by, by_number}
use Rattle.station.specs.declared.Refusal.{Refusal}
use Rattle.station.specs.declared.Refusal.TheVariants.{Line, Family, Address}
use Rattle.station.specs.Station.{number_returned, station_in}
use Rattle.bridge.proofs.Results.{told, told_withdrawal}
use Rattle.station.proofs.Numbers.{never_zero}
use Rattle.station.proofs.Refusal.number.Reads as number
use Rattle.station.proofs.RefusalFromLineRefusal.from.Reads as from_line_refusal
use Rattle.station.proofs.RefusalFromIdentityRefusal.from.Reads as from_identity_refusal
use Rattle.station.proofs.Station.fit_chip.Reads as fit_chip
use Rattle.station.proofs.Station.withdraw.Reads as withdraw
use Rattle.station.proofs.Station.wait.Reads as wait
use Rattle.station.proofs.Station.quiet.Reads as quiet

pub one_number : OneAnswer number.Post
one_number κ a x y s t p q = p ∙ sym q

pub one_from_line_refusal : OneAnswer from_line_refusal.Post
one_from_line_refusal κ a x y s t p q = p ∙ sym q

pub one_from_identity_refusal : OneAnswer from_identity_refusal.Post
one_from_identity_refusal κ a x y s t p q = p ∙ sym q

pub one_wait : OneAnswer wait.Post
one_wait κ a x y s t p q = p ∙ sym q

pub one_quiet : OneAnswer quiet.Post
one_quiet κ a x y s t p q = p ∙ sym q

-- Each refusal of a chip has a number of its own.

refusal_at : ℕ → Refusal
refusal_at n = cond (eqb n 21) Family (cond (eqb n 22) Address (Line (returned_by n)))

numbered : (e : Refusal) → refusal_at (number_returned e) ≡ e
unfolding refusal_at
numbered (Line line.Full) = ap Line (by_number line.Full)
numbered (Line line.Crc) = ap Line (by_number line.Crc)
numbered (Line line.Family) = ap Line (by_number line.Family)
numbered (Line line.Fitted) = ap Line (by_number line.Fitted)
numbered Family = refl
numbered Address = refl

pub one_fit_chip : OneAnswer fit_chip.Post
one_fit_chip κ a x y s t p q = told number_returned refusal_at numbered never_zero (station_in _) (λ _. refl) x y (p.0 ∙ sym q.0) (p.1 ∙ sym q.1)

pub one_withdraw : OneAnswer withdraw.Post
one_withdraw κ a x y s t p q = told_withdrawal (station_in _) (λ _. refl) x y (p.0 ∙ sym q.0) (p.1 ∙ sym q.1)
