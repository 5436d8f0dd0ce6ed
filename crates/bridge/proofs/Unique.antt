-- Each contract leaves one answer and one state for each argument.
use mathlib.Core.Path.{◌≡◌, refl, sym, ◌∙◌}
use mathlib.Core.Bool.{cond}
use Prim.Native.Nat.{ℕ}
use lib.Dec.{eqb}
use Rattle.checksum.proofs.Unique.{OneAnswer}
use Rattle.line.specs.Line.{number_returned}
use Rattle.line.proofs.Refusals.{returned_by, by_number}
use Rattle.bridge.specs.declared.Refusal.{Refusal}
use Rattle.bridge.specs.declared.Refusal.TheVariants.{Unknown, Busy, Length, Parameter}
use Rattle.bridge.specs.Bridge.{number_of, bridge_in}
use Rattle.bridge.proofs.Writes.{never_done}
use Rattle.bridge.proofs.Results.{told, never_refused, told_withdrawal}
use Rattle.bridge.proofs.Refusal.number.Reads as number
use Rattle.bridge.proofs.Registers.speed.Reads as speed
use Rattle.bridge.proofs.Registers.finished.Reads as finished
use Rattle.bridge.proofs.Bridge.power_on.Reads as power_on
use Rattle.bridge.proofs.Bridge.write.Reads as write
use Rattle.bridge.proofs.Bridge.read.Reads as read
use Rattle.bridge.proofs.Bridge.wait.Reads as wait
use Rattle.bridge.proofs.Bridge.fit.Reads as fit
use Rattle.bridge.proofs.Bridge.withdraw.Reads as withdraw

pub one_number : OneAnswer number.Post
one_number κ a x y s t p q = p ∙ sym q

pub one_speed : OneAnswer speed.Post
one_speed κ a x y s t p q = p ∙ sym q

pub one_finished : OneAnswer finished.Post
one_finished κ a x y s t p q = p ∙ sym q

pub one_power_on : OneAnswer power_on.Post
one_power_on κ a x y s t p q = p ∙ sym q

pub one_read : OneAnswer read.Post
one_read κ a x y s t p q = p ∙ sym q

pub one_wait : OneAnswer wait.Post
one_wait κ a x y s t p q = p ∙ sym q

-- Each refusal of a write has a number of its own.

refusal_at : ℕ → Refusal
refusal_at n = cond (eqb n 5) Unknown (cond (eqb n 6) Busy (cond (eqb n 7) Length Parameter))

numbered : (e : Refusal) → refusal_at (number_of e) ≡ e
unfolding refusal_at
numbered Unknown = refl
numbered Busy = refl
numbered Length = refl
numbered Parameter = refl

pub one_write : OneAnswer write.Post
one_write κ a x y s t p q = told number_of refusal_at numbered never_done (bridge_in _) (λ _. refl) x y (p.0 ∙ sym q.0) (p.1 ∙ sym q.1)

pub one_fit : OneAnswer fit.Post
one_fit κ a x y s t p q = told number_returned returned_by by_number never_refused (bridge_in _) (λ _. refl) x y (p.0 ∙ sym q.0) (p.1 ∙ sym q.1)

pub one_withdraw : OneAnswer withdraw.Post
one_withdraw κ a x y s t p q = told_withdrawal (bridge_in _) (λ _. refl) x y (p.0 ∙ sym q.0) (p.1 ∙ sym q.1)
