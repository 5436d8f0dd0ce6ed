-- Each contract leaves one answer for each argument.
use mathlib.Core.Path.{sym, ◌∙◌}
use Rattle.checksum.proofs.Unique.{OneAnswer}
use Rattle.chip.proofs.Chip.none.Reads as none
use Rattle.chip.proofs.Chip.newly_fitted.Reads as newly_fitted
use Rattle.chip.proofs.Chip.emptied.Reads as emptied
use Rattle.chip.proofs.Chip.sends.Reads as sends
use Rattle.chip.proofs.Chip.heard.Reads as heard
use Rattle.chip.proofs.Chip.over.Reads as over

pub one_none : OneAnswer none.Post
one_none κ a x y s t p q = p ∙ sym q

pub one_newly_fitted : OneAnswer newly_fitted.Post
one_newly_fitted κ a x y s t p q = p ∙ sym q

pub one_emptied : OneAnswer emptied.Post
one_emptied κ a x y s t p q = p ∙ sym q

pub one_sends : OneAnswer sends.Post
one_sends κ a x y s t p q = p ∙ sym q

pub one_heard : OneAnswer heard.Post
one_heard κ a x y s t p q = p ∙ sym q

pub one_over : OneAnswer over.Post
one_over κ a x y s t p q = p ∙ sym q
