-- Each contract leaves one answer for each argument.
use mathlib.Core.Path.{sym, ◌∙◌}
use Rattle.checksum.proofs.Unique.{OneAnswer}
use Rattle.probe.proofs.resumed.Reads as resumed
use Rattle.probe.proofs.Probe.newly_fitted.Reads as newly_fitted
use Rattle.probe.proofs.Probe.in_condition.Reads as in_condition
use Rattle.probe.proofs.Probe.with_mark.Reads as with_mark
use Rattle.probe.proofs.Probe.agrees.Reads as agrees
use Rattle.probe.proofs.Probe.reached.Reads as reached
use Rattle.probe.proofs.Probe.sends.Reads as sends
use Rattle.probe.proofs.Probe.took.Reads as took
use Rattle.probe.proofs.Probe.obeyed.Reads as obeyed
use Rattle.probe.proofs.Probe.differed.Reads as differed
use Rattle.probe.proofs.Probe.rests.Reads as rests
use Rattle.probe.proofs.Probe.reset.Reads as reset

pub one_newly_fitted : OneAnswer newly_fitted.Post
one_newly_fitted κ a x y s t p q = p ∙ sym q

pub one_in_condition : OneAnswer in_condition.Post
one_in_condition κ a x y s t p q = p ∙ sym q

pub one_with_mark : OneAnswer with_mark.Post
one_with_mark κ a x y s t p q = p ∙ sym q

pub one_agrees : OneAnswer agrees.Post
one_agrees κ a x y s t p q = p ∙ sym q

pub one_resumed : OneAnswer resumed.Post
one_resumed κ a x y s t p q = p ∙ sym q

pub one_reached : OneAnswer reached.Post
one_reached κ a x y s t p q = p ∙ sym q

pub one_sends : OneAnswer sends.Post
one_sends κ a x y s t p q = p ∙ sym q

pub one_took : OneAnswer took.Post
one_took κ a x y s t p q = p ∙ sym q

pub one_obeyed : OneAnswer obeyed.Post
one_obeyed κ a x y s t p q = p ∙ sym q

pub one_differed : OneAnswer differed.Post
one_differed κ a x y s t p q = p ∙ sym q

pub one_rests : OneAnswer rests.Post
one_rests κ a x y s t p q = p ∙ sym q

pub one_reset : OneAnswer reset.Post
one_reset κ a x y s t p q = p ∙ sym q
