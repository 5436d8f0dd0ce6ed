-- Each contract leaves one answer for each argument.
use mathlib.Core.Path.{sym, ◌∙◌}
use Rattle.checksum.proofs.Unique.{OneAnswer}
use Rattle.pass.proofs.command.Reads as command
use Rattle.pass.proofs.pass.Reads as pass

pub one_command : OneAnswer command.Post
one_command κ a x y s t p q = p ∙ sym q

pub one_pass : OneAnswer pass.Post
one_pass κ a x y s t p q = p ∙ sym q
