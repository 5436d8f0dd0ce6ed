-- Each contract leaves one answer for each argument.
use mathlib.Core.Path.{sym, ◌∙◌}
use Rattle.checksum.proofs.Unique.{OneAnswer}
use Rattle.byte.proofs.at.Reads as at
use Rattle.byte.proofs.with_level.Reads as with_level

pub one_at : OneAnswer at.Post
one_at κ a x y s t p q = p ∙ sym q

pub one_with_level : OneAnswer with_level.Post
one_with_level κ a x y s t p q = p ∙ sym q
