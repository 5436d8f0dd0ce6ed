-- The contract leaves one answer for each argument.
use mathlib.Core.Path.{sym, ◌∙◌}
use Rattle.checksum.proofs.Unique.{OneAnswer}
use Rattle.packet.proofs.sent_crc.Reads as sent_crc

pub one_sent_crc : OneAnswer sent_crc.Post
one_sent_crc κ a x y s t p q = p ∙ sym q
