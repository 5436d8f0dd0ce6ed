-- Each exported function leaves one answer, and one content of the lent buffer, for each argument.
use mathlib.Core.Path.{sym, ◌∙◌}
use Rattle.checksum.proofs.Unique.{OneAnswer, OneAnswerAnd}
use Rattle.trelvox.proofs.trelvox_crc8.Reads as crc8
use Rattle.trelvox.proofs.trelvox_crc16.Reads as crc16
use Rattle.trelvox.proofs.trelvox_form_write.Reads as form_write
use Rattle.trelvox.proofs.trelvox_form_read.Reads as form_read
use Rattle.trelvox.proofs.trelvox_form_write_read.Reads as form_write_read
use Rattle.trelvox.proofs.trelvox_read.Reads as read

pub one_crc8 : OneAnswer crc8.Post
one_crc8 κ a x y s t p q = p ∙ sym q

pub one_crc16 : OneAnswer crc16.Post
one_crc16 κ a x y s t p q = p ∙ sym q

pub one_form_write : OneAnswerAnd form_write.Post (λ κ s. s.1.1.0.now)
one_form_write κ a x y s t p q = (p.0 ∙ sym q.0, p.1 ∙ sym q.1)

pub one_form_read : OneAnswerAnd form_read.Post (λ κ s. s.1.1.0.now)
one_form_read κ a x y s t p q = (p.0 ∙ sym q.0, p.1 ∙ sym q.1)

pub one_form_write_read : OneAnswerAnd form_write_read.Post (λ κ s. s.1.1.1.0.now)
one_form_write_read κ a x y s t p q = (p.0 ∙ sym q.0, p.1 ∙ sym q.1)

pub one_read : OneAnswerAnd read.Post (λ κ s. s.1.0.now)
one_read κ a x y s t p q = (p.0 ∙ sym q.0, p.1 ∙ sym q.1)
