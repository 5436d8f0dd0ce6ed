-- Each contract leaves one answer, and one content of the lent buffer, for each argument.
use Rattle.std.proofs.Common.{sym, ◌∙◌}
use Rattle.checksum.proofs.Unique.{OneAnswer, OneAnswerAnd}
use Rattle.forming.proofs.Refusals.{by_number}
use Rattle.forming.proofs.Refusal.number.Reads as number
use Rattle.forming.proofs.form_write.Reads as form_write
use Rattle.forming.proofs.form_read.Reads as form_read
use Rattle.forming.proofs.form_write_read.Reads as form_write_read

pub one_number : OneAnswer number.Post
one_number κ a x y s t p q = p ∙ sym q

pub one_form_write : OneAnswerAnd form_write.Post (λ κ s. s.1.1.0.now)
one_form_write κ a x y s t p q = (by_number x y (p.0 ∙ sym q.0), p.1 ∙ sym q.1)

pub one_form_read : OneAnswerAnd form_read.Post (λ κ s. s.1.1.0.now)
one_form_read κ a x y s t p q = (by_number x y (p.0 ∙ sym q.0), p.1 ∙ sym q.1)

pub one_form_write_read : OneAnswerAnd form_write_read.Post (λ κ s. s.1.1.1.0.now)
one_form_write_read κ a x y s t p q = (by_number x y (p.0 ∙ sym q.0), p.1 ∙ sym q.1)
