-- The contracts leave one answer for each argument, and one content of the lent buffer for each script.
use mathlib.Core.Path.{sym, ◌∙◌}
use Rattle.checksum.proofs.Unique.{OneAnswer, OneAnswerAnd}
use Rattle.transcript.proofs.Refusal.number.Reads as number
use Rattle.transcript.proofs.transcript.Reads as transcript

pub one_number : OneAnswer number.Post
one_number κ a x y s t p q = p ∙ sym q

pub one_transcript : OneAnswerAnd transcript.Post (λ κ s. s.1.0.now)
one_transcript κ a x y s t p q = (p.0 ∙ sym q.0, p.1 ∙ sym q.1)
