-- The contract leaves one length and one content of the lent buffer for each script.
use mathlib.Core.Path.{sym, ◌∙◌}
use Rattle.checksum.proofs.Unique.{OneAnswerAnd}
use Rattle.output.proofs.output.Reads as output

pub one_output : OneAnswerAnd output.Post (λ κ s. s.1.0.now)
one_output κ a x y s t p q = (p.0 ∙ sym q.0, p.1 ∙ sym q.1)
