-- `byte_slots::match_byte` meets its contract: a probe whose eight bits are not those of the byte has differed.
use mathlib.Core.Path.{sym, ◌∙◌}
use native.Mathlib.Omega.{arith}
use Rattle.byte_slots.proofs.Whole.{other_byte}
use Rattle.byte_slots.proofs.match_byte.Goals as goal

pub returns-then-eight_bits-byte : goal.returns-then-eight_bits-byte
returns-then-eight_bits-byte c =
    c.differed.ensures
    ∙ sym (other_byte c.args.byte c.args.bit c.args.fallback c.args.p.now c.requires (omega arith) (omega arith) (λ s. c.if-eight_bits-byte.true (c.eight_bits.ensures ∙ s)))
