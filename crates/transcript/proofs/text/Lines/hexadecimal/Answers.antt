-- `text::Lines::hexadecimal` meets its contract: the letter, two digits and the newline.
use Rattle.std.proofs.Common.{ℕ, [], ◌∷◌, ap₂, arith}
use Rattle.transcript.specs.Text.{behind_number}
use Rattle.transcript.specs.Transcript.{hexadecimal}
use Rattle.transcript.proofs.Buffer.{puts_more, puts_same}
use Rattle.transcript.proofs.text.Lines.hexadecimal.Goals as goal

pub returns : goal.returns
unfolding behind_number hexadecimal
returns c =
    let digits = ap₂ (λ (x y : ℕ). 0x20 ∷ 0x52 ∷ 0x20 ∷ x ∷ y ∷ 0x0A ∷ []) c.hex_digit.ensures c.hex_digit-2.ensures in
    record {
      puts = puts_same (puts_more (puts_more (puts_more c.letter.ensures c.byte.ensures) c.byte-2.ensures) c.byte-3.ensures) digits;
      upper_bound = omega arith;
    }
