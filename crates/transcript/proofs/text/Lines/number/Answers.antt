-- `text::Lines::number` meets its contract: the letter, one digit and the newline.
use Rattle.std.proofs.Common.{arith}
use Rattle.transcript.proofs.Buffer.{puts_more, puts_same, behind_number_lem}
use Rattle.transcript.proofs.text.Lines.number.Goals as goal

pub returns : goal.returns
returns c =
    let a = c.args in
    record {
      puts = puts_same (puts_more (puts_more c.letter.ensures c.byte.ensures) c.byte-2.ensures) (behind_number_lem a.letter a.value c.requires.1);
      upper_bound = omega arith;
    }
