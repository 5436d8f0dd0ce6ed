-- `script::count_of` meets its contract: the count is the first two bytes.
use Rattle.std.proofs.Common.{ℕ, ◌+◌, ◌*◌, ◌≡◌, sym, ap, ◌∙◌, ap₂, arith}
use Rattle.script.specs.Script.{number_at}
use Rattle.script.proofs.Numbers.{piece_number, piece_lt, piece_next, count_of_bytes}
use Rattle.script.proofs.count_of.Goals as goal

pub overflow_cast-high : goal.overflow_cast-high
overflow_cast-high c = omega (arith, piece_lt c.args.script.now 0 8 c.bits_from-high.result c.bits_from-high.ensures)

pub overflow_cast-low : goal.overflow_cast-low
overflow_cast-low c = omega (arith, piece_lt c.args.script.now c.bits_from-high.result.next 8 c.bits_from-low.result c.bits_from-low.ensures)

pub returns : goal.returns
returns c =
    let s = c.args.script.now in
    let high = c.bits_from-high in
    let low = c.bits_from-low in
    let first = piece_number s 0 8 high.result high.ensures in
    let second = piece_number s high.result.next 8 low.result low.ensures ∙ ap (λ (k : ℕ). number_at s k 8) (piece_next s 0 8 high.result high.ensures (omega arith)) in
    let pair : c.from_be_bytes.result ≡ high.result.number * 256 + low.result.number = omega arith in
    pair ∙ ap₂ (λ (x y : ℕ). x * 256 + y) first second ∙ sym (count_of_bytes s)
