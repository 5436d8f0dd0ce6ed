-- `script::Reader::bits` meets its contract: the bits lie in two bytes and are shifted and cut out.
use Rattle.std.proofs.Common.{ℕ, ◌+◌, ◌%◌, ◌^◌, ap, ◌∙◌, ap₂, arith}
use Rattle.script.specs.declared.Piece.{Piece}
use Rattle.script.specs.Script.{number_at}
use Rattle.script.proofs.Numbers.{number_at_shifted}
use Rattle.script.proofs.Reader.bits.Goals as goal

pub returns : goal.returns
returns c =
    let a = c.args in
    let n = c.min-n in
    let p = c.pair-pair in
    let number = number_at_shifted a.self.script.now a.self.place n.result p.result p.ensures (omega (arith, n.ensures))
    ∙ ap (number_at a.self.script.now a.self.place) n.ensures in
    let next = ap (λ (m : ℕ). (a.self.place + m) % 2 ^ 64) n.ensures in
    ap₂ {C = Piece} (λ (x k : ℕ). record { number = x; next = k }) number next
