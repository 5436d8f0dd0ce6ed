-- `forming::put_seal` meets its contract: two stores, one after the other, are the two bytes of the checksum at the place.
use native.Mathlib.Omega.{arith}
use native.Mathlib.Numerals.{add-one}
use mathlib.Core.Path.{◌≡◌, ap, ◌∙◌}
use mathlib.Core.List.{List, [], ◌∷◌}
use Prim.Native.Nat.{ℕ, ◌+◌, ◌/◌, ◌%◌, ◌≤◌}
use lib.ListN.{length, get_or, set}
use lib.Seq.{sets-eq}
use Rattle.forming.specs.Buffer.{placed}
use Rattle.packet.specs.Request.{seal_of}
use Rattle.forming.proofs.put_seal.Goals as goal

-- two stores side by side
two : (d : List ℕ) (n x y : ℕ) → n + 2 ≤ length d → set (set d n x) (n + 1) y ≡ placed n (x ∷ y ∷ []) d
unfolding placed
two d n x y h = ap (λ (k : ℕ). set (set d n x) k y) (add-one n) ∙ sets-eq (x ∷ y ∷ []) d n h

pub returns : goal.returns
unfolding seal_of
returns c =
    let a = c.args in
    let d = a.buffer.now in
    let k = c.sent_crc.result in
    let bytes : c.to_le_bytes.result ≡ (k % 256) ∷ (k / 256) ∷ []
    = c.to_le_bytes.ensures ∙ ap (λ (high : ℕ). (k % 256) ∷ high ∷ []) (omega arith) in
    ap (λ (b : List ℕ). set (set d a.place (get_or b 0 0)) (a.place + 1) (get_or b 1 0)) bytes
    ∙ two d a.place (k % 256) (k / 256) (omega arith)
    ∙ ap (λ (n : ℕ). placed a.place ((n % 256) ∷ (n / 256) ∷ []) d) c.sent_crc.ensures
