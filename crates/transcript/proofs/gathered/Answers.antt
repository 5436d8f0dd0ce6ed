-- `transcript::gathered` meets its contract: the bytes passed stand at the front of the array, and each byte's place is that behind the last.
use Rattle.std.proofs.Common.{◌≡◌, ◌++◌, [], ◌∷◌, List, ℕ, ◌+◌, ◌*◌, ◌<◌, ◌≤◌, refl, sym, ap, ap₂, ◌∙◌, arith, length, take, drop, set, add-one, length-append}
use Rattle.std.proofs.lemmas.List.{take-append-le, length-take-le, length-drop}
use lib.Seq.{take-suc-set}
use Rattle.script.specs.Script.{number_at, bytes_at}
use Rattle.script.proofs.Numbers.{piece_number, piece_lt, piece_next, bytes_at_snoc}
use Rattle.transcript.proofs.gathered.Goals as goal

-- so many bytes are to be filled
filled : (n : ℕ) → n ≤ 8 → length {A = ℕ} (take n (0 ∷ 0 ∷ 0 ∷ 0 ∷ 0 ∷ 0 ∷ 0 ∷ 0 ∷ [])) ≡ n
filled n h = length-take-le n (0 ∷ 0 ∷ 0 ∷ 0 ∷ 0 ∷ 0 ∷ 0 ∷ 0 ∷ []) h

pub loop-byte-init : goal.loop-byte-init
unfolding bytes_at
loop-byte-init c = (refl, omega arith, refl)

pub overflow_cast-byte : goal.overflow_cast-byte
overflow_cast-byte c =
    let p = c.bits-piece in
    omega (arith, piece_lt c.loop-byte.reader.script.now c.loop-byte.reader.place 8 p.result p.ensures)

pub loop-byte-preserved : goal.loop-byte-preserved
loop-byte-preserved c =
    let l = c.loop-byte in
    let a = c.args in
    let s = a.reader.script.now in
    let p = c.bits-piece in
    let x = p.result.number in
    let most = filled a.n c.requires.0 in
    let room : l.byte-index < length l.byte-items = omega arith in
    let byte : x ≡ number_at s (a.reader.place + 8 * l.byte-index) 8 = piece_number l.reader.script.now l.reader.place 8 p.result p.ensures ∙ ap₂ (λ (t : List ℕ) (k : ℕ). number_at t k 8) l.invariant.0 l.invariant.1 in (
      l.invariant.0,
      omega (arith, piece_next l.reader.script.now l.reader.place 8 p.result p.ensures (omega arith)),
      ap (λ (n : ℕ). take n (set l.byte-items l.byte-index x)) (add-one l.byte-index) ∙ take-suc-set l.byte-items l.byte-index x room
          ∙ ap₂ (λ (t : List ℕ) (y : ℕ). t ++ (y ∷ [])) l.invariant.2 byte ∙ sym (bytes_at_snoc s a.reader.place l.byte-index),
    )

pub returns : goal.returns
returns c =
    let l = c.loop-byte in
    let a = c.args in
    let most = filled a.n c.requires.0 in
    let all : a.n ≡ l.byte-index = omega arith in
    let whole : length l.byte-items ≡ a.n = omega arith in
    let none : List ℕ = 0 ∷ 0 ∷ 0 ∷ 0 ∷ 0 ∷ 0 ∷ 0 ∷ 0 ∷ [] in
    let rest : List ℕ = drop a.n none in (
      omega (arith, length-append l.byte-items rest, length-drop a.n none),
      take-append-le a.n l.byte-items rest (omega arith) ∙ ap (λ (n : ℕ). take n l.byte-items) all ∙ l.invariant.2 ∙ ap (bytes_at a.reader.script.now a.reader.place) (sym all),
    )
