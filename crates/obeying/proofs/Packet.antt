-- The packet of a request.
--   asked_by q y m   what the body of q, with the address byte y, asks of the sensor m
--   writing_taken    the bytes of a packet that writes, up to its data
--   body_taken       the bytes of a body
--   packet_taken     and two more
use mathlib.Core.Path.{◌≡◌, refl, subst}
use mathlib.Core.Bool.{Bool, true, false, ◌&&◌, and-eq-true_iff}
use mathlib.Core.List.{List, [], ◌∷◌, ◌++◌, append_assoc}
use Prim.Native.Nat.{ℕ, ◌<◌, ◌≤◌}
use native.Mathlib.Omega.{arith}
use lib.Dec.{eqb, lit<}
use lib.ListN.{length}
use Rattle.checksum.specs.Register.{taps16, crc_from, crc16_of}
use Rattle.packet.specs.Request.{Request, write, read, write_read, body_of}
use Rattle.forming.specs.Forming.{in_limits, good_address, good_count}
use Rattle.forming.proofs.Limits.{count_of}
use Rattle.chip.specs.declared.Sensor.{Sensor}
use Rattle.chip.specs.declared.Place.TheVariants.{Code, Seal, SealEnd}
use Rattle.chip.specs.declared.Asked.{Asked}
use Rattle.chip.specs.declared.Chip.{Chip}
use Rattle.chip.specs.Sensor.{written}
use Rattle.chip.specs.Chip.{is_code, whole}
use Rattle.obeying.specs.Obeying.{code_of, data_of, Bytes, Fair, addressed_by}
use Rattle.obeying.proofs.Body.{Taken, crc_from_then, asking, at_place, behind, data_taken, code_taken, address_taken, length_taken, count_taken, reads_taken, seal_taken}

-- ---- what is asked

unfoldable pub reads_of : Request → ℕ
reads_of (write a d) = 0
reads_of (read a r) = r
reads_of (write_read a d r) = r

unfoldable pub meant_by : Request → Sensor → Sensor
meant_by (write a d) m = written d m
meant_by (read a r) m = m
meant_by (write_read a d r) m = written d m

abbrev pub asked_by : Request → ℕ → Sensor → Asked
asked_by q y m = asking (code_of q) y 0 (reads_of q) (crc16_of (addressed_by y q)) (meant_by q m)

-- ---- the body

-- head and data of a packet that writes
pub writing_taken : (c : Chip) (k y : ℕ) (d s : List ℕ) (e : Chip) → k < 256 → is_code k ≡ true → eqb k 0x87 ≡ false → y < 256 → good_count (length d) ≡ true → Bytes d → Taken s (at_place c (behind c k) (asking k y 0 0 (crc_from taps16 0 (k ∷ y ∷ length d ∷ d)) (written d c.sensor))) e → Taken (k ∷ y ∷ length d ∷ (d ++ s)) (at_place c Code (asking 0 0 0 0 0 c.sensor)) e
unfolding crc_from
writing_taken c k y [] s e kb code other yb good byte f = absurd (omega (arith, (count_of 0 good).0))
writing_taken c k y (x ∷ d) s e kb code other yb good byte f =
    let n : (1 ≤ length (x ∷ d)) × (length (x ∷ d) ≤ 255) = count_of (length (x ∷ d)) good in
    code_taken c k _ 0 c.sensor e kb code
    (address_taken c y _ k _ c.sensor e yb
    (length_taken c (length (x ∷ d)) _ k y _ c.sensor e n.0 (omega arith) other
    (data_taken c x d s k y 0 _ c.sensor e byte f)))

pub both : (t u : Bool) → (t && u) ≡ true → (t ≡ true) × (u ≡ true)
both t u = (and-eq-true_iff t u).0

pub body_taken : (c : Chip) (q : Request) (y : ℕ) (s : List ℕ) (e : Chip) → Fair q → y < 256 → Taken s (at_place c Seal (asked_by q y c.sensor)) e → Taken (addressed_by y q ++ s) (at_place c Code (asking 0 0 0 0 0 c.sensor)) e
unfolding addressed_by body_of in_limits data_of code_of reads_of meant_by crc16_of crc_from
body_taken c (write a d) y s e fair h f =
    writing_taken c 0x4B y d s e (lit< tt) refl refl h (both (good_address a) (good_count (length d)) fair.limits).1 fair.bytes f
body_taken c (read a r) y s e fair h f =
    let n : (1 ≤ r) × (r ≤ 255) = count_of r (both (good_address a) (good_count r) fair.limits).1 in
    code_taken c 0x87 _ 0 c.sensor e (lit< tt) refl
    (address_taken c y _ 0x87 _ c.sensor e h (count_taken c r s y _ c.sensor e n.0 (omega arith) f))
body_taken c (write_read a d r) y s e fair h f =
    let l : ((good_address a && good_count (length d)) ≡ true) × (good_count r ≡ true)
    = both (good_address a && good_count (length d)) (good_count r) fair.limits in
    let n : (1 ≤ r) × (r ≤ 255) = count_of r l.1 in
    let crc : ℕ = crc_from taps16 0 (0x2D ∷ y ∷ length d ∷ d) in
    let m : Sensor = written d c.sensor in
    rw append_assoc
    (writing_taken c 0x2D y d (r ∷ s) e (lit< tt) refl refl h (both (good_address a) (good_count (length d)) l.0).1 fair.bytes
    (reads_taken c r s 0x2D y crc m e n.0 (omega arith)
    (subst (λ (v : ℕ). Taken s (at_place c Seal (asking 0x2D y 0 r v m)) e) (crc_from_then taps16 0 (0x2D ∷ y ∷ length d ∷ d) (r ∷ [])) f)))

-- ---- the packet

pub packet_taken : (c : Chip) (q : Request) (y low high : ℕ) → Fair q → y < 256 → low < 256 → high < 256 → Taken (addressed_by y q ++ low ∷ high ∷ []) (at_place c Code (asking 0 0 0 0 0 c.sensor)) (whole low high (at_place c (SealEnd low) (asked_by q y c.sensor)))
packet_taken c q y low high fair h l u =
    body_taken c q y (low ∷ high ∷ []) _ fair h (seal_taken c low high (asked_by q y c.sensor) l u)
