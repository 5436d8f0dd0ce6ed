-- What the bytes of a packet mean.
--   inverted_lt              the CRC as it is sent is two bytes
--   seal_right, seal_wrong   the chip's test of the two last bytes
--   own_body, chip_byte      the address byte of the library's packet, and the one that the chip acknowledges
--   byte_lt, byte_inj        it is a byte, and no other address has it
--   code_lt, code_known      the first byte is one that the chip knows
--   done, answered           what the chip does and answers is what the request means
use mathlib.Core.Path.{◌≡◌, refl, ap, ap₂}
use mathlib.Core.Bool.{true, false, ◌&&◌}
use mathlib.Core.List.{List, [], ◌∷◌}
use Prim.Native.Nat.{ℕ, ◌+◌, ◌*◌, ◌-◌, ◌/◌, ◌%◌, ◌<◌, ◌≤◌}
use native.Mathlib.Omega.{arith}
use borrow.Author.Tests.{eq-eqb, ne_eqb}
use lib.Dec.{eqb, lit<}
use lib.ListN.{length}
use Rattle.checksum.specs.Register.{crc16_of}
use Rattle.packet.specs.Request.{Request, write, read, write_read, body_of, inverted_of, seal_of}
use Rattle.forming.specs.Forming.{in_limits, good_address, good_count}
use Rattle.forming.proofs.Limits.{address_of_lem, count_of}
use Rattle.chip.specs.declared.Sensor.{Sensor}
use Rattle.chip.specs.Sensor.{pointed_to, stored_one, stored, written, stepped, read_from}
use Rattle.chip.specs.Chip.{is_code, answer_of}
use Rattle.chip.specs.Chip as chip
use Rattle.obeying.specs.Obeying.{done_by, read_by, write_status_to, answer_to, address_of, address_byte, code_of, Fair, addressed_by}
use Rattle.obeying.proofs.Packet.{both, reads_of, meant_by, asked_by}

-- ---- the last two bytes

pub inverted_lt : (s : List ℕ) → inverted_of s < 65536
unfolding inverted_of
inverted_lt s = omega arith

pub seal_right : (s : List ℕ) → eqb (inverted_of s % 256 + 256 * (inverted_of s / 256)) (65535 - crc16_of s) ≡ true
unfolding inverted_of
seal_right s = eq-eqb ((65535 - crc16_of s) % 256 + 256 * ((65535 - crc16_of s) / 256)) (65535 - crc16_of s) (omega arith)

pub seal_wrong : (s : List ℕ) (low high : ℕ) → low < 256 → (low ∷ high ∷ [] ≡ seal_of s → ⊥) → eqb (low + 256 * high) (65535 - crc16_of s) ≡ false
unfolding inverted_of seal_of
seal_wrong s low high l bad =
    ne_eqb (low + 256 * high) (65535 - crc16_of s) (λ e. bad (ap₂ (λ (x y : ℕ). x ∷ y ∷ []) (omega arith) (omega arith)))

-- ---- the address byte

pub own_body : (q : Request) → addressed_by (address_byte q (address_of q)) q ≡ body_of q
unfolding addressed_by body_of address_byte address_of
own_body (write a d) = refl
own_body (read a r) = refl
own_body (write_read a d r) = refl

pub chip_byte : (q : Request) (a : ℕ) → chip.address_byte (code_of q) a ≡ address_byte q a
unfolding code_of body_of address_byte
chip_byte (write b d) a = omega arith
chip_byte (read b r) a = refl
chip_byte (write_read b d r) a = omega arith

pub byte_lt : (q : Request) → Fair q → address_byte q (address_of q) < 256
unfolding in_limits address_byte address_of
byte_lt (write a d) fair = omega (arith, address_of_lem a (good_count (length d)) fair.limits)
byte_lt (read a r) fair = omega (arith, address_of_lem a (good_count r) fair.limits)
byte_lt (write_read a d r) fair =
    omega (arith, address_of_lem a (good_count (length d)) (both (good_address a && good_count (length d)) (good_count r) fair.limits).0)

pub byte_inj : (q : Request) (a b : ℕ) → address_byte q a ≡ address_byte q b → a ≡ b
unfolding address_byte
byte_inj (write e d) a b h = omega arith
byte_inj (read e r) a b h = omega arith
byte_inj (write_read e d r) a b h = omega arith

-- ---- the first byte

pub code_lt : (q : Request) → code_of q < 256
unfolding code_of body_of
code_lt (write a d) = lit< tt
code_lt (read a r) = lit< tt
code_lt (write_read a d r) = lit< tt

pub code_known : (q : Request) → is_code (code_of q) ≡ true
unfolding code_of body_of
code_known (write a d) = refl
code_known (read a r) = refl
code_known (write_read a d r) = refl

-- ---- what is done

pointer_stored : (d : List ℕ) (m : Sensor) → m.pointer < 16 → (stored d m).pointer < 16
unfolding stored stored_one
pointer_stored [] m h = h
pointer_stored (x ∷ d) m h = pointer_stored d (stored_one x m) (omega arith)

-- no read, no step
stepped_none : (m : Sensor) → m.pointer < 16 → stepped 0 m ≡ m
unfolding stepped
stepped_none m h =
    let same : (m.pointer + 0) % 16 ≡ m.pointer = omega arith in
    ap (λ (p : ℕ). record { pointer = p; registers = m.registers }) same

written_alone : (d : List ℕ) (m : Sensor) → 1 ≤ length d → stepped 0 (written d m) ≡ written d m
unfolding written
written_alone [] m h = absurd (omega arith)
written_alone (x ∷ d) m h = stepped_none (stored d (pointed_to x m)) (pointer_stored d (pointed_to x m) (omega arith))

pub done : (q : Request) (m : Sensor) → Fair q → stepped (reads_of q) (meant_by q m) ≡ done_by q m
unfolding in_limits done_by reads_of meant_by
done (write a d) m fair = written_alone d m (count_of (length d) (both (good_address a) (good_count (length d)) fair.limits).1).0
done (read a r) m fair = refl
done (write_read a d r) m fair = refl

pub answered : (q : Request) (y : ℕ) (m : Sensor) → answer_of 0 (asked_by q y m) ≡ answer_to q m
unfolding answer_of answer_to write_status_to read_by code_of body_of reads_of meant_by read_from
answered (write a d) y m = refl
answered (read a r) y m = refl
answered (write_read a d r) y m = refl
