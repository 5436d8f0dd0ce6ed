-- The checksums as shift registers (application note 27; document 01, "Probe identities" and "Packets").
--   taps w ts        the places of a register of w bits that the terms ts of its polynomial feed
--   shifted p r b    the register r after the bit b has gone in
--   entered p r x    the register r after the eight bits of the byte x have gone in, low bit first
--   table_of p        the table of 256 entries by which a byte goes in at once
--   crc_from p r s    the register r after every byte of s has gone in
--   crc8_of s         the CRC-8 of s
--   crc16_of s        the CRC-16 of s, not inverted
use Rattle.std.specs.Prelude.{ℕ, zero, suc, ◌+◌, ◌-◌, ◌/◌, ◌%◌, ◌^◌, cond, List, [], ◌∷◌, eqb}
use Rattle.std.specs.Int.Bits.{bit_xor}

-- A register is moved towards its low bit, so the term of power t stands t places below its top bit. The highest term is the feedback
-- itself and has no place.
unfoldable pub taps : ℕ → List ℕ → ℕ
taps w [] = 0
taps w (t ∷ ts) = 2 ^ (w - 1 - t) + taps w ts

-- CRC-8: terms 8, 5, 4, 0.
unfoldable pub taps8 : ℕ
taps8 = taps 8 (5 ∷ 4 ∷ 0 ∷ [])

-- CRC-16: terms 16, 15, 2, 0.
unfoldable pub taps16 : ℕ
taps16 = taps 16 (15 ∷ 2 ∷ 0 ∷ [])

-- The bit that goes in is added to the low bit that falls out; where the sum is odd, the moved register is flipped at the taps.
unfoldable pub shifted : ℕ → ℕ → ℕ → ℕ
shifted p r b = cond (eqb ((r + b) % 2) 1) (bit_xor (r / 2) p) (r / 2)

-- n bits of x go in, low bit first.
unfoldable pub shifts : ℕ → ℕ → ℕ → ℕ → ℕ
shifts p zero r x = r
shifts p (suc n) r x = shifts p n (shifted p r (x % 2)) (x / 2)

unfoldable pub entered : ℕ → ℕ → ℕ → ℕ
entered p r x = shifts p 8 r x

-- n entries of a table for the taps p, from the entry i on: entry k is what a register of zero becomes when the byte k goes in.
unfoldable pub entries : ℕ → ℕ → ℕ → List ℕ
entries p zero i = []
entries p (suc n) i = entered p 0 i ∷ entries p n (suc i)

unfoldable pub table_of : ℕ → List ℕ
table_of p = entries p 256 0

unfoldable pub crc_from : ℕ → ℕ → List ℕ → ℕ
crc_from p r [] = r
crc_from p r (x ∷ xs) = crc_from p (entered p r x) xs

-- The register starts at zero.
unfoldable pub crc8_of : List ℕ → ℕ
crc8_of s = crc_from taps8 0 s

unfoldable pub crc16_of : List ℕ → ℕ
crc16_of s = crc_from taps16 0 s
