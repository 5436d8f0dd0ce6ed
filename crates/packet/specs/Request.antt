-- Packets for the DS28E17 (document 01, "Packets").
--   Request           what a packet asks of the chip, one case for each form
--   body_of q          the bytes of its packet before the checksum
--   inverted_of s      the CRC-16 as it is sent behind the bytes s
--   seal_of s          and its two bytes
--   packet_of q        the packet
use Rattle.std.specs.Prelude.{ℕ, ◌+◌, ◌-◌, ◌*◌, ◌/◌, ◌%◌, List, [], ◌∷◌, ◌++◌, length}
use Rattle.checksum.specs.Register.{crc16_of}

-- Writing data to an address; reading so many bytes from one; writing, then reading.
pub data Request : Type 0 where
  write : ℕ → List ℕ → Request
  read : ℕ → ℕ → Request
  write_read : ℕ → List ℕ → ℕ → Request

-- 4Bh, address×2, L, data; 87h, address×2+1, R; 2Dh, address×2, L, data, R.
unfoldable pub body_of : Request → List ℕ
body_of (write a d) = 0x4B ∷ (a * 2) ∷ length d ∷ d
body_of (read a r) = 0x87 ∷ (a * 2 + 1) ∷ r ∷ []
body_of (write_read a d r) = 0x2D ∷ (a * 2) ∷ length d ∷ (d ++ (r ∷ []))

-- The CRC-16 is sent inverted.
unfoldable pub inverted_of : List ℕ → ℕ
inverted_of s = 65535 - crc16_of s

-- Low byte first.
unfoldable pub seal_of : List ℕ → List ℕ
seal_of s = (inverted_of s % 256) ∷ (inverted_of s / 256) ∷ []

-- Each packet ends with the CRC-16 over all bytes before it.
unfoldable pub packet_of : Request → List ℕ
packet_of q = body_of q ++ seal_of (body_of q)
