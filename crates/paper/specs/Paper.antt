-- The table of the P cases (document 01, "Tried on paper"; P8 by document 02, R-1).
--   a, b, c            the IDs A, B and C
--   with_one x          power-on with the one probe of the ID x
--   ready x            it, after D2h F0h, a 1-Wire reset and its time
--   Paper              the table
use Rattle.std.specs.Prelude.{ℕ, false, List, [], ◌∷◌, ◌≡◌, take}
use Rattle.checksum.specs.Register.{crc8_of}
use Rattle.identity.specs.Identity.{number_of, refusal_of}
use Rattle.line.specs.declared.Line.{Line}
use Rattle.line.specs.Line.{fit_number}
use Rattle.enumeration.specs.Order.{InOrder}
use Rattle.packet.specs.Request.{read, packet_of}
use Rattle.reading.specs.Reading.{reading_of, Refuses}
use Rattle.bridge.specs.declared.Bridge.{Bridge}
use Rattle.bridge.specs.Bridge.{power_on, read_of, busy, write_number, after_write, after_fitting, command}

abbrev pub a : List ℕ
a = 0x19 ∷ 0x01 ∷ 0 ∷ 0 ∷ 0 ∷ 0 ∷ 0 ∷ 0x00 ∷ []

abbrev pub b : List ℕ
b = 0x19 ∷ 0x02 ∷ 0 ∷ 0 ∷ 0 ∷ 0 ∷ 0 ∷ 0x59 ∷ []

abbrev pub c : List ℕ
c = 0x02 ∷ 0x1C ∷ 0xB8 ∷ 0x01 ∷ 0 ∷ 0 ∷ 0 ∷ 0xA2 ∷ []

abbrev pub with_one : List ℕ → Bridge
with_one x = after_fitting x power_on

abbrev pub ready : List ℕ → Bridge
ready x = command (0xB4 ∷ []) (after_write (0xD2 ∷ 0xF0 ∷ []) (with_one x))

pub record Paper : Type 0 where
  pub p1 : crc8_of (take 7 c) ≡ 0xA2
  pub p2 : crc8_of (take 7 a) ≡ 0x00
  pub p3 : crc8_of (take 7 b) ≡ 0x59
  -- eight zeros: the CRC is right, and any line refuses them with 3
  pub p4 : (crc8_of (0 ∷ 0 ∷ 0 ∷ 0 ∷ 0 ∷ 0 ∷ 0 ∷ []) ≡ 0) × ((l : Line) → fit_number (0 ∷ 0 ∷ 0 ∷ 0 ∷ 0 ∷ 0 ∷ 0 ∷ 0 ∷ []) l ≡ 3)
  -- A, B, C in search order: C, B, A
  pub p5 : InOrder (number_of a ∷ number_of b ∷ number_of c ∷ []) (number_of c ∷ number_of b ∷ number_of a ∷ [])
  -- a read, address 20h, 2 bytes
  pub p6 : packet_of (read 0x20 2) ≡ 0x87 ∷ 0x41 ∷ 0x02 ∷ 0xFE ∷ 0x47 ∷ []
  pub p7 : Refuses (reading_of (0x87 ∷ 0x41 ∷ 0x02 ∷ 0xFE ∷ 0x46 ∷ [])) 14 0
  -- by document 02, R-1: a count of zero, at offset 2
  pub p8 : (x y : ℕ) → Refuses (reading_of (0x87 ∷ 0x41 ∷ 0x00 ∷ x ∷ y ∷ [])) 18 2
  -- on any bridge with nothing pending, a configuration byte refused, and one accepted and read back
  pub p9 : (s : Bridge) → busy s ≡ false → (write_number (0xD2 ∷ 0xD2 ∷ []) s ≡ 8) × (write_number (0xD2 ∷ 0xE1 ∷ []) s ≡ 0) × (read_of (after_write (0xD2 ∷ 0xE1 ∷ []) s) ≡ 0x01)
  -- one probe of any accepted ID
  pub p10 : (x : List ℕ) → refusal_of x ≡ 0 → read_of (ready x) ≡ 0x0A
  -- a triplet with any parameter
  pub p11 : (x : List ℕ) → refusal_of x ≡ 0 → (d : ℕ) → read_of (command (0x78 ∷ d ∷ []) (ready x)) ≡ 0xEA
