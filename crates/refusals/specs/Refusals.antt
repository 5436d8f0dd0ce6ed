-- Which refusal a packet gets (document 02, R-1), said of its bytes.
--   Byte p k x      the packet p has the byte x at offset k
--   Unknown p       its first byte is unknown
--   Wants p n       its form wants n bytes
--   Zero p k        the count at offset k is zero
--   WrongBit p      its low address bit is wrong
--   Wrong p n k     the condition of the number n holds of the form of p, at the place k
--   First p n k     and none before it does
--   Right p         nothing is wrong with the form of p
--   Sealed p        p ends with the CRC-16 of the bytes before
--   Exactly A B     A holds exactly when B does
--   Refusals p      what the reader gives for p
use Rattle.std.specs.Prelude.{◌≡◌, ℕ, ◌+◌, ◌*◌, ◌<◌, ◌≤◌, length, get_or}
use mathlib.Core.List.{List, [], ◌∷◌, ◌++◌, Memᴰ}
use Rattle.packet.specs.Request.{seal_of}
use Rattle.reading.specs.Reading.{reading_of, reading_number, reading_place, Refuses}

abbrev pub Byte : List ℕ → ℕ → ℕ → Type 0
Byte p k x = (k < length p) × (get_or p k 0 ≡ x)

-- Unknown first byte: there is one, and it is none of the codes.
pub record Unknown (p : List ℕ) : Type 0 where
  pub there : 0 < length p
  pub write : Byte p 0 0x4B → ⊥
  pub read : Byte p 0 0x87 → ⊥
  pub write_read : Byte p 0 0x2D → ⊥

-- How many bytes the form wants, or 5 where the packet ends before its third byte. Three bytes and L of data, for 2Dh one more, and two of
-- CRC; L is taken as it stands, 0 too.
pub data Wants (p : List ℕ) : ℕ → Type 0 where
  short : length p < 3 → Wants p 5
  write : (l : ℕ) → Byte p 0 0x4B → Byte p 2 l → Wants p (3 + l + 2)
  read : (r : ℕ) → Byte p 0 0x87 → Byte p 2 r → Wants p (3 + 2)
  write_read : (l : ℕ) → Byte p 0 0x2D → Byte p 2 l → Wants p (3 + l + 1 + 2)

-- A count of zero: L, or R of 87h, is the third byte; R of 2Dh follows L bytes of data.
pub data Zero (p : List ℕ) : ℕ → Type 0 where
  third : Byte p 2 0 → Zero p 2
  behind : (l : ℕ) → Byte p 0 0x2D → Byte p 2 l → Byte p (3 + l) 0 → Zero p (3 + l)

-- Low address bit wrong: the second byte is address×2+1 in a packet that writes, or address×2 in 87h.
pub data WrongBit (p : List ℕ) : Type 0 where
  odd_write : (a : ℕ) → Byte p 0 0x4B → Byte p 1 (a * 2 + 1) → WrongBit p
  even_read : (a : ℕ) → Byte p 0 0x87 → Byte p 1 (a * 2) → WrongBit p
  odd_write_read : (a : ℕ) → Byte p 0 0x2D → Byte p 1 (a * 2 + 1) → WrongBit p

-- Each number with its place: the offset of the byte at fault, for a wrong length the bytes wanted.
pub data Wrong (p : List ℕ) : ℕ → ℕ → Type 0 where
  code : Unknown p → Wrong p 16 0
  long : (n : ℕ) → Wants p n → (length p ≡ n → ⊥) → Wrong p 17 n
  count : (k : ℕ) → Zero p k → Wrong p 18 k
  bit : WrongBit p → Wrong p 19 1

-- Checked in the order of the numbers; where both counts are zero the place is that of L, which comes before R.
pub record First (p : List ℕ) (n k : ℕ) : Type 0 where
  pub holds : Wrong p n k
  pub lowest : (m j : ℕ) → Wrong p m j → n ≤ m
  pub front : (j : ℕ) → Wrong p n j → k ≤ j

abbrev pub Right : List ℕ → Type 0
Right p = (n k : ℕ) → Wrong p n k → ⊥

pub record Sealed (p : List ℕ) : Type 0 where
  pub body : List ℕ
  pub ends : p ≡ body ++ seal_of body

abbrev pub Exactly : Type 0 → Type 0 → Type 0
Exactly A B = (A → B) × (B → A)

pub record Refusals (p : List ℕ) : Type 0 where
  -- one of these comes, and since it is the number of one answer, no other
  pub one : Memᴰ (reading_number (reading_of p)) (0 ∷ 14 ∷ 16 ∷ 17 ∷ 18 ∷ 19 ∷ [])
  -- a number other than 14, with its place, exactly when its condition and none before it holds
  pub form : (n k : ℕ) → (n ≡ 14 → ⊥) → Exactly (Refuses (reading_of p) n k) (First p n k)
  -- 14, which has no place, exactly when the form is right and the CRC is not
  pub crc : (k : ℕ) → Exactly (Refuses (reading_of p) 14 k) ((k ≡ 0) × Right p × (Sealed p → ⊥))
  -- accepted, which has no place either, exactly when both are right
  pub accepted : Exactly (reading_number (reading_of p) ≡ 0) (Right p × Sealed p)
  pub placeless : reading_number (reading_of p) ≡ 0 → reading_place (reading_of p) ≡ 0
