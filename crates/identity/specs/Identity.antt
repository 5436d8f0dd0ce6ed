-- Probe identities (document 01, "Probe identities" and "Numbers returned").
--   number_of bytes     the bytes as one number, the first byte lowest
--   bit_of id k         bit k of an ID; bits past the last read 0
--   crc_right bytes     the last of the eight bytes is the CRC-8 of the seven before it
--   family_of bytes     the family code
--   refusal_of bytes    what is wrong with an ID by itself: 2, 3 or nothing
--   number_returned r   the number of a refusal in the table
--   number_in a         the number that an answer stands for: 0 if it is an ID
use Rattle.std.specs.Prelude.{ℕ, ◌+◌, ◌*◌, ◌/◌, ◌%◌, ◌^◌, Bool, cond, List, [], ◌∷◌, eqb, get_or, take, Result, Ok, Err}
use Rattle.checksum.specs.Register.{crc8_of}
use Rattle.identity.specs.declared.Refusal.{Refusal}
use Rattle.identity.specs.declared.Refusal.TheVariants.{Crc, Family}

-- Eight bytes, family code first, are one number with bit 0 the low bit of the family code.
unfoldable pub number_of : List ℕ → ℕ
number_of [] = 0
number_of (x ∷ xs) = x + 256 * number_of xs

unfoldable pub bit_of : ℕ → ℕ → Bool
bit_of id k = eqb (id / 2 ^ k % 2) 1

-- The CRC-8 is taken over the first seven bytes.
unfoldable pub crc_right : List ℕ → Bool
crc_right bytes = eqb (crc8_of (take 7 bytes)) (get_or bytes 7 0)

unfoldable pub family_of : List ℕ → ℕ
family_of bytes = get_or bytes 0 0

-- Fitting checks the CRC first and then for family 00h: 2, then 3. 0: nothing is wrong.
unfoldable pub refusal_of : List ℕ → ℕ
refusal_of bytes = cond (crc_right bytes) (cond (eqb (family_of bytes) 0) 3 0) 2

-- ---- refusals

abbrev pub number_returned : Refusal → ℕ
number_returned Crc = 2
number_returned Family = 3

abbrev pub number_in : Result ℕ Refusal → ℕ
number_in (Ok id) = 0
number_in (Err r) = number_returned r
