-- The bench script (document 01, "The bench script").
--   bit_at s k          bit k of the script s, most significant bit of the first byte first; bits past the end are 0
--   number_at s k n     the n bits from bit k on, as a number, most significant bit first
--   piece_at s k n      that number and the place behind the bits
--   bytes_at s k n      the n bytes from bit k on
--   count_of s          the event count, in the first 16 bits
--   kind_at s k         the kind of the event at bit k
--   event_at s k        that event
--   size_at s k         how many bits it takes
--   end_of s n k        the bit behind the n events from bit k on
--   is_script s         s is of the script's form
use Rattle.std.specs.Prelude.{ℕ, zero, suc, ◌+◌, ◌-◌, ◌*◌, ◌/◌, ◌%◌, ◌^◌, Bool, cond, ◌&&◌, List, [], ◌∷◌, length, ◌==◌, nat_le, nat_lt, slice_index}
use Rattle.script.specs.declared.Piece.{Piece}
use Rattle.script.specs.declared.Event.{Event}
use Rattle.script.specs.declared.Event.TheVariants.{Write, Read, Wait, Fit}

-- Bit-packed, most significant bit first.
unfoldable pub bit_at : List ℕ → ℕ → ℕ
bit_at s k = slice_index s (k / 8) / 2 ^ (7 - k % 8) % 2

unfoldable pub number_at : List ℕ → ℕ → ℕ → ℕ
number_at s k zero = 0
number_at s k (suc n) = bit_at s k * 2 ^ n + number_at s (suc k) n

-- A place is a number of 64 bits; behind the last one comes 0 again.
abbrev pub piece_at : List ℕ → ℕ → ℕ → Piece
piece_at s k n = record { number = number_at s k n; next = (k + n) % 2 ^ 64 }

unfoldable pub bytes_at : List ℕ → ℕ → ℕ → List ℕ
bytes_at s k zero = []
bytes_at s k (suc n) = number_at s k 8 ∷ bytes_at s (k + 8) n

-- A 16-bit event count comes first.
unfoldable pub count_of : List ℕ → ℕ
count_of s = number_at s 0 16

-- Two bits of kind: 0 is a write, 1 a read, 2 lets time pass, 3 fits a probe.
unfoldable pub kind_at : List ℕ → ℕ → ℕ
kind_at s k = number_at s k 2

-- A write has two bits of byte count behind its kind, and then its bytes.
unfoldable pub length_at : List ℕ → ℕ → ℕ
length_at s k = number_at s (k + 2) 2

-- The event of a kind, a write of n bytes.
unfoldable pub event_of : ℕ → ℕ → Event
event_of kind n = cond (kind == 0) (Write n) (cond (kind == 1) Read (cond (kind == 2) Wait Fit))

unfoldable pub event_at : List ℕ → ℕ → Event
event_at s k = event_of (kind_at s k) (length_at s k)

-- A write takes its kind, its byte count and its bytes; a read and a wait their kind alone; a fitting its kind and the eight bytes of an ID.
unfoldable pub size_for : ℕ → ℕ → ℕ
size_for kind n = cond (kind == 0) (4 + 8 * n) (cond (kind == 3) 66 2)

abbrev pub size_of : Event → ℕ
size_of (Write n) = size_for 0 n
size_of Read = size_for 1 0
size_of Wait = size_for 2 0
size_of Fit = size_for 3 0

unfoldable pub size_at : List ℕ → ℕ → ℕ
size_at s k = size_for (kind_at s k) (length_at s k)

unfoldable pub end_of : List ℕ → ℕ → ℕ → ℕ
end_of s zero k = k
end_of s (suc n) k = end_of s n (k + size_at s k)

-- Behind the events come zero bits up to the byte's end, and nothing more.
unfoldable pub is_padded : List ℕ → ℕ → Bool
is_padded s e =
    nat_le e (8 * length s) && nat_lt (8 * length s) (e + 8) && number_at s e (8 * length s - e) == 0

-- At most 4,096 bytes; a 16-bit event count; the events; the padding.
unfoldable pub is_script : List ℕ → Bool
is_script s = nat_le (length s) 4096 && nat_le 2 (length s) && is_padded s (end_of s (count_of s) 16)
