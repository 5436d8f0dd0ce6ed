-- Reading a packet (document 01, "Packets" and "Numbers returned"; document 02, R-1).
--   code_of, address_byte, count_byte p    the first three bytes; a byte past the end counts as 0
--   behind_data p      the byte behind L bytes of data: R of 2Dh
--   is_unknown p       there is a first byte, and it is the code of none of the forms
--   length_for c l     how many bytes the form of the code c wants, its first count being l
--   wanted_of p        how many bytes the packet p should have
--   zero_count p       the offset of its first count of zero; 0 where there is none
--   low_bit c          the low address bit of the form of the code c
--   parts_in p         the parts of a packet that is of its form
--   form_of p          the parts, or what is wrong: 16, 17, 18 or 19, with its place
--   is_sealed p        the last two bytes are the checksum of those before
--   reading_of p       what the reader gives: the parts, what is wrong with the form, or 14
--   number_of e        the number of a refusal e
--   place_of e         its place
--   reading_number r   the number of an answer of the reader: 0 for the parts
--   reading_place r    its place: 0 for the parts
--   Refuses r n k      the answer r is the refusal of the number n, at the place k
--   reading_values r   its values: code, address, where the data starts, how long it is, R; a refusal has none
--   data_in r p        the write data that an answer tells of, as that part of the packet p
--   start_in r         where in the packet it begins
--   place_from m n     the place in memory n bytes behind m
--   parts_of q         the parts that stand for the request q
--   request_for x s    the request that the parts x with the data s stand for
--   request_in r p     the request that the parts r of the packet p stand for
use Rattle.std.specs.Prelude.{ℕ, ◌≡◌, ◌+◌, ◌-◌, ◌/◌, ◌%◌, Bool, cond, not, ◌&&◌, ◌||◌, List, [], ◌∷◌, eqb, leb, length, get_or, take, drop, Result, Ok, Err, IsErrAnd}
use Rattle.packet.specs.Request.{Request, write, read, write_read, inverted_of}
use Rattle.reading.specs.declared.Parts.{Parts}
use Rattle.reading.specs.declared.Refusal.{Refusal}
use Rattle.reading.specs.declared.Refusal.TheVariants.{Code, Length, Count, Bit, Crc}

abbrev pub code_of : List ℕ → ℕ
code_of p = get_or p 0 0

abbrev pub address_byte : List ℕ → ℕ
address_byte p = get_or p 1 0

-- L, and of 87h R.
abbrev pub count_byte : List ℕ → ℕ
count_byte p = get_or p 2 0

abbrev pub behind_data : List ℕ → ℕ
behind_data p = get_or p (count_byte p + 3) 0

-- ---- what is wrong with the form

-- The first byte is none of 4Bh, 87h and 2Dh. An empty packet has no first byte.
unfoldable pub is_unknown : List ℕ → Bool
is_unknown p = leb 1 (length p) && not (eqb (code_of p) 0x4B || eqb (code_of p) 0x87 || eqb (code_of p) 0x2D)

-- 4Bh wants L bytes and five more, 87h five, 2Dh L and six more; an L of zero goes through as 0.
abbrev pub length_for : ℕ → ℕ → ℕ
length_for c l = cond (eqb c 0x4B) (l + 5) (cond (eqb c 0x87) 5 (l + 6))

-- A packet that ends before its third byte wants 5.
unfoldable pub wanted_of : List ℕ → ℕ
wanted_of p = cond (leb 3 (length p)) (length_for (code_of p) (count_byte p)) 5

-- L, or R of 87h, stands at offset 2, R of 2Dh behind the data; where both are zero the place is that of L. No count stands at offset 0.
unfoldable pub zero_count : List ℕ → ℕ
zero_count p =
    cond (eqb (count_byte p) 0) 2 (cond (eqb (code_of p) 0x2D && eqb (behind_data p) 0) (count_byte p + 3) 0)

-- The address byte is address×2+1 in 87h, address×2 in the others.
abbrev pub low_bit : ℕ → ℕ
low_bit c = cond (eqb c 0x87) 1 0

abbrev pub parts : ℕ → ℕ → ℕ → ℕ → ℕ → Parts
parts c a b l r = record { code = c; address = a; start = b; len = l; count = r }

-- 4Bh has no R, and 87h no data.
unfoldable pub parts_in : List ℕ → Parts
parts_in p =
    cond (eqb (code_of p) 0x4B) (parts 0x4B (address_byte p / 2) 3 (count_byte p) 0)
    (cond (eqb (code_of p) 0x87) (parts 0x87 (address_byte p / 2) 0 0 (count_byte p))
    (parts 0x2D (address_byte p / 2) 3 (count_byte p) (behind_data p)))

-- Checked in this order: unknown first byte, at offset 0; wrong length, with the length wanted; a count of zero, at its offset; low address
-- bit wrong, at offset 1.
unfoldable pub form_of : List ℕ → Result Parts Refusal
form_of p =
    cond (is_unknown p) (Err Code)
    (cond (not (eqb (length p) (wanted_of p))) (Err (Length (wanted_of p)))
    (cond (not (eqb (zero_count p) 0)) (Err (Count (zero_count p)))
    (cond (not (eqb (address_byte p % 2) (low_bit (code_of p)))) (Err Bit)
    (Ok (parts_in p)))))

-- ---- the checksum, and the answer

-- The last two bytes are the inverted CRC-16 of all bytes before them, low byte first.
unfoldable pub is_sealed : List ℕ → Bool
is_sealed p =
    let n = length p - 2 in
    eqb (get_or p n 0) (inverted_of (take n p) % 256) && eqb (get_or p (n + 1) 0) (inverted_of (take n p) / 256)

-- A form that is right is refused with 14 if its checksum is wrong.
unfoldable pub checked : Bool → Result Parts Refusal → Result Parts Refusal
checked s (Ok x) = cond s (Ok x) (Err Crc)
checked s (Err e) = Err e

unfoldable pub reading_of : List ℕ → Result Parts Refusal
reading_of p = checked (is_sealed p) (form_of p)

-- ---- what an answer of the reader means

-- The documents' numbers.
abbrev pub number_of : Refusal → ℕ
number_of Crc = 14
number_of Code = 16
number_of (Length n) = 17
number_of (Count k) = 18
number_of Bit = 19

-- The offset of the byte at fault, for a wrong length the bytes wanted; 14 has no place, and 0 stands for it.
abbrev pub place_of : Refusal → ℕ
place_of Crc = 0
place_of Code = 0
place_of (Length n) = n
place_of (Count k) = k
place_of Bit = 1

-- The documents' number of an answer.
abbrev pub reading_number : Result Parts Refusal → ℕ
reading_number (Ok x) = 0
reading_number (Err e) = number_of e

-- Its place; an accepted packet has none, and 0 stands for it.
abbrev pub reading_place : Result Parts Refusal → ℕ
reading_place (Ok x) = 0
reading_place (Err e) = place_of e

abbrev pub Refuses : Result Parts Refusal → ℕ → ℕ → Type 0
Refuses r n k = IsErrAnd r (λ e. (number_of e ≡ n) × (place_of e ≡ k))

-- Its values. No data starts at 0 with length 0, and where there is no R it is given as 0; a refusal has its number and its place alone.
abbrev pub reading_values : Result Parts Refusal → List ℕ
reading_values (Ok x) = x.code ∷ x.address ∷ x.start ∷ x.len ∷ x.count ∷ []
reading_values (Err e) = []

-- The write data lies in the packet where the parts say; for 87h and for a refused packet it is empty.
unfoldable pub data_in : Result Parts Refusal → List ℕ → List ℕ
data_in (Ok x) p = take x.len (drop x.start p)
data_in (Err e) p = []

-- It is that part of the packet itself: a place in memory is a block and an offset, and the part begins so far behind the packet's place.
unfoldable pub start_in : Result Parts Refusal → ℕ
start_in (Ok x) = x.start
start_in (Err e) = 0

abbrev pub place_from : ℕ × ℕ → ℕ → ℕ × ℕ
place_from p n = (p.0, p.1 + n)

-- The parts that stand for a request.
unfoldable pub parts_of : Request → Parts
parts_of (write a d) = parts 0x4B a 3 (length d) 0
parts_of (read a r) = parts 0x87 a 0 0 r
parts_of (write_read a d r) = parts 0x2D a 3 (length d) r

-- The request that parts with the data s stand for.
abbrev pub request_for : Parts → List ℕ → Request
request_for x s = cond (eqb x.code 0x4B) (write x.address s) (cond (eqb x.code 0x87) (read x.address x.count) (write_read x.address s x.count))

-- The request that the parts of a packet p stand for; what a refused packet would stand for is never asked.
unfoldable pub request_in : Result Parts Refusal → List ℕ → Request
request_in (Ok x) p = request_for x (take x.len (drop x.start p))
request_in (Err e) p = read 0 0
