-- What the library forms is what the chip obeys (document 02, R-7).
--   done_by q s         the sensor after the request q
--   read_by q s         the bytes that q reads
--   write_status_to q   the write status, for a request that writes
--   answer_to q s       the bytes of the answer to q
--   address_of q        the address that q goes to
--   address_byte q a    the second byte of its packet, if it goes to the address a
--   code_of q           the first byte of its packet
--   data_of q           the bytes that q writes
--   Bytes s             every element of s is a byte
--   Fair q              q is within its limits, and what it writes are bytes
--   levels_of s         the levels of the bytes s on the line
--   hearing ls c        the chip c after slots of the levels ls
--   sent_in ls c        what it sends in them
--   after s c           the chip c after the bytes s
--   JustSelected c      c has been selected, and no slot has come since
--   Waiting s c         c gathers, and its sensor is s
--   Gathers s c         c waits until the last slot of the bytes s
--   polls               the two slots before an answer
--   answer_in s         the levels of an answer of the bytes s
--   Answers s t c       c answers with the bytes s, and its sensor is t
--   Obeyed q c          c does what q asks
--   status_alone t      the bytes of an answer with the status t, which is not 0
--   Refused t s c       c answers the bytes s with the status t alone
--   Ignored s c         the last of the bytes s makes c deaf
--   addressed_by y q    the body of the packet of q with the address byte y
--   Obeying             the sentences of R-7
use Rattle.std.specs.Prelude.{ℕ, ◌+◌, ◌*◌, ◌<◌, ◌≤◌, Bool, true, false, List, [], ◌∷◌, ◌++◌, ◌≡◌, length, get_or, take, set, replicate}
use Rattle.identity.specs.Identity.{bit_of}
use Rattle.packet.specs.Request.{Request, write, read, write_read, body_of, seal_of, packet_of}
use Rattle.forming.specs.Forming.{in_limits, good_count}
use Rattle.chip.specs.declared.Sensor.{Sensor}
use Rattle.chip.specs.declared.Chip.{Chip}
use Rattle.chip.specs.Sensor.{written, stepped, read_from}
use Rattle.chip.specs.Chip.{no_packet, emptied, sends, heard, is_over}

-- ---- what a request means

-- Writing stores; reading steps the pointer; 2Dh writes first, and then reads.
unfoldable pub done_by : Request → Sensor → Sensor
done_by (write a d) s = written d s
done_by (read a r) s = stepped r s
done_by (write_read a d r) s = stepped r (written d s)

-- 2Dh reads from where its write left the pointer.
unfoldable pub read_by : Request → Sensor → List ℕ
read_by (write a d) s = []
read_by (read a r) s = read_from r s
read_by (write_read a d r) s = read_from r (written d s)

-- 4Bh and 2Dh have one, which is 0 here.
unfoldable pub write_status_to : Request → List ℕ
write_status_to (write a d) = 0 ∷ []
write_status_to (read a r) = []
write_status_to (write_read a d r) = 0 ∷ []

-- The status, 0; the write status; the bytes read.
unfoldable pub answer_to : Request → Sensor → List ℕ
answer_to q s = 0 ∷ (write_status_to q ++ read_by q s)

-- Each form has one address.
unfoldable pub address_of : Request → ℕ
address_of (write a d) = a
address_of (read a r) = a
address_of (write_read a d r) = a

-- Twice the address, and 1 more in 87h.
unfoldable pub address_byte : Request → ℕ → ℕ
address_byte (write b d) a = a * 2
address_byte (read b r) a = a * 2 + 1
address_byte (write_read b d r) a = a * 2

-- The first byte.
unfoldable pub code_of : Request → ℕ
code_of q = get_or (body_of q) 0 0

-- 87h writes nothing.
unfoldable pub data_of : Request → List ℕ
data_of (write a d) = d
data_of (read a r) = []
data_of (write_read a d r) = d

-- Past the end 0 is read.
abbrev pub Bytes : List ℕ → Type 0
Bytes s = (k : ℕ) → get_or s k 0 < 256

-- What the library forms a packet for.
pub record Fair (q : Request) : Type 0 where
  pub limits : in_limits q ≡ true
  pub bytes : Bytes (data_of q)

-- ---- the line

-- Eight levels for each byte, low bit first.
unfoldable pub levels_of : List ℕ → List Bool
levels_of [] = []
levels_of (x ∷ s) =
    bit_of x 0 ∷ bit_of x 1 ∷ bit_of x 2 ∷ bit_of x 3 ∷ bit_of x 4 ∷ bit_of x 5 ∷ bit_of x 6 ∷ bit_of x 7 ∷ levels_of s

-- Slot after slot.
unfoldable pub hearing : List Bool → Chip → Chip
hearing [] c = c
hearing (l ∷ ls) c = hearing ls (heard l c)

-- What a chip sends is settled before the level of the slot.
unfoldable pub sent_in : List Bool → Chip → List Bool
sent_in [] c = []
sent_in (l ∷ ls) c = sends c ∷ sent_in ls (heard l c)

-- The slots of bytes.
abbrev pub after : List ℕ → Chip → Chip
after s c = hearing (levels_of s) c

-- It begins to gather with the next slot.
abbrev pub JustSelected : Chip → Type 0
JustSelected c = c.packet ≡ no_packet c.sensor

-- ---- what the chip does

-- While a chip gathers it sends only ones, it is not deaf, and nothing is stored.
pub record Waiting (s : Sensor) (c : Chip) : Type 0 where
  pub ones : sends c ≡ true
  pub awake : is_over c ≡ false
  pub kept : c.sensor ≡ s

-- So it is before each slot of the bytes s, the last one too: if they break off anywhere, nothing is done.
abbrev pub Gathers : List ℕ → Chip → Type 0
Gathers s c = (n : ℕ) → n < length (levels_of s) → Waiting c.sensor (hearing (take n (levels_of s)) c)

-- 1 in the first poll slot, 0 in the second.
abbrev pub polls : List Bool
polls = true ∷ false ∷ []

-- Then come the bytes.
unfoldable pub answer_in : List ℕ → List Bool
answer_in s = polls ++ levels_of s

-- So it is whatever the levels of these slots are. Behind the answer come ones, however many slots there are, and the sensor stays as it is.
pub record Answers (s : List ℕ) (t : Sensor) (c : Chip) : Type 0 where
  pub sent : (ls more : List Bool) → length ls ≡ length (answer_in s) → sent_in (ls ++ more) c ≡ answer_in s ++ replicate (length more) true
  pub kept : (ls : List Bool) → (hearing ls c).sensor ≡ t

pub record Obeyed (q : Request) (c : Chip) : Type 0 where
  -- Until its packet is whole nothing is done; all stores and steps are done as the last bit of the CRC is taken.
  pub before : Gathers (packet_of q) c
  pub done : (after (packet_of q) c).sensor ≡ done_by q c.sensor
  -- Then it answers.
  pub answers : Answers (answer_to q c.sensor) (done_by q c.sensor) (after (packet_of q) c)
  -- Behind the last slot of its answer it is deaf, and not before.
  pub awake : (ls : List Bool) → length ls < length (answer_in (answer_to q c.sensor)) → is_over (hearing ls (after (packet_of q) c)) ≡ false
  pub deaf : (ls : List Bool) → length (answer_in (answer_to q c.sensor)) ≤ length ls → is_over (hearing ls (after (packet_of q) c)) ≡ true

-- Behind a status that is not 0 come neither a write status nor bytes.
unfoldable pub status_alone : ℕ → List ℕ
status_alone t = t ∷ []

-- After an error the sensor sees nothing. The chip sends only ones until the next reset, and is not deaf.
pub record Refused (t : ℕ) (s : List ℕ) (c : Chip) : Type 0 where
  pub before : Gathers s c
  pub answers : Answers (status_alone t) c.sensor (after s c)
  pub awake : (ls : List Bool) → is_over (hearing ls (after s c)) ≡ false

-- The chip is deaf as soon as the last of these bytes is whole, and the sensor sees nothing.
pub record Ignored (s : List ℕ) (c : Chip) : Type 0 where
  pub before : Gathers s c
  pub deaf : (ls : List Bool) → is_over (hearing ls (after s c)) ≡ true
  pub kept : (ls : List Bool) → (hearing ls (after s c)).sensor ≡ c.sensor

-- ---- the sentences

-- The address byte is the second.
unfoldable pub addressed_by : ℕ → Request → List ℕ
addressed_by y q = set (body_of q) 1 y

pub record Obeying : Type 0 where
  -- A reset leaves every chip ready for a packet.
  pub ready : (c : Chip) → JustSelected (emptied c)
  -- A packet with the chip's own address is obeyed.
  pub obeyed : (q : Request) → Fair q → (c : Chip) → JustSelected c → address_of q ≡ c.address → Obeyed q c
  -- A wrong CRC, any two last bytes but the right ones, is status bit 0 alone, whatever the address byte is.
  pub spoilt : (q : Request) → Fair q → (c : Chip) → JustSelected c → (y low high : ℕ) → y < 256 → low < 256 → high < 256 → (low ∷ high ∷ [] ≡ seal_of (addressed_by y q) → ⊥) → Refused 1 (addressed_by y q ++ low ∷ high ∷ []) c
  -- An address that is not acknowledged is status bit 1; a wrong low bit counts as that, and so does every byte but the right one.
  pub strange : (q : Request) → Fair q → (c : Chip) → JustSelected c → (address_of q ≡ c.address → ⊥) → Refused 2 (packet_of q) c
  pub wrong_byte : (q : Request) → Fair q → (c : Chip) → JustSelected c → (y : ℕ) → y < 256 → (y ≡ address_byte q c.address → ⊥) → Refused 2 (addressed_by y q ++ seal_of (addressed_by y q)) c
  -- Another first byte, a zero count, and a zero R behind the data of 2Dh.
  pub unknown : (c : Chip) → JustSelected c → (x : ℕ) → x < 256 → ((q : Request) → x ≡ code_of q → ⊥) → Ignored (x ∷ []) c
  pub no_count : (q : Request) (c : Chip) → JustSelected c → (y : ℕ) → y < 256 → Ignored (code_of q ∷ y ∷ 0 ∷ []) c
  pub no_reads : (c : Chip) → JustSelected c → (y : ℕ) (d : List ℕ) → y < 256 → Bytes d → good_count (length d) ≡ true → Ignored (0x2D ∷ y ∷ length d ∷ (d ++ 0 ∷ [])) c
