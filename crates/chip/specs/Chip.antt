-- A probe of the second kind, a DS28E17 with one sensor, once it is selected (document 02, R-7).
--   none            what stands for a probe of the old kind
--   new_chip a      a chip at fitting, with the address a
--   is_chip c       c is no probe of the old kind
--   emptied c       c with nothing gathered
--   took_byte x c   c once a byte of its packet is whole
--   gathered l c    c after a slot of level l in which it gathers
--   answer_of t a   the bytes of its answer to what was asked, where t is the status
--   sends c         what c lets the line be in a slot: false where it sends 0, true where it sends 1 or nothing
--   heard l c       c after a slot of level l
--   is_over c       its packet is none, or its answer is over: the chip is deaf
use Rattle.std.specs.Prelude.{ℕ, ◌+◌, ◌-◌, ◌*◌, ◌/◌, ◌%◌, Bool, true, false, cond, List, [], ◌∷◌, ◌++◌, eqb, leb, ltb, length, get_or}
use Rattle.checksum.specs.Register.{taps16, entered}
use Rattle.identity.specs.Identity.{bit_of}
use Rattle.probe.specs.Probe.{digit}
use Rattle.chip.specs.declared.Sensor.{Sensor}
use Rattle.chip.specs.declared.Place.{Place}
use Rattle.chip.specs.declared.Place.TheVariants.{Code, Address, Count, First, Later, Reads, Seal, SealEnd, Answering, Silent, Over}
use Rattle.chip.specs.declared.Asked.{Asked}
use Rattle.chip.specs.declared.Packet.{Packet}
use Rattle.chip.specs.declared.Chip.{Chip}
use Rattle.chip.specs.Sensor.{zeroed, pointed_to, stored_one, stepped, read_from}

-- ---- the chip

-- A packet at the place p, where a has been asked so far and no bit of the next byte has come.
abbrev pub next_at : Place → Asked → Packet
next_at p a = record { place = p; bits = 0; byte = 0; asked = a }

-- Nothing has been gathered: the sensor is meant to stay as it is.
abbrev pub no_packet : Sensor → Packet
no_packet s = next_at Code (record { code = 0; address = 0; left = 0; reads = 0; crc = 0; meant = s })

-- An address has 7 bits. A probe of the old kind has none, for which 128 stands.
unfoldable pub none : Chip
none = record { address = 128; sensor = zeroed; packet = no_packet zeroed }

unfoldable pub new_chip : ℕ → Chip
new_chip a = record { address = a; sensor = zeroed; packet = no_packet zeroed }

abbrev pub is_chip : Chip → Bool
is_chip c = ltb c.address 128

-- The chip with another packet, its sensor as it was.
abbrev pub with_packet : Packet → Chip → Chip
with_packet k c = record { address = c.address; sensor = c.sensor; packet = k }

-- A 1-Wire reset ends what the chip was gathering or answering.
unfoldable pub emptied : Chip → Chip
emptied c = with_packet (no_packet c.sensor) c

-- ---- the bytes of a packet

-- The first byte is the code of one of the three forms.
abbrev pub is_code : ℕ → Bool
is_code x = cond (eqb x 0x4B) true (cond (eqb x 0x87) true (eqb x 0x2D))

abbrev pub with_code : ℕ → Asked → Asked
with_code x a =
    record { code = x; address = a.address; left = a.left; reads = a.reads; crc = a.crc; meant = a.meant }

-- Any other first byte makes the chip deaf.
unfoldable pub took_code : ℕ → Asked → Packet
took_code x a = cond (is_code x) (next_at Address (with_code x a)) (next_at Over a)

-- The second byte is the address with its low bit.
unfoldable pub took_address : ℕ → Asked → Packet
took_address x a =
    next_at Count (record { code = a.code; address = x; left = a.left; reads = a.reads; crc = a.crc; meant = a.meant })

-- R bytes are to be read, and the CRC comes next.
abbrev pub with_reads : ℕ → Asked → Asked
with_reads x a =
    record { code = a.code; address = a.address; left = a.left; reads = x; crc = a.crc; meant = a.meant }

-- A zero R makes the chip deaf.
unfoldable pub took_reads : ℕ → Asked → Packet
took_reads x a = cond (eqb x 0) (next_at Over a) (next_at Seal (with_reads x a))

-- n data bytes are still to come, and the sensor is meant to be s.
abbrev pub with_left : ℕ → Sensor → Asked → Asked
with_left n s a =
    record { code = a.code; address = a.address; left = n; reads = a.reads; crc = a.crc; meant = s }

-- A zero L makes the chip deaf.
unfoldable pub took_length : ℕ → Asked → Packet
took_length x a = cond (eqb x 0) (next_at Over a) (next_at First (with_left x a.meant a))

-- The third byte is R for 87h, and L for the others.
unfoldable pub took_count : ℕ → Asked → Packet
took_count x a = cond (eqb a.code 0x87) (took_reads x a) (took_length x a)

-- Behind the data comes R of 2Dh, or the CRC of 4Bh.
abbrev pub behind_data : Asked → Place
behind_data a = cond (eqb a.code 0x2D) Reads Seal

-- A data byte, by which the sensor is meant to be s.
unfoldable pub took_data : Sensor → Asked → Packet
took_data s a =
    cond (leb a.left 1) (next_at (behind_data a) (with_left 0 s a)) (next_at Later (with_left (a.left - 1) s a))

-- The CRC goes over every byte before it.
abbrev pub counted : ℕ → Asked → Asked
counted x a =
    record {
      code = a.code;
      address = a.address;
      left = a.left;
      reads = a.reads;
      crc = entered taps16 a.crc x;
      meant = a.meant;
    }

-- ---- the packet is whole

-- The CRC is sent inverted, low byte first.
abbrev pub crc_right : ℕ → ℕ → Asked → Bool
crc_right low high a = eqb (low + 256 * high) (65535 - a.crc)

-- The address byte is the address times 2, and 1 more for a read; a wrong low bit counts as an address not acknowledged.
abbrev pub address_byte : ℕ → ℕ → ℕ
address_byte code address = address * 2 + cond (eqb code 0x87) 1 0

abbrev pub is_addressed : ℕ → Asked → Bool
is_addressed address a = eqb a.address (address_byte a.code address)

-- Status bit 0 is a wrong CRC, bit 1 an address not acknowledged. With a wrong CRC only bit 0 is set.
unfoldable pub status_for : Bool → Bool → ℕ
status_for right addressed = cond right (cond addressed 0 2) 1

-- All stores and steps are done now. After either error the sensor sees nothing.
unfoldable pub sensor_for : ℕ → Asked → Sensor → Sensor
sensor_for t a s = cond (eqb t 0) (stepped a.reads a.meant) s

-- With the status t the chip answers from the next slot on.
abbrev pub answering : ℕ → Chip → Chip
answering t c =
    let a = c.packet.asked in
    record { address = c.address; sensor = sensor_for t a c.sensor; packet = next_at (Answering t 0) a }

unfoldable pub whole : ℕ → ℕ → Chip → Chip
whole low high c =
    let a = c.packet.asked in
    answering (status_for (crc_right low high a) (is_addressed c.address a)) c

-- By the place: the byte x is the one that comes there.
unfoldable pub took_at : Place → ℕ → Chip → Chip
took_at Code x c = with_packet (took_code x (counted x c.packet.asked)) c
took_at Address x c = with_packet (took_address x (counted x c.packet.asked)) c
took_at Count x c = with_packet (took_count x (counted x c.packet.asked)) c
took_at First x c = with_packet (took_data (pointed_to x c.packet.asked.meant) (counted x c.packet.asked)) c
took_at Later x c = with_packet (took_data (stored_one x c.packet.asked.meant) (counted x c.packet.asked)) c
took_at Reads x c = with_packet (took_reads x (counted x c.packet.asked)) c
took_at Seal x c = with_packet (next_at (SealEnd x) c.packet.asked) c
took_at (SealEnd low) x c = whole low x c
took_at (Answering t n) x c = c
took_at Silent x c = c
took_at Over x c = c

unfoldable pub took_byte : ℕ → Chip → Chip
took_byte x c = took_at c.packet.place x c

-- ---- gathering

-- A byte comes low bit first: a new bit goes in at the top and moves the earlier ones down.
abbrev pub with_level : Bool → ℕ → ℕ
with_level l byte = byte / 2 + 128 * digit l

abbrev pub with_bit : Bool → Packet → Packet
with_bit l k = record { place = k.place; bits = k.bits + 1; byte = with_level l k.byte; asked = k.asked }

-- The eighth makes the byte whole.
unfoldable pub gathered : Bool → Chip → Chip
gathered l c =
    let k = c.packet in
    cond (leb 7 k.bits) (took_byte (with_level l k.byte) c) (with_packet (with_bit l k) c)

-- ---- the answer

-- 4Bh and 2Dh have a write status, which is 0 here.
abbrev pub write_status : ℕ → List ℕ
write_status code = cond (eqb code 0x87) [] (0 ∷ [])

-- The status; after a status of 0 the write status and the bytes read, after any other nothing.
unfoldable pub answer_of : ℕ → Asked → List ℕ
answer_of t a = t ∷ cond (eqb t 0) (write_status a.code ++ read_from a.reads a.meant) []

-- Two poll slots, 1 and then 0, and then the bytes, low bit first. Behind them come ones.
unfoldable pub sends_answer : ℕ → ℕ → Asked → Bool
sends_answer t n a =
    cond (eqb n 0) true
    (cond (eqb n 1) false (bit_of (get_or (answer_of t a) ((n - 2) / 8) 255) ((n - 2) % 8)))

unfoldable pub sends_in : Place → Asked → Bool
sends_in Code a = true
sends_in Address a = true
sends_in Count a = true
sends_in First a = true
sends_in Later a = true
sends_in Reads a = true
sends_in Seal a = true
sends_in (SealEnd low) a = true
sends_in (Answering t n) a = sends_answer t n a
sends_in Silent a = true
sends_in Over a = true

unfoldable pub sends : Chip → Bool
sends c = sends_in c.packet.place c.packet.asked

-- How many slots the answer takes.
abbrev pub slots_of : ℕ → Asked → ℕ
slots_of t a = 2 + 8 * length (answer_of t a)

-- Behind its answer the chip is deaf; after a status other than 0 it sends only ones.
abbrev pub behind_answer : ℕ → Place
behind_answer t = cond (eqb t 0) Over Silent

unfoldable pub answered : ℕ → ℕ → Chip → Chip
answered t n c =
    let a = c.packet.asked in
    with_packet (next_at (cond (ltb (n + 1) (slots_of t a)) (Answering t (n + 1)) (behind_answer t)) a) c

unfoldable pub heard_in : Place → Bool → Chip → Chip
heard_in Code l c = gathered l c
heard_in Address l c = gathered l c
heard_in Count l c = gathered l c
heard_in First l c = gathered l c
heard_in Later l c = gathered l c
heard_in Reads l c = gathered l c
heard_in Seal l c = gathered l c
heard_in (SealEnd low) l c = gathered l c
heard_in (Answering t n) l c = answered t n c
heard_in Silent l c = c
heard_in Over l c = c

unfoldable pub heard : Bool → Chip → Chip
heard l c = heard_in c.packet.place l c

unfoldable pub over_at : Place → Bool
over_at Code = false
over_at Address = false
over_at Count = false
over_at First = false
over_at Later = false
over_at Reads = false
over_at Seal = false
over_at (SealEnd low) = false
over_at (Answering t n) = false
over_at Silent = false
over_at Over = true

unfoldable pub is_over : Chip → Bool
is_over c = over_at c.packet.place
