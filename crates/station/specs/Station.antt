-- The bridge and the chips on its line (document 02, R-7). Writes, reads and the fitting of a probe of the old kind are the bridge's own.
--   powered                the station at power-on
--   on_bridge b s           the station s with the bridge b
--   wire_of s               its line and its chips
--   registers_reset p r     the registers after a 1-Wire Reset that met the presence p; and so registers_bit, registers_byte and
--                           registers_triplet
--   after_time_on s         the station after time has passed
--   number_returned e       the number of the refusal e of fitting a chip
--   number_in r             the number that the result r of fitting a chip stands for
--   station_in s r          the station after a call on the station s with the result r
--   chip_number x a b       the number that fitting a chip with the ID of the bytes x and the address a gives
--   after_chip x a s        the station after that
--   after_removal x s       the station after withdrawing the ID of the bytes x
--   command_on x s          the station after the write x and time passing
--   is_quiet s              no chip has a part in what is pending
use Rattle.std.specs.Prelude.{ℕ, ◌+◌, Bool, true, false, cond, List, eqb, leb, set, Result, Ok, Err}
use Rattle.identity.specs.Identity.{number_of, family_of, refusal_of}
use Rattle.line.specs.Line.{present, after_reset, place_number, number_returned as line_number}
use Rattle.triplet_slots.specs.Triplet.{chosen}
use Rattle.withdrawal.specs.Withdrawal.{withdraw_number}
use Rattle.bridge.specs.declared.Pending.{Pending}
use Rattle.bridge.specs.declared.Pending.TheVariants.{Nothing, Reset, SingleBit, WriteByte, ReadByte, Triplet}
use Rattle.bridge.specs.declared.Registers.{Registers}
use Rattle.bridge.specs.declared.Bridge.{Bridge}
use Rattle.bridge.specs.Bridge.{number_by, power_on, speed_of, finished, with_presence, with_levels, after_write, after_fitting, after_withdrawal}
use Rattle.chip.specs.Chip.{new_chip}
use Rattle.wire.specs.declared.Chips.{Chips}
use Rattle.wire.specs.declared.Wire.{Wire}
use Rattle.wire.specs.Wire.{no_chips, level_on, slot_on, slots_on, levels_on, second_on, triplet_on, emptied_on, chips_without}
use Rattle.wire.specs.Calm.{all_calm}
use Rattle.station.specs.declared.Station.{Station}
use Rattle.station.specs.declared.Refusal.{Refusal}
use Rattle.station.specs.declared.Refusal.TheVariants.{Line, Family, Address}

-- ---- the state

unfoldable pub powered : Station
powered = record { bridge = power_on; chips = no_chips }

abbrev pub on_bridge : Bridge → Station → Station
on_bridge b s = record { bridge = b; chips = s.chips }

abbrev pub wire_of : Station → Wire
wire_of s = record { line = s.bridge.line; chips = s.chips }

-- The station with these registers, and with this line and these chips.
abbrev pub station_of : Registers → Wire → Station
station_of r m = record { bridge = record { registers = r; line = m.line }; chips = m.chips }

-- ---- time passing

-- The registers after each 1-Wire command, by what it met on the line.

-- B4h 1-Wire Reset: PPD is the presence p.
abbrev pub registers_reset : Bool → Registers → Registers
registers_reset p r = finished (with_presence p r.status) r.readout r

-- 87h Single Bit: SBR is the level l of its slot, and DIR and TSB stay.
abbrev pub registers_bit : Bool → Registers → Registers
registers_bit l r =
    let s = r.status in
    finished (with_levels s.dir s.tsb l s) r.readout r

-- A5h Write Byte and 96h Read Byte: the read-data byte is o, and the status bits stay.
abbrev pub registers_byte : ℕ → Registers → Registers
registers_byte o r = finished r.status o r

-- 78h Triplet, in which the direction d is asked for: SBR is the first level, TSB the second, DIR the bit written.
abbrev pub registers_triplet : Bool → Bool → Bool → Registers → Registers
registers_triplet first second d r = finished (with_levels (chosen first second d) second first r.status) r.readout r

-- The registers are as after any of the bridge's commands, by what it met on the line; slots and resets come at the bridge's speed.

-- B4h 1-Wire Reset.
unfoldable pub finished_reset_on : Station → Station
finished_reset_on s =
    let r = s.bridge.registers in
    let v = speed_of r in
    let l = s.bridge.line in
    station_of (registers_reset (present v l) r) (record { line = after_reset v l; chips = emptied_on v l s.chips })

-- 87h Single Bit: one slot.
unfoldable pub finished_bit_on : Bool → Station → Station
finished_bit_on w s =
    let r = s.bridge.registers in
    let v = speed_of r in
    station_of (registers_bit (level_on v w (wire_of s)) r) (slot_on v w (wire_of s))

-- A5h Write Byte: eight slots, low bit first.
unfoldable pub finished_write_on : ℕ → Station → Station
finished_write_on x s =
    let r = s.bridge.registers in
    station_of (registers_byte r.readout r) (slots_on (speed_of r) 8 x (wire_of s))

-- 96h Read Byte: eight write-one slots; their levels go to read data.
unfoldable pub finished_read_on : Station → Station
finished_read_on s =
    let r = s.bridge.registers in
    let v = speed_of r in
    station_of (registers_byte (levels_on v 8 0xFF (wire_of s)) r) (slots_on v 8 0xFF (wire_of s))

-- 78h Triplet: two write-one slots, then a write slot.
unfoldable pub finished_triplet_on : Bool → Station → Station
finished_triplet_on d s =
    let r = s.bridge.registers in
    let v = speed_of r in
    station_of (registers_triplet (level_on v true (wire_of s)) (second_on v (wire_of s)) d r) (triplet_on v d (wire_of s))

-- Time passing with nothing pending changes nothing.
unfoldable pub finished_on : Pending → Station → Station
finished_on Nothing s = s
finished_on Reset s = finished_reset_on s
finished_on (SingleBit w) s = finished_bit_on w s
finished_on (WriteByte x) s = finished_write_on x s
finished_on ReadByte s = finished_read_on s
finished_on (Triplet d) s = finished_triplet_on d s

unfoldable pub after_time_on : Station → Station
after_time_on s = finished_on s.bridge.registers.pending s

-- A write touches the bridge's registers alone.
unfoldable pub command_on : List ℕ → Station → Station
command_on x s = after_time_on (on_bridge (after_write x s.bridge) s)

-- ---- fitting a chip

abbrev pub number_returned : Refusal → ℕ
number_returned (Line e) = line_number e
number_returned Family = 21
number_returned Address = 22

abbrev pub number_in : {T : Type 0} → Result T Refusal → ℕ
number_in r = number_by number_returned r

-- A refused call leaves the station as it was.
abbrev pub station_in : {E : Type 0} → Station → Result Station E → Station
station_in s (Ok t) = t
station_in s (Err e) = s

-- A chip is of family 19h.
abbrev pub chip_family : ℕ
chip_family = 0x19

-- The checks come in this order: CRC, family 00h, family other than 19h (21), ID already fitted, line full, address above 127 (22).
unfoldable pub chip_number : List ℕ → ℕ → Bridge → ℕ
chip_number x a b =
    cond (eqb (refusal_of x) 0)
    (cond (eqb (family_of x) chip_family)
    (cond (eqb (place_number (number_of x) b.line) 0) (cond (leb a 127) 0 22) (place_number (number_of x) b.line))
    21)
    (refusal_of x)

-- It is fitted as any probe is, and its entry stands beside it.
unfoldable pub with_chip : ℕ → ℕ → Chips → Chips
with_chip n a k = record { table = set k.table n (new_chip a); count = n + 1 }

-- A refused fitting leaves the station as it was.
unfoldable pub after_chip : List ℕ → ℕ → Station → Station
after_chip x a s =
    cond (eqb (chip_number x a s.bridge) 0)
    (record { bridge = after_fitting x s.bridge; chips = with_chip s.bridge.line.count a s.chips })
    s

-- ---- withdrawing

-- Withdrawing takes a probe of either kind; a refused one leaves the station as it was.
unfoldable pub after_removal : List ℕ → Station → Station
after_removal x s =
    let l = s.bridge.line in
    cond (eqb (withdraw_number x l) 0)
    (record { bridge = after_withdrawal x s.bridge; chips = chips_without (number_of x) l s.chips })
    s

-- ---- commands in which no chip has a part

-- How many slots a command has.
unfoldable pub slots_in : Pending → ℕ
slots_in Nothing = 0
slots_in Reset = 0
slots_in (SingleBit w) = 1
slots_in (WriteByte x) = 8
slots_in ReadByte = 8
slots_in (Triplet d) = 3

abbrev pub is_reset : Pending → Bool
is_reset Nothing = false
is_reset Reset = true
is_reset (SingleBit w) = false
is_reset (WriteByte x) = false
is_reset ReadByte = false
is_reset (Triplet d) = false

-- No chip is fitted; or the command has slots, and no chip is selected before any of them.
unfoldable pub is_quiet : Station → Bool
is_quiet s =
    let q = s.bridge.registers.pending in
    cond (eqb s.chips.count 0) true (cond (is_reset q) false (all_calm (slots_in q) s.bridge.line s.chips))
