-- The bridge (document 01, "The bridge" and "Numbers returned", document 02, R-2, R-3 and R-12): its registers, and the line beside them.
--   power_on               the state at power-on
--   speed_of r             the bridge's speed
--   is_strong x            SPU is set in the configuration x
--   good_configuration x   the configuration byte x is accepted
--   number_of e            the number of the refusal e
--   number_by f r          the number that the result r stands for, where refusals have the numbers f
--   number_in r            the number that the result r of a write stands for
--   bridge_in b r          the state after a call on the state b with the result r
--   status_of r            the status register
--   read_of b              what a read gives
--   accepted c x r        the registers after an accepted write of the code c and the parameter x
--   write_number x b       the number that a write of the bytes x gives
--   after_write x b        the state after that write
--   after_time b           the state after time has passed
--   after_fitting x b      the state after fitting the ID of the bytes x
--   after_withdrawal x b   the state after withdrawing it
--   command x b           the state after the write x and time passing
use Rattle.std.specs.Prelude.{ℕ, ◌+◌, ◌*◌, ◌/◌, ◌%◌, Bool, true, false, cond, ◌&&◌, List, [], ◌∷◌, eqb, length, get_or, Option, None, Some, Result, Ok, Err}
use Rattle.probe.specs.Probe.{digit}
use Rattle.line.specs.declared.Line.{Line}
use Rattle.line.specs.Line.{bare, level, slot, slots, levels, after_reset, present, after_fit}
use Rattle.triplet_slots.specs.Triplet.{first_level, second_level, written_bit, after_triplet}
use Rattle.withdrawal.specs.Withdrawal.{after_withdraw}
use Rattle.bridge.specs.declared.Pointer.{Pointer}
use Rattle.bridge.specs.declared.Pointer.TheVariants.{Status, ReadData, Configuration}
use Rattle.bridge.specs.declared.Pending.{Pending}
use Rattle.bridge.specs.declared.Pending.TheVariants.{Nothing, Reset, SingleBit, WriteByte, ReadByte, Triplet}
use Rattle.bridge.specs.declared.Refusal.{Refusal}
use Rattle.bridge.specs.declared.Refusal.TheVariants.{Unknown, Busy, Length, Parameter}
use Rattle.bridge.specs.declared.StatusBits.{StatusBits}
use Rattle.bridge.specs.declared.Registers.{Registers}
use Rattle.bridge.specs.declared.Bridge.{Bridge}

-- ---- the state

-- Power-on and Device Reset give RST 1, the other status bits that change 0, configuration 00h, pointer at status, nothing pending; and no
-- pull-up is on (document 02, R-12).
abbrev pub cleared : ℕ → Registers
cleared o =
    record {
      status = record { dir = false; tsb = false; sbr = false; rst = true; ppd = false };
      configuration = 0;
      pointer = Status;
      readout = o;
      pending = Nothing;
      pullup = false;
    }

-- At power-on the read-data byte is 00h and no probe is fitted.
unfoldable pub power_on : Bridge
power_on = record { registers = cleared 0; line = bare }

-- 1WS, bit 3 of the configuration, is the bridge's speed (document 02, R-2). At power-on and after a Device Reset it is standard.
abbrev pub speed_of : Registers → ℕ
speed_of r = r.configuration / 8 % 2

-- SPU, bit 2 of the configuration, asks for a strong pull-up (document 02, R-12).
abbrev pub is_strong : ℕ → Bool
is_strong x = eqb (x / 4 % 2) 1

-- 1WB: a 1-Wire command is pending.
abbrev pub is_pending : Pending → Bool
is_pending Nothing = false
is_pending Reset = true
is_pending (SingleBit w) = true
is_pending (WriteByte x) = true
is_pending ReadByte = true
is_pending (Triplet d) = true

abbrev pub busy : Bridge → Bool
busy b = is_pending b.registers.pending

-- Status, bit 7 to 0: DIR, TSB, SBR, RST, LL, SD, PPD, 1WB. LL is always 1 and SD always 0.
unfoldable pub status_of : Registers → ℕ
status_of r =
    let s = r.status in
    digit s.dir * 128 + digit s.tsb * 64 + digit s.sbr * 32 + digit s.rst * 16 + 8 + digit s.ppd * 2
    + digit (is_pending r.pending)

-- Reading gives the register under the pointer; the configuration register reads with upper nibble 0.
abbrev pub register_of : Pointer → Registers → ℕ
register_of Status r = status_of r
register_of ReadData r = r.readout
register_of Configuration r = r.configuration % 16

unfoldable pub read_of : Bridge → ℕ
read_of b = register_of b.registers.pointer b.registers

-- ---- the commands as they are accepted

-- F0h Device Reset leaves the read-data byte, and drops what is pending.
abbrev pub device_reset : Registers → Registers
device_reset r = cleared r.readout

-- The registers with another pointer and another pending command.
abbrev pub changed : Pointer → Pending → Registers → Registers
changed p q r =
    record {
      status = r.status;
      configuration = r.configuration;
      pointer = p;
      readout = r.readout;
      pending = q;
      pullup = r.pullup;
    }

-- E1h Set Read Pointer: F0h status, E1h read data, C3h configuration.
unfoldable pub pointer_of : ℕ → Pointer
pointer_of x = cond (eqb x 0xF0) Status (cond (eqb x 0xE1) ReadData Configuration)

abbrev pub set_pointer : ℕ → Registers → Registers
set_pointer x r = changed (pointer_of x) r.pending r

-- A configuration with SPU 0 ends the pull-up; one with SPU 1 leaves it (document 02, R-12).
abbrev pub pullup_under : ℕ → Registers → Bool
pullup_under x r = cond (is_strong x) r.pullup false

-- D2h Write Configuration stores the low nibble, RST becomes 0, and the pointer goes to the configuration.
abbrev pub configured : ℕ → Registers → Registers
configured x r =
    let s = r.status in
    record {
      status = record { dir = s.dir; tsb = s.tsb; sbr = s.sbr; rst = false; ppd = s.ppd };
      configuration = x % 16;
      pointer = Configuration;
      readout = r.readout;
      pending = r.pending;
      pullup = pullup_under x r;
    }

-- SPU cleared: the bits above it and those below it stay.
abbrev pub without_spu : ℕ → ℕ
without_spu x = x / 8 * 8 + x % 4

-- A 1-Wire command that is accepted ends the pull-up, with SPU cleared. SPU set with the pull-up not on stays, for it is what the command
-- will switch on (document 02, R-12).
abbrev pub kept_configuration : Registers → ℕ
kept_configuration r = cond r.pullup (without_spu r.configuration) r.configuration

-- The five 1-Wire commands become pending, move the pointer to status, set 1WB at once and end the pull-up.
abbrev pub pended : Pending → Registers → Registers
pended p r =
    record {
      status = r.status;
      configuration = kept_configuration r;
      pointer = Status;
      readout = r.readout;
      pending = p;
      pullup = false;
    }

-- 87h and 78h use bit 7 of their parameter.
abbrev pub top_bit : ℕ → Bool
top_bit x = eqb (x / 128 % 2) 1

-- The effect of a write that is accepted: its code c and its parameter x.
unfoldable pub accepted : ℕ → ℕ → Registers → Registers
accepted c x r =
    cond (eqb c 0xF0) (device_reset r)
    (cond (eqb c 0xE1) (set_pointer x r)
    (cond (eqb c 0xD2) (configured x r)
    (cond (eqb c 0xB4) (pended Reset r)
    (cond (eqb c 0x87) (pended (SingleBit (top_bit x)) r)
    (cond (eqb c 0xA5) (pended (WriteByte x) r)
    (cond (eqb c 0x96) (pended ReadByte r) (pended (Triplet (top_bit x)) r)))))))

-- ---- the checks of a write

-- The refusals of a write, by their numbers in the table of document 01.
abbrev pub number_of : Refusal → ℕ
number_of Unknown = 5
number_of Busy = 6
number_of Length = 7
number_of Parameter = 8

-- A result stands for its refusal's number, the refusals having the numbers f, and for 0 where nothing is refused.
abbrev pub number_by : {T E : Type 0} → (E → ℕ) → Result T E → ℕ
number_by f (Ok x) = 0
number_by f (Err e) = f e

abbrev pub number_in : {T : Type 0} → Result T Refusal → ℕ
number_in r = number_by number_of r

-- A refused call leaves the state as it was.
abbrev pub bridge_in : {E : Type 0} → Bridge → Result Bridge E → Bridge
bridge_in b (Ok c) = c
bridge_in b (Err e) = b

-- How many bytes a command has in all; 0 for a code that is none of the eight.
unfoldable pub bytes_of : ℕ → ℕ
bytes_of c =
    cond (eqb c 0xF0) 1
    (cond (eqb c 0xE1) 2
    (cond (eqb c 0xD2) 2
    (cond (eqb c 0xB4) 1
    (cond (eqb c 0x87) 2
    (cond (eqb c 0xA5) 2
    (cond (eqb c 0x96) 1
    (cond (eqb c 0x78) 2 0)))))))

abbrev pub wanted_of : ℕ → Result ℕ Refusal
wanted_of c = cond (eqb (bytes_of c) 0) (Err Unknown) (Ok (bytes_of c))

-- Device Reset and Set Read Pointer are taken while a command is pending; the others are not.
unfoldable pub taken_while_busy : ℕ → Bool
taken_while_busy c = cond (eqb c 0xF0) true (eqb c 0xE1)

-- The pointer codes are F0h, E1h and C3h.
unfoldable pub good_pointer : ℕ → Bool
good_pointer x = cond (eqb x 0xF0) true (cond (eqb x 0xE1) true (eqb x 0xC3))

-- The register that a code names, where it is a pointer code.
abbrev pub pointed_by : ℕ → Option Pointer
pointed_by x = cond (good_pointer x) (Some (pointer_of x)) None

-- In a configuration byte bit 1 is 0, and the upper nibble is the complement of the lower one: the two make Fh. APU, SPU and 1WS may be any
-- (document 02, R-12).
unfoldable pub good_configuration : ℕ → Bool
good_configuration x = eqb (x / 2 % 2) 0 && eqb (x / 16 + x % 16) 15

-- Any other parameter will do.
unfoldable pub good_parameter : ℕ → ℕ → Bool
good_parameter c x = cond (eqb c 0xE1) (good_pointer x) (cond (eqb c 0xD2) (good_configuration x) true)

-- No bytes at all: 7. Then, in this order: unknown code 5, busy 6, wrong number of bytes 7, bad parameter 8.
unfoldable pub write_number : List ℕ → Bridge → ℕ
write_number [] b = 7
write_number (c ∷ ps) b =
    cond (eqb (bytes_of c) 0) 5
    (cond (cond (busy b) (cond (taken_while_busy c) false true) false) 6
    (cond (eqb (length (c ∷ ps)) (bytes_of c)) (cond (good_parameter c (get_or ps 0 0)) 0 8) 7))

-- The state with other registers: the line has seen nothing.
abbrev pub with_registers : Registers → Bridge → Bridge
with_registers r b = record { registers = r; line = b.line }

-- An accepted write touches the registers alone. A refused one leaves the state as it was.
unfoldable pub after_write : List ℕ → Bridge → Bridge
after_write x b =
    cond (eqb (write_number x b) 0) (with_registers (accepted (get_or x 0 0) (get_or x 1 0) b.registers) b) b

-- ---- time passing

-- Slots and resets come at the bridge's speed.

-- Of the commands, Write Byte and Single Bit may switch the pull-up on (document 02, R-12).
abbrev pub switches_on : Pending → Bool
switches_on Nothing = false
switches_on Reset = false
switches_on (SingleBit w) = true
switches_on (WriteByte x) = true
switches_on ReadByte = false
switches_on (Triplet d) = false

-- It becomes on when one of these finishes with SPU set.
abbrev pub pullup_after : Registers → Bool
pullup_after r = cond (switches_on r.pending) (cond (is_strong r.configuration) true r.pullup) r.pullup

-- What a finished command leaves: nothing pending, the pull-up on or not, and pointer and configuration as they were.
abbrev pub finished : StatusBits → ℕ → Registers → Registers
finished s o r =
    record {
      status = s;
      configuration = r.configuration;
      pointer = r.pointer;
      readout = o;
      pending = Nothing;
      pullup = pullup_after r;
    }

-- Status bits of which PPD is another, and those of which DIR, TSB and SBR are; RST stays.
abbrev pub with_presence : Bool → StatusBits → StatusBits
with_presence p s = record { dir = s.dir; tsb = s.tsb; sbr = s.sbr; rst = s.rst; ppd = p }

abbrev pub with_levels : Bool → Bool → Bool → StatusBits → StatusBits
with_levels d second first s = record { dir = d; tsb = second; sbr = first; rst = s.rst; ppd = s.ppd }

-- B4h 1-Wire Reset: PPD says whether some probe answers.
unfoldable pub finished_reset : Bridge → Bridge
finished_reset b =
    let r = b.registers in
    let v = speed_of r in
    record { registers = finished (with_presence (present v b.line) r.status) r.readout r; line = after_reset v b.line }

-- 87h Single Bit: one slot; SBR is the line level, and DIR stays.
unfoldable pub finished_bit : Bool → Bridge → Bridge
finished_bit w b =
    let r = b.registers in
    let v = speed_of r in
    let s = r.status in
    record { registers = finished (with_levels s.dir s.tsb (level v w b.line) s) r.readout r; line = slot v w b.line }

-- Eight slots with the bits of x, low bit first, and o in the read-data byte.
abbrev pub eight_slots : ℕ → ℕ → Bridge → Bridge
eight_slots x o b =
    let r = b.registers in
    record { registers = finished r.status o r; line = slots (speed_of r) 8 x b.line }

-- A5h Write Byte: eight slots, low bit first.
unfoldable pub finished_write : ℕ → Bridge → Bridge
finished_write x b = eight_slots x b.registers.readout b

-- 96h Read Byte: eight write-one slots; their levels go to read data, the first in the low bit.
unfoldable pub finished_read : Bridge → Bridge
finished_read b = eight_slots 0xFF (levels (speed_of b.registers) 8 0xFF b.line) b

-- 78h Triplet: two write-one slots, then a write slot. SBR is the first level, TSB the second, DIR the bit written.
unfoldable pub finished_triplet : Bool → Bridge → Bridge
finished_triplet d b =
    let r = b.registers in
    let v = speed_of r in
    let l = b.line in
    record {
      registers = finished (with_levels (written_bit v d l) (second_level v l) (first_level v l) r.status) r.readout r;
      line = after_triplet v d l;
    }

-- Time passing with nothing pending changes nothing.
unfoldable pub finished_of : Pending → Bridge → Bridge
finished_of Nothing b = b
finished_of Reset b = finished_reset b
finished_of (SingleBit w) b = finished_bit w b
finished_of (WriteByte x) b = finished_write x b
finished_of ReadByte b = finished_read b
finished_of (Triplet d) b = finished_triplet d b

unfoldable pub after_time : Bridge → Bridge
after_time b = finished_of b.registers.pending b

-- ---- fitting, withdrawing, and a command given its time

-- The state with another line.
abbrev pub on_line : Line → Bridge → Bridge
on_line l b = record { registers = b.registers; line = l }

-- Fitting touches the line alone.
unfoldable pub after_fitting : List ℕ → Bridge → Bridge
after_fitting x b = on_line (after_fit x b.line) b

-- Withdrawing too (document 02, R-3): status, pointer, configuration and what is pending stay.
unfoldable pub after_withdrawal : List ℕ → Bridge → Bridge
after_withdrawal x b = on_line (after_withdraw x b.line) b

unfoldable pub command : List ℕ → Bridge → Bridge
command x b = after_time (after_write x b)
