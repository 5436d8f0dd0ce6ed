-- The configuration byte and the strong pull-up (document 02, R-12): what the bridge's definitions come to.
--   nibble a p w       the configuration of the bits APU, SPU and 1WS
--   OfBits n           the configuration n is that of some three bits
--   byte a p w         the byte that writes it
--   eight_bytes         the bytes of all their combinations
--   WrongByte x        why the byte x is refused: bit 1 is set, or the complement is wrong
--   Configurations     which bytes are accepted
--   one_wire c          c is the code of a 1-Wire command
--   configuration_at s  the configuration as it stands
--   spu_at s            SPU as it stands
--   is_on s             the pull-up is on
--   PullUp s           the sentences of R-12, of the state s
use Rattle.std.specs.Prelude.{ℕ, ◌+◌, ◌*◌, ◌-◌, ◌/◌, ◌%◌, Bool, true, false, cond, ◌&&◌, List, [], ◌∷◌, ◌⊎◌, ◌≡◌, eqb, get_or}
use Rattle.probe.specs.Probe.{digit}
use Rattle.line.specs.Line.{any}
use Rattle.bridge.specs.declared.Bridge.{Bridge}
use Rattle.bridge.specs.declared.Pending.TheVariants.{Nothing}
use Rattle.bridge.specs.Bridge.{busy, is_strong, switches_on, good_configuration, write_number, after_write, after_time, read_of, command}

-- ---- the configuration byte

-- APU is bit 0, SPU bit 2 and 1WS bit 3; bit 1 is 0.
abbrev pub nibble : Bool → Bool → Bool → ℕ
nibble a p w = digit a + digit p * 4 + digit w * 8

abbrev pub OfBits : ℕ → Type 0
OfBits n = (a : Bool) × (p : Bool) × (w : Bool) × (n ≡ nibble a p w)

-- The upper nibble is the complement of the lower one.
abbrev pub byte : Bool → Bool → Bool → ℕ
byte a p w = (15 - nibble a p w) * 16 + nibble a p w

-- In the order of their nibbles.
abbrev pub eight_bytes : List ℕ
eight_bytes = 0xF0 ∷ 0xE1 ∷ 0xB4 ∷ 0xA5 ∷ 0x78 ∷ 0x69 ∷ 0x3C ∷ 0x2D ∷ []

abbrev pub WrongByte : ℕ → Type 0
WrongByte x = (x / 2 % 2 ≡ 1) ⊎ (x / 16 + x % 16 ≡ 15 → ⊥)

pub record Configurations : Type 0 where
  -- The byte of any three bits is accepted, and no other.
  pub accepted : (a p w : Bool) → good_configuration (byte a p w) ≡ true
  pub only : (x : ℕ) → good_configuration x ≡ true → x ≡ byte (eqb (x % 2) 1) (eqb (x / 4 % 2) 1) (eqb (x / 8 % 2) 1)
  -- So there are eight.
  pub eight : (x : ℕ) → good_configuration x ≡ any (eqb x) eight_bytes
  -- With nothing pending such a byte is written, and its three bits read back.
  pub done : (a p w : Bool) (s : Bridge) → busy s ≡ false → write_number (0xD2 ∷ byte a p w ∷ []) s ≡ 0
  pub back : (a p w : Bool) (s : Bridge) → busy s ≡ false → read_of (after_write (0xD2 ∷ byte a p w ∷ []) s) ≡ nibble a p w
  -- 8 is for a wrong complement or bit 1 set, and for nothing else.
  pub refused : (x : ℕ) (s : Bridge) → busy s ≡ false → WrongByte x → write_number (0xD2 ∷ x ∷ []) s ≡ 8
  pub wrong : (x : ℕ) (s : Bridge) → write_number (0xD2 ∷ x ∷ []) s ≡ 8 → WrongByte x

-- ---- the pull-up

-- 1-Wire Reset, Single Bit, Write Byte, Read Byte and Triplet.
unfoldable pub one_wire : ℕ → Bool
one_wire c = any (eqb c) (0xB4 ∷ 0x87 ∷ 0xA5 ∷ 0x96 ∷ 0x78 ∷ [])

abbrev pub configuration_at : Bridge → ℕ
configuration_at s = s.registers.configuration

abbrev pub spu_at : Bridge → Bool
spu_at s = is_strong (configuration_at s)

abbrev pub is_on : Bridge → Bool
is_on s = s.registers.pullup

pub record PullUp (s : Bridge) : Type 0 where
  -- The configuration is that of some three bits.
  pub bits : OfBits (configuration_at s)
  -- While the pull-up is on, SPU is set and nothing is pending.
  pub strong : is_on s ≡ true → spu_at s ≡ true
  pub idle : is_on s ≡ true → s.registers.pending ≡ Nothing
  -- It is on after a Write Byte or a Single Bit that finishes with SPU set, and not after any other command; with nothing pending, time
  -- changes nothing.
  pub time : is_on (after_time s) ≡ cond (busy s) (switches_on s.registers.pending && spu_at s) (is_on s)
  -- A 1-Wire command that is accepted ends it; SPU is cleared where it was on, and else stays.
  pub ends : (x : List ℕ) → write_number x s ≡ 0 → one_wire (get_or x 0 0) ≡ true → is_on (after_write x s) ≡ false
  pub cleared : (x : List ℕ) → write_number x s ≡ 0 → one_wire (get_or x 0 0) ≡ true → is_on s ≡ true → (a p w : Bool) → configuration_at s ≡ nibble a p w → configuration_at (after_write x s) ≡ nibble a false w
  pub kept : (x : List ℕ) → write_number x s ≡ 0 → one_wire (get_or x 0 0) ≡ true → is_on s ≡ false → configuration_at (after_write x s) ≡ configuration_at s
  -- So a Write Byte directly after the one that switched it on leaves it off.
  pub second : (x : ℕ) → is_on s ≡ true → is_on (command (0xA5 ∷ x ∷ []) s) ≡ false
  -- A configuration with SPU 0 ends it, and so does a Device Reset; one with SPU 1 leaves it.
  pub configured : (x : ℕ) → write_number (0xD2 ∷ x ∷ []) s ≡ 0 → is_on (after_write (0xD2 ∷ x ∷ []) s) ≡ (is_strong x && is_on s)
  pub reset : is_on (after_write (0xF0 ∷ []) s) ≡ false
