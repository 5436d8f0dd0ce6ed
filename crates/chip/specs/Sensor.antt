-- The sensor behind a probe of the second kind (document 02, R-7): 16 registers, and a pointer to one of them.
--   zeroed           the sensor at fitting
--   pointed_to x s   s after the first byte of a write
--   stored_one x s   s after one of the later bytes
--   stored d s       s after the later bytes d
--   written d s      s after a write of the bytes d
--   stepped n s      s after n bytes have been read from it
--   read_from n s    those bytes
use Rattle.std.specs.Prelude.{ℕ, zero, suc, ◌+◌, ◌%◌, List, [], ◌∷◌, get_or, set, replicate}
use Rattle.chip.specs.declared.Sensor.{Sensor}

-- The registers are zero at fitting, and so is the pointer.
unfoldable pub zeroed : Sensor
zeroed = record { pointer = 0; registers = replicate 16 0 }

-- A write's first byte sets the pointer, modulo 16.
abbrev pub pointed_to : ℕ → Sensor → Sensor
pointed_to x s = record { pointer = x % 16; registers = s.registers }

-- A later byte is stored, and the pointer steps round.
unfoldable pub stored_one : ℕ → Sensor → Sensor
stored_one x s = record { pointer = (s.pointer + 1) % 16; registers = set s.registers (s.pointer % 16) x }

unfoldable pub stored : List ℕ → Sensor → Sensor
stored [] s = s
stored (x ∷ d) s = stored d (stored_one x s)

unfoldable pub written : List ℕ → Sensor → Sensor
written [] s = s
written (x ∷ d) s = stored d (pointed_to x s)

-- Reads step the pointer too.
unfoldable pub stepped : ℕ → Sensor → Sensor
stepped n s = record { pointer = (s.pointer + n) % 16; registers = s.registers }

-- Each byte is that of the register under the pointer.
unfoldable pub read_from : ℕ → Sensor → List ℕ
read_from zero s = []
read_from (suc n) s = get_or s.registers (s.pointer % 16) 0 ∷ read_from n (stepped 1 s)
