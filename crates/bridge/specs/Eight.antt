-- What Write Byte and Read Byte have in common: eight slots. None of it stands in the contract of a public function.
--   byte_of q            the byte that the pending command q puts on the line
--   read_data_of q y o    the read-data byte after it, the levels being y and the byte before it o
--   finished_byte q b    the state after it
use Rattle.std.specs.Prelude.{ℕ}
use Rattle.line.specs.Line.{levels}
use Rattle.bridge.specs.declared.Pending.{Pending}
use Rattle.bridge.specs.declared.Pending.TheVariants.{Nothing, Reset, SingleBit, WriteByte, ReadByte, Triplet}
use Rattle.bridge.specs.declared.Bridge.{Bridge}
use Rattle.bridge.specs.Bridge.{speed_of, eight_slots}

abbrev pub byte_of : Pending → ℕ
byte_of Nothing = 0xFF
byte_of Reset = 0xFF
byte_of (SingleBit w) = 0xFF
byte_of (WriteByte x) = x
byte_of ReadByte = 0xFF
byte_of (Triplet d) = 0xFF

abbrev pub read_data_of : Pending → ℕ → ℕ → ℕ
read_data_of Nothing y o = o
read_data_of Reset y o = o
read_data_of (SingleBit w) y o = o
read_data_of (WriteByte x) y o = o
read_data_of ReadByte y o = y
read_data_of (Triplet d) y o = o

abbrev pub finished_byte : Pending → Bridge → Bridge
finished_byte q b =
    let r = b.registers in
    eight_slots (byte_of q) (read_data_of q (levels (speed_of r) 8 (byte_of q) b.line) r.readout) b
