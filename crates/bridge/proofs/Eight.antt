-- Write Byte and Read Byte share their eight slots.
use mathlib.Core.Path.{◌≡◌, refl}
use mathlib.Core.Logic.{◌⊎◌, inl, inr}
use Prim.Native.Nat.{ℕ}
use Rattle.bridge.specs.declared.Pending.{Pending}
use Rattle.bridge.specs.declared.Pending.TheVariants.{WriteByte, ReadByte}
use Rattle.bridge.specs.declared.Bridge.{Bridge}
use Rattle.bridge.specs.Bridge.{finished_write, finished_read, finished_of, after_time}
use Rattle.bridge.specs.Eight.{finished_byte}

shared : (q : Pending) (b : Bridge) → ((x : ℕ) × (q ≡ WriteByte x)) ⊎ (q ≡ ReadByte) → finished_of q b ≡ finished_byte q b
unfolding finished_of finished_write finished_read
shared q b (inl k) = rw k.1 refl
shared q b (inr k) = rw k refl

pub time_of_byte : (b : Bridge) → ((x : ℕ) × (b.registers.pending ≡ WriteByte x)) ⊎ (b.registers.pending ≡ ReadByte)
    → after_time b ≡ finished_byte b.registers.pending b
unfolding after_time
time_of_byte b = shared b.registers.pending b
