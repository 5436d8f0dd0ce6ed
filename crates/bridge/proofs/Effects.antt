-- A command given its time, from a bridge with nothing pending: the write is accepted and has its effect.
--   pended_speed                                     accepting a 1-Wire command leaves the speed, whether or not a pull-up ends
--   command_device_reset, -reset, -write, -triplet    the state afterwards
use mathlib.Core.Path.{◌≡◌, refl}
use mathlib.Core.Bool.{Bool, true, false, cond}
use mathlib.Core.List.{[], ◌∷◌}
use Prim.Native.Nat.{ℕ, ◌/◌, ◌%◌}
use native.Mathlib.Omega.{arith}
use Rattle.bridge.specs.declared.Registers.{Registers}
use Rattle.bridge.specs.declared.Bridge.{Bridge}
use Rattle.bridge.specs.declared.Pending.{Pending}
use Rattle.bridge.specs.declared.Pending.TheVariants.{Reset, WriteByte, Triplet}
use Rattle.bridge.specs.Bridge.{speed_of, without_spu, busy, top_bit, bytes_of, taken_while_busy, good_parameter, write_number, with_registers, after_write, accepted, device_reset, pended}
use Rattle.bridge.specs.Bridge.{finished_reset, finished_write, finished_triplet, finished_of, after_time, command}

pub pended_speed : (q : Pending) (r : Registers) → speed_of (pended q r) ≡ speed_of r
pended_speed q r = go r.pullup r.configuration
  where
    go : (t : Bool) (x : ℕ) → cond t (without_spu x) x / 8 % 2 ≡ x / 8 % 2
    go true x = omega arith
    go false x = refl

-- Device Reset is taken, busy or not, and drops what is pending.
never_held : (t : Bool) → cond t false false ≡ false
never_held true = refl
never_held false = refl

pub command_device_reset : (b : Bridge) → command (0xF0 ∷ []) b ≡ with_registers (device_reset b.registers) b
unfolding command after_time finished_of after_write write_number bytes_of taken_while_busy good_parameter accepted
command_device_reset b = simp never_held

module _ (b : Bridge) (free : busy b ≡ false) where
  pub command_reset : command (0xB4 ∷ []) b ≡ finished_reset (with_registers (pended Reset b.registers) b)
  unfolding command after_time finished_of after_write write_number bytes_of good_parameter accepted
  command_reset = simp free

  pub command_write : (x : ℕ) → command (0xA5 ∷ x ∷ []) b ≡ finished_write x (with_registers (pended (WriteByte x) b.registers) b)
  unfolding command after_time finished_of after_write write_number bytes_of good_parameter accepted
  command_write x = simp free

  pub command_triplet : (x : ℕ) → command (0x78 ∷ x ∷ []) b ≡ finished_triplet (top_bit x) (with_registers (pended (Triplet (top_bit x)) b.registers) b)
  unfolding command after_time finished_of after_write write_number bytes_of good_parameter accepted
  command_triplet x = simp free
