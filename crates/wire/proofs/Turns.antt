-- Slots on a wire, one after the other.
--   slots_wire, levels_wire     what they come to
use mathlib.Core.Path.{◌≡◌, refl, ap}
use Prim.Native.Nat.{ℕ, zero, suc, ◌+◌, ◌*◌, ◌/◌, ◌%◌}
use lib.Dec.{eqb}
use Rattle.probe.specs.Probe.{digit}
use Rattle.byte_slots.specs.SlotBySlot.{slot_in, slots_in, levels_in}
use Rattle.wire.specs.declared.Wire.{Wire}
use Rattle.wire.specs.Wire.{level_on, took_on, slot_on, slots_on, levels_on}

module _ (v : ℕ) where
  pub slots_wire : (n x : ℕ) (m : Wire) → slots_in level_on took_on v n x m ≡ slots_on v n x m
  unfolding slot_in slots_in slot_on slots_on
  slots_wire zero x m = refl
  slots_wire (suc n) x m = slots_wire n (x / 2) (slot_on v (eqb (x % 2) 1) m)

  pub levels_wire : (n x : ℕ) (m : Wire) → levels_in level_on took_on v n x m ≡ levels_on v n x m
  unfolding slot_in levels_in slot_on levels_on
  levels_wire zero x m = refl
  levels_wire (suc n) x m =
      ap (λ (k : ℕ). digit (level_on v (eqb (x % 2) 1) m) + 2 * k) (levels_wire n (x / 2) (slot_on v (eqb (x % 2) 1) m))
