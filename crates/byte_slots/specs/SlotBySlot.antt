-- Slots one after the other, on whatever carries them: f v w a is the level of a slot at the speed v in which the bridge writes w, a being
-- what carries it, and g v b a is what is there once the level b is taken.
--   slot_in f g v w a       what is there after a slot
--   slots_in f g v n x a    after n slots with the low n bits of x, low bit first
--   levels_in f g v n x a   the levels of those slots as a number, the first in the low bit
--   line_took v b l         the line l once the probes that the slot reaches have taken the level b
use Rattle.std.specs.Prelude.{ℕ, zero, suc, ◌+◌, ◌*◌, ◌/◌, ◌%◌, Bool, eqb}
use Rattle.probe.specs.Probe.{took_at, digit}
use Rattle.line.specs.declared.Line.{Line}
use Rattle.line.specs.Line.{on_fitted}

module _ {A : Type 0} (f : ℕ → Bool → A → Bool) (g : ℕ → Bool → A → A) where
  unfoldable pub slot_in : ℕ → Bool → A → A
  slot_in v w a = g v (f v w a) a

  unfoldable pub slots_in : ℕ → ℕ → ℕ → A → A
  slots_in v zero x a = a
  slots_in v (suc n) x a = slots_in v n (x / 2) (slot_in v (eqb (x % 2) 1) a)

  unfoldable pub levels_in : ℕ → ℕ → ℕ → A → ℕ
  levels_in v zero x a = 0
  levels_in v (suc n) x a = digit (f v (eqb (x % 2) 1) a) + 2 * levels_in v n (x / 2) (slot_in v (eqb (x % 2) 1) a)

abbrev pub line_took : ℕ → Bool → Line → Line
line_took v b l = on_fitted (took_at v b) l
