-- The one premise that a call may have (document 01, "The bridge"): its state is one that calls reach from power-on.
--   Bytes x       every element of x is a byte
--   Reached b     b is such a state
use Rattle.std.specs.Prelude.{ℕ, ◌<◌, ◌≡◌, length, get_or, List}
use Rattle.bridge.specs.declared.Bridge.{Bridge}
use Rattle.bridge.specs.Bridge.{power_on, after_write, after_time, after_fitting, after_withdrawal}

abbrev pub Bytes : List ℕ → Type 0
Bytes x = (k : ℕ) → get_or x k 0 < 256

-- Power-on; and after it any writes, waits, fittings and withdrawals, accepted or refused, in any order. A read changes nothing.
pub data Reached : Bridge → Type 0 where
  on : Reached power_on
  write : (x : List ℕ) → Bytes x → {b : Bridge} → Reached b → Reached (after_write x b)
  wait : {b : Bridge} → Reached b → Reached (after_time b)
  fit : (x : List ℕ) → Bytes x → length x ≡ 8 → {b : Bridge} → Reached b → Reached (after_fitting x b)
  withdraw : (x : List ℕ) → Bytes x → length x ≡ 8 → {b : Bridge} → Reached b → Reached (after_withdrawal x b)
