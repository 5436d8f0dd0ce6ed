-- What the calls give back is a state that calls reach from power-on: each law takes what a call ensures of its result r.
use mathlib.Core.Path.{◌≡◌, subst, sym}
use mathlib.Core.List.{List}
use Prim.Native.Nat.{ℕ}
use lib.ListN.{length}
use Rattle.bridge.specs.declared.Bridge.{Bridge}
use Rattle.bridge.specs.Bridge.{power_on, after_write, after_time, after_fitting, after_withdrawal, command}
use Rattle.bridge.specs.Reached.{Bytes, Reached, on, write, wait, fit, withdraw}

pub reached_on : {r : Bridge} → r ≡ power_on → Reached r
reached_on e = subst Reached (sym e) on

pub reached_write : (x : List ℕ) → Bytes x → {b r : Bridge} → Reached b → r ≡ after_write x b → Reached r
reached_write x h p e = subst Reached (sym e) (write x h p)

pub reached_wait : {b r : Bridge} → Reached b → r ≡ after_time b → Reached r
reached_wait p e = subst Reached (sym e) (wait p)

pub reached_fit : (x : List ℕ) → Bytes x → length x ≡ 8 → {b r : Bridge} → Reached b → r ≡ after_fitting x b → Reached r
reached_fit x h n p e = subst Reached (sym e) (fit x h n p)

pub reached_withdraw : (x : List ℕ) → Bytes x → length x ≡ 8 → {b r : Bridge} → Reached b → r ≡ after_withdrawal x b → Reached r
reached_withdraw x h n p e = subst Reached (sym e) (withdraw x h n p)

-- A write and its time.
pub reached_command : (x : List ℕ) → Bytes x → {b : Bridge} → Reached b → Reached (command x b)
unfolding command
reached_command x h p = wait (write x h p)
