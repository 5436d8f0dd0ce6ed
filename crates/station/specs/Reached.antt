-- The one premise that a call may have (document 01, "The bridge"): its station is one that calls reach from power-on.
--   ReachedOn s     s is such a station
use Rattle.std.specs.Prelude.{ℕ, ◌<◌, ◌≡◌, List, length}
use Rattle.bridge.specs.Bridge.{after_write, after_fitting}
use Rattle.bridge.specs.Reached.{Bytes}
use Rattle.station.specs.declared.Station.{Station}
use Rattle.station.specs.Station.{powered, on_bridge, after_time_on, after_chip, after_removal}

-- Power-on; and after it any writes, waits, fittings of both kinds and withdrawals, accepted or refused, in any order.
pub data ReachedOn : Station → Type 0 where
  on : ReachedOn powered
  write : (x : List ℕ) → Bytes x → {s : Station} → ReachedOn s → ReachedOn (on_bridge (after_write x s.bridge) s)
  wait : {s : Station} → ReachedOn s → ReachedOn (after_time_on s)
  fit : (x : List ℕ) → Bytes x → length x ≡ 8 → {s : Station} → ReachedOn s → ReachedOn (on_bridge (after_fitting x s.bridge) s)
  fit_chip : (x : List ℕ) → Bytes x → length x ≡ 8 → (a : ℕ) → a < 256 → {s : Station} → ReachedOn s → ReachedOn (after_chip x a s)
  withdraw : (x : List ℕ) → Bytes x → length x ≡ 8 → {s : Station} → ReachedOn s → ReachedOn (after_removal x s)
