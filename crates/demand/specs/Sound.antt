-- What holds of every line that calls reach (document 01, "Probe identities", and document 02, R-3).
--   Sound l     64 entries, at most so many probes, and their IDs are distinct numbers of 64 bits, each right by itself; a free entry holds
--               what it held at power-on
use Rattle.std.specs.Prelude.{ℕ, ◌≤◌, List, ◌≡◌, length, drop}
use Rattle.identity.specs.Identity.{number_of, refusal_of}
use Rattle.line.specs.declared.Line.{Line}
use Rattle.line.specs.Line.{ids_of, bare}
use Rattle.bridge.specs.Reached.{Bytes}
use Rattle.enumeration.specs.Order.{Among, Distinct, Narrow}

pub record Sound (l : Line) : Type 0 where
  pub entries : length l.probes ≡ 64
  pub within : l.count ≤ 64
  pub counted : length (ids_of l) ≡ l.count
  pub distinct : Distinct (ids_of l)
  pub narrow : Narrow (ids_of l)
  pub right : (x : List ℕ) → Bytes x → length x ≡ 8 → Among (number_of x) (ids_of l) → refusal_of x ≡ 0
  pub free : drop l.count l.probes ≡ drop l.count bare.probes
