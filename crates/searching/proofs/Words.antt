-- The line, a pass and the passes during a search; words for proofs, on which no statement about the search rests.
--   Rest               what a line has beside its probes: free entries, or a count so much above the table
--   line_of ps rest     the line with the probes ps, and `rest`
--   heard n c p        p at standard speed, as it takes a command with n bits that make up c
--   commanded c p      p at standard speed once it has obeyed the ROM command c
--   gathered n x c     what the low n bits of x, taken one by one, make of the code c
--   stand s k a i      the probe i in slot s of bit k of a search whose path is a: deaf if it does not begin as a
--   standing k a i     the same before bit k; after the last bit it is marked and selected
--   Under ids rest k a w  before bit k the pass w is on the path a
--   Holds ids rest l      the line l has probes with the IDs ids, and `rest`
--   Idle ids rest b       the bridge b has such a line and is at standard speed, and nothing is pending
--   Outcome ids rest l m b r   r is what m passes from the bridge b on come to, if all passes there are list l
--   Facts ids rest l m r       r is what a search that is allowed m passes comes to, if l is the IDs in search order
use Prim.Native.Nat.{ℕ, zero, suc, ◌+◌, ◌*◌, ◌/◌, ◌%◌, min, max}
use mathlib.Core.Bool.{true, false, cond, ◌&&◌}
use mathlib.Core.List.{List, [], ◌∷◌, ◌++◌, map}
use mathlib.Core.Path.{◌≡◌}
use lib.Dec.{eqb, leb}
use lib.ListN.{length, take}
use Rattle.probe.specs.declared.Slot.{Slot}
use Rattle.probe.specs.declared.Slot.TheVariants.{First}
use Rattle.probe.specs.declared.Condition.TheVariants.{Taking, Searching, Selected}
use Rattle.probe.specs.declared.Probe.{Probe}
use Rattle.probe.specs.Probe.{standard, deaf_new, in_condition, at_speed, obeyed, digit}
use Rattle.line.specs.declared.Line.{Line}
use Rattle.line.specs.Line.{id_of}
use Rattle.bridge.specs.declared.Bridge.{Bridge}
use Rattle.bridge.specs.declared.Pending.TheVariants.{Nothing}
use Rattle.bridge.specs.Bridge.{speed_of}
use Rattle.enumeration.proofs.Tree.{begins}
use Rattle.pass.specs.declared.Walk.{Walk}
use Rattle.pass.specs.Passes.{Result}

-- ---- the line

-- A count above the table means the whole table; calls reach no such line.
pub data Rest : Type 0 where
  free : List Probe → Rest
  over : ℕ → Rest

abbrev pub line_of : List Probe → Rest → Line
line_of ps (free r) = record { probes = ps ++ r; count = length ps }
line_of ps (over n) = record { probes = ps; count = length ps + n }

abbrev pub heard : ℕ → ℕ → Probe → Probe
heard n c p = in_condition (at_speed standard p) (Taking n c)

abbrev pub commanded : ℕ → Probe → Probe
commanded c p = obeyed c (at_speed standard p)

unfoldable pub gathered : ℕ → ℕ → ℕ → ℕ
gathered zero x c = c
gathered (suc n) x c = gathered n (x / 2) (c / 2 + 128 * digit (eqb (x % 2) 1))

abbrev pub searching_in : Slot → ℕ → ℕ → Probe
searching_in s k i = record { id = i; marked = false; speed = standard; condition = Searching k s }

abbrev pub marked_selected : ℕ → Probe
marked_selected i = record { id = i; marked = true; speed = standard; condition = Selected }

unfoldable pub stand : Slot → ℕ → ℕ → ℕ → Probe
stand s k a i = cond (begins k a i) (searching_in s k i) (deaf_new i)

unfoldable pub standing : ℕ → ℕ → ℕ → Probe
standing k a i = cond (begins k a i) (cond (leb 64 k) (marked_selected i) (searching_in First k i)) (deaf_new i)

-- ---- a pass

pub record Under (ids : List ℕ) (rest : Rest) (k a : ℕ) (w : Walk) : Type 0 where
  pub line : w.bridge.line ≡ line_of (map (standing k a) ids) rest
  pub idle : w.bridge.registers.pending ≡ Nothing
  pub speed : speed_of w.bridge.registers ≡ standard
  pub path : w.id ≡ a

pub record Holds (ids : List ℕ) (rest : Rest) (l : Line) : Type 0 where
  pub probes : List Probe
  pub line : l ≡ line_of probes rest
  pub same : map id_of probes ≡ ids

pub record Idle (ids : List ℕ) (rest : Rest) (b : Bridge) : Type 0 where
  pub holds : Holds ids rest b.line
  pub idle : b.registers.pending ≡ Nothing
  pub speed : speed_of b.registers ≡ standard

-- ---- the passes

pub record Outcome (ids : List ℕ) (rest : Rest) (l : List ℕ) (m : ℕ) (b : Bridge) (r : Result) : Type 0 where
  pub listed : r.ids ≡ take m l
  pub used : r.passes ≡ min m (length l)
  pub whole : r.complete ≡ leb (length l) m
  pub idle : Idle ids rest r.bridge
  pub still : r.ids ≡ [] → r.bridge ≡ b
  pub closing : (p : List ℕ) (x : ℕ) → r.ids ≡ p ++ x ∷ [] → r.bridge.line ≡ line_of (map (standing 64 x) ids) rest

pub record Facts (ids : List ℕ) (rest : Rest) (l : List ℕ) (m : ℕ) (r : Result) : Type 0 where
  pub listed : r.ids ≡ take m l
  pub used : r.passes ≡ min m (max 1 (length l))
  pub whole : r.complete ≡ (leb 1 m && leb (length l) m)
  pub holds : Holds ids rest r.bridge.line
  pub closing : (p : List ℕ) (x : ℕ) → r.ids ≡ p ++ x ∷ [] → (r.bridge.line ≡ line_of (map (standing 64 x) ids) rest) × (r.bridge.registers.pending ≡ Nothing) × (speed_of r.bridge.registers ≡ standard)
