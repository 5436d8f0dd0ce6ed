-- What lets the slots of a command be the line's alone.
--   calm n p        p is not selected before any of the next n slots
--   all_calm n l k   no chip is
use Rattle.std.specs.Prelude.{ℕ, zero, suc, ◌+◌, ◌*◌, Bool, true, false, cond, leb}
use Rattle.probe.specs.declared.Slot.{Slot}
use Rattle.probe.specs.declared.Slot.TheVariants.{First, Second, Third}
use Rattle.probe.specs.declared.Condition.{Condition}
use Rattle.probe.specs.declared.Condition.TheVariants.{Deaf, Taking, Sending, Matching, Searching, Selected}
use Rattle.probe.specs.declared.Probe.{Probe}
use Rattle.chip.specs.declared.Chip.{Chip}
use Rattle.chip.specs.Chip.{is_chip}
use Rattle.line.specs.declared.Line.{Line}
use Rattle.wire.specs.declared.Chips.{Chips}
use Rattle.wire.specs.Pairs.{both_all}
use Rattle.wire.specs.Wire.{fellows}

-- Which of the 192 slots of a search comes next.
unfoldable pub slot_of : ℕ → Slot → ℕ
slot_of k First = 3 * k
slot_of k Second = 3 * k + 1
slot_of k Third = 3 * k + 2

-- A code has eight bits, an ID 64, a search 192 slots, and the last of them may select.
unfoldable pub calm_in : ℕ → Condition → Bool
calm_in n Deaf = true
calm_in n (Taking k c) = leb (k + n) 8
calm_in n (Sending k) = leb (k + n) 64
calm_in n (Matching k f) = leb (k + n) 64
calm_in n (Searching k s) = leb (slot_of k s + n) 192
calm_in n Selected = false

unfoldable pub calm : ℕ → Probe → Bool
calm zero p = true
calm (suc n) p = calm_in (suc n) p.condition

abbrev pub calm_with : ℕ → Probe → Chip → Bool
calm_with n p c = cond (is_chip c) (calm n p) true

unfoldable pub all_calm : ℕ → Line → Chips → Bool
all_calm n l k = both_all (calm_with n) (fellows l k) k.table
