-- The line with chips on it: probes of the second kind, each with its sensor (document 02, R-7). Slots and resets come at a speed v, the
-- bridge's.
--   no_chips            no chip is fitted
--   fellows l k        the probes of the line l that have an entry among the chips k
--   listens v p c      the probe p is a chip, c being its entry, and a slot at the speed v reaches it selected
--   level_on v w m      what the wire carries in a slot in which the bridge writes w
--   slot_on v w m       the line and its chips after that slot
--   slots_on v n x m    after n slots with the low n bits of x, low bit first
--   levels_on v n x m   the levels of those slots as a number, the first in the low bit
--   triplet_on v d m    after a triplet that asks for d
--   emptied_on v l k    the chips after a 1-Wire reset
--   chips_without i l k the chips without that of the ID i
use Rattle.std.specs.Prelude.{ℕ, zero, suc, ◌+◌, ◌*◌, ◌/◌, ◌%◌, Bool, true, false, cond, ◌&&◌}
use Rattle.std.specs.Prelude.{List, [], ◌∷◌, ◌++◌, eqb, length, take, drop, replicate}
use Rattle.probe.specs.declared.Condition.{Condition}
use Rattle.probe.specs.declared.Condition.TheVariants.{Deaf, Taking, Sending, Matching, Searching, Selected}
use Rattle.probe.specs.declared.Probe.{Probe}
use Rattle.probe.specs.Probe.{standard, in_condition, reaches, took_at, digit}
use Rattle.line.specs.declared.Line.{Line}
use Rattle.line.specs.Line.{fitted, on_fitted, level}
use Rattle.triplet_slots.specs.Triplet.{chosen}
use Rattle.chip.specs.declared.Chip.{Chip}
use Rattle.chip.specs.Chip.{none, is_chip, emptied, sends, heard, is_over}
use Rattle.wire.specs.declared.Chips.{Chips}
use Rattle.wire.specs.declared.Wire.{Wire}
use Rattle.wire.specs.Pairs.{paired, both_all}

-- ---- which probes are chips

-- No entry is in use; one that is not holds what stands for a probe of the old kind.
unfoldable pub no_chips : Chips
no_chips = record { table = replicate 64 none; count = 0 }

-- The chips' entries stand beside the probes' in the same order. A probe behind the last entry in use is of the old kind.
unfoldable pub fellows : Line → Chips → List Probe
fellows l k = take k.count (fitted l)

unfoldable pub is_selected : Condition → Bool
is_selected Deaf = false
is_selected (Taking n c) = false
is_selected (Sending k) = false
is_selected (Matching k f) = false
is_selected (Searching k s) = false
is_selected Selected = true

-- A chip listens once it is selected, to the slots that reach it.
unfoldable pub listens : ℕ → Probe → Chip → Bool
listens v p c = is_chip c && (is_selected p.condition && reaches v p)

-- ---- a slot

-- A selected probe of the old kind sends nothing; a chip that listens may send.
unfoldable pub lets : ℕ → Probe → Chip → Bool
lets v p c = cond (listens v p c) (sends c) true

-- The level is 0 if the bridge writes 0, or any probe or chip sends 0, else 1.
unfoldable pub level_on : ℕ → Bool → Wire → Bool
level_on v w m = cond (level v w m.line) (both_all (lets v) (fellows m.line m.chips) m.chips.table) false

-- Every chip that listens hears the level.
unfoldable pub heard_by : ℕ → Bool → Probe → Chip → Chip
heard_by v x p c = cond (listens v p c) (heard x c) c

unfoldable pub heard_on : ℕ → Bool → Line → Chips → Chips
heard_on v x l k = record { table = paired (heard_by v x) (fellows l k) k.table; count = k.count }

-- One whose packet is none, or whose answer is over, is deaf.
unfoldable pub quieted : ℕ → Chip → Probe → Probe
quieted v c p = cond (listens v p c && is_over c) (in_condition p Deaf) p

unfoldable pub quieted_on : ℕ → Chips → Line → Line
quieted_on v k l = record { probes = paired (quieted v) (take l.count (take k.count k.table)) l.probes; count = l.count }

-- The chips hear the level before the probes take it: one that this slot selects gathers from the next slot on.
unfoldable pub took_on : ℕ → Bool → Wire → Wire
took_on v x m =
    let k = heard_on v x m.line m.chips in
    record { line = on_fitted (took_at v x) (quieted_on v k m.line); chips = k }

unfoldable pub slot_on : ℕ → Bool → Wire → Wire
slot_on v w m = took_on v (level_on v w m) m

-- ---- several slots

-- The bridge writes the low n bits of x, low bit first.
unfoldable pub slots_on : ℕ → ℕ → ℕ → Wire → Wire
slots_on v zero x m = m
slots_on v (suc n) x m = slots_on v n (x / 2) (slot_on v (eqb (x % 2) 1) m)

-- Their levels, the first in the low bit.
unfoldable pub levels_on : ℕ → ℕ → ℕ → Wire → ℕ
levels_on v zero x m = 0
levels_on v (suc n) x m = digit (level_on v (eqb (x % 2) 1) m) + 2 * levels_on v n (x / 2) (slot_on v (eqb (x % 2) 1) m)

-- A triplet: two write-one slots, then a write slot.
abbrev pub second_on : ℕ → Wire → Bool
second_on v m = level_on v true (slot_on v true m)

abbrev pub written_on : ℕ → Bool → Wire → Bool
written_on v d m = chosen (level_on v true m) (second_on v m) d

abbrev pub triplet_on : ℕ → Bool → Wire → Wire
triplet_on v d m = slot_on v (written_on v d m) (slot_on v true (slot_on v true m))

-- ---- a reset

-- At standard speed it reaches every probe, at overdrive those at overdrive.
abbrev pub reset_reaches : ℕ → Probe → Bool
reset_reaches v p = cond (eqb v standard) true (reaches v p)

-- A 1-Wire reset that reaches a chip ends what it was gathering or answering.
unfoldable pub emptied_by : ℕ → Probe → Chip → Chip
emptied_by v p c = cond (is_chip c && reset_reaches v p) (emptied c) c

unfoldable pub emptied_on : ℕ → Line → Chips → Chips
emptied_on v l k = record { table = paired (emptied_by v) (fellows l k) k.table; count = k.count }

-- ---- a withdrawal

-- The entries of the other probes, in their order.
unfoldable pub kept : ℕ → List Probe → List Chip → List Chip
kept i [] cs = []
kept i (p ∷ ps) [] = []
kept i (p ∷ ps) (c ∷ cs) = cond (eqb i p.id) (kept i ps cs) (c ∷ kept i ps cs)

-- The entries stand in front; the room behind them holds what it held at power-on.
unfoldable pub chips_with : List Chip → Chips
chips_with cs = record { table = cs ++ drop (length cs) no_chips.table; count = length cs }

-- The probe's entry goes with it (document 02, R-3).
unfoldable pub chips_without : ℕ → Line → Chips → Chips
chips_without i l k = chips_with (kept i (fellows l k) k.table)
