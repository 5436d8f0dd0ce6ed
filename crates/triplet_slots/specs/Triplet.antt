-- A triplet on the line (document 01, "The bridge"), at the speed v, in which the direction d is asked for.
--   chosen a b d         the bit that is written after the levels a and b
--   first_level v l       the level of the first slot; second_level, of the second
--   written_bit v d l     the bit that is written in the third
--   after_triplet v d l   the line after the three
-- The same on whatever carries slots, f v w a being the level of a slot in which the bridge writes w, and g v b a what is there once the level
-- b is taken:
--   second_in f g v a, written_in f g v d a, triplet_in f g v d a
-- What lets the three slots be done in one go stands in no public contract:
--   settled v p          p rests, or the slots reach it and it is in the first slot of a search bit
--   Sends v b c p        p is settled, and lets the line be b in the first slot and c in the second
--   decided w p          p after the third slot of that bit, of level w, if it searches
use Rattle.std.specs.Prelude.{◌≡◌, ℕ, Bool, true, false, cond}
use Rattle.probe.specs.declared.Slot.{Slot}
use Rattle.probe.specs.declared.Slot.TheVariants.{First, Second, Third}
use Rattle.probe.specs.declared.Condition.{Condition}
use Rattle.probe.specs.declared.Condition.TheVariants.{Deaf, Taking, Sending, Matching, Searching, Selected}
use Rattle.probe.specs.declared.Probe.{Probe}
use Rattle.probe.specs.Probe.{reaches, sends_at, took_at, took_searching}
use Rattle.line.specs.declared.Line.{Line}
use Rattle.line.specs.Line.{level, slot}
use Rattle.byte_slots.specs.SlotBySlot.{slot_in}

-- Levels 0,0: the direction asked for; 0,1: 0; 1,0 and 1,1: 1.
abbrev pub chosen : Bool → Bool → Bool → Bool
chosen first second d = cond first true (cond second false d)

-- Two write-one slots, then a write slot.
abbrev pub first_level : ℕ → Line → Bool
first_level v l = level v true l

abbrev pub second_level : ℕ → Line → Bool
second_level v l = level v true (slot v true l)

abbrev pub written_bit : ℕ → Bool → Line → Bool
written_bit v d l = chosen (first_level v l) (second_level v l) d

abbrev pub after_triplet : ℕ → Bool → Line → Line
after_triplet v d l = slot v (written_bit v d l) (slot v true (slot v true l))

module _ {A : Type 0} (f : ℕ → Bool → A → Bool) (g : ℕ → Bool → A → A) where
  abbrev pub second_in : ℕ → A → Bool
  second_in v a = f v true (slot_in f g v true a)

  abbrev pub written_in : ℕ → Bool → A → Bool
  written_in v d a = chosen (f v true a) (second_in v a) d

  abbrev pub triplet_in : ℕ → Bool → A → A
  triplet_in v d a = slot_in f g v (written_in v d a) (slot_in f g v true (slot_in f g v true a))

-- ---- the three slots in one go

abbrev pub is_first : Slot → Bool
is_first First = true
is_first Second = false
is_first Third = false

-- r says whether the slots reach the probe.
unfoldable pub settled_in : Bool → Condition → Bool
settled_in r Deaf = true
settled_in r (Taking n c) = false
settled_in r (Sending k) = false
settled_in r (Matching k f) = false
settled_in r (Searching k s) = cond r (is_first s) false
settled_in r Selected = true

unfoldable pub settled : ℕ → Probe → Bool
settled v p = settled_in (reaches v p) p.condition

-- a settled p, which lets the line be the level b in the first of the three slots, and the level c in the second, whatever the first carries
abbrev pub Sends : ℕ → Bool → Bool → Probe → Type 0
Sends v b c p = (settled v p ≡ true) × (b ≡ sends_at v p) × ((a : Bool) → c ≡ sends_at v (took_at v a p))

unfoldable pub decided_in : Condition → Bool → Probe → Probe
decided_in Deaf w p = p
decided_in (Taking n c) w p = p
decided_in (Sending k) w p = p
decided_in (Matching k f) w p = p
decided_in (Searching k s) w p = took_searching k Third w p
decided_in Selected w p = p

unfoldable pub decided : Bool → Probe → Probe
decided w p = decided_in p.condition w p
