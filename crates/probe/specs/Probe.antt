-- One probe (document 01, "The probes", and document 02, R-2).
--   deaf_new i          a newly fitted probe with the ID i
--   reaches v p        p is at the speed v, so that slots at v reach it
--   sends p            what p lets the line be in a slot that reaches it: false where it sends 0, true where it sends 1 or nothing
--   obeyed c p         p once the ROM command c is whole
--   took l p           p after a slot of level l that reaches it
--   sends_at v p        what p lets the line be in a slot at the speed v
--   took_at v l p       p after such a slot of level l
--   rests p            no slot changes p, at whatever speed
--   reset v p          p after a 1-Wire reset at the speed v
use Rattle.std.specs.Prelude.{ℕ, ◌+◌, ◌*◌, ◌/◌, Bool, true, false, cond, not, eqb, leb}
use Rattle.identity.specs.Identity.{bit_of}
use Rattle.probe.specs.declared.Slot.{Slot}
use Rattle.probe.specs.declared.Slot.TheVariants.{First, Second, Third}
use Rattle.probe.specs.declared.Condition.{Condition}
use Rattle.probe.specs.declared.Condition.TheVariants.{Deaf, Taking, Sending, Matching, Searching, Selected}
use Rattle.probe.specs.declared.Probe.{Probe}

-- A speed is a number: the configuration's bit 1WS (R-2).
abbrev pub standard : ℕ
standard = 0

abbrev pub overdrive : ℕ
overdrive = 1

-- A newly fitted probe is deaf and unmarked ("Probe identities"), and at standard speed (R-2).
abbrev pub deaf_new : ℕ → Probe
deaf_new i = record { id = i; marked = false; speed = standard; condition = Deaf }

-- The same probe in another condition, its mark as it was.
abbrev pub in_condition : Probe → Condition → Probe
in_condition p c = record { id = p.id; marked = p.marked; speed = p.speed; condition = c }

-- The same probe in another condition, its mark cleared or set.
abbrev pub with_mark : Probe → Bool → Condition → Probe
with_mark p m c = record { id = p.id; marked = m; speed = p.speed; condition = c }

-- The same probe at another speed.
abbrev pub at_speed : ℕ → Probe → Probe
at_speed v p = record { id = p.id; marked = p.marked; speed = v; condition = p.condition }

-- ---- which slots reach a probe

-- Slots reach only probes of the bridge's present speed (R-2).
unfoldable pub reaches : ℕ → Probe → Bool
reaches v p = eqb v p.speed

-- ---- what a probe sends

-- A searching probe sends the bit, then its complement, and nothing in the third slot.
unfoldable pub sends_searching : ℕ → ℕ → Slot → Bool
sends_searching i k First = bit_of i k
sends_searching i k Second = not (bit_of i k)
sends_searching i k Third = true

-- Only a probe that sends its ID or searches sends anything; a selected probe sends nothing in this build.
unfoldable pub sends_in : ℕ → Condition → Bool
sends_in i Deaf = true
sends_in i (Taking n c) = true
sends_in i (Sending k) = bit_of i k
sends_in i (Matching k f) = true
sends_in i (Searching k s) = sends_searching i k s
sends_in i Selected = true

unfoldable pub sends : Probe → Bool
sends p = sends_in p.id p.condition

-- A probe of another speed sends nothing (R-2).
unfoldable pub sends_at : ℕ → Probe → Bool
sends_at v p = cond (reaches v p) (sends p) true

-- ---- what a probe becomes

-- Resume: selected if marked, else deaf.
unfoldable pub resumed : Bool → Condition
resumed m = cond m Selected Deaf

-- Overdrive Skip ROM (R-2): it clears the mark, sets overdrive and selects.
abbrev pub overdrive_skipped : Probe → Probe
overdrive_skipped p = with_mark (at_speed overdrive p) false Selected

-- Overdrive Match ROM (R-2): it clears the mark, sets overdrive at once and then matches; a probe that differs goes to standard.
abbrev pub overdrive_matching : Probe → Probe
overdrive_matching p = with_mark (at_speed overdrive p) false (Matching 0 true)

-- The ROM commands. 33h, 55h, F0h and CCh clear the mark (of 33h and CCh document 02 says so, R-5); then the first sends the ID, the
-- second matches, a probe that differs keeping its speed, the third searches, the last selects. 3Ch and 69h are those of overdrive. A5h
-- selects the marked and any other code makes it deaf; both leave the mark.
unfoldable pub obeyed : ℕ → Probe → Probe
obeyed c p =
    cond (eqb c 0x33) (with_mark p false (Sending 0))
    (cond (eqb c 0x55) (with_mark p false (Matching 0 false))
    (cond (eqb c 0xF0) (with_mark p false (Searching 0 First))
    (cond (eqb c 0xCC) (with_mark p false Selected)
    (cond (eqb c 0x3C) (overdrive_skipped p)
    (cond (eqb c 0x69) (overdrive_matching p)
    (cond (eqb c 0xA5) (in_condition p (resumed p.marked)) (in_condition p Deaf)))))))

-- A level as a digit.
abbrev pub digit : Bool → ℕ
digit b = cond b 1 0

-- A code comes low bit first, each bit being the level: a new bit goes in at the top and moves the earlier ones down, so that after eight
-- the first is bit 0. The eighth makes the code whole.
unfoldable pub took_code : ℕ → ℕ → Bool → Probe → Probe
took_code n c l p =
    cond (leb 7 n) (obeyed (c / 2 + 128 * digit l) p) (in_condition p (Taking (n + 1) (c / 2 + 128 * digit l)))

-- Whether a level is the bit k of an ID.
abbrev pub agrees : Bool → ℕ → ℕ → Bool
agrees l i k = cond (bit_of i k) l (not l)

-- 33h: after its 64 bits it is selected. It moves on whatever the line is.
unfoldable pub took_sending : ℕ → Probe → Probe
took_sending k p = in_condition p (cond (leb 63 k) Selected (Sending (k + 1)))

-- A probe that differs is deaf, and f says whether it falls back to standard speed: by 69h it does, by 55h it keeps its speed.
abbrev pub differed : Bool → Probe → Probe
differed f p = record { id = p.id; marked = p.marked; speed = cond f standard p.speed; condition = Deaf }

-- 55h and 69h: a differing level ends it; after the last bit the probe is marked and selected.
unfoldable pub took_matching : ℕ → Bool → Bool → Probe → Probe
took_matching k f l p =
    cond (agrees l p.id k) (cond (leb 63 k) (with_mark p true Selected) (in_condition p (Matching (k + 1) f))) (differed f p)

-- F0h: two slots in which it sends, then one in which it takes the level and is deaf if that differs; after bit 63 it is marked and
-- selected.
unfoldable pub took_searching : ℕ → Slot → Bool → Probe → Probe
took_searching k First l p = in_condition p (Searching k Second)
took_searching k Second l p = in_condition p (Searching k Third)
took_searching k Third l p =
    cond (agrees l p.id k) (cond (leb 63 k) (with_mark p true Selected) (in_condition p (Searching (k + 1) First)))
    (in_condition p Deaf)

-- By the condition: one that is deaf or selected stays as it is.
unfoldable pub took_in : Condition → Bool → Probe → Probe
took_in Deaf l p = p
took_in (Taking n c) l p = took_code n c l p
took_in (Sending k) l p = took_sending k p
took_in (Matching k f) l p = took_matching k f l p
took_in (Searching k s) l p = took_searching k s l p
took_in Selected l p = p

unfoldable pub took : Bool → Probe → Probe
took l p = took_in p.condition l p

-- A probe of another speed does not move (R-2).
unfoldable pub took_at : ℕ → Bool → Probe → Probe
took_at v l p = cond (reaches v p) (took l p) p

-- No slot changes a probe that is deaf or selected.
unfoldable pub rests_in : Condition → Bool
rests_in Deaf = true
rests_in (Taking n c) = false
rests_in (Sending k) = false
rests_in (Matching k f) = false
rests_in (Searching k s) = false
rests_in Selected = true

unfoldable pub rests : Probe → Bool
rests p = rests_in p.condition

-- A 1-Wire reset puts a probe that it reaches into taking a command with no bits; the mark stays. At standard speed it reaches every
-- probe, which is then at standard speed; at overdrive it reaches those at overdrive alone (R-2).
unfoldable pub reset : ℕ → Probe → Probe
reset v p =
    cond (eqb v standard) (in_condition (at_speed standard p) (Taking 0 0))
    (cond (reaches v p) (in_condition p (Taking 0 0)) p)
