-- The line: probes on one wire (document 01, "Probe identities", "The probes" and "Numbers returned", and document 02, R-2). Slots and
-- resets come at a speed v, the bridge's.
--   bare               the line with no probe
--   fitted l           the probes on the line, in the order in which they came
--   ids_of l            their IDs
--   on_fitted f l       the line with f done to each of them
--   level v w l        what the wire carries in a slot in which the bridge writes w
--   slot v w l         the line after that slot
--   slots v n x l      the line after n slots with the low n bits of x, low bit first
--   levels v n x l     the levels of those slots as a number, the first in the low bit
--   after_reset v l     the line after a 1-Wire reset
--   present v l        some probe answers that reset
--   fit_number x l      the number that fitting the ID of the bytes x gives
--   after_fit x l       the line after that
--   number_returned r   the number of a refusal in the table
--   number_in a         the number that an answer stands for: 0 if it is a line
--   line_in l a         the line after an answer: on a refusal the line l that was there before
use Rattle.std.specs.Prelude.{ℕ, zero, suc, ◌+◌, ◌*◌, ◌/◌, ◌%◌, Bool, true, false, cond, List, [], ◌∷◌, ◌++◌, map, eqb, leb, ltb, take, drop, set, replicate, Result, Ok, Err}
use Rattle.identity.specs.declared.Refusal.{Refusal as WrongID}
use Rattle.identity.specs.declared.Refusal.TheVariants as wrong
use Rattle.identity.specs.Identity.{number_of, refusal_of}
use Rattle.probe.specs.declared.Probe.{Probe}
use Rattle.probe.specs.Probe.{standard, deaf_new, reaches, sends_at, took_at, reset, digit}
use Rattle.line.specs.declared.Line.{Line}
use Rattle.line.specs.declared.Refusal.{Refusal}
use Rattle.line.specs.declared.Refusal.TheVariants.{Full, Crc, Family, Fitted}

-- Every element passes the test; some element does.
unfoldable pub all : {A : Type 0} → (A → Bool) → List A → Bool
all f [] = true
all f (x ∷ xs) = cond (f x) (all f xs) false

unfoldable pub any : {A : Type 0} → (A → Bool) → List A → Bool
any f [] = false
any f (x ∷ xs) = cond (f x) true (any f xs)

unfoldable pub fitted : Line → List Probe
fitted l = take l.count l.probes

-- A probe's ID, and the IDs of all.
abbrev pub id_of : Probe → ℕ
id_of p = p.id

unfoldable pub ids_of : Line → List ℕ
ids_of l = map id_of (fitted l)

-- No probe is fitted; a free entry of the table is a deaf, unmarked probe of ID 0.
unfoldable pub bare : Line
bare = record { probes = replicate 64 (deaf_new 0); count = 0 }

-- Free entries stay as they are.
unfoldable pub on_fitted : (Probe → Probe) → Line → Line
on_fitted f l = record { probes = map f (fitted l) ++ drop l.count l.probes; count = l.count }

-- The level is 0 if the bridge writes 0 or any probe sends 0, else 1.
unfoldable pub level : ℕ → Bool → Line → Bool
level v w l = cond w (all (sends_at v) (fitted l)) false

-- Every probe that the slot reaches takes the level.
unfoldable pub slot : ℕ → Bool → Line → Line
slot v w l = on_fitted (took_at v (level v w l)) l

-- Several slots, in which the bridge writes the low n bits of x, low bit first.
unfoldable pub slots : ℕ → ℕ → ℕ → Line → Line
slots v zero x l = l
slots v (suc n) x l = slots v n (x / 2) (slot v (eqb (x % 2) 1) l)

-- Their levels, the first in the low bit.
unfoldable pub levels : ℕ → ℕ → ℕ → Line → ℕ
levels v zero x l = 0
levels v (suc n) x l = digit (level v (eqb (x % 2) 1) l) + 2 * levels v n (x / 2) (slot v (eqb (x % 2) 1) l)

unfoldable pub after_reset : ℕ → Line → Line
after_reset v l = on_fitted (reset v) l

-- Every fitted probe answers a reset at standard speed; presence at overdrive is that of the probes at overdrive alone (R-2).
unfoldable pub present : ℕ → Line → Bool
present v l = cond (eqb v standard) (ltb 0 l.count) (any (reaches v) (fitted l))

-- ---- fitting

-- The ID is on the line already.
unfoldable pub is_fitted : ℕ → Line → Bool
is_fitted i l = any (eqb i) (ids_of l)

-- An ID that is right by itself is refused with 4 if it is fitted already, then with 1 if 64 probes are there.
unfoldable pub place_number : ℕ → Line → ℕ
place_number i l = cond (is_fitted i l) 4 (cond (leb 64 l.count) 1 0)

-- The checks come in this order: CRC, family 00h, ID already fitted, line full.
unfoldable pub fit_number : List ℕ → Line → ℕ
fit_number x l = cond (eqb (refusal_of x) 0) (place_number (number_of x) l) (refusal_of x)

-- A new probe goes behind the others.
unfoldable pub with_probe : ℕ → Line → Line
with_probe i l = record { probes = set l.probes l.count (deaf_new i); count = l.count + 1 }

-- A refused fitting leaves the line as it was.
unfoldable pub after_fit : List ℕ → Line → Line
after_fit x l = cond (eqb (fit_number x l) 0) (with_probe (number_of x) l) l

-- ---- refusals

-- What is wrong with an ID by itself is refused as such.
abbrev pub of_identity : WrongID → Refusal
of_identity wrong.Crc = Crc
of_identity wrong.Family = Family

abbrev pub number_returned : Refusal → ℕ
number_returned Full = 1
number_returned Crc = 2
number_returned Family = 3
number_returned Fitted = 4

abbrev pub number_in : Result Line Refusal → ℕ
number_in (Ok m) = 0
number_in (Err r) = number_returned r

abbrev pub line_in : {E : Type 0} → Line → Result Line E → Line
line_in l (Ok m) = m
line_in l (Err r) = l
