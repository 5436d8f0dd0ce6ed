-- What lets eight slots be done in one go. None of it stands in the contract of a public function.
--   foreseen v n p   p rests, or the next n slots at the speed v all reach it and what it sends in them does not depend on their levels
--   ahead n p        what a foreseen p lets the line be in those slots, the first in the low bit
--   meet n x ps      the levels where the bridge writes the low n bits of x, all of ps being foreseen
--   took_bits n x p   p after n slots that reach it, whose levels are the low n bits of x, low bit first
use Rattle.std.specs.Prelude.{ℕ, zero, suc, ◌+◌, ◌-◌, ◌/◌, ◌%◌, ◌^◌, Bool, true, false, cond, List, [], ◌∷◌, eqb, leb}
use Rattle.std.specs.Int.Bits.{bit_and}
use Rattle.probe.specs.declared.Condition.{Condition}
use Rattle.probe.specs.declared.Condition.TheVariants.{Deaf, Taking, Sending, Matching, Searching, Selected}
use Rattle.probe.specs.declared.Probe.{Probe}
use Rattle.probe.specs.Probe.{reaches, took}

-- A probe that takes a command may send in the slot after the command's eighth bit, or be at another speed in it; one that sends its ID
-- has 64 bits. r says whether the slots reach the probe.
unfoldable pub foreseen_in : Bool → ℕ → Condition → Bool
foreseen_in r n Deaf = true
foreseen_in r n (Taking k c) = cond (leb (k + n) 8) r false
foreseen_in r n (Sending k) = cond (leb (k + n) 64) r false
foreseen_in r n (Matching k f) = r
foreseen_in r n (Searching k s) = false
foreseen_in r n Selected = true

unfoldable pub foreseen : ℕ → ℕ → Probe → Bool
foreseen v zero p = true
foreseen v (suc n) p = foreseen_in (reaches v p) (suc n) p.condition

unfoldable pub ahead_in : ℕ → ℕ → Condition → ℕ
ahead_in n i Deaf = 2 ^ n - 1
ahead_in n i (Taking k c) = 2 ^ n - 1
ahead_in n i (Sending k) = i / 2 ^ k % 2 ^ n
ahead_in n i (Matching k f) = 2 ^ n - 1
ahead_in n i (Searching k s) = 2 ^ n - 1
ahead_in n i Selected = 2 ^ n - 1

unfoldable pub ahead : ℕ → Probe → ℕ
ahead n p = ahead_in n p.id p.condition

unfoldable pub meet : ℕ → ℕ → List Probe → ℕ
meet n x [] = x
meet n x (p ∷ ps) = meet n (bit_and x (ahead n p)) ps

unfoldable pub took_bits : ℕ → ℕ → Probe → Probe
took_bits zero x p = p
took_bits (suc n) x p = took_bits n (x / 2) (took (eqb (x % 2) 1) p)
