-- Taking a probe off the line (document 02, R-3).
--   others i ps           those of the probes ps that have another ID than i
--   line_with ps           the line on which the probes ps are fitted
--   without i l           the line l without the probe of the ID i
--   withdraw_number x l    the number that withdrawing the ID of the bytes x gives
--   after_withdraw x l     the line after that
--   number_returned r      the number of a refusal in the table
--   number_in a            the number that an answer stands for: 0 if it is a line
use Rattle.std.specs.Prelude.{ℕ, cond, List, [], ◌∷◌, ◌++◌, eqb, length, drop, Result, Ok, Err}
use Rattle.identity.specs.Identity.{number_of}
use Rattle.probe.specs.declared.Probe.{Probe}
use Rattle.line.specs.declared.Line.{Line}
use Rattle.line.specs.Line.{fitted, bare, is_fitted}
use Rattle.withdrawal.specs.declared.Refusal.{Refusal}
use Rattle.withdrawal.specs.declared.Refusal.TheVariants.{NotFitted}

-- The others stay as they are, condition and mark included, and in the order in which they came.
unfoldable pub others : ℕ → List Probe → List Probe
others i [] = []
others i (p ∷ ps) = cond (eqb i p.id) (others i ps) (p ∷ others i ps)

-- The probes stand in front. The room behind them is free, and holds what it held at power-on.
unfoldable pub line_with : List Probe → Line
line_with ps = record { probes = ps ++ drop (length ps) bare.probes; count = length ps }

-- The probe goes at once, whatever it was doing.
unfoldable pub without : ℕ → Line → Line
without i l = line_with (others i (fitted l))

-- 20 if the ID is not fitted; nothing else is refused.
unfoldable pub withdraw_number : List ℕ → Line → ℕ
withdraw_number x l = cond (is_fitted (number_of x) l) 0 20

-- A refused withdrawal leaves the line as it was.
unfoldable pub after_withdraw : List ℕ → Line → Line
after_withdraw x l = cond (eqb (withdraw_number x l) 0) (without (number_of x) l) l

-- ---- refusals

abbrev pub number_returned : Refusal → ℕ
number_returned NotFitted = 20

abbrev pub number_in : Result Line Refusal → ℕ
number_in (Ok m) = 0
number_in (Err r) = number_returned r
