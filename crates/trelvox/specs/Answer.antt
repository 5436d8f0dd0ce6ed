-- An answer of the reader as C gets it (document 02, R-1).
--   answer_of r       its number and its place as one number
--   numbers_of r d    the five numbers lent for the parts after the answer r, where they were d before
use Rattle.std.specs.Prelude.{ℕ, ◌+◌, ◌*◌, List, Result, Ok, Err}
use Rattle.reading.specs.declared.Parts.{Parts}
use Rattle.reading.specs.declared.Refusal.{Refusal}
use Rattle.reading.specs.Reading.{reading_number, reading_place, reading_values}

-- The number is the low byte, and the place stands above it: a refused call changes nothing that was lent, so both are returned.
abbrev pub answer_of : Result Parts Refusal → ℕ
answer_of r = reading_number r + reading_place r * 256

-- The parts are the values of an accepted packet.
abbrev pub numbers_of : Result Parts Refusal → List ℕ → List ℕ
numbers_of (Ok x) d = reading_values (Ok x)
numbers_of (Err e) d = d
