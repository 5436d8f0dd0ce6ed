-- Forming and reading one after the other (demand 2; document 01, "Packets").
--   number_of e, place_of e    the number and the place of a refusal
--   number_in r, place_in r    those of a call's result, 0 where it is not refused
--   refused_by n        the refusal of forming that has the number n
--   read_back q d       what reading gives of the packet that forming q in the buffer d gives
--   again_number p d    the number that forming the parts of the packet p in the buffer d gives
--   again_place p       its place
--   formed_again p d    the buffer afterwards
use Rattle.std.specs.Prelude.{ℕ, cond, List, eqb, leb, length, Result, Ok, Err}
use Rattle.forming.specs.declared.Refusal as forming
use Rattle.forming.specs.declared.Refusal.TheVariants.{Limits, Buffer}
use Rattle.forming.specs.Buffer.{over}
use Rattle.packet.specs.Request.{Request}
use Rattle.forming.specs.Forming as forming_specs
use Rattle.forming.specs.Forming.{form_number}
use Rattle.reading.specs.declared.Parts.{Parts}
use Rattle.reading.specs.declared.Refusal as reading
use Rattle.reading.specs.Reading as reading_specs
use Rattle.reading.specs.Reading.{reading_of, reading_number, reading_place, parts_of}
use Rattle.roundtrip.specs.declared.Refusal.{Refusal}
use Rattle.roundtrip.specs.declared.Refusal.TheVariants.{Forming, Reading}

abbrev pub number_of : Refusal → ℕ
number_of (Forming e) = forming_specs.number_of e
number_of (Reading e) = reading_specs.number_of e

-- 11 and 12 have no place, and 0 stands for it.
abbrev pub place_of : Refusal → ℕ
place_of (Forming e) = 0
place_of (Reading e) = reading_specs.place_of e

abbrev pub number_in : {T : Type 0} → Result T Refusal → ℕ
number_in (Ok x) = 0
number_in (Err e) = number_of e

abbrev pub place_in : {T : Type 0} → Result T Refusal → ℕ
place_in (Ok x) = 0
place_in (Err e) = place_of e

abbrev pub refused_by : ℕ → forming.Refusal
refused_by n = cond (eqb n 11) Limits Buffer

-- Reading a packet just formed gives the parts of the request that made it, the data as start and length; a refused request is refused
-- as forming refused it. That these parts of that packet stand for the very request is the law `request_back`.
unfoldable pub read_back : Request → List ℕ → Result Parts Refusal
read_back q d = cond (eqb (form_number q d) 0) (Ok (parts_of q)) (Err (Forming (refused_by (form_number q d))))

-- A packet that is not accepted keeps its number; one that is needs a buffer as long as itself.
unfoldable pub again_for : Result Parts reading.Refusal → ℕ → ℕ → ℕ
again_for (Ok x) wanted room = cond (leb wanted room) 0 12
again_for (Err e) wanted room = reading_number (Err e)

unfoldable pub again_number : List ℕ → List ℕ → ℕ
again_number p d = again_for (reading_of p) (length p) (length d)

-- It keeps its place too (document 02, R-1); 0 and 12 have none, and 0 stands for it.
unfoldable pub again_place : List ℕ → ℕ
again_place p = reading_place (reading_of p)

-- Forming the parts of an accepted packet, in a buffer long enough, gives its bytes; the bytes behind stay. Otherwise no byte changes.
unfoldable pub again_in : Result Parts reading.Refusal → List ℕ → List ℕ → List ℕ
again_in (Ok x) p d = cond (leb (length p) (length d)) (over p d) d
again_in (Err e) p d = d

unfoldable pub formed_again : List ℕ → List ℕ → List ℕ
formed_again p d = again_in (reading_of p) p d
