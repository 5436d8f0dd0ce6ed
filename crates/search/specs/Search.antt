-- The call of the search (document 01, "The search" and "Numbers returned"). What its passes come to: `search` of the crate pass.
--   search_number b d     the number that it gives for the list buffer d
--   number_of e           document 01's number of the refusal e
--   Answer                what a search tells, as numbers: what it listed, or the number of its refusal
--   answer_in r           what the result r of a call tells
--   bridge_in s r         the bridge after a call on the bridge s with the result r
--   told r               what a search that is done and came to r hands back
--   listed r             the answer of a search that came to r
--   answer_of b d s       the answer for the list buffer d
--   answer_number a       document 01's number of the answer a
--   answer_values a       its values: the number listed, the passes used, 1 or 0 for complete
--   bytes_from n i        the low n bytes of the number i
--   list_of ids           the bytes of the IDs `ids`, eight each
--   written ids d        the list buffer d with the IDs `ids` at its front
--   buffer_of b d s       the list buffer afterwards
--   bridge_of b d s       the bridge afterwards
use Rattle.std.specs.Prelude.{ℕ, zero, suc, ◌*◌, ◌/◌, ◌%◌, min, Bool, cond, List, [], ◌∷◌, ◌++◌, eqb, ltb, length, drop, Result, Ok, Err}
use Rattle.probe.specs.Probe.{digit}
use Rattle.bridge.specs.declared.Bridge.{Bridge}
use Rattle.pass.specs.Passes.{Result as Found, search}
use Rattle.search.specs.declared.Refusal.{Refusal}
use Rattle.search.specs.declared.Refusal.TheVariants.{Short}
use Rattle.search.specs.declared.Searched.{Searched}

-- Refused with 9 exactly if the buffer is shorter than 8 × the smaller of b and 64 bytes, and with no other number (document 02, R-6).
unfoldable pub search_number : ℕ → List ℕ → ℕ
search_number b d = cond (ltb (length d) (8 * min b 64)) 9 0

abbrev pub number_of : Refusal → ℕ
number_of Short = 9

-- A search that is done tells how many IDs it listed, how many passes it used, and whether it is complete.
pub data Answer : Type 0 where
  Listed : ℕ → ℕ → Bool → Answer
  Refused : ℕ → Answer

abbrev pub answer_in : Result Searched Refusal → Answer
answer_in (Ok s) = Listed s.count s.passes s.complete
answer_in (Err e) = Refused (number_of e)

-- A refused search leaves the bridge as it was.
abbrev pub bridge_in : Bridge → Result Searched Refusal → Bridge
bridge_in s (Ok t) = t.bridge
bridge_in s (Err e) = s

abbrev pub told : Found → Searched
told r = record { count = length r.ids; passes = r.passes; complete = r.complete; bridge = r.bridge }

abbrev pub listed : Found → Answer
listed r = Listed (length r.ids) r.passes r.complete

unfoldable pub answer_of : ℕ → List ℕ → Bridge → Answer
answer_of b d s = cond (eqb (search_number b d) 0) (listed (search b s)) (Refused (search_number b d))

-- What an answer means. A search that was done has the number 0.
abbrev pub answer_number : Answer → ℕ
answer_number (Listed count passes complete) = 0
answer_number (Refused number) = number

-- The number listed, the number of passes used and whether it is complete, as 1 or 0; a refusal returns its number alone.
abbrev pub answer_values : Answer → List ℕ
answer_values (Listed count passes complete) = count ∷ passes ∷ digit complete ∷ []
answer_values (Refused number) = []

-- The eight bytes of an ID, family code first.
unfoldable pub bytes_from : ℕ → ℕ → List ℕ
bytes_from zero i = []
bytes_from (suc n) i = i % 256 ∷ bytes_from n (i / 256)

unfoldable pub list_of : List ℕ → List ℕ
list_of [] = []
list_of (i ∷ is) = bytes_from 8 i ++ list_of is

-- IDs lie at the front of the buffer; bytes behind them stay.
abbrev pub written : List ℕ → List ℕ → List ℕ
written ids d = list_of ids ++ drop (length (list_of ids)) d

-- A refused search changes no byte.
unfoldable pub buffer_of : ℕ → List ℕ → Bridge → List ℕ
buffer_of b d s = cond (eqb (search_number b d) 0) (written (search b s).ids d) d

-- The state afterwards is that of exactly these commands; a refused search leaves it as it was.
unfoldable pub bridge_of : ℕ → List ℕ → Bridge → Bridge
bridge_of b d s = cond (eqb (search_number b d) 0) (search b s).bridge s
