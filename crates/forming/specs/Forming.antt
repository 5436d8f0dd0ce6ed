-- Forming packets (document 01, "Packets" and "Numbers returned").
--   good_address a, good_count n    the address, and L or R, are within their limits
--   in_limits q        address and counts of the request q are
--   number_of x        the number of a refusal; number_in r, that of a call's result, 0 where it is not refused
--   number_for g w r   the number for a request within its limits or not, where w bytes are wanted and the buffer has r
--   form_number q d    the number that forming q in the buffer d gives
--   formed q d        the buffer afterwards
use Rattle.std.specs.Prelude.{ℕ, Bool, cond, ◌&&◌, List, eqb, leb, length, Result, Ok, Err}
use Rattle.packet.specs.Request.{Request, write, read, write_read, packet_of}
use Rattle.forming.specs.declared.Refusal.{Refusal}
use Rattle.forming.specs.declared.Refusal.TheVariants.{Limits, Buffer}
use Rattle.forming.specs.Buffer.{over}

-- An address is at most 127.
abbrev pub good_address : ℕ → Bool
good_address a = leb a 127

-- L and R go from 1 to 255.
abbrev pub good_count : ℕ → Bool
good_count n = leb 1 n && leb n 255

unfoldable pub in_limits : Request → Bool
in_limits (write a d) = good_address a && good_count (length d)
in_limits (read a r) = good_address a && good_count r
in_limits (write_read a d r) = good_address a && good_count (length d) && good_count r

abbrev pub number_of : Refusal → ℕ
number_of Limits = 11
number_of Buffer = 12

abbrev pub number_in : {T : Type 0} → Result T Refusal → ℕ
number_in (Ok x) = 0
number_in (Err why) = number_of why

-- 11 if the address is above 127 or a count is not 1 to 255, then 12 if the buffer is too short, else 0.
abbrev pub number_for : Bool → ℕ → ℕ → ℕ
number_for good wanted room = cond good (cond (leb wanted room) 0 12) 11

unfoldable pub form_number : Request → List ℕ → ℕ
form_number q d = number_for (in_limits q) (length (packet_of q)) (length d)

-- Bytes behind the packet stay; a refused call changes no byte.
unfoldable pub formed : Request → List ℕ → List ℕ
formed q d = cond (eqb (form_number q d) 0) (over (packet_of q) d) d
