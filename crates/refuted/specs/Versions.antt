-- Wrong versions (document 01, "Slips this trade knows" and "How tight the statements are").
--   Finding              what the passes of a search come to, allowed so many, from a state
--   call_of find          the search whose passes come to `find`: refused with 9 where the list buffer is too short, else listed
--   always_refuses f      the search that refuses whatever it is asked, with the number that f gives
--   fixed_list l          the search that, allowed b passes, lists the IDs l b on any line
--   first_pass_only        the search that moves the line in its first pass alone; the rest of its answer is right
--   passes_of f           the search that tells of f b passes when it is allowed b
--   passes_as_listed       the search that tells of as many passes as it lists IDs
--   sorted_as_numbers      the search that lists IDs by their size as numbers
--   search_by note        the search with another rule of what is noted at a bit
--   notes_one             the search that notes a conflict where 1 was taken too
--   starts_again          the search that takes one pass more after the last, where it is allowed
--   clears_rst s          a finished 1-Wire Reset that clears RST
--   zero_after_ones        the bit of a triplet, 0 after levels 1,1
--   triplet_by choose     the triplet with another rule of its bit
--   uninverted q         the packet with its CRC-16 as the register has it
use Rattle.std.specs.Prelude.{ℕ, zero, suc, ◌*◌, ◌/◌, ◌%◌, min, Bool, true, false, cond, ◌&&◌, List, [], ◌∷◌, ◌++◌, ◌≡◌, leb, ltb, length, take, Option, None, Some}
use Rattle.checksum.specs.Register.{crc16_of}
use Rattle.line.specs.Line.{level, slot, present, after_reset}
use Rattle.bridge.specs.declared.Bridge.{Bridge}
use Rattle.bridge.specs.Bridge.{speed_of, command, finished, with_levels}
use Rattle.pass.specs.declared.Walk.{Walk}
use Rattle.pass.specs.Pass.{direction, triplet_byte, took_triplet, begun, passed}
use Rattle.pass.specs.Passes.{Result, absent, exhausted, continued, search}
use Rattle.search.specs.Search.Answer.{Refused}
use Rattle.search.specs.Search.{listed, written}
use Rattle.packet.specs.Request.{Request, body_of}
use Rattle.demand.specs.Demand.{Outcome, Search, ids_at}

-- ---- searches

abbrev pub Finding : Type 0
Finding = ℕ → Bridge → Result

-- What the call makes of a finding, as the library's does: the bound of the list buffer, the list at its front, the bytes behind it.
unfoldable pub outcome_with : Finding → Bridge → ℕ → List ℕ → Outcome
outcome_with find s b d =
    let r = find b s in
    cond (ltb (length d) (8 * min b 64)) (record { answer = Refused 9; bridge = s; list = d })
    (record { answer = listed r; bridge = r.bridge; list = written r.ids d })

abbrev pub call_of : Finding → Search
call_of find s b d o = o ≡ outcome_with find s b d

-- A search that always refuses.
abbrev pub always_refuses : (Bridge → ℕ → List ℕ → ℕ) → Search
always_refuses f s b d o = o ≡ record { answer = Refused (f s b d); bridge = s; list = d }

-- A fixed list.
abbrev pub fixed_list : (ℕ → List ℕ) → Finding
fixed_list l b s =
    let r = search b s in
    record { ids = l b; passes = r.passes; complete = r.complete; bridge = r.bridge }

-- A search that walks its first pass and fills in the others without moving the line.
abbrev pub first_pass_only : Finding
first_pass_only b s =
    let r = search b s in
    record { ids = r.ids; passes = r.passes; complete = r.complete; bridge = (search (min b 1) s).bridge }

-- A made-up number of passes.
abbrev pub passes_of : (ℕ → ℕ) → Finding
passes_of f b s =
    let r = search b s in
    record { ids = r.ids; passes = f b; complete = r.complete; bridge = r.bridge }

abbrev pub passes_as_listed : Finding
passes_as_listed b s =
    let r = search b s in
    record { ids = r.ids; passes = length r.ids; complete = r.complete; bridge = r.bridge }

-- Sorting IDs as numbers.
unfoldable pub inserted : ℕ → List ℕ → List ℕ
inserted i [] = i ∷ []
inserted i (j ∷ l) = cond (leb i j) (i ∷ j ∷ l) (j ∷ inserted i l)

unfoldable pub ascending : List ℕ → List ℕ
ascending [] = []
ascending (i ∷ l) = inserted i (ascending l)

abbrev pub sorted_as_numbers : Finding
sorted_as_numbers b s =
    let r = search b s in
    record { ids = take b (ascending (ids_at s)); passes = r.passes; complete = r.complete; bridge = r.bridge }

-- A search as document 01 has it, but for one rule: what is noted at a bit. With `noted` it is the search itself.
module _ (note : Bool → Bool → Bool → ℕ → Option ℕ → Option ℕ) where
  unfoldable pub tripled_by : ℕ → Option ℕ → ℕ → Walk → Walk
  tripled_by i c k w =
      let s = command (0x78 ∷ triplet_byte (direction i c k) ∷ []) w.bridge in
      let t = took_triplet k s w in
      let shown = s.registers.status in
      record { bridge = s; id = t.id; conflict = note shown.sbr shown.tsb shown.dir k w.conflict }

  unfoldable pub walked_by : ℕ → ℕ → ℕ → Option ℕ → Walk → Walk
  walked_by zero k i c w = w
  walked_by (suc n) k i c w = walked_by n (suc k) i c (tripled_by i c k w)

  unfoldable pub searched_by : ℕ → ℕ → Option ℕ → Bridge → Result
  searched_by zero i c s = exhausted s
  searched_by (suc b) i c s =
      let r = command (0xB4 ∷ []) s in
      let w = walked_by 64 0 i c (begun (command (0xA5 ∷ 0xF0 ∷ []) r)) in
      cond r.registers.status.ppd
      (continued w.conflict w (searched_by b w.id w.conflict w.bridge))
      (absent r)

  unfoldable pub search_by : Finding
  search_by zero s = exhausted s
  search_by (suc b) s = searched_by (suc b) 0 None (command (0xF0 ∷ []) s)

-- Remembering a conflict where 1 was taken.
abbrev pub any_conflict : Bool → Bool → Bool → ℕ → Option ℕ → Option ℕ
any_conflict first second taken k c = cond first c (cond second c (Some k))

abbrev pub notes_one : Finding
notes_one = search_by any_conflict

-- One pass more after the last, which starts the list again: all is right but where the search is complete with a pass to spare.
abbrev pub once_more : ℕ → Result → Result
once_more b r =
    let w = passed 0 None (command (0xB4 ∷ []) r.bridge) in
    cond (r.complete && (ltb r.passes b && ltb 0 (length r.ids)))
    (record { ids = r.ids ++ w.id ∷ []; passes = suc r.passes; complete = true; bridge = w.bridge })
    r

abbrev pub starts_again : Finding
starts_again b s = once_more b (search b s)

-- ---- bridges

-- Clearing RST at a 1-Wire reset.
abbrev pub clears_rst : Bridge → Bridge
clears_rst s =
    let r = s.registers in
    let t = r.status in
    record {
      registers = finished (record { dir = t.dir; tsb = t.tsb; sbr = t.sbr; rst = false; ppd = present (speed_of r) s.line }) r.readout r;
      line = after_reset (speed_of r) s.line;
    }

-- Writing 0 after levels 1,1.
abbrev pub zero_after_ones : Bool → Bool → Bool → Bool
zero_after_ones first second d = cond second false (cond first true d)

abbrev pub triplet_by : (Bool → Bool → Bool → Bool) → Bool → Bridge → Bridge
triplet_by choose d s =
    let r = s.registers in
    let v = speed_of r in
    let l1 = slot v true s.line in
    let l2 = slot v true l1 in
    let first = level v true s.line in
    let second = level v true l1 in
    let w = choose first second d in
    record { registers = finished (with_levels w second first r.status) r.readout r; line = slot v w l2 }

-- ---- packets

-- Sending CRC-16 uninverted.
abbrev pub uninverted : Request → List ℕ
uninverted q = body_of q ++ (crc16_of (body_of q) % 256) ∷ (crc16_of (body_of q) / 256) ∷ []
