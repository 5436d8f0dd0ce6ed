-- The passes of a search (document 01, "The search").
--   Result                  what a search comes to
--   absent s, exhausted s   nothing is found: no presence; no pass left
--   last_one w, before i r   an ID is found: the last one, by the walk w; the ID i, and then what r says
--   continued c w r         what a walk w with the last conflict c comes to, if the passes after it come to r
--   searched b i c s        what at most b passes from the bridge s on come to
--   search b s              what a search that is allowed b passes comes to: IDs, passes used, completeness, the bridge afterwards
use Rattle.std.specs.Prelude.{ℕ, zero, suc, Bool, true, false, cond, List, [], ◌∷◌, Option, None, Some}
use Rattle.bridge.specs.declared.Bridge.{Bridge}
use Rattle.bridge.specs.Bridge.{command}
use Rattle.pass.specs.declared.Walk.{Walk}
use Rattle.pass.specs.Pass.{passed}

-- What a search comes to: the IDs in the order in which they were found, the passes used, whether it is complete, and the bridge.
pub record Result : Type 0 where
  pub ids : List ℕ
  pub passes : ℕ
  pub complete : Bool
  pub bridge : Bridge

-- A pass that finds no presence counts and completes the search.
abbrev pub absent : Bridge → Result
absent s = record { ids = []; passes = 1; complete = true; bridge = s }

-- No pass is left.
abbrev pub exhausted : Bridge → Result
exhausted s = record { ids = []; passes = 0; complete = false; bridge = s }

-- A pass that ended at an ID: with no conflict the search is complete; with one, what the passes after it come to stands behind.
abbrev pub last_one : Walk → Result
last_one w = record { ids = w.id ∷ []; passes = 1; complete = true; bridge = w.bridge }

abbrev pub before : ℕ → Result → Result
before i r = record { ids = i ∷ r.ids; passes = suc r.passes; complete = r.complete; bridge = r.bridge }

-- after a pass that ended with the conflict c: nothing more, or what `rest` says of the next passes
unfoldable pub continued : Option ℕ → Walk → Result → Result
continued None w rest = last_one w
continued (Some c) w rest = before w.id rest

-- At most b passes, each a 1-Wire Reset and, where PPD is 1, Write Byte F0h and 64 triplets.
unfoldable pub searched : ℕ → ℕ → Option ℕ → Bridge → Result
searched zero i c s = exhausted s
searched (suc b) i c s =
    let r = command (0xB4 ∷ []) s in
    let w = passed i c r in
    cond r.registers.status.ppd
    (continued w.conflict w (searched b w.id w.conflict w.bridge))
    (absent r)

-- With no pass allowed nothing is issued; otherwise one Device Reset comes first.
unfoldable pub search : ℕ → Bridge → Result
search zero s = exhausted s
search (suc b) s = searched (suc b) 0 None (command (0xF0 ∷ []) s)
