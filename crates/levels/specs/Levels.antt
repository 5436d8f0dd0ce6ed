-- The levels that the triplets of a search end with (document 02, R-6).
--   Pass                 a pass of a search: what it goes by, and the bridge after its 1-Wire Reset
--   WithPresence p       p began with presence
--   after_triplet k p     the bridge after the triplet of bit k of p
--   both_one s            both levels are 1, as the bridge s shows them
--   end_of p              the ID at which p ends
--   follow c l           the passes after one that ended with the last conflict c, if l are those that a conflict leads to
--   taken_from b i c s    the passes that `searched b i c s` takes, in their order
--   passes_taken b s      those of a search that is allowed b passes, from the state s on
--   ends_of l             the IDs at which those of l end that began with presence
--   NeverBothOne s       from s on, with any allowance, no triplet of a pass that began with presence ends with both levels 1
--   Levels               that this is so, and that these triplets are those of the search
use Rattle.std.specs.Prelude.{ℕ, zero, suc, ◌<◌, Bool, true, false, cond, ◌&&◌, List, [], ◌∷◌, ◌≡◌, length, Option, None, Some}
use Rattle.bridge.specs.declared.Bridge.{Bridge}
use Rattle.bridge.specs.Bridge.{command}
use Rattle.bridge.specs.Reached.{Reached}
use Rattle.enumeration.specs.Order.{Among}
use Rattle.pass.specs.Pass.{begun, walked, passed}
use Rattle.pass.specs.Passes.{search}

-- ---- a pass

-- A pass goes by the ID at which the pass before it ended and by that pass's last conflict.
pub record Pass : Type 0 where
  pub previous : ℕ
  pub conflict : Option ℕ
  pub bridge : Bridge

-- PPD is 1 after its 1-Wire Reset.
abbrev pub WithPresence : Pass → Type 0
WithPresence p = p.bridge.registers.status.ppd ≡ true

-- Write Byte F0h, and the triplets of bits 0 to k, time having passed after each.
unfoldable pub after_triplet : ℕ → Pass → Bridge
after_triplet k p = (walked (suc k) 0 p.previous p.conflict (begun (command (0xA5 ∷ 0xF0 ∷ []) p.bridge))).bridge

-- SBR is the first level of the triplet, TSB the second.
abbrev pub both_one : Bridge → Bool
both_one s = s.registers.status.sbr && s.registers.status.tsb

abbrev pub end_of : Pass → ℕ
end_of p = (passed p.previous p.conflict p.bridge).id

-- ---- the passes of a search

-- With no conflict the search is complete.
unfoldable pub follow : Option ℕ → List Pass → List Pass
follow None l = []
follow (Some k) l = l

-- Each begins with a 1-Wire Reset; one that finds no presence is the last.
unfoldable pub taken_from : ℕ → ℕ → Option ℕ → Bridge → List Pass
taken_from zero i c s = []
taken_from (suc b) i c s =
    let r = command (0xB4 ∷ []) s in
    let w = passed i c r in
    let more = follow w.conflict (taken_from b w.id w.conflict w.bridge) in
    record { previous = i; conflict = c; bridge = r } ∷ cond r.registers.status.ppd more []

-- With no pass allowed nothing is issued; otherwise one Device Reset comes first.
unfoldable pub passes_taken : ℕ → Bridge → List Pass
passes_taken zero s = []
passes_taken (suc b) s = taken_from (suc b) 0 None (command (0xF0 ∷ []) s)

unfoldable pub ends_of : List Pass → List ℕ
ends_of [] = []
ends_of (p ∷ l) = cond p.bridge.registers.status.ppd (end_of p ∷ ends_of l) (ends_of l)

-- ---- the statement

-- Whatever the allowance b: each pass p of the search that began with presence, and each of its 64 triplets.
abbrev pub NeverBothOne : Bridge → Type 0
NeverBothOne s = (b : ℕ) (p : Pass) → Among p (passes_taken b s) → WithPresence p → (k : ℕ) → k < 64 → both_one (after_triplet k p) ≡ false

pub record Levels : Type 0 where
  -- From every state that calls reach: no pass that began with presence meets a triplet with both levels 1, so number 10 has no case.
  pub never : (s : Bridge) → Reached s → NeverBothOne s
  -- The triplets are those of the pass: the last one leaves the bridge that the pass leaves.
  pub whole : (p : Pass) → after_triplet 63 p ≡ (passed p.previous p.conflict p.bridge).bridge
  -- The passes are those of the search: as many as it says that it used, and those that began with presence end at the IDs that it lists.
  pub used : (b : ℕ) (s : Bridge) → length (passes_taken b s) ≡ (search b s).passes
  pub ends : (b : ℕ) (s : Bridge) → ends_of (passes_taken b s) ≡ (search b s).ids
