-- One pass of the passes that are allowed, by how it ends.
--   next i c b       the pass that `searched` takes next
--   searched_absent, searched_next   no presence; an ID and what comes after it
--   searched_last, searched_more     that ID is the last one; or the next pass begins with a conflict
use mathlib.Core.Path.{◌≡◌, ap, ◌∙◌}
use mathlib.Core.Bool.{Bool, true, false, cond}
use mathlib.Core.List.{[], ◌∷◌}
use Prim.Native.Nat.{ℕ, suc}
use Rattle.std.specs.Prelude.{Option, None, Some}
use Rattle.bridge.specs.declared.Bridge.{Bridge}
use Rattle.bridge.specs.Bridge.{command}
use Rattle.pass.specs.declared.Walk.{Walk}
use Rattle.pass.specs.Pass.{passed}
use Rattle.pass.specs.Passes.{Result, absent, last_one, before, continued, searched}

-- the pass that `searched` takes next
abbrev pub next : ℕ → Option ℕ → Bridge → Walk
next i c b = passed i c (command (0xB4 ∷ []) b)

-- what a pass comes to, by presence
abbrev met : (ppd : Bool) (m i : ℕ) → Option ℕ → Bridge → Result
met ppd m i c b =
    let w = next i c b in
    cond ppd (continued w.conflict w (searched m w.id w.conflict w.bridge)) (absent (command (0xB4 ∷ []) b))

module _ (m i : ℕ) (c : Option ℕ) (b : Bridge) where
  pub searched_absent : (command (0xB4 ∷ []) b).registers.status.ppd ≡ false → searched (suc m) i c b ≡ absent (command (0xB4 ∷ []) b)
  unfolding searched
  searched_absent p = ap (λ (x : Bool). met x m i c b) p

  pub searched_next : (q : Option ℕ) → (command (0xB4 ∷ []) b).registers.status.ppd ≡ true → (next i c b).conflict ≡ q → searched (suc m) i c b ≡ continued q (next i c b) (searched m (next i c b).id q (next i c b).bridge)
  unfolding searched
  searched_next q p e =
      ap (λ (x : Bool). met x m i c b) p
      ∙ ap (λ (v : Option ℕ). continued v (next i c b) (searched m (next i c b).id v (next i c b).bridge)) e

  pub searched_last : (command (0xB4 ∷ []) b).registers.status.ppd ≡ true → (next i c b).conflict ≡ None → searched (suc m) i c b ≡ last_one (next i c b)
  unfolding continued
  searched_last p e = searched_next None p e

  pub searched_more : (q : ℕ) → (command (0xB4 ∷ []) b).registers.status.ppd ≡ true → (next i c b).conflict ≡ Some q → searched (suc m) i c b ≡ before (next i c b).id (searched m (next i c b).id (Some q) (next i c b).bridge)
  unfolding continued
  searched_more q p e = searched_next (Some q) p e
