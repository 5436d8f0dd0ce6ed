-- The entries that a withdrawal leaves.
--   laid_start      none is gone through yet
--   laid_passed, laid_kept     the chips that are laid, with one entry more gone through: that of the probe withdrawn; another
use mathlib.Core.Path.{◌≡◌, refl, sym, ap, ap₂, ◌∙◌}
use mathlib.Core.Bool.{Bool, true, false, cond}
use mathlib.Core.List.{List, [], ◌∷◌, ◌++◌}
use Prim.Native.Nat.{ℕ, zero, suc, ◌+◌, ◌<◌, ◌≤◌}
use native.Mathlib.Numerals.{add-one}
use native.Mathlib.Omega.{arith}
use lib.Dec.{eqb}
use lib.ListN.{length, get_or, take, drop, set, replicate, length-append, length-replicate}
use lib.Seq.{drop-cons, set-append_seam, append_snoc}
use Rattle.probe.specs.declared.Probe.{Probe}
use Rattle.chip.specs.declared.Chip.{Chip}
use Rattle.chip.specs.Chip.{none}
use Rattle.wire.specs.declared.Chips.{Chips}
use Rattle.wire.specs.Wire.{no_chips, kept, chips_with}

pub laid_start : {k : Chips} (i : ℕ) (cs : List Chip) → k ≡ no_chips → k ≡ chips_with (kept i [] cs)
unfolding no_chips kept chips_with
laid_start i cs e = e

module _ (i : ℕ) where
  kept_length : (j : ℕ) (ps : List Probe) (cs : List Chip) → length (kept i (take j ps) cs) ≤ j
  unfolding kept
  kept_length zero ps cs = omega arith
  kept_length (suc j) [] cs = omega arith
  kept_length (suc j) (p ∷ ps) [] = omega arith
  kept_length (suc j) (p ∷ ps) (c ∷ cs) = go (eqb i p.id) (kept_length j ps cs)
    where
      go : (t : Bool) → length (kept i (take j ps) cs) ≤ j → length (cond t (kept i (take j ps) cs) (c ∷ kept i (take j ps) cs)) ≤ suc j
      go true h = omega arith
      go false h = omega arith

  passed : (ps : List Probe) (cs : List Chip) (j : ℕ) (d : Probe) → j < length ps → eqb i (get_or ps j d).id ≡ true
      → kept i (take (suc j) ps) cs ≡ kept i (take j ps) cs
  unfolding kept
  passed [] cs j d h e = absurd (omega arith)
  passed (p ∷ ps) [] zero d h e = refl
  passed (p ∷ ps) [] (suc j) d h e = refl
  passed (p ∷ ps) (c ∷ cs) zero d h e = ap (λ (t : Bool). cond t [] (c ∷ [])) e
  passed (p ∷ ps) (c ∷ cs) (suc j) d h e = ap (λ (r : List Chip). cond (eqb i p.id) r (c ∷ r)) (passed ps cs j d (omega arith) e)

  stays : (ps : List Probe) (cs : List Chip) (j : ℕ) (d : Probe) (b : Chip) → j < length ps → j < length cs
      → eqb i (get_or ps j d).id ≡ false
      → kept i (take (suc j) ps) cs ≡ kept i (take j ps) cs ++ get_or cs j b ∷ []
  unfolding kept
  stays [] cs j d b h k e = absurd (omega arith)
  stays (p ∷ ps) [] j d b h k e = absurd (omega arith)
  stays (p ∷ ps) (c ∷ cs) zero d b h k e = ap (λ (t : Bool). cond t [] (c ∷ [])) e
  stays (p ∷ ps) (c ∷ cs) (suc j) d b h k e =
      ap (λ (r : List Chip). cond (eqb i p.id) r (c ∷ r)) (stays ps cs j d b (omega arith) (omega arith) e)
      ∙ go (eqb i p.id)
    where
      rest : List Chip
      rest = kept i (take j ps) cs

      go : (t : Bool)
          → cond t (rest ++ get_or cs j b ∷ []) (c ∷ (rest ++ get_or cs j b ∷ [])) ≡ cond t rest (c ∷ rest) ++ get_or cs j b ∷ []
      go true = refl
      go false = refl

-- another entry goes behind those that are laid
laid_more : (cs : List Chip) (c : Chip) → length cs < 64
    → ◌≡◌ {A = Chips} (record { table = set (chips_with cs).table (length cs) c; count = length cs + 1 }) (chips_with (cs ++ c ∷ []))
unfolding chips_with no_chips
laid_more cs c h =
    let free = replicate 64 none in
    let n : length (cs ++ c ∷ []) ≡ suc (length cs) = omega (arith, length-append cs (c ∷ [])) in
    ap₂ {C = Chips} (λ (t : List Chip) (k : ℕ). record { table = t; count = k })
    (ap (λ (t : List Chip). set (cs ++ t) (length cs) c) (drop-cons free (length cs) c (omega (arith, length-replicate 64 none)))
    ∙ set-append_seam cs (get_or free (length cs) c) (drop (suc (length cs)) free) c
    ∙ sym (append_snoc cs c (drop (suc (length cs)) free))
    ∙ ap (λ (k : ℕ). (cs ++ c ∷ []) ++ drop k free) (sym n))
    (omega (arith, length-append cs (c ∷ [])))

module _ (i : ℕ) (ps : List Probe) (cs : List Chip) (j : ℕ) (d : Probe) (b : Chip) (m : Chips)
    (h : j < length ps) (k : j < length cs) (g : length cs ≤ 64) (e : m ≡ chips_with (kept i (take j ps) cs)) where
  pub laid_passed : eqb i (get_or ps j d).id ≡ true → m ≡ chips_with (kept i (take (j + 1) ps) cs)
  laid_passed t = rw add-one (e ∙ ap chips_with (sym (passed i ps cs j d h t)))

  pub laid_kept : eqb i (get_or ps j d).id ≡ false → (to n : ℕ) → to ≡ m.count → n ≡ to + 1
      → ◌≡◌ {A = Chips} (record { table = set m.table to (get_or cs j b); count = n }) (chips_with (kept i (take (j + 1) ps) cs))
  unfolding chips_with
  laid_kept t to n last more =
      let c = get_or cs j b in
      let all : kept i (take j ps) cs ++ c ∷ [] ≡ kept i (take (j + 1) ps) cs = rw add-one (sym (stays i ps cs j d b h k t)) in
      let laid = kept i (take j ps) cs in
      ap₂ {C = Chips} (λ (x y : ℕ). record { table = set m.table x c; count = y }) last (more ∙ ap (λ (x : ℕ). x + 1) last)
      ∙ ap {B = Chips} (λ (o : Chips). record { table = set o.table o.count c; count = o.count + 1 }) e
      ∙ laid_more laid c (omega (arith, kept_length i j ps cs))
      ∙ ap chips_with all
