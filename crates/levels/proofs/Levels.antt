-- No triplet of a pass that began with presence ends with both levels 1.
--   used_from, ends_from   the passes from a bridge on are those that `searched` takes
--   there                  presence means that an ID is there
--   begins                 a pass begins on a line with the IDs that were there when the search began, nothing pending
--   never_both_one         the statement
--   levels                 the statement, and that its triplets are those of the search
use Prim.Native.Nat.{ℕ, zero, suc, ◌<◌}
use mathlib.Core.Bool.{Bool, true, false, cond, false≢true}
use mathlib.Core.List.Memᴰ
use mathlib.Core.List.{List, [], ◌∷◌}
use mathlib.Core.Logic.{⊎_elim}
use mathlib.Core.Path.{◌≡◌, refl, sym, ap, ◌∙◌}
use native.Mathlib.Omega.{arith}
use lib.Dec.{ltb, lit<}
use lib.ListN.{length, length-map}
use Rattle.std.specs.Prelude.{Option, None, Some}
use Rattle.line.specs.Line.{id_of}
use Rattle.line.specs.declared.Line.{Line}
use Rattle.probe.specs.declared.Probe.{Probe}
use Rattle.bridge.specs.declared.Bridge.{Bridge}
use Rattle.bridge.specs.Bridge.{command}
use Rattle.bridge.specs.Reached.{Reached}
use Rattle.enumeration.specs.Order.{Among}
use Rattle.enumeration.proofs.Tree.{has}
use Rattle.enumeration.proofs.Leaves.{has_some}
use Rattle.pass.specs.declared.Walk.{Walk}
use Rattle.pass.specs.Pass.{passed}
use Rattle.pass.specs.Passes.{Result, absent, continued, searched, search}
use Rattle.pass.proofs.Next.{next as walk}
use Rattle.searching.proofs.Words.{Idle}
use Rattle.searching.proofs.Words.Rest.{free}
use Rattle.searching.proofs.Pass.{walked_heard, reset_ppd, searching_under, passed_on, under_idle}
use Rattle.searching.proofs.Facts.{started}
use Rattle.demand.proofs.Reached.{reached_kept}
use Rattle.levels.specs.Levels.{Pass, WithPresence, after_triplet, both_one, end_of, follow, taken_from, passes_taken, ends_of, NeverBothOne, Levels}

-- ---- the passes of a search

-- the pass that begins next
abbrev next : ℕ → Option ℕ → Bridge → Pass
next i c s = record { previous = i; conflict = c; bridge = command (0xB4 ∷ []) s }

used_from : (b i : ℕ) (c : Option ℕ) (s : Bridge) → length (taken_from b i c s) ≡ (searched b i c s).passes
unfolding taken_from searched follow continued
used_from zero i c s = refl
used_from (suc b) i c s =
    let w = walk i c s in
    go (next i c s).bridge.registers.status.ppd w.conflict (taken_from b w.id w.conflict w.bridge)
    (searched b w.id w.conflict w.bridge) (used_from b w.id w.conflict w.bridge)
  where
    go : (t : Bool) (q : Option ℕ) (l : List Pass) (r : Result) → length l ≡ r.passes → length (next i c s ∷ cond t (follow q l) []) ≡ (cond t (continued q (walk i c s) r) (absent (command (0xB4 ∷ []) s))).passes
    go true None l r e = refl
    go true (Some k) l r e = ap suc e
    go false q l r e = refl

ends_from : (b i : ℕ) (c : Option ℕ) (s : Bridge) → ends_of (taken_from b i c s) ≡ (searched b i c s).ids
unfolding taken_from searched follow continued ends_of
ends_from zero i c s = refl
ends_from (suc b) i c s =
    let w = walk i c s in
    go (next i c s).bridge.registers.status.ppd refl w.conflict (taken_from b w.id w.conflict w.bridge)
    (searched b w.id w.conflict w.bridge) (ends_from b w.id w.conflict w.bridge)
  where
    go : (t : Bool) → (next i c s).bridge.registers.status.ppd ≡ t → (q : Option ℕ) (l : List Pass) (r : Result) → ends_of l ≡ r.ids → ends_of (next i c s ∷ cond t (follow q l) []) ≡ (cond t (continued q (walk i c s) r) (absent (command (0xB4 ∷ []) s))).ids
    go true p None l r e = ap (λ (t : Bool). cond {A = List ℕ} t (end_of (next i c s) ∷ []) []) p
    go true p (Some k) l r e =
        ap (λ (t : Bool). cond {A = List ℕ} t (end_of (next i c s) ∷ ends_of l) (ends_of l)) p
        ∙ ap (λ (x : List ℕ). end_of (next i c s) ∷ x) e
    go false p q l r e = ap (λ (t : Bool). cond {A = List ℕ} t (end_of (next i c s) ∷ []) []) p

-- ---- on a line with the IDs `ids`

module _ (ids : List ℕ) (entries : List Probe) where
  -- presence means that an ID is there
  there : {s : Bridge} → Idle ids (free entries) s → (command (0xB4 ∷ []) s).registers.status.ppd ≡ true → has ids 0 0 ≡ true
  there {s} t p =
      go ids
      (ap (ltb 0)
      (ap length (sym t.holds.same) ∙ length-map t.holds.probes id_of ∙ sym (ap (λ (l : Line). l.count) t.holds.line))
      ∙ sym (reset_ppd s t.idle t.speed) ∙ p)
    where
      go : (l : List ℕ) → ltb 0 (length l) ≡ true → has l 0 0 ≡ true
      go [] e = absurd (false≢true e)
      go (i ∷ l) e = has_some i l

  -- where a pass begins
  pub record Begins (p : Pass) : Type 0 where
    pub from : Bridge
    pub idle : Idle ids (free entries) from
    pub reset : p.bridge ≡ command (0xB4 ∷ []) from

  begins : (b i : ℕ) (c : Option ℕ) (s : Bridge) → Idle ids (free entries) s → (p : Pass) → Among p (taken_from b i c s) → Begins p
  unfolding taken_from follow
  begins zero i c s t p m = absurd (Memᴰ.not-nil m)
  begins (suc b) i c s t p m =
      ⊎_elim (λ e. record { from = s; idle = t; reset = ap (λ (q : Pass). q.bridge) e })
      (go (next i c s).bridge.registers.status.ppd refl w.conflict (taken_from b w.id w.conflict w.bridge)
      (λ e. begins b w.id w.conflict w.bridge (under_idle (passed_on t i c (there t e)).0) p)) (Memᴰ.cases_cons m)
    where
      w : Walk
      w = walk i c s

      go : (v : Bool) → (next i c s).bridge.registers.status.ppd ≡ v → (q : Option ℕ) (l : List Pass) → ((next i c s).bridge.registers.status.ppd ≡ true → Among p l → Begins p) → Among p (cond v (follow q l) []) → Begins p
      go true e None l rest n = absurd (Memᴰ.not-nil n)
      go true e (Some k) l rest n = rest e n
      go false e q l rest n = absurd (Memᴰ.not-nil n)

  -- one of the levels is 0
  heard_in : (p : Pass) → Begins p → WithPresence p → (k : ℕ) → k < 64 → both_one (after_triplet k p) ≡ false
  unfolding after_triplet
  heard_in p g present k h =
      ap (λ (b : Bridge). both_one (after_triplet k (record { previous = p.previous; conflict = p.conflict; bridge = b }))) g.reset
      ∙ walked_heard ids (free entries) p.previous p.conflict 64 0 0 refl (lit< tt)
      (there g.idle (ap (λ (b : Bridge). b.registers.status.ppd) (sym g.reset) ∙ present)) _ (searching_under g.idle) k h

-- ---- from a state that calls reach

pub never_both_one : (s : Bridge) → Reached s → NeverBothOne s
unfolding passes_taken
never_both_one s r zero p m present k h = absurd (Memᴰ.not-nil m)
never_both_one s r (suc b) p m present k h =
    let l = reached_kept r in
    heard_in l.ids l.entries p
    (begins l.ids l.entries (suc b) 0 None (command (0xF0 ∷ []) s) (started s l.holds) p m) present k (omega arith)

-- ---- all of it

used : (b : ℕ) (s : Bridge) → length (passes_taken b s) ≡ (search b s).passes
unfolding passes_taken search
used zero s = refl
used (suc b) s = used_from (suc b) 0 None (command (0xF0 ∷ []) s)

ends : (b : ℕ) (s : Bridge) → ends_of (passes_taken b s) ≡ (search b s).ids
unfolding passes_taken search ends_of
ends zero s = refl
ends (suc b) s = ends_from (suc b) 0 None (command (0xF0 ∷ []) s)

whole : (p : Pass) → after_triplet 63 p ≡ (passed p.previous p.conflict p.bridge).bridge
unfolding after_triplet passed
whole p = refl

pub levels : Levels
levels = record { never = never_both_one; whole = whole; used = used; ends = ends }
