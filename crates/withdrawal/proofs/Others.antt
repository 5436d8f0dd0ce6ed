-- The probes that a withdrawal leaves.
--   others_length                 they are no more than there were
--   others_passed, others_kept    one probe more is gone through: the one withdrawn; another
--   others_fitted                 they are fewer exactly if the ID is fitted
--   line_with_more                 another probe goes behind those that are laid
--   laid_passed, laid_kept        the line that is laid, with one entry more gone through
--   fitted_when                   so the number of those left tells whether the ID is fitted
--   fitted_left, left_at_most     the same of the number of those that there were, and that those left are no more
--   length_front                  the number of those in front
--   withdrawn, not_fitted_lem     number and line, by that; not_fitted_line, the line alone
--   told                          what the tactics take of these
use mathlib.Core.Path.{◌≡◌, refl, sym, ap, ap₂, ◌∙◌}
use mathlib.Core.Bool.{Bool, true, false, cond}
use mathlib.Core.List.{List, [], ◌∷◌, ◌++◌, map}
use Prim.Native.Nat.{ℕ, zero, suc, ◌+◌, ◌<◌, ◌≤◌}
use native.Mathlib.Numerals.{add-one}
use native.Mathlib.Omega.{arith}
use borrow.Author.Tests.{lt-ltb}
use lib.Dec.{eqb, ltb, leb-suc-suc}
use lib.ListN.{length, get_or, take, drop, set, replicate, length-append, length-replicate, length-take}
use lib.Seq.{drop-cons, set-append_seam, append_snoc}
use Rattle.identity.specs.Identity.{number_of}
use Rattle.probe.specs.declared.Probe.{Probe}
use Rattle.probe.specs.Probe.{deaf_new}
use Rattle.line.specs.declared.Line.{Line}
use Rattle.line.specs.Line.{any, id_of, ids_of, bare, fitted, is_fitted}
use Rattle.withdrawal.specs.Withdrawal.{others, line_with, without, withdraw_number, after_withdraw}

pub others_length : (i : ℕ) (ps : List Probe) → length (others i ps) ≤ length ps
unfolding others
others_length i [] = omega arith
others_length i (p ∷ ps) = go (eqb i p.id) (others_length i ps)
  where
    go : (t : Bool) → length (others i ps) ≤ length ps → length (cond t (others i ps) (p ∷ others i ps)) ≤ suc (length ps)
    go true h = omega arith
    go false h = omega arith

module _ (i : ℕ) where
  passed : (l : List Probe) (k : ℕ) (d : Probe) → k < length l → eqb i (get_or l k d).id ≡ true → others i (take (suc k) l) ≡ others i (take k l)
  unfolding others
  passed [] k d h e = absurd (omega arith)
  passed (p ∷ l) zero d h e = ap (λ (t : Bool). cond t [] (p ∷ [])) e
  passed (p ∷ l) (suc k) d h e = ap (λ (r : List Probe). cond (eqb i p.id) r (p ∷ r)) (passed l k d (omega arith) e)

  kept : (l : List Probe) (k : ℕ) (d : Probe) → k < length l → eqb i (get_or l k d).id ≡ false → others i (take (suc k) l) ≡ others i (take k l) ++ get_or l k d ∷ []
  unfolding others
  kept [] k d h e = absurd (omega arith)
  kept (p ∷ l) zero d h e = ap (λ (t : Bool). cond t [] (p ∷ [])) e
  kept (p ∷ l) (suc k) d h e =
      ap (λ (r : List Probe). cond (eqb i p.id) r (p ∷ r)) (kept l k d (omega arith) e)
      ∙ go (eqb i p.id)
    where
      go : (t : Bool) → cond t (others i (take k l) ++ get_or l k d ∷ []) (p ∷ (others i (take k l) ++ get_or l k d ∷ [])) ≡ cond t (others i (take k l)) (p ∷ others i (take k l)) ++ get_or l k d ∷ []
      go true = refl
      go false = refl

  pub others_passed : (l : List Probe) (k : ℕ) (d : Probe) → k < length l → eqb i (get_or l k d).id ≡ true → others i (take (k + 1) l) ≡ others i (take k l)
  others_passed l k d h e = rw add-one (passed l k d h e)

  pub others_kept : (l : List Probe) (k : ℕ) (d : Probe) → k < length l → eqb i (get_or l k d).id ≡ false → others i (take (k + 1) l) ≡ others i (take k l) ++ get_or l k d ∷ []
  others_kept l k d h e = rw add-one (kept l k d h e)

  pub others_fitted : (ps : List Probe) → any (eqb i) (map id_of ps) ≡ ltb (length (others i ps)) (length ps)
  unfolding any others
  others_fitted [] = refl
  others_fitted (p ∷ ps) = go (eqb i p.id) (others_fitted ps)
    where
      go : (t : Bool) → any (eqb i) (map id_of ps) ≡ ltb (length (others i ps)) (length ps) → cond t true (any (eqb i) (map id_of ps)) ≡ ltb (length (cond t (others i ps) (p ∷ others i ps))) (suc (length ps))
      go true e = simp (lt-ltb (length (others i ps)) (suc (length ps)) (omega (arith, others_length i ps))) refl
      go false e = e ∙ sym (leb-suc-suc (suc (length (others i ps))) (length ps))

-- ---- the table

pub line_with_more : (ps : List Probe) (p : Probe) → length ps < 64 → ◌≡◌ {A = Line} (record { probes = set (line_with ps).probes (length ps) p; count = length ps + 1 }) (line_with (ps ++ p ∷ []))
unfolding line_with bare
line_with_more ps p h =
    let free = replicate 64 (deaf_new 0) in
    let n : length (ps ++ p ∷ []) ≡ suc (length ps) = omega (arith, length-append ps (p ∷ [])) in
    ap₂ {C = Line} (λ (t : List Probe) (k : ℕ). record { probes = t; count = k })
    (ap (λ (t : List Probe). set (ps ++ t) (length ps) p) (drop-cons free (length ps) p (omega (arith, length-replicate 64 (deaf_new 0))))
    ∙ set-append_seam ps (get_or free (length ps) p) (drop (suc (length ps)) free) p
    ∙ sym (append_snoc ps p (drop (suc (length ps)) free))
    ∙ ap (λ (k : ℕ). (ps ++ p ∷ []) ++ drop k free) (sym n))
    (omega (arith, length-append ps (p ∷ [])))

-- ---- one entry more, of a table l of which the first k are gone through

module _ (i : ℕ) (l : List Probe) (k : ℕ) (d : Probe) (m : Line) (h : k < length l) (e : m ≡ line_with (others i (take k l))) where
  pub laid_passed : eqb i (get_or l k d).id ≡ true → m ≡ line_with (others i (take (k + 1) l))
  laid_passed t = e ∙ ap line_with (sym (others_passed i l k d h t))

  pub laid_kept : length l ≤ 64 → eqb i (get_or l k d).id ≡ false → (to n : ℕ) → to ≡ m.count → n ≡ to + 1 → ◌≡◌ {A = Line} (record { probes = set m.probes to (get_or l k d); count = n }) (line_with (others i (take (k + 1) l)))
  unfolding line_with
  laid_kept g t to n last more =
      let ps = others i (take k l) in
      ap₂ {C = Line} (λ (c : ℕ) (c' : ℕ). record { probes = set m.probes c (get_or l k d); count = c' }) last
      (more ∙ ap (λ (c : ℕ). c + 1) last)
      ∙ ap {B = Line} (λ (o : Line). record { probes = set o.probes o.count (get_or l k d); count = o.count + 1 }) e
      ∙ line_with_more ps (get_or l k d) (omega (arith, others_length i (take k l), length-take k l))
      ∙ ap line_with (sym (others_kept i l k d h t))

-- ---- what a withdrawal answers

-- an ID is fitted exactly if fewer probes are left than the n that there were
pub fitted_when : (i : ℕ) (l : Line) (n : ℕ) → length (fitted l) ≡ n → is_fitted i l ≡ ltb (without i l).count n
unfolding is_fitted ids_of without line_with
fitted_when i l n e = others_fitted i (fitted l) ∙ ap (ltb (length (others i (fitted l)))) e

-- the same of the number of those that there were, which a call of `entries` tells
pub fitted_left : (i : ℕ) (l : Line) → is_fitted i l ≡ ltb (without i l).count (length (fitted l))
fitted_left i l = fitted_when i l (length (fitted l)) refl

pub left_at_most : (i : ℕ) (l : Line) → (without i l).count ≤ length (fitted l)
unfolding without line_with
left_at_most i l = others_length i (fitted l)

pub length_front : (n : ℕ) (ps : List Probe) → n ≤ length ps → length (take n ps) ≡ n
length_front n ps h = omega (arith, length-take n ps)

module _ (x : List ℕ) (l : Line) where
  pub withdrawn : is_fitted (number_of x) l ≡ true → (0 ≡ withdraw_number x l) × (without (number_of x) l ≡ after_withdraw x l)
  unfolding after_withdraw withdraw_number
  withdrawn e = simp e (refl, refl)

  pub not_fitted_lem : is_fitted (number_of x) l ≡ false → (20 ≡ withdraw_number x l) × (l ≡ after_withdraw x l)
  unfolding after_withdraw withdraw_number
  not_fitted_lem e = simp e (refl, refl)

  -- read from the left, for the tactics
  pub not_fitted_line : is_fitted (number_of x) l ≡ false → after_withdraw x l ≡ l
  not_fitted_line e = sym (not_fitted_lem e).1

  pub withdrawn_line : is_fitted (number_of x) l ≡ true → after_withdraw x l ≡ without (number_of x) l
  withdrawn_line e = sym (withdrawn e).1

-- what tells `withdraw` whether the ID is fitted, and what it answers then
pub ruleset told = (fitted_left, left_at_most, length_front, not_fitted_line, withdrawn_line)
