-- The counts of the two tables of a wire.
--   take_both       the first entries of a table, by two counts and by the smaller of them
--   bounded         a count that is at most 64, and the same where it is less
--   smaller         the smaller of two counts
--   whole_either    where it ends
use mathlib.Core.Path.{◌≡◌, refl, sym, ap, ◌∙◌}
use mathlib.Core.Bool.{Bool, true, false, cond}
use mathlib.Core.Logic.{◌⊎◌, inl, inr}
use mathlib.Core.List.{List, [], ◌∷◌}
use Prim.Native.Nat.{ℕ, zero, suc, ◌<◌, ◌≤◌, min}
use native.Mathlib.Omega.{arith}
use lib.Dec.{ltb}
use lib.ListN.{length, take, length-take}
use lib.Seq.{take_all}
use borrow.Author.Tests.{ltb-true, ltb-false}
use Rattle.std.proofs.Math.Nat.{min-eq_left, min-eq_right}

-- ---- counts

module _ {A : Type 0} where
  take_take : (m n : ℕ) (l : List A) → m ≤ n → take m (take n l) ≡ take m l
  take_take zero n l h = refl
  take_take (suc m) zero l h = absurd (omega arith)
  take_take (suc m) (suc n) [] h = refl
  take_take (suc m) (suc n) (x ∷ l) h = ap (λ (t : List A). x ∷ t) (take_take m n l (omega arith))

  -- either count is the smaller one, or both are beyond the table's end
  pub take_both : (l : List A) (x y r : ℕ) → length l ≡ 64 → r ≤ x → r ≤ y → (r ≡ x) ⊎ ((r ≡ y) ⊎ (r ≡ 64)) → take r l ≡ take y (take x l)
  take_both l x y r e h k (inl q) =
      sym (ap (λ (n : ℕ). take y (take n l)) (sym q) ∙ take_all y (take r l) (omega (arith, length-take r l)))
  take_both l x y r e h k (inr (inl q)) = sym (ap (λ (n : ℕ). take n (take x l)) (sym q) ∙ take_take r x l h)
  take_both l x y r e h k (inr (inr q)) =
      take_all r l (omega arith) ∙ sym (ap (take y) (take_all x l (omega arith)) ∙ take_all y l (omega arith))

pub bounded : (r x : ℕ) → r ≡ cond (ltb x 64) x 64 → (r ≤ x) × (r < 64 → r ≡ x)
bounded r x e = go (ltb x 64) refl
  where
    go : (t : Bool) → ltb x 64 ≡ t → (r ≤ x) × (r < 64 → r ≡ x)
    go true q =
        let s : r ≡ x = e ∙ ap (λ (b : Bool). cond b x 64) q in
        (omega arith, λ h. s)
    go false q =
        let s : r ≡ 64 = e ∙ ap (λ (b : Bool). cond b x 64) q in
        (omega (arith, ltb-false x 64 q), λ h. absurd (omega arith))

-- a count of 64 at most is 64 or less
pub whole_or : (r x : ℕ) → r ≤ 64 → (r < 64 → r ≡ x) → (r ≡ x) ⊎ (r ≡ 64)
whole_or r x h f = go (ltb r 64) refl
  where
    go : (t : Bool) → ltb r 64 ≡ t → (r ≡ x) ⊎ (r ≡ 64)
    go true q = inl (f (ltb-true r 64 q))
    go false q = inr (omega (arith, ltb-false r 64 q))

pub smaller : (r x y : ℕ) → r ≡ min x y → (r ≤ x) × (r ≤ y) × ((r ≡ x) ⊎ (r ≡ y))
smaller r x y e = go (ltb y x) refl
  where
    go : (t : Bool) → ltb y x ≡ t → (r ≤ x) × (r ≤ y) × ((r ≡ x) ⊎ (r ≡ y))
    go true q =
        let h = ltb-true y x q in
        let s : r ≡ y = e ∙ min-eq_right (omega (arith, h)) in
        (omega (arith, s, h), omega (arith, s), inr s)
    go false q =
        let h = ltb-false y x q in
        let s : r ≡ x = e ∙ min-eq_left (omega (arith, h)) in
        (omega (arith, s), omega (arith, s, h), inl s)

pub whole_either : {r x y m n : ℕ} → (r ≡ x) ⊎ (r ≡ y) → (x ≡ m) ⊎ (x ≡ 64) → (y ≡ n) ⊎ (y ≡ 64) → (r ≡ m) ⊎ ((r ≡ n) ⊎ (r ≡ 64))
whole_either (inl p) (inl q) k = inl (p ∙ q)
whole_either (inl p) (inr q) k = inr (inr (p ∙ q))
whole_either (inr p) h (inl q) = inr (inl (p ∙ q))
whole_either (inr p) h (inr q) = inr (inr (p ∙ q))
