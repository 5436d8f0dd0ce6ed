-- A table's rule, carried to each entry. That a constant array is the whole table is one equation, which antt computes.
--   entry      the entry at k is the register after the byte k
--   differ     the first elements in which two lists differ, or the rest of the longer; same, with none of that they are equal
use mathlib.Core.Path.{◌≡◌, refl, sym, ap, ap₂, ◌∙◌}
use mathlib.Core.Bool.{Bool, true, false, cond}
use mathlib.Core.List.{List, [], ◌∷◌}
use Prim.Native.Nat.{ℕ, zero, suc, ◌+◌, ◌<◌}
use native.Mathlib.Nat.{zero-add, add-zero, add-suc, suc-add}
use native.Mathlib.Omega.{arith}
use lib.Dec.{eqb}
use lib.ListN.{get_or}
use borrow.Author.Tests.{eqb-true}
use Rattle.checksum.specs.Register.{entered, entries, table_of}

from : (p n i k : ℕ) → k < n → get_or (entries p n i) k 0 ≡ entered p 0 (i + k)
unfolding entries
from p zero i k h = absurd (omega arith)
from p (suc n) i zero h = ap (entered p 0) (sym (add-zero i))
from p (suc n) i (suc k) h =
    from p n (suc i) k (omega arith) ∙ ap (entered p 0) (suc-add i k ∙ sym (add-suc i k))

pub entry : (p : ℕ) (t : List ℕ) → t ≡ table_of p → (k : ℕ) → k < 256 → get_or t k 0 ≡ entered p 0 k
unfolding table_of
entry p t e k h = ap (λ (l : List ℕ). get_or l k 0) e ∙ from p 256 0 k h ∙ ap (entered p 0) (zero-add k)

-- Said so, a wrong entry is shown beside the right one.
unfoldable pub differ : List ℕ → List ℕ → List ℕ
differ [] t = t
differ (x ∷ s) [] = x ∷ s
differ (x ∷ s) (y ∷ t) = cond (eqb x y) (differ s t) (x ∷ y ∷ [])

first : (x y : ℕ) (s t : List ℕ) (b : Bool)
    → eqb x y ≡ b → (differ s t ≡ [] → s ≡ t) → cond b (differ s t) (x ∷ y ∷ []) ≡ [] → x ∷ s ≡ y ∷ t
first x y s t true h f e = ap₂ ◌∷◌ (eqb-true x y h) (f e)
first x y s t false h f e = cc

pub same : (s t : List ℕ) → differ s t ≡ [] → s ≡ t
unfolding differ
same [] t e = sym e
same (x ∷ s) [] e = e
same (x ∷ s) (y ∷ t) e = first x y s t (eqb x y) refl (same s t) e
