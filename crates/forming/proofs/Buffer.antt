-- Laws of `over` and `placed`.
--   over_placed        what is placed right behind the front joins it
--   take_over          the front can be read back
--   length_over        a buffer keeps its length
--   placed_one         a single store
--   placed_done        a copy that is complete
use mathlib.Core.Path.{◌≡◌, sym, ap, ap₂, ◌∙◌}
use mathlib.Core.List.{List, [], ◌∷◌, ◌++◌}
use Prim.Native.Nat.{ℕ, suc, ◌+◌, ◌<◌, ◌≤◌}
use native.Mathlib.Numerals.{add-one}
use native.Mathlib.Omega.{arith}
use lib.ListN.{length, take, drop, set, length-append, length-drop}
use lib.Seq.{take-append_seam, drop-append-add, drop-drop, set_split, append_snoc, take-length, paste}
use Rattle.forming.specs.Buffer.{over, placed}

pub take_over : (p d : List ℕ) → take (length p) (over p d) ≡ p
unfolding over
take_over p d = take-append_seam p (drop (length p) d)

pub over_placed : (p s d : List ℕ) → placed (length p) s (over p d) ≡ over (p ++ s) d
unfolding over placed
over_placed p s d =
    ap₂ (λ (a b : List ℕ). a ++ s ++ b) (take-append_seam p (drop (length p) d))
    (drop-append-add p (drop (length p) d) (length s) ∙ drop-drop (length s) (length p) d)
    ∙ ap (λ (n : ℕ). p ++ s ++ drop n d) (sym (length-append p s))

pub length_over : (p d : List ℕ) → length p ≤ length d → length (over p d) ≡ length d
unfolding over
length_over p d h = simp (length-append, length-drop) (omega arith)

pub placed_one : (n x : ℕ) (d : List ℕ) → n < length d → set d n x ≡ placed n (x ∷ []) d
unfolding placed
placed_one n x d h =
    set_split d n x h ∙ sym (append_snoc (take n d) x (drop (suc n) d))
    ∙ ap (λ (k : ℕ). take n d ++ (x ∷ []) ++ drop k d) (sym (add-one n))

pub placed_done : (n : ℕ) (s d : List ℕ) → paste d n s (length s) ≡ placed n s d
unfolding placed
placed_done n s d = ap (λ (l : List ℕ). take n d ++ l ++ drop (n + length s) d) (take-length s)
