-- The passes of a search as steps in a binary tree of IDs; words for proofs, on which no statement about the search rests. The node
-- (k, a) stands for the IDs that begin, in their k low bits, as the number a; n counts the bits left below it.
--   begins k a i        the ID i begins so
--   has ids k a         some ID of ids does
--   child w k a         the node one bit further, with the bit w
--   leaves h n k a      the IDs at the node, by what h says is there: those with bit 0 first
--   sorted ids          the leaves of the whole tree
--   branch h d k a      the bit that a pass with the directions d takes at the node
--   conflict_at h d k a  the conflict that it notes there
--   ending h d n k a    the ID at which it ends
--   last h d n k a      its last conflict from the node on
--   after x c           the directions after a pass that ended at x with the last conflict c
--   Sequences h n k a d l   passes that begin with the directions d and go on as told list l, from the node on
use Prim.Native.Nat.{ℕ, zero, suc, ◌+◌, ◌%◌, ◌^◌, ◌≤◌}
use mathlib.Core.Bool.{Bool, true, false, cond}
use mathlib.Core.List.{List, [], ◌∷◌, ◌++◌}
use mathlib.Core.Path.{◌≡◌}
use lib.Dec.{eqb, ltb}
use Rattle.std.specs.Prelude.{Option, None, Some}
use Rattle.std.specs.Option.{option_or}
use Rattle.identity.specs.Identity.{bit_of}

unfoldable pub begins : ℕ → ℕ → ℕ → Bool
begins k a i = eqb (i % 2 ^ k) a

unfoldable pub has : List ℕ → ℕ → ℕ → Bool
has [] k a = false
has (i ∷ ids) k a = cond (begins k a i) true (has ids k a)

abbrev pub child : Bool → ℕ → ℕ → ℕ
child w k a = cond w (a + 2 ^ k) a

unfoldable pub leaves : (ℕ → ℕ → Bool) → ℕ → ℕ → ℕ → List ℕ
leaves h zero k a = cond (h k a) (a ∷ []) []
leaves h (suc n) k a = leaves h n (suc k) (child false k a) ++ leaves h n (suc k) (child true k a)

unfoldable pub sorted : List ℕ → List ℕ
sorted ids = leaves (has ids) 64 0 0

-- With both branches there the direction decides; with one, that one.
unfoldable pub branch : (ℕ → ℕ → Bool) → (ℕ → Bool) → ℕ → ℕ → Bool
branch h d k a = cond (h (suc k) (child false k a)) (cond (h (suc k) (child true k a)) (d k) false) true

-- A conflict where 0 was taken.
unfoldable pub conflict_at : (ℕ → ℕ → Bool) → (ℕ → Bool) → ℕ → ℕ → Option ℕ
conflict_at h d k a =
    cond (h (suc k) (child false k a)) (cond (h (suc k) (child true k a)) (cond (d k) None (Some k)) None) None

unfoldable pub ending : (ℕ → ℕ → Bool) → (ℕ → Bool) → ℕ → ℕ → ℕ → ℕ
ending h d zero k a = a
ending h d (suc n) k a = ending h d n (suc k) (child (branch h d k a) k a)

-- the deeper of two conflicts, where there is one
unfoldable pub last : (ℕ → ℕ → Bool) → (ℕ → Bool) → ℕ → ℕ → ℕ → Option ℕ
last h d zero k a = None
last h d (suc n) k a = option_or (last h d n (suc k) (child (branch h d k a) k a)) (conflict_at h d k a)

unfoldable pub after : ℕ → ℕ → ℕ → Bool
after x c k = cond (ltb k c) (bit_of x k) (eqb k c)

-- Directions that from bit k on are those after a pass that ended at x with the last conflict c.
abbrev pub Follows : ℕ → ℕ → ℕ → (ℕ → Bool) → Type 0
Follows k x c e = (j : ℕ) → k ≤ j → e j ≡ after x c j

pub data Sequences (h : ℕ → ℕ → Bool) (n k a : ℕ) : (ℕ → Bool) → List ℕ → Type 0 where
  ends : {d : ℕ → Bool} {x : ℕ} → ending h d n k a ≡ x → last h d n k a ≡ None → Sequences h n k a d (x ∷ [])
  goes : {d : ℕ → Bool} {x : ℕ} {l : List ℕ} (c : ℕ) → ending h d n k a ≡ x → last h d n k a ≡ Some c → k ≤ c → ((e : ℕ → Bool) → Follows k x c e → Sequences h n k a e l) → Sequences h n k a d (x ∷ l)
