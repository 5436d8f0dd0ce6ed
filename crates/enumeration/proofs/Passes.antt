-- The passes list the leaves in their order, whatever is there: all that is asked of `h` is that it splits at each bit.
--   ending_mod       a pass from a node ends below that node
--   lift             what a child sequences the node sequences, where all passes concerned take that child
--   glue             with both children there, what the 0 child sequences and then what the 1 child does
--   sequence         passes that begin with all directions 0 list the leaves of a node
--   sequences_some   and that is something
use mathlib.Core.Path.{◌≡◌, refl, sym, ap, ap₂, subst, ◌∙◌}
use mathlib.Core.Bool.{Bool, true, false, cond, true≢false}
use mathlib.Core.List.{List, [], ◌∷◌, ◌++◌, append-nil}
use Prim.Native.Nat.{ℕ, zero, suc, ◌+◌, ◌%◌, ◌^◌, ◌<◌, ◌≤◌}
use native.Mathlib.Nat.{le_refl, mod-eq_of_lt}
use native.Mathlib.Omega.{arith}
use borrow.Author.Tests.{lt-ltb, le-ltb, eq-eqb, ne_eqb}
use lib.Dec.{eqb}
use lib.ListN.{length}
use Rattle.std.specs.Prelude.{None, Some}
use Rattle.std.specs.Option.{option_or}
use Rattle.identity.specs.Identity.{bit_of}
use Rattle.enumeration.proofs.Tree.{child, leaves, branch, conflict_at, ending, last, after, Sequences}
use Rattle.enumeration.proofs.Tree.Sequences.{ends, goes}
use Rattle.enumeration.proofs.Bits.{child_lt, bit_child, mod_child}

-- ---- the directions after a pass

pub after_below : (x c k : ℕ) → k < c → after x c k ≡ bit_of x k
unfolding after
after_below x c k h = ap (λ (t : Bool). cond t (bit_of x k) (eqb k c)) (lt-ltb k c h)

pub after_at : (x c : ℕ) → after x c c ≡ true
unfolding after
after_at x c = ap (λ (t : Bool). cond t (bit_of x c) (eqb c c)) (le-ltb c c (le_refl c)) ∙ eq-eqb c c refl

pub after_above : (x c k : ℕ) → c < k → after x c k ≡ false
unfolding after
after_above x c k h = ap (λ (t : Bool). cond t (bit_of x k) (eqb k c)) (le-ltb k c (omega arith)) ∙ ne_eqb k c (omega arith)

module _ (h : ℕ → ℕ → Bool) where
  pub ending_mod : (d : ℕ → Bool) (n k a : ℕ) → a < 2 ^ k → ending h d n k a % 2 ^ k ≡ a
  unfolding ending
  ending_mod d zero k a lt = mod-eq_of_lt lt
  ending_mod d (suc n) k a lt =
      mod_child (branch h d k a) k a (ending h d n (suc k) (child (branch h d k a) k a)) lt
      (ending_mod d n (suc k) (child (branch h d k a) k a) (child_lt (branch h d k a) k a lt))

  -- ---- a node by the branch that is taken

  module _ (w : Bool) (n k a : ℕ) (d : ℕ → Bool) (t : branch h d k a ≡ w) where
    ending_next : ending h d (suc n) k a ≡ ending h d n (suc k) (child w k a)
    unfolding ending
    ending_next = ap (λ (v : Bool). ending h d n (suc k) (child v k a)) t

    last_next : last h d (suc n) k a ≡ option_or (last h d n (suc k) (child w k a)) (conflict_at h d k a)
    unfolding last
    last_next = ap (λ (v : Bool). option_or (last h d n (suc k) (child v k a)) (conflict_at h d k a)) t

  -- the ID at which a pass from a child ends has that child's bit
  ending_bit : (w : Bool) (n k a : ℕ) (d : ℕ → Bool) (x : ℕ) → a < 2 ^ k → ending h d n (suc k) (child w k a) ≡ x → bit_of x k ≡ w
  ending_bit w n k a d x lt e =
      bit_child w k a x lt
      (ap (λ (y : ℕ). y % 2 ^ suc k) (sym e) ∙ ending_mod d n (suc k) (child w k a) (child_lt w k a lt))

  -- ---- a branch that every pass concerned takes, with no conflict

  abbrev Taken : Bool → ℕ → ℕ → (ℕ → Bool) → Type 0
  Taken w k a d = (branch h d k a ≡ w) × (conflict_at h d k a ≡ None)

  lift : (w : Bool) (n k a : ℕ) → a < 2 ^ k → ((e : ℕ → Bool) → e k ≡ w → Taken w k a e) → {d : ℕ → Bool} {l : List ℕ} → Taken w k a d → Sequences h n (suc k) (child w k a) d l → Sequences h (suc n) k a d l
  lift w n k a lt every {d} t (ends e q) =
      ends (ending_next w n k a d t.0 ∙ e) (last_next w n k a d t.0 ∙ ap₂ option_or q t.1)
  lift w n k a lt every {d} t (goes {x = x} c e q le rest) =
      goes c (ending_next w n k a d t.0 ∙ e) (last_next w n k a d t.0 ∙ ap₂ option_or q t.1) (omega arith)
      (λ f fol.
      lift w n k a lt every
      (every f (fol k (le_refl k) ∙ after_below x c k le ∙ ending_bit w n k a d x lt e))
      (rest f (λ j kj. fol j (omega arith))))

  -- ---- both branches there

  glue : (n k a : ℕ) → a < 2 ^ k → ((e : ℕ → Bool) → e k ≡ false → (branch h e k a ≡ false) × (conflict_at h e k a ≡ Some k)) → {d : ℕ → Bool} {l r : List ℕ} → d k ≡ false → Sequences h n (suc k) (child false k a) d l → ((e : ℕ → Bool) → e k ≡ true → ((j : ℕ) → k < j → e j ≡ false) → Sequences h (suc n) k a e r) → Sequences h (suc n) k a d (l ++ r)
  glue n k a lt both {d} z (ends {x = x} e q) right =
      goes k (ending_next false n k a d (both d z).0 ∙ e)
      (last_next false n k a d (both d z).0 ∙ ap₂ option_or q (both d z).1) (le_refl k)
      (λ f fol. right f (fol k (le_refl k) ∙ after_at x k) (λ j kj. fol j (omega arith) ∙ after_above x k j kj))
  glue n k a lt both {d} z (goes {x = x} c e q le rest) right =
      goes c (ending_next false n k a d (both d z).0 ∙ e)
      (last_next false n k a d (both d z).0 ∙ ap₂ option_or q (both d z).1) (omega arith)
      (λ f fol.
      glue n k a lt both (fol k (le_refl k) ∙ after_below x c k le ∙ ending_bit false n k a d x lt e)
      (rest f (λ j kj. fol j (omega arith))) right)

  -- ---- what is there decides

  module _ (k a : ℕ) (x y : Bool) (ex : h (suc k) (child false k a) ≡ x) (ey : h (suc k) (child true k a) ≡ y) (d : ℕ → Bool) (v : Bool) (dv : d k ≡ v) where
    at_node : (branch h d k a ≡ cond x (cond y v false) true) × (conflict_at h d k a ≡ cond x (cond y (cond v None (Some k)) None) None)
    unfolding branch conflict_at
    at_node = (simp (ex, ey, dv), simp (ex, ey, dv))

  -- ---- the leaves

  module _ (split : (k a : ℕ) → a < 2 ^ k → h k a ≡ cond (h (suc k) (child false k a)) true (h (suc k) (child true k a))) where
    pub leaves_none : (n k a : ℕ) → a < 2 ^ k → h k a ≡ false → leaves h n k a ≡ []
    unfolding leaves
    leaves_none zero k a lt e = ap (λ (t : Bool). cond t (a ∷ []) []) e
    leaves_none (suc n) k a lt e =
        ap₂ ◌++◌
        (leaves_none n (suc k) (child false k a) (child_lt false k a lt) either.0)
        (leaves_none n (suc k) (child true k a) (child_lt true k a lt) either.1)
      where
        go : (x y : Bool) → cond x true y ≡ false → (x ≡ false) × (y ≡ false)
        go true y f = absurd (true≢false f)
        go false y f = (refl, f)

        either : (h (suc k) (child false k a) ≡ false) × (h (suc k) (child true k a) ≡ false)
        either = go (h (suc k) (child false k a)) (h (suc k) (child true k a)) (sym (split k a lt) ∙ e)

    pub sequence : (n k a : ℕ) → a < 2 ^ k → h k a ≡ true → (d : ℕ → Bool) → ((j : ℕ) → k ≤ j → d j ≡ false) → Sequences h n k a d (leaves h n k a)
    unfolding leaves ending last
    sequence zero k a lt e d z = subst (λ (l : List ℕ). Sequences h zero k a d l) (ap (λ (t : Bool). cond t (a ∷ []) []) (sym e)) (ends refl refl)
    sequence (suc n) k a lt e d z =
        go (h (suc k) (child false k a)) refl (h (suc k) (child true k a)) refl
        (λ there f zf. sequence n (suc k) (child false k a) (child_lt false k a lt) there f zf)
        (λ there f zf. sequence n (suc k) (child true k a) (child_lt true k a lt) there f zf)
      where
        Below : Bool → Type 0
        Below w = h (suc k) (child w k a) ≡ true → (f : ℕ → Bool) → ((j : ℕ) → suc k ≤ j → f j ≡ false) → Sequences h n (suc k) (child w k a) f (leaves h n (suc k) (child w k a))

        go : (x : Bool) → h (suc k) (child false k a) ≡ x → (y : Bool) → h (suc k) (child true k a) ≡ y → Below false → Below true → Sequences h (suc n) k a d (leaves h n (suc k) (child false k a) ++ leaves h n (suc k) (child true k a))
        go true ex true ey zeros ones =
            glue n k a lt (λ f o. at_node k a true true ex ey f false o) (z k (le_refl k))
            (zeros ex d (λ j kj. z j (omega arith)))
            (λ f o zf.
            lift true n k a lt (λ g p. at_node k a true true ex ey g true p)
            (at_node k a true true ex ey f true o) (ones ey f zf))
        go true ex false ey zeros ones =
            subst (λ (r : List ℕ). Sequences h (suc n) k a d (leaves h n (suc k) a ++ r))
            (sym (leaves_none n (suc k) (child true k a) (child_lt true k a lt) ey))
            (subst (λ (r : List ℕ). Sequences h (suc n) k a d r) (sym (append-nil (leaves h n (suc k) a)))
            (lift false n k a lt (λ g p. at_node k a true false ex ey g false p)
            (at_node k a true false ex ey d (d k) refl) (zeros ex d (λ j kj. z j (omega arith)))))
        go false ex true ey zeros ones =
            subst (λ (r : List ℕ). Sequences h (suc n) k a d (r ++ leaves h n (suc k) (a + 2 ^ k)))
            (sym (leaves_none n (suc k) (child false k a) (child_lt false k a lt) ex))
            (lift true n k a lt (λ g p. at_node k a false true ex ey g true p)
            (at_node k a false true ex ey d (d k) refl) (ones ey d (λ j kj. z j (omega arith))))
        go false ex false ey zeros ones =
            absurd (true≢false (sym e ∙ split k a lt ∙ ap₂ (λ (x y : Bool). cond x true y) ex ey))

-- a sequence lists something
pub sequences_some : {h : ℕ → ℕ → Bool} {n k a : ℕ} {d : ℕ → Bool} {l : List ℕ} → Sequences h n k a d l → 0 < length l
sequences_some (ends e q) = omega arith
sequences_some (goes c e q le rest) = omega arith
