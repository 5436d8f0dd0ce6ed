-- The passes of a search list what the enumeration lists.
--   searched_outcome    what m passes come to, if the passes sequence l
--   searched_enough     as many passes as IDs do what any more do
use mathlib.Core.Path.{◌≡◌, refl, sym, ap, ap₂, subst, subst⁻¹, ◌∙◌}
use mathlib.Core.Bool.{Bool, true, false≢true}
use mathlib.Core.List.{List, [], ◌∷◌, ◌++◌, map, cons≢nil, nil≢cons, head-eq_of_cons-eq, tail-eq_of_cons-eq}
use Prim.Native.Nat.{ℕ, zero, suc, ◌<◌, ◌≤◌}
use native.Mathlib.Nat.{zero-min, suc-min-suc}
use native.Mathlib.Omega.{arith}
use borrow.Author.Tests.{le-leb, lt-ltb}
use lib.Dec.{ltb, leb-suc-zero, leb-suc-suc}
use lib.ListN.{length, length-map}
use lib.Seq.{take-nil}
use Rattle.std.specs.Prelude.{Option, None, Some}
use Rattle.std.specs.Option.{option_or}
use Rattle.line.specs.declared.Line.{Line}
use Rattle.line.specs.Line.{id_of}
use Rattle.bridge.specs.declared.Bridge.{Bridge}
use Rattle.bridge.specs.Bridge.{command}
use Rattle.pass.specs.declared.Walk.{Walk}
use Rattle.pass.specs.Pass.{direction}
use Rattle.pass.specs.Passes.{Result, last_one, before, searched}
use Rattle.enumeration.proofs.Tree.{has, ending, last, after, Sequences}
use Rattle.enumeration.proofs.Tree.Sequences.{ends, goes}
use Rattle.searching.proofs.Words.{Rest, line_of, standing, Under, Idle, Outcome}
use Rattle.searching.proofs.Wire.{count_line_of}
use Rattle.pass.proofs.Next.{next, searched_last, searched_more}
use Rattle.searching.proofs.Pass.{reset_ppd, passed_on, under_idle}

-- ---- one pass of the search

-- where an ID is, there is presence
has_length : (ids : List ℕ) (k a : ℕ) → has ids k a ≡ true → 0 < length ids
unfolding has
has_length [] k a e = absurd (false≢true e)
has_length (i ∷ ids) k a e = omega arith

-- what ends with x
pub no_snoc : (p : List ℕ) (x : ℕ) → ◌≡◌ {A = List ℕ} [] (p ++ x ∷ []) → ⊥
no_snoc [] x e = nil≢cons e
no_snoc (z ∷ p) x e = nil≢cons e

snoc_one : (p : List ℕ) (y x : ℕ) → ◌≡◌ {A = List ℕ} (y ∷ []) (p ++ x ∷ []) → y ≡ x
snoc_one [] y x e = head-eq_of_cons-eq e
snoc_one (z ∷ p) y x e = absurd (no_snoc p x (tail-eq_of_cons-eq e))

-- the directions of the next pass
follows : (x k j : ℕ) → direction x (Some k) j ≡ after x k j
unfolding direction after
follows x k j = refl

module _ (ids : List ℕ) (rest : Rest) (there : has ids 0 0 ≡ true) where
  module _ (i : ℕ) (c : Option ℕ) (b : Bridge) (t : Idle ids rest b) where
    presence : (command (0xB4 ∷ []) b).registers.status.ppd ≡ true
    presence =
        reset_ppd b t.idle t.speed
        ∙ ap (λ (l : Line). ltb 0 l.count) t.holds.line
        ∙ lt-ltb 0 (line_of t.holds.probes rest).count
        (count_line_of t.holds.probes rest
        (omega (arith, has_length ids 0 0 there, ap length t.holds.same, length-map t.holds.probes id_of)))

    ended : Under ids rest 64 (ending (has ids) (direction i c) 64 0 0) (next i c b)
    ended = (passed_on t i c there).0

    searched_ends : (m : ℕ) → last (has ids) (direction i c) 64 0 0 ≡ None → searched (suc m) i c b ≡ last_one (next i c b)
    searched_ends m e =
        searched_last m i c b presence
        ((passed_on t i c there).1 ∙ ap (λ (p : Option ℕ). option_or p None) e)

    searched_goes : (m x q : ℕ) → ending (has ids) (direction i c) 64 0 0 ≡ x → last (has ids) (direction i c) 64 0 0 ≡ Some q → searched (suc m) i c b ≡ before x (searched m x (Some q) (next i c b).bridge)
    searched_goes m x q e f =
        searched_more m i c b q presence
        ((passed_on t i c there).1 ∙ ap (λ (p : Option ℕ). option_or p None) f)
        ∙ ap (λ (y : ℕ). before y (searched m y (Some q) (next i c b).bridge)) (ended.path ∙ e)

  -- ---- the passes

  -- none allowed
  none_outcome : (i : ℕ) (c : Option ℕ) (x : ℕ) (l : List ℕ) (b : Bridge) → Idle ids rest b → Outcome ids rest (x ∷ l) zero b (searched zero i c b)
  unfolding searched
  none_outcome i c x l b t =
      record {
        listed = refl;
        used = sym (zero-min (suc (length l)));
        whole = sym (leb-suc-zero (length l));
        idle = t;
        still = λ e. refl;
        closing = λ p y e. absurd (no_snoc p y e);
      }

  -- the last one
  last_outcome : (x m : ℕ) (b : Bridge) (w : Walk) → Under ids rest 64 x w → Outcome ids rest (x ∷ []) (suc m) b (last_one w)
  last_outcome x m b w u =
      record {
        listed = ap₂ {C = List ℕ} (λ (y : ℕ) (r : List ℕ). y ∷ r) u.path (sym (take-nil m));
        used = omega arith;
        whole = sym (le-leb 1 (suc m) (omega arith));
        idle = under_idle u;
        still = λ f. absurd (cons≢nil f);
        closing =
            λ p y f.
            u.line ∙ ap (λ (z : ℕ). line_of (map (standing 64 z) ids) rest) (sym u.path ∙ snoc_one p w.id y f);
      }

  -- one more before the others
  more_outcome : (x m : ℕ) (l : List ℕ) (b : Bridge) (w : Walk) (r : Result) → Under ids rest 64 x w → Outcome ids rest l m w.bridge r → Outcome ids rest (x ∷ l) (suc m) b (before x r)
  more_outcome x m l b w r u o =
      record {
        listed = ap {B = List ℕ} (λ (q : List ℕ). x ∷ q) o.listed;
        used = ap suc o.used ∙ sym (suc-min-suc m (length l));
        whole = o.whole ∙ sym (leb-suc-suc (length l) m);
        idle = o.idle;
        still = λ f. absurd (cons≢nil f);
        closing = go;
      }
    where
      go : (p : List ℕ) (y : ℕ) → ◌≡◌ {A = List ℕ} (x ∷ r.ids) (p ++ y ∷ []) → r.bridge.line ≡ line_of (map (standing 64 y) ids) rest
      go [] y f =
          ap (λ (v : Bridge). v.line) (o.still (tail-eq_of_cons-eq f)) ∙ u.line
          ∙ ap (λ (z : ℕ). line_of (map (standing 64 z) ids) rest) (head-eq_of_cons-eq f)
      go (z ∷ p) y f = o.closing p y (tail-eq_of_cons-eq f)

  -- the directions v are those of the pass after the ID i and the conflict c
  outcome_by : (v : ℕ → Bool) {l : List ℕ} → Sequences (has ids) 64 0 0 v l → (i : ℕ) (c : Option ℕ) → v ≡ direction i c → (m : ℕ) (b : Bridge) → Idle ids rest b → Outcome ids rest l m b (searched m i c b)
  outcome_by v (ends {x = x} e q) i c p zero b t = none_outcome i c x [] b t
  outcome_by v (ends {x = x} e q) i c p (suc m) b t =
      subst⁻¹ (Outcome ids rest (x ∷ []) (suc m) b)
      (searched_ends i c b t m (subst (λ (d : ℕ → Bool). last (has ids) d 64 0 0 ≡ None) p q))
      (last_outcome x m b (next i c b)
      (subst (λ (y : ℕ). Under ids rest 64 y (next i c b)) (subst (λ (d : ℕ → Bool). ending (has ids) d 64 0 0 ≡ x) p e)
      (ended i c b t)))
  outcome_by v (goes {x = x} {l = l} k e q le more) i c p zero b t = none_outcome i c x l b t
  outcome_by v (goes {x = x} {l = l} k e q le more) i c p (suc m) b t =
      let e' = subst (λ (d : ℕ → Bool). ending (has ids) d 64 0 0 ≡ x) p e in
      subst⁻¹ (Outcome ids rest (x ∷ l) (suc m) b)
      (searched_goes i c b t m x k e' (subst (λ (d : ℕ → Bool). last (has ids) d 64 0 0 ≡ Some k) p q))
      (more_outcome x m l b (next i c b) (searched m x (Some k) (next i c b).bridge)
      (subst (λ (y : ℕ). Under ids rest 64 y (next i c b)) e' (ended i c b t))
      (outcome_by (direction x (Some k)) (more (direction x (Some k)) (λ j h. follows x k j)) x (Some k) refl m (next i c b).bridge
      (under_idle (ended i c b t))))

  pub searched_outcome : (i : ℕ) (c : Option ℕ) {l : List ℕ} → Sequences (has ids) 64 0 0 (direction i c) l → (m : ℕ) (b : Bridge) → Idle ids rest b → Outcome ids rest l m b (searched m i c b)
  searched_outcome i c s = outcome_by (direction i c) s i c refl

  enough_by : (v : ℕ → Bool) {l : List ℕ} → Sequences (has ids) 64 0 0 v l → (i : ℕ) (c : Option ℕ) → v ≡ direction i c → (m n : ℕ) → length l ≤ m → length l ≤ n → (b : Bridge) → Idle ids rest b → searched m i c b ≡ searched n i c b
  enough_by v (ends e q) i c p zero n f g b t = absurd (omega arith)
  enough_by v (ends e q) i c p (suc m) zero f g b t = absurd (omega arith)
  enough_by v (ends e q) i c p (suc m) (suc n) f g b t =
      let q' = subst (λ (d : ℕ → Bool). last (has ids) d 64 0 0 ≡ None) p q in
      searched_ends i c b t m q' ∙ sym (searched_ends i c b t n q')
  enough_by v (goes k e q le more) i c p zero n f g b t = absurd (omega arith)
  enough_by v (goes k e q le more) i c p (suc m) zero f g b t = absurd (omega arith)
  enough_by v (goes {x = x} k e q le more) i c p (suc m) (suc n) f g b t =
      let e' = subst (λ (d : ℕ → Bool). ending (has ids) d 64 0 0 ≡ x) p e in
      let q' = subst (λ (d : ℕ → Bool). last (has ids) d 64 0 0 ≡ Some k) p q in
      searched_goes i c b t m x k e' q'
      ∙ ap (before x)
      (enough_by (direction x (Some k)) (more (direction x (Some k)) (λ j h. follows x k j)) x (Some k) refl m n (omega arith) (omega arith)
      (next i c b).bridge (under_idle (ended i c b t)))
      ∙ sym (searched_goes i c b t n x k e' q')

  -- as many passes as there are IDs are enough
  pub searched_enough : (i : ℕ) (c : Option ℕ) {l : List ℕ} → Sequences (has ids) 64 0 0 (direction i c) l → (m n : ℕ) → length l ≤ m → length l ≤ n → (b : Bridge) → Idle ids rest b → searched m i c b ≡ searched n i c b
  searched_enough i c s = enough_by (direction i c) s i c refl
