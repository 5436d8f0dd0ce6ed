-- While no chip is selected, a slot is the line's alone.
--   on_line l m           the wire m with the line l
--   all_kept             nothing is done to a table whose pairs all stay as they are
--   all_then             a test that follows from another
--   crossed              a test of two tables, from either side
--   Silent v l k         no chip of the line l listens
--   silent_level, silent_slot     what a slot is then
--   calm_level, calm_slots, calm_levels        one slot and several, of a wire that is calm for so many
--   calm_second, calm_written, calm_triplet    those of a triplet
use mathlib.Core.Path.{◌≡◌, refl, sym, ap, ap₂, ◌∙◌}
use mathlib.Core.Bool.{Bool, true, false, cond, not, ◌&&◌}
use mathlib.Core.List.{List, [], ◌∷◌, map, ◌++◌}
use Prim.Native.Nat.{ℕ, zero, suc, ◌+◌, ◌*◌, ◌/◌, ◌%◌}
use lib.Dec.{eqb}
use lib.ListN.{take, drop}
use borrow.Author.Tests.{not-true}
use Rattle.probe.specs.declared.Probe.{Probe}
use Rattle.probe.specs.Probe.{reaches, took_at, digit}
use Rattle.line.specs.declared.Line.{Line}
use Rattle.line.specs.Line.{fitted, on_fitted, level, slot, slots, levels}
use Rattle.line.proofs.Front.{both, first_of, rest_of}
use Rattle.triplet_slots.specs.Triplet.{chosen, second_level, written_bit, after_triplet}
use Rattle.chip.specs.declared.Chip.{Chip}
use Rattle.chip.specs.Chip.{is_chip}
use Rattle.wire.specs.declared.Chips.{Chips}
use Rattle.wire.specs.declared.Wire.{Wire}
use Rattle.wire.specs.Pairs.{paired, both_all}
use Rattle.wire.specs.Wire.{fellows, is_selected, listens, lets, level_on, heard_by, heard_on}
use Rattle.wire.specs.Wire.{quieted, quieted_on, took_on, slot_on, slots_on, levels_on, second_on, written_on, triplet_on}
use Rattle.wire.specs.Calm.{calm, calm_with, all_calm}
use Rattle.wire.proofs.Listens.{listens_not, lets_quiet, hears_not, quieted_not}
use Rattle.wire.proofs.Calmness.{calm_awake, calm_step}

abbrev pub on_line : Line → Wire → Wire
on_line l m = record { line = l; chips = m.chips }

-- ---- two tables

module _ {A B : Type 0} where
  pub all_kept : (t : A → B → Bool) (f : A → B → B) → ((x : A) (y : B) → t x y ≡ true → f x y ≡ y)
      → (xs : List A) (ys : List B) → both_all t xs ys ≡ true → paired f xs ys ≡ ys
  unfolding both_all paired
  all_kept t f g [] ys e = refl
  all_kept t f g (x ∷ xs) [] e = refl
  all_kept t f g (x ∷ xs) (y ∷ ys) e =
      ap₂ (λ (z : B) (zs : List B). z ∷ zs) (g x y (first_of (t x y) (both_all t xs ys) e))
      (all_kept t f g xs ys (rest_of (t x y) (both_all t xs ys) e))

  pub all_then : (s t : A → B → Bool) → ((x : A) (y : B) → s x y ≡ true → t x y ≡ true)
      → (xs : List A) (ys : List B) → both_all s xs ys ≡ true → both_all t xs ys ≡ true
  unfolding both_all
  all_then s t g [] ys e = refl
  all_then s t g (x ∷ xs) [] e = refl
  all_then s t g (x ∷ xs) (y ∷ ys) e =
      both (t x y) (both_all t xs ys) (g x y (first_of (s x y) (both_all s xs ys) e))
      (all_then s t g xs ys (rest_of (s x y) (both_all s xs ys) e))

  pub all_map : (s t : A → B → Bool) (h : A → A) → ((x : A) (y : B) → s x y ≡ true → t (h x) y ≡ true)
      → (xs : List A) (ys : List B) → both_all s xs ys ≡ true → both_all t (map h xs) ys ≡ true
  unfolding both_all
  all_map s t h g [] ys e = refl
  all_map s t h g (x ∷ xs) [] e = refl
  all_map s t h g (x ∷ xs) (y ∷ ys) e =
      both (t (h x) y) (both_all t (map h xs) ys) (g x y (first_of (s x y) (both_all s xs ys) e))
      (all_map s t h g xs ys (rest_of (s x y) (both_all s xs ys) e))

  pub crossed : (t : A → B → Bool) (m n : ℕ) (xs : List A) (ys : List B)
      → both_all t (take m (take n xs)) ys ≡ true → both_all (λ (y : B) (x : A). t x y) (take n (take m ys)) xs ≡ true
  unfolding both_all
  crossed t zero zero xs ys e = refl
  crossed t zero (suc n) xs ys e = refl
  crossed t (suc m) zero xs ys e = refl
  crossed t (suc m) (suc n) [] [] e = refl
  crossed t (suc m) (suc n) [] (y ∷ ys) e = refl
  crossed t (suc m) (suc n) (x ∷ xs) [] e = refl
  crossed t (suc m) (suc n) (x ∷ xs) (y ∷ ys) e =
      both (t x y) _ (first_of (t x y) (both_all t (take m (take n xs)) ys) e)
      (crossed t m n xs ys (rest_of (t x y) (both_all t (take m (take n xs)) ys) e))

-- ---- no chip listens

abbrev pub Silent : ℕ → Line → Chips → Type 0
Silent v l k = both_all (λ (p : Probe) (c : Chip). not (listens v p c)) (fellows l k) k.table ≡ true

module _ (v : ℕ) (m : Wire) (s : Silent v m.line m.chips) where
  told : (p : Probe) (c : Chip) → not (listens v p c) ≡ true → listens v p c ≡ false
  told p c e = not-true (listens v p c) e

  pub silent_level : (w : Bool) → level_on v w m ≡ level v w m.line
  unfolding level_on
  silent_level w =
      ap (λ (t : Bool). cond (level v w m.line) t false)
      (all_then _ (lets v) (λ p c e. lets_quiet v p c (told p c e)) (fellows m.line m.chips) m.chips.table s)
      ∙ same (level v w m.line)
    where
      same : (t : Bool) → cond t true false ≡ t
      same true = refl
      same false = refl

  heard_kept : (x : Bool) → heard_on v x m.line m.chips ≡ m.chips
  unfolding heard_on
  heard_kept x =
      ap {B = Chips} (λ (t : List Chip). record { table = t; count = m.chips.count })
      (all_kept _ (heard_by v x) (λ p c e. hears_not v p c x (told p c e)) (fellows m.line m.chips) m.chips.table s)

  quieted_kept : quieted_on v m.chips m.line ≡ m.line
  unfolding quieted_on fellows fitted
  quieted_kept =
      ap {B = Line} (λ (t : List Probe). record { probes = t; count = m.line.count })
      (all_kept _ (quieted v) (λ c p e. quieted_not v p c (told p c e))
      (take m.line.count (take m.chips.count m.chips.table)) m.line.probes
      (crossed (λ (p : Probe) (c : Chip). not (listens v p c)) m.chips.count m.line.count m.line.probes m.chips.table s))

  took_silent : (x : Bool) → took_on v x m ≡ on_line (on_fitted (took_at v x) m.line) m
  unfolding took_on
  took_silent x =
      ap {B = Wire} (λ (k : Chips). record { line = on_fitted (took_at v x) (quieted_on v k m.line); chips = k }) (heard_kept x)
      ∙ ap {B = Wire} (λ (l : Line). record { line = on_fitted (took_at v x) l; chips = m.chips }) quieted_kept

  pub silent_slot : (w : Bool) → slot_on v w m ≡ on_line (slot v w m.line) m
  unfolding slot_on slot
  silent_slot w = took_silent (level_on v w m) ∙ ap (λ (x : Bool). on_line (on_fitted (took_at v x) m.line) m) (silent_level w)

-- ---- no chip is selected before the slots to come

-- a calm chip does not listen, and a slot leaves it calm for one less
calm_silent : (v n : ℕ) (p : Probe) (c : Chip) → calm_with (suc n) p c ≡ true → not (listens v p c) ≡ true
unfolding listens
calm_silent v n p c e = go (is_chip c) refl
  where
    go : (t : Bool) → is_chip c ≡ t → not (listens v p c) ≡ true
    go true q =
        ap not (sym (listens_not v p c (calm_awake n p (sym (ap (λ (b : Bool). cond b (calm (suc n) p) true) q) ∙ e))))
    go false q = ap (λ (b : Bool). not (b && (is_selected p.condition && reaches v p))) q

calm_next : (v : ℕ) (x : Bool) (n : ℕ) (p : Probe) (c : Chip) → calm_with (suc n) p c ≡ true → calm_with n (took_at v x p) c ≡ true
calm_next v x n p c e = go (is_chip c) e
  where
    go : (t : Bool) → cond t (calm (suc n) p) true ≡ true → cond t (calm n (took_at v x p)) true ≡ true
    go true q = calm_step v x n p q
    go false q = refl

silent : (v n : ℕ) (l : Line) (k : Chips) → all_calm (suc n) l k ≡ true → Silent v l k
unfolding all_calm
silent v n l k e = all_then (calm_with (suc n)) _ (calm_silent v n) (fellows l k) k.table e

-- ---- the probes after a slot

module _ {A : Type 0} (f : A → A) where
  take_map : (n : ℕ) (xs : List A) → take n (map f xs) ≡ map f (take n xs)
  take_map zero xs = refl
  take_map (suc n) [] = refl
  take_map (suc n) (x ∷ xs) = ap (λ (t : List A). f x ∷ t) (take_map n xs)

  front : (n : ℕ) (xs : List A) → take n (map f (take n xs) ++ drop n xs) ≡ map f (take n xs)
  front zero xs = refl
  front (suc n) [] = refl
  front (suc n) (x ∷ xs) = ap (λ (t : List A). f x ∷ t) (front n xs)

fellows_on : (f : Probe → Probe) (l : Line) (k : Chips) → fellows (on_fitted f l) k ≡ map f (fellows l k)
unfolding fellows fitted on_fitted
fellows_on f l k = ap (take k.count) (front f l.count l.probes) ∙ take_map f k.count (take l.count l.probes)

still : (v : ℕ) (w : Bool) (n : ℕ) (l : Line) (k : Chips) → all_calm (suc n) l k ≡ true → all_calm n (slot v w l) k ≡ true
unfolding all_calm slot
still v w n l k e =
    ap (λ (ps : List Probe). both_all (calm_with n) ps k.table) (fellows_on (took_at v (level v w l)) l k)
    ∙ all_map (calm_with (suc n)) (calm_with n) (took_at v (level v w l)) (calm_next v (level v w l) n) (fellows l k) k.table e

-- one slot of a calm wire
calm_slot : (v : ℕ) (w : Bool) (n : ℕ) (m : Wire) → all_calm (suc n) m.line m.chips ≡ true → slot_on v w m ≡ on_line (slot v w m.line) m
calm_slot v w n m e = silent_slot v m (silent v n m.line m.chips e) w

pub calm_slots : (v n x : ℕ) (m : Wire) → all_calm n m.line m.chips ≡ true → slots_on v n x m ≡ on_line (slots v n x m.line) m
unfolding slots_on slots
calm_slots v zero x m e = refl
calm_slots v (suc n) x m e =
    let w = eqb (x % 2) 1 in
    ap (slots_on v n (x / 2)) (calm_slot v w n m e)
    ∙ calm_slots v n (x / 2) (on_line (slot v w m.line) m) (still v w n m.line m.chips e)

pub calm_level : (v : ℕ) (w : Bool) (n : ℕ) (m : Wire) → all_calm (suc n) m.line m.chips ≡ true → level_on v w m ≡ level v w m.line
calm_level v w n m e = silent_level v m (silent v n m.line m.chips e) w

pub calm_levels : (v n x : ℕ) (m : Wire) → all_calm n m.line m.chips ≡ true → levels_on v n x m ≡ levels v n x m.line
unfolding levels_on levels
calm_levels v zero x m e = refl
calm_levels v (suc n) x m e =
    let w = eqb (x % 2) 1 in
    ap₂ (λ (t : Bool) (r : ℕ). digit t + 2 * r) (calm_level v w n m e)
    (ap (levels_on v n (x / 2)) (calm_slot v w n m e)
    ∙ calm_levels v n (x / 2) (on_line (slot v w m.line) m) (still v w n m.line m.chips e))

-- ---- a triplet

module _ (v : ℕ) (m : Wire) (e : all_calm 3 m.line m.chips ≡ true) where
  once : Wire
  once = on_line (slot v true m.line) m

  calm_once : all_calm 2 (slot v true m.line) m.chips ≡ true
  calm_once = still v true 2 m.line m.chips e

  pub calm_second : second_on v m ≡ second_level v m.line
  unfolding once
  calm_second = ap (level_on v true) (calm_slot v true 2 m e) ∙ calm_level v true 1 once calm_once

  pub calm_written : (d : Bool) → written_on v d m ≡ written_bit v d m.line
  calm_written d = ap₂ (λ (a b : Bool). chosen a b d) (calm_level v true 2 m e) calm_second

  pub calm_triplet : (d : Bool) → triplet_on v d m ≡ on_line (after_triplet v d m.line) m
  unfolding once
  calm_triplet d =
      let l = slot v true (slot v true m.line) in
      ap₂ (λ (w : Bool) (n : Wire). slot_on v w n) (calm_written d)
      (ap (slot_on v true) (calm_slot v true 2 m e) ∙ calm_slot v true 1 once calm_once)
      ∙ calm_slot v (written_bit v d m.line) 0 (on_line l m) (still v true 1 (slot v true m.line) m.chips calm_once)
