-- Slots whose levels can be told before they begin.
--   took_at_foreseen, sends_at_foreseen   a foreseen probe rests, or the slots reach it
--   ahead_odd, ahead_half       what it sends next, and what is left of it a slot later
--   foreseen_took               a slot later it is foreseen for the slots that are left
--   meet_odd, meet_half         the next level of a line of such probes, and the levels that are left
--   slots_foreseen, levels_foreseen     the line after the slots, and their levels
use mathlib.Core.Path.{◌≡◌, refl, sym, ap, ap₂, ◌∙◌}
use mathlib.Core.Bool.{Bool, true, false, cond, false≢true}
use mathlib.Core.List.{List, [], ◌∷◌, map}
use Prim.Native.Nat.{ℕ, zero, suc, ◌+◌, ◌-◌, ◌*◌, ◌/◌, ◌%◌, ◌^◌, ◌<◌, ◌≤◌}
use native.Mathlib.Omega.{arith}
use lib.Bits.{bit_and}
use lib.Dec.{eqb, leb}
use borrow.Author.Tests.{leb-true, le-leb, lt-leb}
use Rattle.identity.specs.Identity.{bit_of}
use Rattle.probe.specs.declared.Condition.{Condition}
use Rattle.probe.specs.declared.Condition.TheVariants.{Deaf, Taking, Sending, Matching, Searching, Selected}
use Rattle.probe.specs.declared.Probe.{Probe}
use Rattle.probe.specs.Probe.{reaches, sends, sends_in, sends_at, took, took_in, took_at, took_code, took_sending, took_matching, agrees, digit}
use Rattle.probe.specs.Probe.{rests, rests_in, in_condition, with_mark, differed}
use Rattle.probe.proofs.Rests.{took_rests, sends_rests, took_at_rests, sends_at_rests, took_at_reached, sends_at_reached}
use Rattle.line.specs.declared.Line.{Line}
use Rattle.line.specs.Line.{all, fitted, on_fitted, level, levels, slot, slots}
use Rattle.line.proofs.Front.{both, first_of, rest_of}
use Rattle.line.proofs.Each.{all_map, all_same, fitted_on_fitted, on_fitted_on_fitted, on_fitted_same, on_fitted_none}
use Rattle.byte_slots.specs.Foresight.{foreseen, foreseen_in, ahead, ahead_in, meet, took_bits}
use Rattle.byte_slots.proofs.Digits.{digit_odd, half_of, low_suc, low_half, low_low, ones_half, ones_low, and_half, and_odd}

-- ---- one probe

-- a foreseen probe rests, or the slots reach it
either_way : {A : Type 0} (r : Bool) (n : ℕ) (k : Condition) → foreseen_in r (suc n) k ≡ true → (rests_in k ≡ true → A) → (r ≡ true → A) → A
unfolding foreseen_in rests_in
either_way r n Deaf e f g = f refl
either_way r n (Taking k c) e f g = g (rest_of (leb (k + suc n) 8) r e)
either_way r n (Sending k) e f g = g (rest_of (leb (k + suc n) 64) r e)
either_way r n (Matching k w) e f g = g e
either_way r n (Searching k s) e f g = absurd (false≢true e)
either_way r n Selected e f g = f refl

took_at_foreseen : (v n : ℕ) (b : Bool) (p : Probe) → foreseen v (suc n) p ≡ true → took_at v b p ≡ took b p
unfolding foreseen rests
took_at_foreseen v n b p e =
    either_way (reaches v p) n p.condition e (λ r. took_at_rests v b p r ∙ sym (took_rests b p r)) (took_at_reached v b p true)

sends_at_foreseen : (v n : ℕ) (p : Probe) → foreseen v (suc n) p ≡ true → sends_at v p ≡ sends p
unfolding foreseen rests
sends_at_foreseen v n p e =
    either_way (reaches v p) n p.condition e (λ r. sends_at_rests v p r ∙ sym (sends_rests p r)) (sends_at_reached v p true)

ahead_odd_in : (r : Bool) (n i : ℕ) (k : Condition) → foreseen_in r (suc n) k ≡ true → eqb (ahead_in (suc n) i k % 2) 1 ≡ sends_in i k
unfolding foreseen_in ahead_in sends_in bit_of
ahead_odd_in r n i Deaf e = ap (λ (m : ℕ). eqb m 1) (ones_low n)
ahead_odd_in r n i (Taking k c) e = ap (λ (m : ℕ). eqb m 1) (ones_low n)
ahead_odd_in r n i (Sending k) e = ap (λ (m : ℕ). eqb m 1) (low_low n (i / 2 ^ k))
ahead_odd_in r n i (Matching k w) e = ap (λ (m : ℕ). eqb m 1) (ones_low n)
ahead_odd_in r n i (Searching k s) e = absurd (false≢true e)
ahead_odd_in r n i Selected e = ap (λ (m : ℕ). eqb m 1) (ones_low n)

ahead_odd : (v n : ℕ) (p : Probe) → foreseen v (suc n) p ≡ true → eqb (ahead (suc n) p % 2) 1 ≡ sends p
unfolding foreseen ahead sends
ahead_odd v n p e = ahead_odd_in (reaches v p) n p.id p.condition e

-- what one slot leaves of the code, of the ID and of the comparison

later_code : (n k c : ℕ) (b : Bool) (p : Probe) → k + suc (suc n) ≤ 8 → took_code k c b p ≡ in_condition p (Taking (k + 1) (c / 2 + 128 * digit b))
unfolding took_code
later_code n k c b p h = simp (lt-leb 7 k (omega arith))

later_id : (n k : ℕ) (p : Probe) → k + suc (suc n) ≤ 64 → took_sending k p ≡ in_condition p (Sending (k + 1))
unfolding took_sending
later_id n k p h = simp (lt-leb 63 k (omega arith))

module _ (v : ℕ) where
  -- q is foreseen for n slots more, and sends what is left of m
  abbrev Later : ℕ → Probe → ℕ → Type 0
  Later n q m = (foreseen v (suc n) q ≡ true) × (m / 2 ≡ ahead (suc n) q)

  later_match : (n k : ℕ) (w s t : Bool) (p : Probe) → reaches v p ≡ true
      → Later n (cond s (cond t (with_mark p true Selected) (in_condition p (Matching (k + 1) w))) (differed w p)) (2 ^ suc (suc n) - 1)
  unfolding foreseen foreseen_in ahead ahead_in reaches
  later_match n k w true true p r = (refl, ones_half (suc n))
  later_match n k w true false p r = (r, ones_half (suc n))
  later_match n k w false t p r = (refl, ones_half (suc n))

  later : (n : ℕ) (k : Condition) (b : Bool) (p : Probe)
      → p.condition ≡ k → foreseen_in (reaches v p) (suc (suc n)) k ≡ true → Later n (took_in k b p) (ahead_in (suc (suc n)) p.id k)
  unfolding foreseen foreseen_in ahead ahead_in took_in took_matching reaches
  later n Deaf b p q e = (ap (foreseen_in (reaches v p) (suc n)) q, ones_half (suc n) ∙ sym (ap (ahead_in (suc n) p.id) q))
  later n (Taking k c) b p q e =
      let h = leb-true (k + suc (suc n)) 8 (first_of (leb (k + suc (suc n)) 8) (reaches v p) e) in
      let went = later_code n k c b p h in (
        ap (foreseen v (suc n)) went
            ∙ both (leb (k + 1 + suc n) 8) (reaches v p) (le-leb (k + 1 + suc n) 8 (omega arith)) (rest_of (leb (k + suc (suc n)) 8) (reaches v p) e),
        ones_half (suc n) ∙ sym (ap (ahead (suc n)) went),
      )
  later n (Sending k) b p q e =
      let h = leb-true (k + suc (suc n)) 64 (first_of (leb (k + suc (suc n)) 64) (reaches v p) e) in
      let went = later_id n k p h in (
        ap (foreseen v (suc n)) went
            ∙ both (leb (k + 1 + suc n) 64) (reaches v p) (le-leb (k + 1 + suc n) 64 (omega arith)) (rest_of (leb (k + suc (suc n)) 64) (reaches v p) e),
        low_half (suc n) (p.id / 2 ^ k) ∙ ap (λ (m : ℕ). m % 2 ^ suc n) (half_of p.id k) ∙ sym (ap (ahead (suc n)) went),
      )
  later n (Matching k w) b p q e = later_match n k w (agrees b p.id k) (leb 63 k) p e
  later n (Searching k s) b p q e = absurd (false≢true e)
  later n Selected b p q e = (ap (foreseen_in (reaches v p) (suc n)) q, ones_half (suc n) ∙ sym (ap (ahead_in (suc n) p.id) q))

  foreseen_took : (n : ℕ) (b : Bool) (p : Probe) → foreseen v (suc n) p ≡ true → foreseen v n (took b p) ≡ true
  unfolding foreseen took
  foreseen_took zero b p e = refl
  foreseen_took (suc n) b p e = (later n p.condition b p refl e).0

none_ahead : (i : ℕ) (k : Condition) → ahead_in 0 i k ≡ 0
unfolding ahead_in
none_ahead i Deaf = refl
none_ahead i (Taking n c) = refl
none_ahead i (Sending k) = omega arith
none_ahead i (Matching k w) = refl
none_ahead i (Searching k s) = refl
none_ahead i Selected = refl

one_ahead : (i : ℕ) (k : Condition) → ahead_in 1 i k / 2 ≡ 0
unfolding ahead_in
one_ahead i Deaf = refl
one_ahead i (Taking n c) = refl
one_ahead i (Sending k) = omega arith
one_ahead i (Matching k w) = refl
one_ahead i (Searching k s) = refl
one_ahead i Selected = refl

ahead_half : (v n : ℕ) (b : Bool) (p : Probe) → foreseen v (suc n) p ≡ true → ahead (suc n) p / 2 ≡ ahead n (took b p)
unfolding foreseen ahead took
ahead_half v zero b p e = one_ahead p.id p.condition ∙ sym (none_ahead (took b p).id (took b p).condition)
ahead_half v (suc n) b p e = (later v n p.condition b p refl e).1

-- ---- a line of foreseen probes

in_turn : (a s t : Bool) → cond (cond a s false) t false ≡ cond a (cond s t false) false
in_turn true s t = refl
in_turn false s t = refl

module _ (v : ℕ) where
  meet_odd : (n x : ℕ) (ps : List Probe) → all (foreseen v (suc n)) ps ≡ true
      → eqb (meet (suc n) x ps % 2) 1 ≡ cond (eqb (x % 2) 1) (all sends ps) false
  unfolding meet all
  meet_odd n x [] e = unchanged (eqb (x % 2) 1)
    where
      unchanged : (b : Bool) → b ≡ cond b true false
      unchanged true = refl
      unchanged false = refl
  meet_odd n x (p ∷ ps) e =
      let here = first_of (foreseen v (suc n) p) (all (foreseen v (suc n)) ps) e in
      meet_odd n (bit_and x (ahead (suc n) p)) ps (rest_of (foreseen v (suc n) p) (all (foreseen v (suc n)) ps) e)
      ∙ ap (λ (b : Bool). cond b (all sends ps) false)
      (and_odd x (ahead (suc n) p) ∙ ap (λ (b : Bool). cond (eqb (x % 2) 1) b false) (ahead_odd v n p here))
      ∙ in_turn (eqb (x % 2) 1) (sends p) (all sends ps)

  meet_half : (n x : ℕ) (b : Bool) (ps : List Probe) → all (foreseen v (suc n)) ps ≡ true
      → meet (suc n) x ps / 2 ≡ meet n (x / 2) (map (took b) ps)
  unfolding meet all
  meet_half n x b [] e = refl
  meet_half n x b (p ∷ ps) e =
      let here = first_of (foreseen v (suc n) p) (all (foreseen v (suc n)) ps) e in
      meet_half n (bit_and x (ahead (suc n) p)) b ps (rest_of (foreseen v (suc n) p) (all (foreseen v (suc n)) ps) e)
      ∙ ap (λ (m : ℕ). meet n m (map (took b) ps))
      (and_half x (ahead (suc n) p) ∙ ap (bit_and (x / 2)) (ahead_half v n b p here))

  module _ (n x : ℕ) (l : Line) (e : all (foreseen v (suc n)) (fitted l) ≡ true) where
    next_level : eqb (meet (suc n) x (fitted l) % 2) 1 ≡ level v (eqb (x % 2) 1) l
    unfolding level
    next_level =
        meet_odd n x (fitted l) e
        ∙ ap (λ (b : Bool). cond (eqb (x % 2) 1) b false)
        (sym (all_same (foreseen v (suc n)) (sends_at v) sends (sends_at_foreseen v n) (fitted l) e))

    -- the line after the next slot is foreseen for what is left, and so are its levels
    next_slot : slot v (eqb (x % 2) 1) l ≡ on_fitted (took (eqb (meet (suc n) x (fitted l) % 2) 1)) l
    unfolding slot
    next_slot =
        let w = level v (eqb (x % 2) 1) l in
        on_fitted_same (foreseen v (suc n)) (took_at v w) (took w) (took_at_foreseen v n w) l e
        ∙ ap (λ (b : Bool). on_fitted (took b) l) (sym next_level)

    module _ (b : Bool) where
      left_foreseen : all (foreseen v n) (fitted (on_fitted (took b) l)) ≡ true
      left_foreseen =
          ap (all (foreseen v n)) (fitted_on_fitted (took b) l)
          ∙ all_map (foreseen v (suc n)) (foreseen v n) (took b) (foreseen_took v n b) (fitted l) e

      left_levels : meet n (x / 2) (fitted (on_fitted (took b) l)) ≡ meet (suc n) x (fitted l) / 2
      left_levels = ap (meet n (x / 2)) (fitted_on_fitted (took b) l) ∙ sym (meet_half n x b (fitted l) e)

  pub slots_foreseen : (n x : ℕ) (l : Line) → all (foreseen v n) (fitted l) ≡ true → slots v n x l ≡ on_fitted (took_bits n (meet n x (fitted l))) l
  unfolding slots took_bits
  slots_foreseen zero x l e = sym (on_fitted_none l)
  slots_foreseen (suc n) x l e =
      let m = meet (suc n) x (fitted l) in
      let b = eqb (m % 2) 1 in
      ap (slots v n (x / 2)) (next_slot n x l e)
      ∙ slots_foreseen n (x / 2) (on_fitted (took b) l) (left_foreseen n x l e b)
      ∙ ap (λ (k : ℕ). on_fitted (took_bits n k) (on_fitted (took b) l)) (left_levels n x l e b)
      ∙ on_fitted_on_fitted (took_bits n (m / 2)) (took b) l

  pub levels_foreseen : (n x : ℕ) (l : Line) → all (foreseen v n) (fitted l) ≡ true → levels v n x l ≡ meet n x (fitted l) % 2 ^ n
  unfolding levels
  levels_foreseen zero x l e = omega arith
  levels_foreseen (suc n) x l e =
      let m = meet (suc n) x (fitted l) in
      let b = eqb (m % 2) 1 in
      ap₂ (λ (d k : ℕ). d + 2 * k)
      (ap digit (sym (next_level n x l e)) ∙ digit_odd m)
      (ap (levels v n (x / 2)) (next_slot n x l e)
      ∙ levels_foreseen n (x / 2) (on_fitted (took b) l) (left_foreseen n x l e b)
      ∙ ap (λ (k : ℕ). k % 2 ^ n) (left_levels n x l e b))
      ∙ sym (low_suc n m)

  pub slots_byte : (x : ℕ) (l : Line) → all (foreseen v 8) (fitted l) ≡ true → slots v 8 x l ≡ on_fitted (took_bits 8 (meet 8 x (fitted l))) l
  slots_byte x l e = slots_foreseen 8 x l e

  pub levels_byte : (x : ℕ) (l : Line) → all (foreseen v 8) (fitted l) ≡ true → meet 8 x (fitted l) < 256 → levels v 8 x l ≡ meet 8 x (fitted l)
  levels_byte x l e h = levels_foreseen 8 x l e ∙ omega arith
