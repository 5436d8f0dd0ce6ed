-- A probe that takes several slots in one go.
--   took_bits_rests                          one that rests is not changed
--   sending_next, sending_last              one that sends its ID goes on, or is selected after the last bit
--   matching_next, -last, -differs          one that matches its ID goes on if all bits agree, is selected after the last, or has differed
--   taking_whole                            a code of which no bit has come yet is the bits
-- The same of the eight bits of a byte:
--   resting_byte                            one that rests is not changed
--   taking_byte                             a code of which no bit has come yet is the byte
--   sending_byte, sent_byte                 one that sends its ID goes on, or is selected after the last bit
--   matching_byte, matched_byte, other_byte     one that matches its ID goes on if all bits agree, is selected after the last, or has differed
use mathlib.Core.Path.{◌≡◌, refl, sym, ap, ap₂, ◌∙◌}
use mathlib.Core.Bool.{Bool, true, false, cond, not}
use mathlib.Core.Logic.{◌⊎◌, inl, inr}
use Prim.Native.Nat.{ℕ, zero, suc, ◌+◌, ◌*◌, ◌/◌, ◌%◌, ◌^◌, ◌<◌, ◌≤◌}
use native.Mathlib.Omega.{arith}
use lib.Dec.{eqb, leb}
use borrow.Author.Tests.{le-leb, lt-leb, eqb-true, eqb-false}
use Rattle.identity.specs.Identity.{bit_of}
use Rattle.probe.specs.declared.Condition.{Condition}
use Rattle.probe.specs.declared.Condition.TheVariants.{Deaf, Taking, Sending, Matching, Selected}
use Rattle.probe.specs.declared.Probe.{Probe}
use Rattle.probe.specs.Probe.{took, took_in, took_code, took_sending, took_matching, agrees, obeyed, digit, rests, rests_in, in_condition, with_mark, differed}
use Rattle.probe.proofs.Rests.{took_rests}
use Rattle.byte_slots.specs.Foresight.{took_bits}
use Rattle.byte_slots.proofs.Digits.{digit_odd, low_suc, half_of, doubled, moved_weight, moved_down}

pub took_bits_rests : (n x : ℕ) (p : Probe) → rests p ≡ true → took_bits n x p ≡ p
unfolding took_bits
took_bits_rests zero x p e = refl
took_bits_rests (suc n) x p e = ap (took_bits n (x / 2)) (took_rests (eqb (x % 2) 1) p e) ∙ took_bits_rests n (x / 2) p e

-- ---- sending

sending_on : (k : ℕ) (b : Bool) (p : Probe) → p.condition ≡ Sending k → k < 63 → took b p ≡ in_condition p (Sending (k + 1))
unfolding took took_in took_sending
sending_on k b p e h =
    ap (λ (c : Condition). took_in c b p) e ∙ ap (λ (t : Bool). in_condition p (cond t Selected (Sending (k + 1)))) (lt-leb 63 k h)

sending_over : (k : ℕ) (b : Bool) (p : Probe) → p.condition ≡ Sending k → 63 ≤ k → took b p ≡ in_condition p Selected
unfolding took took_in took_sending
sending_over k b p e h =
    ap (λ (c : Condition). took_in c b p) e ∙ ap (λ (t : Bool). in_condition p (cond t Selected (Sending (k + 1)))) (le-leb 63 k h)

pub sending_next : (n k x : ℕ) (p : Probe) → p.condition ≡ Sending k → k + n < 64 → took_bits n x p ≡ in_condition p (Sending (k + n))
unfolding took_bits
sending_next zero k x p e h = ap (in_condition p) (e ∙ ap Sending (omega arith))
sending_next (suc n) k x p e h =
    ap (took_bits n (x / 2)) (sending_on k (eqb (x % 2) 1) p e (omega arith))
    ∙ sending_next n (k + 1) (x / 2) (in_condition p (Sending (k + 1))) refl (omega arith)
    ∙ ap (λ (j : ℕ). in_condition p (Sending j)) (omega arith)

pub sending_last : (n k x : ℕ) (p : Probe) → p.condition ≡ Sending k → k + suc n ≡ 64 → took_bits (suc n) x p ≡ in_condition p Selected
unfolding took_bits
sending_last zero k x p e h = sending_over k (eqb (x % 2) 1) p e (omega arith)
sending_last (suc n) k x p e h =
    ap (took_bits (suc n) (x / 2)) (sending_on k (eqb (x % 2) 1) p e (omega arith))
    ∙ sending_last n (k + 1) (x / 2) (in_condition p (Sending (k + 1))) refl (omega arith)

-- ---- matching

-- what one slot makes of a probe that matches its ID, by whether the level agrees
matching_one : (k : ℕ) (f : Bool) (s : Bool) (b : Bool) (p : Probe) → p.condition ≡ Matching k f → agrees b p.id k ≡ s
    → took b p ≡ cond s (cond (leb 63 k) (with_mark p true Selected) (in_condition p (Matching (k + 1) f))) (differed f p)
unfolding took took_in took_matching
matching_one k f s b p e h =
    ap (λ (c : Condition). took_in c b p) e
    ∙ ap (λ (t : Bool). cond t (cond (leb 63 k) (with_mark p true Selected) (in_condition p (Matching (k + 1) f))) (differed f p)) h

itself : (b : Bool) → cond b b (not b) ≡ true
itself true = refl
itself false = refl

agree : (i k x : ℕ) → i / 2 ^ k % 2 ≡ x % 2 → agrees (eqb (x % 2) 1) i k ≡ true
unfolding bit_of
agree i k x e =
    ap (λ (m : ℕ). cond (eqb m 1) (eqb (x % 2) 1) (not (eqb (x % 2) 1))) e ∙ itself (eqb (x % 2) 1)

disagree : (i k x : ℕ) → (i / 2 ^ k % 2 ≡ x % 2 → ⊥) → agrees (eqb (x % 2) 1) i k ≡ false
unfolding bit_of
disagree i k x h = go (eqb (i / 2 ^ k % 2) 1) (eqb (x % 2) 1) refl refl
  where
    go : (s t : Bool) → eqb (i / 2 ^ k % 2) 1 ≡ s → eqb (x % 2) 1 ≡ t → cond s t (not t) ≡ false
    go true true e f = absurd (h (eqb-true _ _ e ∙ sym (eqb-true _ _ f)))
    go true false e f = refl
    go false true e f = refl
    go false false e f = absurd (h (omega (arith, eqb-false (i / 2 ^ k % 2) 1 e, eqb-false (x % 2) 1 f)))

matching_on : (k : ℕ) (f : Bool) (x : ℕ) (p : Probe) → p.condition ≡ Matching k f → k < 63 → p.id / 2 ^ k % 2 ≡ x % 2
    → took (eqb (x % 2) 1) p ≡ in_condition p (Matching (k + 1) f)
matching_on k f x p e h same =
    matching_one k f true (eqb (x % 2) 1) p e (agree p.id k x same)
    ∙ ap (λ (t : Bool). cond t (with_mark p true Selected) (in_condition p (Matching (k + 1) f))) (lt-leb 63 k h)

matching_over : (k : ℕ) (f : Bool) (x : ℕ) (p : Probe) → p.condition ≡ Matching k f → 63 ≤ k → p.id / 2 ^ k % 2 ≡ x % 2
    → took (eqb (x % 2) 1) p ≡ with_mark p true Selected
matching_over k f x p e h same =
    matching_one k f true (eqb (x % 2) 1) p e (agree p.id k x same)
    ∙ ap (λ (t : Bool). cond t (with_mark p true Selected) (in_condition p (Matching (k + 1) f))) (le-leb 63 k h)

-- the low n bits from bit k up are those of x
abbrev Same : ℕ → ℕ → ℕ → ℕ → Type 0
Same n i k x = i / 2 ^ k % 2 ^ n ≡ x % 2 ^ n

same_low : (n i k x : ℕ) → Same (suc n) i k x → i / 2 ^ k % 2 ≡ x % 2
same_low n i k x e = omega (arith, e, low_suc n (i / 2 ^ k), low_suc n x)

same_rest : (n i k x : ℕ) → Same (suc n) i k x → Same n i (k + 1) (x / 2)
same_rest n i k x e =
    ap (λ (m : ℕ). m % 2 ^ n) (sym (half_of i k)) ∙ omega (arith, e, low_suc n (i / 2 ^ k), low_suc n x)

same_both : (n i k x : ℕ) → i / 2 ^ k % 2 ≡ x % 2 → Same n i (k + 1) (x / 2) → Same (suc n) i k x
same_both n i k x e f =
    let rest = ap (λ (m : ℕ). m % 2 ^ n) (half_of i k) ∙ f in
    omega (arith, e, rest, low_suc n (i / 2 ^ k), low_suc n x)

pub matching_next : (n k : ℕ) (f : Bool) (x : ℕ) (p : Probe) → p.condition ≡ Matching k f → k + n < 64 → Same n p.id k x
    → took_bits n x p ≡ in_condition p (Matching (k + n) f)
unfolding took_bits
matching_next zero k f x p e h s = ap (in_condition p) (e ∙ ap (λ (j : ℕ). Matching j f) (omega arith))
matching_next (suc n) k f x p e h s =
    ap (took_bits n (x / 2)) (matching_on k f x p e (omega arith) (same_low n p.id k x s))
    ∙ matching_next n (k + 1) f (x / 2) (in_condition p (Matching (k + 1) f)) refl (omega arith) (same_rest n p.id k x s)
    ∙ ap (λ (j : ℕ). in_condition p (Matching j f)) (omega arith)

pub matching_last : (n k : ℕ) (f : Bool) (x : ℕ) (p : Probe) → p.condition ≡ Matching k f → k + suc n ≡ 64 → Same (suc n) p.id k x
    → took_bits (suc n) x p ≡ with_mark p true Selected
unfolding took_bits
matching_last zero k f x p e h s = matching_over k f x p e (omega arith) (same_low 0 p.id k x s)
matching_last (suc n) k f x p e h s =
    ap (took_bits (suc n) (x / 2)) (matching_on k f x p e (omega arith) (same_low (suc n) p.id k x s))
    ∙ matching_last n (k + 1) f (x / 2) (in_condition p (Matching (k + 1) f)) refl (omega arith) (same_rest (suc n) p.id k x s)

-- a level that differs makes it deaf, and the slots that are left change nothing
matching_off : (n k : ℕ) (f : Bool) (x : ℕ) (p : Probe) → p.condition ≡ Matching k f → (p.id / 2 ^ k % 2 ≡ x % 2 → ⊥) → took_bits (suc n) x p ≡ differed f p
unfolding took_bits rests rests_in
matching_off n k f x p e other =
    ap (took_bits n (x / 2)) (matching_one k f false (eqb (x % 2) 1) p e (disagree p.id k x other))
    ∙ took_bits_rests n (x / 2) (differed f p) refl

pub matching_differs : (n k : ℕ) (f : Bool) (x : ℕ) (p : Probe) → p.condition ≡ Matching k f → k + n ≤ 64 → (Same n p.id k x → ⊥)
    → took_bits n x p ≡ differed f p
unfolding took_bits
matching_differs zero k f x p e h s = absurd (s (omega arith))
matching_differs (suc zero) k f x p e h s = matching_off 0 k f x p e (λ same. s (same_both 0 p.id k x same (omega arith)))
matching_differs (suc (suc n)) k f x p e h s =
    go (eqb (p.id / 2 ^ k % 2) (x % 2)) refl (matching_differs (suc n) (k + 1) f (x / 2) (in_condition p (Matching (k + 1) f)) refl (omega arith))
  where
    go : (t : Bool) → eqb (p.id / 2 ^ k % 2) (x % 2) ≡ t
        → ((Same (suc n) p.id (k + 1) (x / 2) → ⊥) → took_bits (suc n) (x / 2) (in_condition p (Matching (k + 1) f)) ≡ differed f p)
        → took_bits (suc (suc n)) x p ≡ differed f p
    go false g rest = matching_off (suc n) k f x p e (eqb-false (p.id / 2 ^ k % 2) (x % 2) g)
    go true g rest =
        let same = eqb-true (p.id / 2 ^ k % 2) (x % 2) g in
        ap (took_bits (suc n) (x / 2)) (matching_on k f x p e (omega (arith, h)) same) ∙ rest (λ r. s (same_both (suc n) p.id k x same r))

-- ---- taking a code

taking_on : (k c : ℕ) (b : Bool) (p : Probe) → p.condition ≡ Taking k c → k < 7 → took b p ≡ in_condition p (Taking (k + 1) (c / 2 + 128 * digit b))
unfolding took took_in took_code
taking_on k c b p e h = ap (λ (q : Condition). took_in q b p) e ∙ simp (lt-leb 7 k h)

taking_over : (k c : ℕ) (b : Bool) (p : Probe) → p.condition ≡ Taking k c → 7 ≤ k → took b p ≡ obeyed (c / 2 + 128 * digit b) p
unfolding took took_in took_code
taking_over k c b p e h = ap (λ (q : Condition). took_in q b p) e ∙ simp (le-leb 7 k h)

-- the bits come to stand k places above bit 0, and what was in the code moves down
taking_bits : (n k c x : ℕ) (p : Probe) → p.condition ≡ Taking k c → k + suc n ≡ 8 → 2 ^ k * 2 ^ n ≡ 128
    → took_bits (suc n) x p ≡ obeyed (c / 2 ^ suc n + 2 ^ k * (x % 2 ^ suc n)) p
unfolding took_bits obeyed
taking_bits zero k c x p e h w =
    taking_over k c (eqb (x % 2) 1) p e (omega arith)
    ∙ ap (λ (m : ℕ). obeyed m p) (ap (λ (d : ℕ). c / 2 + 128 * d) (digit_odd x) ∙ ap (λ (q : ℕ). c / 2 + q * (x % 2)) (sym w ∙ omega arith))
taking_bits (suc n) k c x p e h w =
    let b = eqb (x % 2) 1 in
    let c' = c / 2 + 128 * digit b in
    ap (took_bits (suc n) (x / 2)) (taking_on k c b p e (omega arith))
    ∙ taking_bits n (k + 1) c' (x / 2) (in_condition p (Taking (k + 1) c')) refl (omega arith) (moved_weight k n w)
    ∙ ap (λ (m : ℕ). obeyed m p)
    (ap₂ (λ (a q : ℕ). a / 2 ^ suc n + q * (x / 2 % 2 ^ suc n)) (omega arith) (doubled k)
    ∙ moved_down (suc n) (2 ^ k) c (digit b) (x / 2 % 2 ^ suc n) w
    ∙ ap (λ (m : ℕ). c / 2 ^ suc (suc n) + 2 ^ k * m)
    (ap (λ (d : ℕ). d + 2 * (x / 2 % 2 ^ suc n)) (digit_odd x) ∙ sym (low_suc (suc n) x)))

pub taking_whole : (k c x y : ℕ) (p : Probe) → p.condition ≡ Taking k c → k ≡ 0 → c < 256 → x < 256 → x ≡ y → took_bits 8 x p ≡ obeyed y p
taking_whole k c x y p e first h g same =
    taking_bits 7 0 c x p (e ∙ ap (λ (j : ℕ). Taking j c) first) refl refl ∙ ap (λ (m : ℕ). obeyed m p) (omega arith)

-- ---- the eight bits of a byte

pub resting_byte : (x : ℕ) (p : Probe) → p.condition ≡ Deaf ⊎ p.condition ≡ Selected → took_bits 8 x p ≡ p
unfolding rests rests_in
resting_byte x p (inl e) = took_bits_rests 8 x p (ap rests_in e)
resting_byte x p (inr e) = took_bits_rests 8 x p (ap rests_in e)

pub taking_byte : (x : ℕ) (p : Probe) → p.condition ≡ Taking 0 0 → x < 256 → took_bits 8 x p ≡ obeyed x p
taking_byte x p e low = taking_whole 0 0 x x p e refl (omega arith) low refl

pub sending_byte : (x k : ℕ) (p : Probe) → p.condition ≡ Sending k → k < 56 → took_bits 8 x p ≡ in_condition p (Sending (k + 8))
sending_byte x k p e h = sending_next 8 k x p e (omega arith)

pub sent_byte : (x : ℕ) (p : Probe) → p.condition ≡ Sending 56 → took_bits 8 x p ≡ in_condition p Selected
sent_byte x p e = sending_last 7 56 x p e refl

module _ (x k : ℕ) (f : Bool) (p : Probe) (e : p.condition ≡ Matching k f) where
  pub matching_byte : k < 56 → p.id / 2 ^ k % 256 ≡ x → took_bits 8 x p ≡ in_condition p (Matching (k + 8) f)
  matching_byte h s = matching_next 8 k f x p e (omega arith) (omega arith)

  pub matched_byte : k ≡ 56 → p.id / 2 ^ k % 256 ≡ x → took_bits 8 x p ≡ with_mark p true Selected
  matched_byte h s = matching_last 7 k f x p e (omega arith) (omega arith)

  pub other_byte : k ≤ 56 → x < 256 → (p.id / 2 ^ k % 256 ≡ x → ⊥) → took_bits 8 x p ≡ differed f p
  other_byte h low s = matching_differs 8 k f x p e (omega arith) (λ same. s (omega arith))
