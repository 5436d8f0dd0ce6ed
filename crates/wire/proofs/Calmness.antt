-- A calm probe, slot by slot.
--   calm_awake      it is not selected
--   calm_less       it is calm for one slot less
--   calm_step       and so is what a slot makes of it
use mathlib.Core.Path.{◌≡◌, refl, ap, ◌∙◌}
use mathlib.Core.Bool.{Bool, true, false, cond, false≢true}
use Prim.Native.Nat.{ℕ, zero, suc, ◌+◌, ◌*◌, ◌/◌}
use lib.Dec.{leb}
use native.Mathlib.Omega.{arith}
use borrow.Author.Tests.{le-leb, lt-leb, leb-true}
use Rattle.probe.specs.declared.Slot.{Slot}
use Rattle.probe.specs.declared.Slot.TheVariants.{First, Second, Third}
use Rattle.probe.specs.declared.Condition.{Condition}
use Rattle.probe.specs.declared.Condition.TheVariants.{Deaf, Taking, Sending, Matching, Searching, Selected}
use Rattle.probe.specs.declared.Probe.{Probe}
use Rattle.probe.specs.Probe.{reaches, agrees, differed, in_condition, with_mark, digit}
use Rattle.probe.specs.Probe.{took_code, obeyed, took_sending, took_matching, took_searching, took_in, took, took_at}
use Rattle.wire.specs.Wire.{is_selected}
use Rattle.wire.specs.Calm.{slot_of, calm_in, calm}

awake : (n : ℕ) (q : Condition) → calm_in n q ≡ true → is_selected q ≡ false
unfolding calm_in is_selected
awake n Deaf e = refl
awake n (Taking k c) e = refl
awake n (Sending k) e = refl
awake n (Matching k f) e = refl
awake n (Searching k s) e = refl
awake n Selected e = absurd (false≢true e)

pub calm_awake : (n : ℕ) (p : Probe) → calm (suc n) p ≡ true → is_selected p.condition ≡ false
unfolding calm
calm_awake n p e = awake (suc n) p.condition e

less : (n : ℕ) (q : Condition) → calm_in (suc n) q ≡ true → calm_in n q ≡ true
unfolding calm_in
less n Deaf e = refl
less n (Taking k c) e = le-leb (k + n) 8 (omega (arith, leb-true (k + suc n) 8 e))
less n (Sending k) e = le-leb (k + n) 64 (omega (arith, leb-true (k + suc n) 64 e))
less n (Matching k f) e = le-leb (k + n) 64 (omega (arith, leb-true (k + suc n) 64 e))
less n (Searching k s) e = le-leb (slot_of k s + n) 192 (omega (arith, leb-true (slot_of k s + suc n) 192 e))
less n Selected e = absurd (false≢true e)

pub calm_less : (n : ℕ) (p : Probe) → calm (suc n) p ≡ true → calm n p ≡ true
unfolding calm
calm_less zero p e = refl
calm_less (suc n) p e = less (suc n) p.condition e

-- of two probes by a test, where either is calm
either : (n : ℕ) (t : Bool) (p q : Probe) → calm_in n p.condition ≡ true → calm_in n q.condition ≡ true
    → calm_in n (cond t p q).condition ≡ true
either n true p q a b = a
either n false p q a b = b

module _ (n : ℕ) (x : Bool) (p : Probe) where
  code : (k c : ℕ) → calm_in (suc (suc n)) (Taking k c) ≡ true → calm_in (suc n) (took_code k c x p).condition ≡ true
  unfolding calm_in took_code
  code k c e =
      let h = leb-true (k + suc (suc n)) 8 e in
      let y = c / 2 + 128 * digit x in
      ap (λ (t : Bool). calm_in (suc n) (cond t (obeyed y p) (in_condition p (Taking (k + 1) y))).condition) (lt-leb 7 k (omega (arith, h)))
      ∙ le-leb (k + 1 + suc n) 8 (omega (arith, h))

  sending : (k : ℕ) → calm_in (suc (suc n)) (Sending k) ≡ true → calm_in (suc n) (took_sending k p).condition ≡ true
  unfolding calm_in took_sending
  sending k e =
      let h = leb-true (k + suc (suc n)) 64 e in
      ap (λ (t : Bool). calm_in (suc n) (cond t Selected (Sending (k + 1)))) (lt-leb 63 k (omega (arith, h)))
      ∙ le-leb (k + 1 + suc n) 64 (omega (arith, h))

  matching : (k : ℕ) (f : Bool) → calm_in (suc (suc n)) (Matching k f) ≡ true → calm_in (suc n) (took_matching k f x p).condition ≡ true
  unfolding calm_in took_matching
  matching k f e =
      let h = leb-true (k + suc (suc n)) 64 e in
      let more = in_condition p (Matching (k + 1) f) in
      either (suc n) (agrees x p.id k) (cond (leb 63 k) (with_mark p true Selected) more) (differed f p)
      (ap (λ (t : Bool). calm_in (suc n) (cond t (with_mark p true Selected) more).condition) (lt-leb 63 k (omega (arith, h)))
      ∙ le-leb (k + 1 + suc n) 64 (omega (arith, h)))
      refl

  searching : (k : ℕ) (s : Slot) → calm_in (suc (suc n)) (Searching k s) ≡ true → calm_in (suc n) (took_searching k s x p).condition ≡ true
  unfolding calm_in slot_of took_searching
  searching k First e = le-leb (slot_of k Second + suc n) 192 (omega (arith, leb-true (slot_of k First + suc (suc n)) 192 e))
  searching k Second e = le-leb (slot_of k Third + suc n) 192 (omega (arith, leb-true (slot_of k Second + suc (suc n)) 192 e))
  searching k Third e =
      let h = leb-true (slot_of k Third + suc (suc n)) 192 e in
      let more = in_condition p (Searching (k + 1) First) in
      either (suc n) (agrees x p.id k) (cond (leb 63 k) (with_mark p true Selected) more) (in_condition p Deaf)
      (ap (λ (t : Bool). calm_in (suc n) (cond t (with_mark p true Selected) more).condition) (lt-leb 63 k (omega (arith, h)))
      ∙ le-leb (slot_of (k + 1) First + suc n) 192 (omega (arith, h)))
      refl

  taken : (q : Condition) → p.condition ≡ q → calm_in (suc (suc n)) q ≡ true → calm_in (suc n) (took_in q x p).condition ≡ true
  unfolding calm_in took_in
  taken Deaf r e = ap (calm_in (suc n)) r
  taken (Taking k c) r e = code k c e
  taken (Sending k) r e = sending k e
  taken (Matching k f) r e = matching k f e
  taken (Searching k s) r e = searching k s e
  taken Selected r e = absurd (false≢true e)

pub calm_step : (v : ℕ) (x : Bool) (n : ℕ) (p : Probe) → calm (suc n) p ≡ true → calm n (took_at v x p) ≡ true
unfolding calm took took_at
calm_step v x zero p e = refl
calm_step v x (suc n) p e =
    either (suc n) (reaches v p) (took_in p.condition x p) p (taken n x p p.condition refl e) (less (suc n) p.condition e)
