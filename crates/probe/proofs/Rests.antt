-- Which slots change a probe, and what it sends in them.
--   took_rests, sends_rests        a probe that rests is not changed and sends nothing
--   took_at_reached, sends_at_reached    by whether a slot at a speed reaches the probe
--   sends_at_sends                  one that does not send 0 does so at no speed
--   took_at_rests, sends_at_rests    at whatever speed a slot comes, a probe that rests is not changed and sends nothing
use mathlib.Core.Path.{◌≡◌, refl, ap}
use mathlib.Core.Bool.{Bool, true, false, cond, false≢true}
use Prim.Native.Nat.{ℕ}
use Rattle.probe.specs.declared.Condition.{Condition}
use Rattle.probe.specs.declared.Condition.TheVariants.{Deaf, Taking, Sending, Matching, Searching, Selected}
use Rattle.probe.specs.declared.Probe.{Probe}
use Rattle.probe.specs.Probe.{reaches, sends, sends_in, sends_at, took, took_in, took_at, rests, rests_in}

rests_in_lem : (k : Condition) (b : Bool) (p : Probe) → rests_in k ≡ true → took_in k b p ≡ p
unfolding rests_in took_in
rests_in_lem Deaf b p e = refl
rests_in_lem (Taking n c) b p e = absurd (false≢true e)
rests_in_lem (Sending k) b p e = absurd (false≢true e)
rests_in_lem (Matching k f) b p e = absurd (false≢true e)
rests_in_lem (Searching k s) b p e = absurd (false≢true e)
rests_in_lem Selected b p e = refl

pub took_rests : (b : Bool) (p : Probe) → rests p ≡ true → took b p ≡ p
unfolding rests took
took_rests b p e = rests_in_lem p.condition b p e

silent_in : (i : ℕ) (k : Condition) → rests_in k ≡ true → sends_in i k ≡ true
unfolding rests_in sends_in
silent_in i Deaf e = refl
silent_in i (Taking n c) e = refl
silent_in i (Sending k) e = absurd (false≢true e)
silent_in i (Matching k f) e = refl
silent_in i (Searching k s) e = absurd (false≢true e)
silent_in i Selected e = refl

pub sends_rests : (p : Probe) → rests p ≡ true → sends p ≡ true
unfolding rests sends
sends_rests p e = silent_in p.id p.condition e

-- ---- slots at a speed

pub took_at_reached : (v : ℕ) (b : Bool) (p : Probe) (t : Bool) → reaches v p ≡ t → took_at v b p ≡ cond t (took b p) p
unfolding took_at
took_at_reached v b p t e = ap (λ (r : Bool). cond r (took b p) p) e

pub sends_at_reached : (v : ℕ) (p : Probe) (t : Bool) → reaches v p ≡ t → sends_at v p ≡ cond t (sends p) true
unfolding sends_at
sends_at_reached v p t e = ap (λ (r : Bool). cond r (sends p) true) e

same : {A : Type 0} (t : Bool) {x y : A} → x ≡ y → cond t x y ≡ y
same true e = e
same false e = refl

pub took_at_rests : (v : ℕ) (b : Bool) (p : Probe) → rests p ≡ true → took_at v b p ≡ p
unfolding took_at
took_at_rests v b p e = same (reaches v p) (took_rests b p e)

-- one that does not send 0 does so at no speed
pub sends_at_sends : (v : ℕ) (p : Probe) → sends p ≡ true → sends_at v p ≡ true
unfolding sends_at
sends_at_sends v p e = same (reaches v p) e

pub sends_at_rests : (v : ℕ) (p : Probe) → rests p ≡ true → sends_at v p ≡ true
sends_at_rests v p e = sends_at_sends v p (sends_rests p e)
