-- The three slots of a triplet on a line where all is settled.
--   either_way                              a settled probe rests, or is reached in the first slot of a search bit
--   sends_after v a p                        what p lets the line be in the slot after one of level a
--   settled_rests, settled_first             a probe that does is settled
--   rests_after, first_sent, second_sent    what such a probe sends in the first two slots; sends_resting, sends_first, all of it at once
--   second_level_lem                            the level of a second write-one slot
--   triplet_settled                         the line after the triplet
--   outcome, decided_by                     what a searching probe is then, by whether the level is its bit and that the last
--   decided_on, decided_last, decided_off     the level is its bit, and that the last; the level is not
--   all_more                                a test of the first entries of a table, with one more
use mathlib.Core.Path.{◌≡◌, refl, sym, ap, ap₂, ◌∙◌}
use mathlib.Core.Bool.{Bool, true, false, cond, not, ◌&&◌, false≢true}
use mathlib.Core.List.{List, [], ◌∷◌}
use Prim.Native.Nat.{ℕ, zero, suc, ◌+◌, ◌<◌, ◌≤◌}
use native.Mathlib.Numerals.{add-one}
use native.Mathlib.Omega.{arith}
use lib.Dec.{leb}
use lib.ListN.{length, get_or, take}
use borrow.Author.Tests.{le-leb, lt-leb}
use Rattle.identity.specs.Identity.{bit_of}
use Rattle.probe.specs.declared.Slot.{Slot}
use Rattle.probe.specs.declared.Slot.TheVariants.{First, Second, Third}
use Rattle.probe.specs.declared.Condition.{Condition}
use Rattle.probe.specs.declared.Condition.TheVariants.{Deaf, Taking, Sending, Matching, Searching, Selected}
use Rattle.probe.specs.declared.Probe.{Probe}
use Rattle.probe.specs.Probe.{reaches, sends, sends_in, sends_searching, sends_at, took, took_in, took_searching, took_at, agrees}
use Rattle.probe.specs.Probe.{rests, rests_in, in_condition, with_mark}
use Rattle.probe.proofs.Rests.{took_at_rests, sends_at_rests, took_at_reached, sends_at_reached}
use Rattle.line.specs.declared.Line.{Line}
use Rattle.line.specs.Line.{all, fitted, on_fitted, level, slot}
use Rattle.line.proofs.Front.{both, first_of, rest_of}
use Rattle.line.proofs.Each.{all_map, all_of_map, fitted_on_fitted, on_fitted_on_fitted, on_fitted_same}
use Rattle.triplet_slots.specs.Triplet.{written_bit, after_triplet, is_first, settled, settled_in, Sends, decided, decided_in}

-- ---- one probe

-- a settled probe rests, or is reached in the first slot of a search bit
pub either_way : {A : Type 0} (v : ℕ) (p : Probe) → settled v p ≡ true → (rests p ≡ true → A) → ((k : ℕ) → p.condition ≡ Searching k First → reaches v p ≡ true → A) → A
unfolding settled settled_in rests rests_in
either_way {A} v p e f g = go p.condition refl e
  where
    at : (k : ℕ) (s : Slot) → p.condition ≡ Searching k s → cond (reaches v p) (is_first s) false ≡ true → A
    at k First q h = g k q (first_of (reaches v p) true h)
    at k Second q h = absurd (false≢true (rest_of (reaches v p) false h))
    at k Third q h = absurd (false≢true (rest_of (reaches v p) false h))

    go : (c : Condition) → p.condition ≡ c → settled_in (reaches v p) c ≡ true → A
    go Deaf q h = f (ap rests_in q)
    go (Taking n c) q h = absurd (false≢true h)
    go (Sending k) q h = absurd (false≢true h)
    go (Matching k w) q h = absurd (false≢true h)
    go (Searching k s) q h = at k s q h
    go Selected q h = f (ap rests_in q)

-- what settles it, the other way round
pub settled_rests : (v : ℕ) (p : Probe) → rests p ≡ true → settled v p ≡ true
unfolding settled settled_in rests rests_in
settled_rests v p e = go p.condition e
  where
    go : (c : Condition) → rests_in c ≡ true → settled_in (reaches v p) c ≡ true
    go Deaf h = refl
    go (Taking n c) h = h
    go (Sending k) h = h
    go (Matching k w) h = h
    go (Searching k s) h = absurd (false≢true h)
    go Selected h = refl

pub settled_first : (v k : ℕ) (p : Probe) → p.condition ≡ Searching k First → reaches v p ≡ true → settled v p ≡ true
unfolding settled settled_in
settled_first v k p e r = ap (settled_in (reaches v p)) e ∙ both (reaches v p) true r refl

abbrev pub sends_after : ℕ → Bool → Probe → Bool
sends_after v a p = sends_at v (took_at v a p)

pub rests_after : (v : ℕ) (a : Bool) (p : Probe) → rests p ≡ true → sends_after v a p ≡ true
rests_after v a p e = ap (sends_at v) (took_at_rests v a p e) ∙ sends_at_rests v p e

module _ (v k : ℕ) (p : Probe) (e : p.condition ≡ Searching k First) (r : reaches v p ≡ true) where
  -- it goes through its first two slots whatever the levels
  to_second : (a : Bool) → took_at v a p ≡ in_condition p (Searching k Second)
  unfolding took took_in took_searching
  to_second a = took_at_reached v a p true r ∙ ap (λ (c : Condition). took_in c a p) e

  to_third : (b : Bool) → took_at v b (in_condition p (Searching k Second)) ≡ in_condition p (Searching k Third)
  unfolding took took_in took_searching reaches
  to_third b = took_at_reached v b (in_condition p (Searching k Second)) true r

  pub first_sent : sends_at v p ≡ bit_of p.id k
  unfolding sends sends_in sends_searching
  first_sent = sends_at_reached v p true r ∙ ap (sends_in p.id) e

  pub second_sent : (a : Bool) → sends_after v a p ≡ not (bit_of p.id k)
  unfolding sends sends_in sends_searching reaches
  second_sent a = ap (sends_at v) (to_second a) ∙ sends_at_reached v (in_condition p (Searching k Second)) true r

  twice : (a b : Bool) → took_at v b (took_at v a p) ≡ in_condition p (Searching k Third)
  twice a b = ap (took_at v b) (to_second a) ∙ to_third b

  third_silent : (a b : Bool) → sends_at v (took_at v b (took_at v a p)) ≡ true
  unfolding sends sends_in sends_searching reaches
  third_silent a b = ap (sends_at v) (twice a b) ∙ sends_at_reached v (in_condition p (Searching k Third)) true r

  third_taken : (a b w : Bool) → took_at v w (took_at v b (took_at v a p)) ≡ decided w p
  unfolding took took_in took_searching decided decided_in reaches
  third_taken a b w =
      ap (took_at v w) (twice a b) ∙ took_at_reached v w (in_condition p (Searching k Third)) true r
      ∙ sym (ap (λ (c : Condition). decided_in c w p) e)

pub sends_resting : (v : ℕ) (p : Probe) → rests p ≡ true → Sends v true true p
sends_resting v p e = (settled_rests v p e, sym (sends_at_rests v p e), λ a. sym (rests_after v a p e))

pub sends_first : (v k : ℕ) (p : Probe) (b : Bool) → p.condition ≡ Searching k First → reaches v p ≡ true → b ≡ bit_of p.id k → Sends v b (not b) p
sends_first v k p b e r s =
    (settled_first v k p e r, s ∙ sym (first_sent v k p e r), λ a. ap not s ∙ sym (second_sent v k p e r a))

decided_rests : (w : Bool) (p : Probe) → rests p ≡ true → decided w p ≡ p
unfolding decided decided_in rests rests_in
decided_rests w p e = go p.condition e
  where
    go : (c : Condition) → rests_in c ≡ true → decided_in c w p ≡ p
    go Deaf h = refl
    go (Taking n c) h = refl
    go (Sending k) h = refl
    go (Matching k v) h = refl
    go (Searching k s) h = absurd (false≢true h)
    go Selected h = refl

-- nobody sends in the third slot
silent : (v : ℕ) (a b : Bool) (p : Probe) → settled v p ≡ true → sends_at v (took_at v b (took_at v a p)) ≡ true
silent v a b p e =
    either_way v p e
    (λ s. ap (λ (q : Probe). sends_at v (took_at v b q)) (took_at_rests v a p s) ∙ rests_after v b p s)
    (λ k f r. third_silent v k p f r a b)

after_three : (v : ℕ) (a b w : Bool) (p : Probe) → settled v p ≡ true → took_at v w (took_at v b (took_at v a p)) ≡ decided w p
after_three v a b w p e =
    either_way v p e
    (λ s.
    ap (λ (q : Probe). took_at v w (took_at v b q)) (took_at_rests v a p s) ∙ ap (took_at v w) (took_at_rests v b p s)
    ∙ took_at_rests v w p s ∙ sym (decided_rests w p s))
    (λ k f r. third_taken v k p f r a b w)

-- what a searching probe is then at bit k, by whether the level is its bit and whether that is the last
abbrev pub outcome : ℕ → Bool → Bool → Probe → Probe
outcome k same last p =
    cond same (cond last (with_mark p true Selected) (in_condition p (Searching (k + 1) First))) (in_condition p Deaf)

pub decided_by : (k : ℕ) (w : Bool) (p : Probe) {c : Slot} (s t : Bool)
    → p.condition ≡ Searching k c → agrees w p.id k ≡ s → leb 63 k ≡ t → decided w p ≡ outcome k s t p
unfolding decided decided_in took_searching
decided_by k w p s t e same last =
    ap (λ (c : Condition). decided_in c w p) e ∙ ap₂ (λ (u x : Bool). outcome k u x p) same last

module _ (w : Bool) (p : Probe) (k : ℕ) (c : Slot) (e : p.condition ≡ Searching k c) where
  pub decided_on : agrees w p.id k ≡ true → k < 63 → decided w p ≡ in_condition p (Searching (k + 1) First)
  decided_on same h = decided_by k w p true false e same (lt-leb 63 k h)

  pub decided_last : agrees w p.id k ≡ true → 63 ≤ k → decided w p ≡ with_mark p true Selected
  decided_last same h = decided_by k w p true true e same (le-leb 63 k h)

  pub decided_off : agrees w p.id k ≡ false → decided w p ≡ in_condition p Deaf
  decided_off other = decided_by k w p false (leb 63 k) e other refl

-- ---- the line

pub second_level_lem : (v : ℕ) (l : Line) → level v true (slot v true l) ≡ all (sends_after v (level v true l)) (fitted l)
unfolding level slot
second_level_lem v l =
    let a = all (sends_at v) (fitted l) in
    ap (all (sends_at v)) (fitted_on_fitted (took_at v a) l) ∙ all_of_map (sends_at v) (took_at v a) (fitted l)

module _ (v : ℕ) (l : Line) (e : all (settled v) (fitted l) ≡ true) where
  -- two slots, of any levels
  twice_on : (a b : Bool) → Line
  twice_on a b = on_fitted (λ (p : Probe). took_at v b (took_at v a p)) l

  third_level : (a b w : Bool) → level v w (twice_on a b) ≡ w
  unfolding level twice_on
  third_level a b true =
      ap (all (sends_at v)) (fitted_on_fitted (λ (p : Probe). took_at v b (took_at v a p)) l)
      ∙ all_map (settled v) (sends_at v) (λ (p : Probe). took_at v b (took_at v a p)) (silent v a b) (fitted l) e
  third_level a b false = refl

  third_slot : (a b w : Bool) → slot v w (twice_on a b) ≡ on_fitted (decided w) l
  unfolding slot twice_on
  third_slot a b w =
      ap (λ (c : Bool). on_fitted (took_at v c) (twice_on a b)) (third_level a b w)
      ∙ on_fitted_on_fitted (took_at v w) (λ (p : Probe). took_at v b (took_at v a p)) l
      ∙ on_fitted_same (settled v) (λ (p : Probe). took_at v w (took_at v b (took_at v a p))) (decided w) (after_three v a b w) l e

  pub triplet_settled : (d : Bool) → after_triplet v d l ≡ on_fitted (decided (written_bit v d l)) l
  unfolding twice_on slot
  triplet_settled d =
      let a = level v true l in
      let b = level v true (on_fitted (took_at v a) l) in
      ap (slot v (written_bit v d l)) (on_fitted_on_fitted (took_at v b) (took_at v a) l) ∙ third_slot a b (written_bit v d l)

-- ---- the first entries of a table, over any type of entry

last_of : (s : Bool) → cond s true false ≡ s
last_of true = refl
last_of false = refl

pub kept : (s : Bool) → s ≡ (s && true)
kept true = refl
kept false = refl

in_turn : (s t u : Bool) → cond s (t && u) false ≡ (cond s t false && u)
in_turn true t u = refl
in_turn false t u = refl

module _ {A : Type 0} where
  more : (f : A → Bool) (l : List A) (i : ℕ) (d : A) → i < length l → all f (take (suc i) l) ≡ (all f (take i l) && f (get_or l i d))
  unfolding all
  more f [] i d h = absurd (omega arith)
  more f (x ∷ l) zero d h = last_of (f x)
  more f (x ∷ l) (suc i) d h =
      ap (λ (b : Bool). cond (f x) b false) (more f l i d (omega arith)) ∙ in_turn (f x) (all f (take i l)) (f (get_or l i d))

  pub all_more : (f : A → Bool) (l : List A) (i : ℕ) (d : A) (s b : Bool) → i < length l → s ≡ all f (take i l) → b ≡ f (get_or l i d)
      → (s && b) ≡ all f (take (i + 1) l)
  all_more f l i d s b h e q = ap₂ (λ (x y : Bool). x && y) e q ∙ sym (rw add-one (more f l i d h))
