-- Slots over a line that is given as its probes and its free entries: the line in the middle of a pass in closed form. A pass goes on at
-- standard speed, which its reset has given to every probe.
--   line_of_parts                  every line is given so
--   f_line_of                     what f makes of such a line, for fitted, ids_of, on_fitted, level, slot, after_reset
--   slot_quiet                    a slot in which no probe sends
--   slots_reset                 a byte written after a reset is obeyed by all
--   first_slot .. third_slot      the slots of bit k on the path a
--   first_level_lem, second_level_lem     the levels of the first two: is the branch 0 there, is the branch 1 there
--   obeyed_search                 Search ROM puts every probe to bit 0 of the empty path
--   id_standing, ids_standing     the probes of the closed form have the IDs that it is made of
use mathlib.Core.Path.{◌≡◌, refl, sym, ap, ap₂, fun_ext, ◌∙◌}
use mathlib.Core.Bool.{Bool, true, false, cond, not}
use mathlib.Core.List.{List, [], ◌∷◌, ◌++◌, append-nil, map, map-map}
use Prim.Native.Nat.{ℕ, zero, suc, ◌+◌, ◌-◌, ◌*◌, ◌/◌, ◌%◌, ◌^◌, ◌<◌, ◌≤◌}
use native.Mathlib.Nat.{mod-one}
use native.Mathlib.Numerals.{add-one}
use native.Mathlib.Decide.{dec_le}
use native.Mathlib.Omega.{arith}
use borrow.Author.Tests.{lt-leb, le-leb, eq-eqb}
use lib.Dec.{eqb, leb, leb-suc-suc}
use lib.ListN.{length, take, drop, take-append-drop, length-take, drop_of_length-le, length-map}
use lib.Seq.{length-take-le, take_all, take-append_seam, drop-append_seam}
use Rattle.identity.specs.Identity.{bit_of}
use Rattle.probe.specs.declared.Slot.{Slot}
use Rattle.probe.specs.declared.Slot.TheVariants.{First, Second, Third}
use Rattle.probe.specs.declared.Condition.TheVariants.{Searching}
use Rattle.probe.specs.declared.Probe.{Probe}
use Rattle.probe.specs.Probe.{standard, deaf_new, in_condition, digit, reaches, sends, sends_in, sends_searching, sends_at, obeyed, took, took_in, took_code, took_searching, took_at, agrees, reset}
use Rattle.line.specs.declared.Line.{Line}
use Rattle.line.specs.Line.{all, fitted, id_of, ids_of, on_fitted, level, slot, after_reset, slots}
use Rattle.enumeration.proofs.Tree.{begins, has, child}
use Rattle.enumeration.proofs.Bits.{begins_child}
use Rattle.searching.proofs.Words.Rest.{free, over}
use Rattle.searching.proofs.Words.{Rest, line_of, heard, commanded, gathered, searching_in, marked_selected, stand, standing}

-- ---- a line by its probes

pub line_path : (ps qs : List Probe) (m n : ℕ) → ps ≡ qs → m ≡ n → ◌≡◌ {A = Line} (record { probes = ps; count = m }) (record { probes = qs; count = n })
line_path ps qs m n p e i = record { probes = p i; count = e i }

-- every line is given so
pub line_of_parts : (l : Line) → (rest : Rest) × (l ≡ line_of (fitted l) rest)
unfolding fitted
line_of_parts l = go (dec_le l.count (length l.probes))
  where
    go : Dec (l.count ≤ length l.probes) → (rest : Rest) × (l ≡ line_of (take l.count l.probes) rest)
    go (yes h) = (
      free (drop l.count l.probes),
      line_path l.probes (take l.count l.probes ++ drop l.count l.probes) l.count
          (length (take l.count l.probes))
          (sym (take-append-drop l.count l.probes)) (sym (length-take-le l.count l.probes h)),
    )
    go (no h) = (
      over (l.count - length l.probes),
      line_path l.probes (take l.count l.probes) l.count
          (length (take l.count l.probes) + (l.count - length l.probes))
          (sym (take_all l.count l.probes (omega arith)))
          (omega (arith, length-take l.count l.probes)),
    )

-- with a probe the count is not 0
pub count_line_of : (ps : List Probe) (rest : Rest) → 0 < length ps → 0 < (line_of ps rest).count
count_line_of ps (free r) h = h
count_line_of ps (over n) h = omega arith

pub fitted_line_of : (ps : List Probe) (rest : Rest) → fitted (line_of ps rest) ≡ ps
unfolding fitted
fitted_line_of ps (free r) = take-append_seam ps r
fitted_line_of ps (over n) = take_all (length ps + n) ps (omega arith)

pub ids_of_line_of : (ps : List Probe) (rest : Rest) → ids_of (line_of ps rest) ≡ map id_of ps
unfolding ids_of
ids_of_line_of ps rest = ap (map id_of) (fitted_line_of ps rest)

pub on_fitted_line_of : (f : Probe → Probe) (ps : List Probe) (rest : Rest) → on_fitted f (line_of ps rest) ≡ line_of (map f ps) rest
unfolding on_fitted
on_fitted_line_of f ps (free r) =
    line_path (map f (fitted (line_of ps (free r))) ++ drop (length ps) (ps ++ r)) (map f ps ++ r) (length ps)
    (length (map f ps))
    (ap₂ (λ (x y : List Probe). map f x ++ y) (fitted_line_of ps (free r)) (drop-append_seam ps r)) (sym (length-map ps f))
on_fitted_line_of f ps (over n) =
    line_path (map f (fitted (line_of ps (over n))) ++ drop (length ps + n) ps) (map f ps) (length ps + n)
    (length (map f ps) + n)
    (ap₂ (λ (x y : List Probe). map f x ++ y) (fitted_line_of ps (over n)) (drop_of_length-le ps {i = length ps + n} (omega arith))
    ∙ append-nil (map f ps))
    (ap (λ (m : ℕ). m + n) (sym (length-map ps f)))

pub level_line_of : (w : Bool) (ps : List Probe) (rest : Rest) → level standard w (line_of ps rest) ≡ cond w (all (sends_at standard) ps) false
unfolding level
level_line_of w ps rest = ap (λ (x : List Probe). cond w (all (sends_at standard) x) false) (fitted_line_of ps rest)

pub slot_line_of : (w : Bool) (ps : List Probe) (rest : Rest) → slot standard w (line_of ps rest) ≡ line_of (map (took_at standard (cond w (all (sends_at standard) ps) false)) ps) rest
unfolding slot
slot_line_of w ps rest =
    on_fitted_line_of (took_at standard (level standard w (line_of ps rest))) ps rest
    ∙ ap (λ (v : Bool). line_of (map (took_at standard v) ps) rest) (level_line_of w ps rest)

pub after_reset_line_of : (ps : List Probe) (rest : Rest) → after_reset standard (line_of ps rest) ≡ line_of (map (reset standard) ps) rest
unfolding after_reset
after_reset_line_of ps rest = on_fitted_line_of (reset standard) ps rest

-- ---- slots in which no probe sends

all_quiet : {A : Type 0} (g : A → Probe) → ((x : A) → sends_at standard (g x) ≡ true) → (xs : List A) → all (sends_at standard) (map g xs) ≡ true
unfolding all
all_quiet g q [] = refl
all_quiet g q (x ∷ xs) = ap (λ (t : Bool). cond t (all (sends_at standard) (map g xs)) false) (q x) ∙ all_quiet g q xs

pub slot_quiet : {A : Type 0} (w : Bool) (g f : A → Probe) → ((x : A) → sends_at standard (g x) ≡ true) → ((x : A) → took_at standard w (g x) ≡ f x) → (xs : List A) (rest : Rest) → slot standard w (line_of (map g xs) rest) ≡ line_of (map f xs) rest
slot_quiet w g f q t xs rest =
    slot_line_of w (map g xs) rest
    ∙ ap (λ (v : Bool). line_of (map (took_at standard v) (map g xs)) rest) (ap (λ (v : Bool). cond w v false) (all_quiet g q xs) ∙ go w)
    ∙ ap (λ (ps : List Probe). line_of ps rest) (map-map (took_at standard w) g xs ∙ ap (λ (h : _ → Probe). map h xs) (fun_ext t))
  where
    go : (v : Bool) → cond v true false ≡ v
    go true = refl
    go false = refl

-- ---- a byte to probes that take a command

obeyed_heard : (c n d : ℕ) (p : Probe) → obeyed c (heard n d p) ≡ commanded c p
unfolding obeyed
obeyed_heard c n d p = refl

took_more : (w : Bool) (n c : ℕ) (p : Probe) → n < 7 → took_at standard w (heard n c p) ≡ heard (n + 1) (c / 2 + 128 * digit w) p
unfolding took took_in took_code took_at reaches
took_more w n c p h =
    ap
    (λ (t : Bool). cond t (obeyed (c / 2 + 128 * digit w) (heard n c p)) (heard (n + 1) (c / 2 + 128 * digit w) p))
    (lt-leb 7 n h)

took_whole : (w : Bool) (n c : ℕ) (p : Probe) → 7 ≤ n → took_at standard w (heard n c p) ≡ commanded (c / 2 + 128 * digit w) p
unfolding took took_in took_code took_at reaches
took_whole w n c p h =
    ap
    (λ (t : Bool). cond t (obeyed (c / 2 + 128 * digit w) (heard n c p)) (heard (n + 1) (c / 2 + 128 * digit w) p))
    (le-leb 7 n h)
    ∙ obeyed_heard (c / 2 + 128 * digit w) n c p

heard_quiet : (n c : ℕ) (p : Probe) → sends_at standard (heard n c p) ≡ true
unfolding sends sends_in sends_at reaches
heard_quiet n c p = refl

slots_heard : (m n x c : ℕ) (ps : List Probe) (rest : Rest) → n + suc m ≡ 8 → slots standard (suc m) x (line_of (map (heard n c) ps) rest) ≡ line_of (map (commanded (gathered (suc m) x c)) ps) rest
unfolding slots gathered
slots_heard zero n x c ps rest e =
    slot_quiet (eqb (x % 2) 1) (heard n c) (commanded (c / 2 + 128 * digit (eqb (x % 2) 1))) (heard_quiet n c)
    (λ p. took_whole (eqb (x % 2) 1) n c p (omega arith)) ps rest
slots_heard (suc m) n x c ps rest e =
    ap (slots standard (suc m) (x / 2))
    (slot_quiet (eqb (x % 2) 1) (heard n c) (heard (n + 1) (c / 2 + 128 * digit (eqb (x % 2) 1))) (heard_quiet n c)
    (λ p. took_more (eqb (x % 2) 1) n c p (omega arith)) ps rest)
    ∙ slots_heard m (n + 1) (x / 2) (c / 2 + 128 * digit (eqb (x % 2) 1)) ps rest (omega arith)

-- after a reset all obey the byte, its bits having been gathered again
pub slots_reset : (x : ℕ) (ps : List Probe) (rest : Rest) → slots standard 8 x (line_of (map (reset standard) ps) rest) ≡ line_of (map (commanded (gathered 8 x 0)) ps) rest
unfolding reset
slots_reset x ps rest = slots_heard 7 0 x 0 ps rest refl

-- ---- a triplet

-- the level is 0 exactly if some probe begins as asked
all_none : (k a : ℕ) (g : ℕ → Probe) → ((i : ℕ) → sends_at standard (g i) ≡ not (begins k a i)) → (ids : List ℕ) → all (sends_at standard) (map g ids) ≡ not (has ids k a)
unfolding all has
all_none k a g s [] = refl
all_none k a g s (i ∷ ids) =
    ap₂ (λ (t v : Bool). cond t v false) (s i) (all_none k a g s ids) ∙ go (begins k a i) (has ids k a)
  where
    go : (t v : Bool) → cond (not t) (not v) false ≡ not (cond t true v)
    go true v = refl
    go false v = refl

-- the bit and its complement, as sent by a probe that has the bit v
bit_sent : (v : Bool) → v ≡ not (cond v false true)
bit_sent true = refl
bit_sent false = refl

complement_sent : (v : Bool) → not v ≡ not (cond v true false)
complement_sent true = refl
complement_sent false = refl

module _ (k a : ℕ) (below : a < 2 ^ k) where
  -- in a slot that tells whether the branch w is there, the probes that send 0 are those below it
  sends_stand : (s : Slot) (w : Bool) → ((i : ℕ) → sends_searching i k s ≡ not (cond (bit_of i k) w (not w))) → (i : ℕ) → sends_at standard (stand s k a i) ≡ not (begins (suc k) (child w k a) i)
  unfolding stand sends sends_in sends_at reaches
  sends_stand s w e i = go (begins k a i) ∙ sym (ap not (begins_child w k a i below))
    where
      go : (t : Bool) → sends_at standard (cond t (searching_in s k i) (deaf_new i)) ≡ not (cond t (cond (bit_of i k) w (not w)) false)
      go true = e i
      go false = refl

  sends_first : (i : ℕ) → sends_at standard (stand First k a i) ≡ not (begins (suc k) (child false k a) i)
  unfolding sends_searching
  sends_first = sends_stand First false (λ i. bit_sent (bit_of i k))

  sends_second : (i : ℕ) → sends_at standard (stand Second k a i) ≡ not (begins (suc k) (child true k a) i)
  unfolding sends_searching
  sends_second = sends_stand Second true (λ i. complement_sent (bit_of i k))

  -- a slot in which a probe sends takes it to its next slot, whatever the level
  took_stand : (s t : Slot) → ((l : Bool) (p : Probe) → took_searching k s l p ≡ in_condition p (Searching k t)) → (l : Bool) (i : ℕ) → took_at standard l (stand s k a i) ≡ stand t k a i
  unfolding stand took took_in took_at reaches
  took_stand s t e l i = go (begins k a i)
    where
      go : (v : Bool) → took_at standard l (cond v (searching_in s k i) (deaf_new i)) ≡ cond v (searching_in t k i) (deaf_new i)
      go true = e l (searching_in s k i)
      go false = refl

  took_first : (l : Bool) (i : ℕ) → took_at standard l (stand First k a i) ≡ stand Second k a i
  unfolding took_searching
  took_first = took_stand First Second (λ l p. refl)

  took_second : (l : Bool) (i : ℕ) → took_at standard l (stand Second k a i) ≡ stand Third k a i
  unfolding took_searching
  took_second = took_stand Second Third (λ l p. refl)

  third_quiet : (i : ℕ) → sends_at standard (stand Third k a i) ≡ true
  unfolding stand sends sends_in sends_searching sends_at reaches
  third_quiet i = go (begins k a i)
    where
      go : (t : Bool) → sends_at standard (cond t (searching_in Third k i) (deaf_new i)) ≡ true
      go true = refl
      go false = refl

  took_third : (w : Bool) (i : ℕ) → took_at standard w (stand Third k a i) ≡ standing (suc k) (child w k a) i
  unfolding stand standing took took_in took_searching took_at reaches
  took_third w i =
      go (begins k a i) (agrees w i k) refl
      ∙ ap (λ (t : Bool). cond t (cond (leb 64 (suc k)) (marked_selected i) (searching_in First (suc k) i)) (deaf_new i))
      (sym (begins_child w k a i below))
    where
      go : (t v : Bool) → agrees w i k ≡ v → took_at standard w (cond t (searching_in Third k i) (deaf_new i)) ≡ cond (cond t v false) (cond (leb 64 (suc k)) (marked_selected i) (searching_in First (suc k) i)) (deaf_new i)
      go true true e =
          ap (λ (t : Bool). cond t (cond (leb 63 k) (marked_selected i) (searching_in First (k + 1) i)) (deaf_new i)) e
          ∙ ap₂ (λ (t : Bool) (m : ℕ). cond t (marked_selected i) (searching_in First m i)) (sym (leb-suc-suc 63 k)) (add-one k)
      go true false e =
          ap (λ (t : Bool). cond t (cond (leb 63 k) (marked_selected i) (searching_in First (k + 1) i)) (deaf_new i)) e
      go false v e = refl

  -- before the last bit has been taken
  standing_first : k < 64 → (i : ℕ) → standing k a i ≡ stand First k a i
  unfolding standing stand
  standing_first h i =
      ap (λ (t : Bool). cond (begins k a i) (cond t (marked_selected i) (searching_in First k i)) (deaf_new i)) (lt-leb 64 k h)

  -- the three slots of bit k: two levels that say which branches are there, and then the branch of the bit written
  module _ (ids : List ℕ) (rest : Rest) where
    slot_sent : (s t : Slot) → ((l : Bool) (i : ℕ) → took_at standard l (stand s k a i) ≡ stand t k a i) → slot standard true (line_of (map (stand s k a) ids) rest) ≡ line_of (map (stand t k a) ids) rest
    slot_sent s t e =
        slot_line_of true (map (stand s k a) ids) rest
        ∙ ap (λ (ps : List Probe). line_of ps rest)
        (map-map (took_at standard (all (sends_at standard) (map (stand s k a) ids))) (stand s k a) ids
        ∙ ap (λ (h : ℕ → Probe). map h ids) (fun_ext (e (all (sends_at standard) (map (stand s k a) ids)))))

    pub first_slot : k < 64 → slot standard true (line_of (map (standing k a) ids) rest) ≡ line_of (map (stand Second k a) ids) rest
    first_slot h = rw (fun_ext (standing_first h)) (slot_sent First Second took_first)

    pub second_slot : slot standard true (line_of (map (stand Second k a) ids) rest) ≡ line_of (map (stand Third k a) ids) rest
    second_slot = slot_sent Second Third took_second

    pub third_slot : (w : Bool) → slot standard w (line_of (map (stand Third k a) ids) rest) ≡ line_of (map (standing (suc k) (child w k a)) ids) rest
    third_slot w = slot_quiet w (stand Third k a) (standing (suc k) (child w k a)) third_quiet (took_third w) ids rest

    pub first_level_lem : k < 64 → level standard true (line_of (map (standing k a) ids) rest) ≡ not (has ids (suc k) (child false k a))
    first_level_lem h =
        rw (fun_ext (standing_first h))
        (level_line_of true (map (stand First k a) ids) rest ∙ all_none (suc k) (child false k a) (stand First k a) sends_first ids)

    pub second_level_lem : level standard true (line_of (map (stand Second k a) ids) rest) ≡ not (has ids (suc k) (child true k a))
    second_level_lem =
        level_line_of true (map (stand Second k a) ids) rest ∙ all_none (suc k) (child true k a) (stand Second k a) sends_second ids

-- the start of a search: every probe searches, whatever it did before and at whatever speed
pub obeyed_search : (p : Probe) → commanded 0xF0 p ≡ standing 0 0 p.id
unfolding obeyed standing begins
obeyed_search p = ap (λ (t : Bool). cond t (searching_in First 0 p.id) (deaf_new p.id)) (sym (eq-eqb (p.id % 1) 0 (mod-one p.id)))

-- the probe of an ID is that ID's, in the middle of a search and at its end
pub id_standing : (k a i : ℕ) → (standing k a i).id ≡ i
unfolding standing
id_standing k a i = go (begins k a i) (leb 64 k)
  where
    go : (t v : Bool) → id_of (cond t (cond v (marked_selected i) (searching_in First k i)) (deaf_new i)) ≡ i
    go true true = refl
    go true false = refl
    go false v = refl

pub ids_standing : (k a : ℕ) (ids : List ℕ) → map id_of (map (standing k a) ids) ≡ ids
ids_standing k a [] = refl
ids_standing k a (i ∷ ids) = ap₂ {C = List ℕ} (λ (x : ℕ) (y : List ℕ). x ∷ y) (id_standing k a i) (ids_standing k a ids)
