-- What holds of every state that calls reach.
--   bytes_number      the bytes of a number of bytes are those that went into it
--   Kept l            the line l has IDs and free entries, 64 together, the IDs distinct, of 64 bits and each right by itself, and the free
--                     entries as at power-on
--   accepted          an accepted ID is right by itself and new, and there is room for it
--   holds_fit         an accepted fitting adds its ID behind the others; new_id, it was none of them
--   fitted_fit        its probe is behind the others, deaf and unmarked
--   kept_without      a withdrawal takes its ID out from among the others
--   reached_kept      so it is on every line that calls reach; reached_sound, the same in the words of `Sound`
--   reached_search    a search leads from such a state to such a state
use mathlib.Core.Path.{◌≡◌, refl, sym, ap, ap₂, subst, subst⁻¹, ◌∙◌}
use mathlib.Core.Bool.{Bool, true, false, cond, false≢true}
use mathlib.Core.List.Memᴰ
use mathlib.Core.List.{List, [], ◌∷◌, ◌++◌, map, map-append}
use mathlib.Core.Logic.{⊎_elim}
use Prim.Native.Nat.{ℕ, zero, suc, ◌+◌, ◌*◌, ◌/◌, ◌%◌, ◌^◌, ◌<◌}
use native.Mathlib.Nat.{pow-suc}
use native.Mathlib.Omega.{arith}
use borrow.Author.Tests.{eq-eqb, eqb-true, leb-false}
use lib.Dec.{eqb, leb, lit<}
use lib.ListN.{length, drop, set, replicate, length-append, length-map, length-drop, length-replicate}
use lib.Seq.{set-append_seam, append_snoc, drop-append_seam, drop-drop}
use Rattle.std.specs.Prelude.{Option, None, Some}
use Rattle.identity.specs.Identity.{number_of, refusal_of}
use Rattle.probe.specs.declared.Probe.{Probe}
use Rattle.probe.specs.Probe.{deaf_new}
use Rattle.line.specs.declared.Line.{Line}
use Rattle.line.specs.Line.{any, fitted, id_of, ids_of, bare, is_fitted, place_number, fit_number, with_probe, after_fit}
use Rattle.withdrawal.specs.Withdrawal.{others, line_with, without, withdraw_number, after_withdraw}
use Rattle.bridge.specs.declared.Bridge.{Bridge}
use Rattle.bridge.specs.Bridge.{power_on, after_fitting, after_withdrawal, command}
use Rattle.bridge.proofs.Reach.{reached_command}
use Rattle.bridge.specs.Reached.{Bytes, Reached}
use Rattle.bridge.specs.Reached.Reached.{on, write, wait, fit, withdraw}
use Rattle.pass.specs.declared.Walk.{Walk}
use Rattle.pass.specs.Pass.{direction, triplet_byte, took_triplet, tripled, walked, begun, passed}
use Rattle.pass.specs.Passes.{Result, absent, continued, searched, search}
use Rattle.search.specs.Search.{bytes_from}
use Rattle.enumeration.specs.Order.{Among, Distinct, Narrow}
use Rattle.enumeration.proofs.Order.{widen, length_parted}
use Rattle.searching.proofs.Words.{Rest, line_of, Holds}
use Rattle.searching.proofs.Words.Rest.{free}
use Rattle.searching.proofs.Holds.{holds_time, write_line}
use Rattle.demand.specs.Sound.{Sound}
use Rattle.searching.proofs.Wire.{line_path, fitted_line_of, ids_of_line_of}
use Rattle.demand.proofs.Withdrawn.{any_among, Withdrawn, withdrawn_of, fitted_line_with, distinct_fewer}

pub record Kept (l : Line) : Type 0 where
  pub ids : List ℕ
  pub entries : List Probe
  pub holds : Holds ids (free entries) l
  pub full : length ids + length entries ≡ 64
  pub distinct : Distinct ids
  pub narrow : Narrow ids
  pub right : (x : List ℕ) → Bytes x → length x ≡ 8 → Among (number_of x) ids → refusal_of x ≡ 0
  pub blank : entries ≡ drop (length ids) (replicate 64 (deaf_new 0))

-- ---- bytes

-- each byte of a number of bytes is the byte that went into it
pub bytes_number : (x : List ℕ) → Bytes x → bytes_from (length x) (number_of x) ≡ x
unfolding bytes_from number_of
bytes_number [] small = refl
bytes_number (y ∷ ys) small =
    let low : (y + 256 * number_of ys) % 256 ≡ y = omega (arith, small 0) in
    let high : (y + 256 * number_of ys) / 256 ≡ number_of ys = omega (arith, small 0) in
    ap₂ (λ (v : ℕ) (l : List ℕ). v ∷ l) low
    (ap (bytes_from (length ys)) high ∙ bytes_number ys (λ k. small (suc k)))

-- so one number of eight bytes is that of no others
same_bytes : (x y : List ℕ) → Bytes x → Bytes y → length x ≡ 8 → length y ≡ 8 → number_of x ≡ number_of y → x ≡ y
same_bytes x y a b m n e =
    sym (bytes_number x a) ∙ ap₂ bytes_from (m ∙ sym n) e ∙ bytes_number y b

-- ---- fitting

-- an accepted ID is new and right by itself, and there is room for it
accepted : (x : List ℕ) (l : Line) → fit_number x l ≡ 0 → (is_fitted (number_of x) l ≡ false) × (l.count < 64) × (refusal_of x ≡ 0)
unfolding fit_number place_number
accepted x l = go (eqb (refusal_of x) 0) refl (is_fitted (number_of x) l) (leb 64 l.count) refl
  where
    go : (r : Bool) → eqb (refusal_of x) 0 ≡ r → (t v : Bool) → leb 64 l.count ≡ v → cond r (cond t 4 (cond v 1 0)) (refusal_of x) ≡ 0 → (t ≡ false) × (l.count < 64) × (refusal_of x ≡ 0)
    go true er true v ev e = absurd (omega arith)
    go true er false true ev e = absurd (omega arith)
    go true er false false ev e = (refl, leb-false 64 l.count ev, eqb-true (refusal_of x) 0 er)
    go false er t v ev e = absurd (false≢true (sym er ∙ eq-eqb (refusal_of x) 0 e))

distinct_more : (ids : List ℕ) (i : ℕ) → Distinct ids → (Among i ids → ⊥) → Distinct (ids ++ i ∷ [])
distinct_more [] i d n = (λ m. Memᴰ.not-nil m, tt)
distinct_more (j ∷ ids) i d n = (
  λ m.
      ⊎_elim (λ y. d.0 y) (λ y. n (Memᴰ.head (sym (Memᴰ.eq_of_singleton y)))) (Memᴰ.append_cases ids m),
  distinct_more ids i d.1 (λ m. n (Memᴰ.tail m)),
)

pub number_of_lt : (x : List ℕ) → Bytes x → number_of x < 256 ^ length x
unfolding number_of
number_of_lt [] b = lit< tt
number_of_lt (y ∷ x) b = omega (arith, pow-suc 256 (length x), b 0, number_of_lt x (λ k. b (suc k)))

-- the new probe takes the first free entry
with_probe_line_of : (i : ℕ) (ps : List Probe) (q : Probe) (rest : List Probe) → with_probe i (line_of ps (free (q ∷ rest))) ≡ line_of (ps ++ deaf_new i ∷ []) (free rest)
unfolding with_probe
with_probe_line_of i ps q rest =
    line_path (set (ps ++ q ∷ rest) (length ps) (deaf_new i)) ((ps ++ deaf_new i ∷ []) ++ rest) (length ps + 1)
    (length (ps ++ deaf_new i ∷ []))
    (set-append_seam ps q rest (deaf_new i) ∙ sym (append_snoc ps (deaf_new i) rest))
    (sym (length-append ps (deaf_new i ∷ [])))

after_fit_accepted : (x : List ℕ) (l : Line) → fit_number x l ≡ 0 → after_fit x l ≡ with_probe (number_of x) l
unfolding after_fit
after_fit_accepted x l e = ap (λ (t : Bool). cond t (with_probe (number_of x) l) l) (eq-eqb (fit_number x l) 0 e)

after_fit_refused : (x : List ℕ) (l : Line) → eqb (fit_number x l) 0 ≡ false → after_fit x l ≡ l
unfolding after_fit
after_fit_refused x l e = ap (λ (t : Bool). cond t (with_probe (number_of x) l) l) e

pub holds_length : {ids : List ℕ} {entries : List Probe} {l : Line} → Holds ids (free entries) l → l.count ≡ length ids
holds_length h = ap (λ (l : Line). l.count) h.line ∙ sym (length-map h.probes id_of) ∙ ap length h.same

pub holds_ids : {ids : List ℕ} {rest : Rest} {l : Line} → Holds ids rest l → ids_of l ≡ ids
holds_ids {rest = rest} h = ap ids_of h.line ∙ ids_of_line_of h.probes rest ∙ h.same

-- an accepted ID is none of those that are there
pub new_id : {ids : List ℕ} {rest : Rest} (x : List ℕ) {l : Line} → Holds ids rest l → fit_number x l ≡ 0 → Among (number_of x) ids → ⊥
unfolding is_fitted
new_id {ids} x {l} h e =
    any_among (number_of x) ids (ap (any (eqb (number_of x))) (sym (holds_ids h)) ∙ (accepted x l e).0)

pub holds_fit : {ids : List ℕ} (rest : List Probe) (x : List ℕ) {l : Line} → Holds ids (free rest) l → length ids + length rest ≡ 64 → fit_number x l ≡ 0 → (q : List Probe) × (length rest ≡ suc (length q)) × Holds (ids ++ number_of x ∷ []) (free q) (after_fit x l) × (q ≡ drop 1 rest)
holds_fit {ids} [] x {l} h full e = absurd (omega (arith, (accepted x l e).1, holds_length h))
holds_fit {ids} (q ∷ rest) x {l} h full e = (
  rest,
  refl,
  record {
    probes = h.probes ++ deaf_new (number_of x) ∷ [];
    line =
        after_fit_accepted x l e ∙ ap (with_probe (number_of x)) h.line ∙ with_probe_line_of (number_of x) h.probes q rest;
    same = map-append id_of h.probes (deaf_new (number_of x) ∷ []) ∙ ap (λ (y : List ℕ). y ++ number_of x ∷ []) h.same;
  },
  refl,
)

-- the new probe is behind the others
pub fitted_fit : (x : List ℕ) {l : Line} → Kept l → fit_number x l ≡ 0 → fitted (after_fit x l) ≡ fitted l ++ deaf_new (number_of x) ∷ []
fitted_fit x {l} k e = go k.entries k.holds k.full
  where
    go : (rest : List Probe) → Holds k.ids (free rest) l → length k.ids + length rest ≡ 64 → fitted (after_fit x l) ≡ fitted l ++ deaf_new (number_of x) ∷ []
    go [] h full = absurd (omega (arith, (accepted x l e).1, holds_length h))
    go (q ∷ rest) h full =
        ap fitted
        (after_fit_accepted x l e ∙ ap (with_probe (number_of x)) h.line ∙ with_probe_line_of (number_of x) h.probes q rest)
        ∙ fitted_line_of (h.probes ++ deaf_new (number_of x) ∷ []) (free rest)
        ∙ ap (λ (ps : List Probe). ps ++ deaf_new (number_of x) ∷ []) (sym (ap fitted h.line ∙ fitted_line_of h.probes (free (q ∷ rest))))

-- ---- what a call keeps

kept_same : {l m : Line} (k : Kept l) → Holds k.ids (free k.entries) m → Kept m
kept_same k h =
    record {
      ids = k.ids;
      entries = k.entries;
      holds = h;
      full = k.full;
      distinct = k.distinct;
      narrow = k.narrow;
      right = k.right;
      blank = k.blank;
    }

pub kept_fit : (x : List ℕ) → Bytes x → length x ≡ 8 → {l : Line} → Kept l → fit_number x l ≡ 0 → Kept (after_fit x l)
kept_fit x bytes eight {l} k e =
    let more = holds_fit k.entries x k.holds k.full e in
    let n : length (k.ids ++ number_of x ∷ []) ≡ length k.ids + 1 = omega (arith, length-append k.ids (number_of x ∷ [])) in
    record {
      ids = k.ids ++ number_of x ∷ [];
      entries = more.0;
      holds = more.2;
      full = omega (arith, length-append k.ids (number_of x ∷ []), more.1, k.full);
      distinct = distinct_more k.ids (number_of x) k.distinct (new_id x k.holds e);
      narrow =
          λ i m.
          ⊎_elim (λ y. k.narrow i y)
          (λ y. subst⁻¹ (λ (j : ℕ). j < 2 ^ 64) (Memᴰ.eq_of_singleton y) (subst (λ (n : ℕ). number_of x < 256 ^ n) eight (number_of_lt x bytes)))
          (Memᴰ.append_cases k.ids m);
      right =
          λ y small long m.
          ⊎_elim (λ z. k.right y small long z)
          (λ z. subst⁻¹ (λ (w : List ℕ). refusal_of w ≡ 0) (same_bytes y x small bytes long eight (Memᴰ.eq_of_singleton z)) (accepted x l e).2)
          (Memᴰ.append_cases k.ids m);
      blank =
          more.3 ∙ ap (drop 1) k.blank
          ∙ drop-drop 1 (length k.ids) (replicate 64 (deaf_new 0))
          ∙ ap (λ (c : ℕ). drop c (replicate 64 (deaf_new 0))) (sym n);
    }

kept_fitting : (x : List ℕ) → Bytes x → length x ≡ 8 → {l : Line} → Kept l → Kept (after_fit x l)
kept_fitting x bytes eight {l} k = go (eqb (fit_number x l) 0) refl
  where
    go : (t : Bool) → eqb (fit_number x l) 0 ≡ t → Kept (after_fit x l)
    go true e = kept_fit x bytes eight k (eqb-true (fit_number x l) 0 e)
    go false e = subst⁻¹ Kept (after_fit_refused x l e) k

-- ---- withdrawing

-- the probes that are left, in front of entries as at power-on
holds_without : (i : ℕ) (l : Line) (w : Withdrawn i l) → Holds (w.front ++ w.back) (free (drop (length (w.front ++ w.back)) (replicate 64 (deaf_new 0)))) (without i l)
unfolding without line_with bare ids_of
holds_without i l w =
    let ps = others i (fitted l) in
    let ids : map id_of ps ≡ w.front ++ w.back = ap (map id_of) (sym (fitted_line_with ps)) ∙ w.after in
    record {
      probes = ps;
      line =
          ap (λ (n : ℕ). line_of ps (free (drop n (replicate 64 (deaf_new 0)))))
          (sym (length-map ps id_of) ∙ ap length ids);
      same = ids;
    }

kept_without : (i : ℕ) {l : Line} → Kept l → is_fitted i l ≡ true → Kept (without i l)
kept_without i {l} k e =
    let w = withdrawn_of i l (subst⁻¹ Distinct (holds_ids k.holds) k.distinct) e in
    let split : k.ids ≡ w.front ++ i ∷ w.back = sym (holds_ids k.holds) ∙ w.before in
    record {
      ids = w.front ++ w.back;
      entries = drop (length (w.front ++ w.back)) (replicate 64 (deaf_new 0));
      holds = holds_without i l w;
      full =
          omega (
            arith,
            length-drop (length (w.front ++ w.back)) (replicate 64 (deaf_new 0)),
            length-replicate 64 (deaf_new 0),
            length_parted i w.front w.back,
            ap length split,
            k.full,
          );
      distinct = distinct_fewer i w.front w.back (subst Distinct split k.distinct);
      narrow = λ j m. k.narrow j (subst⁻¹ (Among j) split (widen i w.front w.back m));
      right = λ x small long m. k.right x small long (subst⁻¹ (Among (number_of x)) split (widen i w.front w.back m));
      blank = refl;
    }

kept_withdrawing : (x : List ℕ) {l : Line} → Kept l → Kept (after_withdraw x l)
unfolding after_withdraw withdraw_number
kept_withdrawing x {l} k = go (is_fitted (number_of x) l) refl
  where
    go : (t : Bool) → is_fitted (number_of x) l ≡ t → Kept (cond (eqb (cond t 0 20) 0) (without (number_of x) l) l)
    go true e = kept_without (number_of x) k e
    go false e = k

-- ---- every state that calls reach

pub reached_kept : {b : Bridge} → Reached b → Kept b.line
unfolding power_on bare after_fitting after_withdrawal
reached_kept on =
    record {
      ids = [];
      entries = replicate 64 (deaf_new 0);
      holds = record { probes = []; line = refl; same = refl };
      full = refl;
      distinct = tt;
      narrow = λ i m. absurd (Memᴰ.not-nil m);
      right = λ x small long m. absurd (Memᴰ.not-nil m);
      blank = refl;
    }
reached_kept (write x bytes {b} r) = subst⁻¹ Kept (write_line x b) (reached_kept r)
reached_kept (wait {b} r) = kept_same (reached_kept r) (holds_time b (reached_kept r).holds)
reached_kept (fit x bytes eight r) = kept_fitting x bytes eight (reached_kept r)
reached_kept (withdraw x bytes eight r) = kept_withdrawing x (reached_kept r)

kept_sound : {l : Line} → Kept l → Sound l
unfolding bare
kept_sound {l} k =
    record {
      entries =
          ap (λ (m : Line). length m.probes) k.holds.line ∙ length-append k.holds.probes k.entries
          ∙ ap (λ (n : ℕ). n + length k.entries) (sym (length-map k.holds.probes id_of) ∙ ap length k.holds.same)
          ∙ k.full;
      within = omega (arith, holds_length k.holds, k.full);
      counted = ap length (holds_ids k.holds) ∙ sym (holds_length k.holds);
      distinct = subst⁻¹ Distinct (holds_ids k.holds) k.distinct;
      narrow = subst⁻¹ Narrow (holds_ids k.holds) k.narrow;
      right = λ x small long m. k.right x small long (subst (Among (number_of x)) (holds_ids k.holds) m);
      free =
          ap (λ (m : Line). drop m.count m.probes) k.holds.line
          ∙ drop-append_seam k.holds.probes k.entries
          ∙ k.blank
          ∙ ap (λ (n : ℕ). drop n (replicate 64 (deaf_new 0))) (sym (holds_length k.holds));
    }

pub reached_sound : {b : Bridge} → Reached b → Sound b.line
reached_sound r = kept_sound (reached_kept r)

-- ---- a search is made of calls

pub bytes_one : (x : ℕ) → x < 256 → Bytes (x ∷ [])
bytes_one x h zero = h
bytes_one x h (suc k) = lit< tt

pub bytes_two : (x y : ℕ) → x < 256 → y < 256 → Bytes (x ∷ y ∷ [])
bytes_two x y h g zero = h
bytes_two x y h g (suc k) = bytes_one y g k

-- a 1-Wire Reset; a Write Byte
pub reached_reset : {b : Bridge} → Reached b → Reached (command (0xB4 ∷ []) b)
reached_reset r = reached_command (0xB4 ∷ []) (bytes_one 0xB4 (lit< tt)) r

pub reached_byte : (x : ℕ) → x < 256 → {b : Bridge} → Reached b → Reached (command (0xA5 ∷ x ∷ []) b)
reached_byte x h r = reached_command (0xA5 ∷ x ∷ []) (bytes_two 0xA5 x (lit< tt) h) r

reached_triplet : (d : Bool) {b : Bridge} → Reached b → Reached (command (0x78 ∷ triplet_byte d ∷ []) b)
reached_triplet true r = reached_command (0x78 ∷ 128 ∷ []) (bytes_two 0x78 128 (lit< tt) (lit< tt)) r
reached_triplet false r = reached_command (0x78 ∷ 0 ∷ []) (bytes_two 0x78 0 (lit< tt) (lit< tt)) r

reached_walked : (n k i : ℕ) (c : Option ℕ) (w : Walk) → Reached w.bridge → Reached (walked n k i c w).bridge
unfolding walked tripled took_triplet
reached_walked zero k i c w r = r
reached_walked (suc n) k i c w r = reached_walked n (suc k) i c (tripled i c k w) (reached_triplet (direction i c k) r)

reached_passed : (i : ℕ) (c : Option ℕ) {b : Bridge} → Reached b → Reached (passed i c b).bridge
unfolding passed
reached_passed i c {b} r = reached_walked 64 0 i c (begun (command (0xA5 ∷ 0xF0 ∷ []) b)) (reached_byte 0xF0 (lit< tt) r)

reached_searched : (m i : ℕ) (c : Option ℕ) (b : Bridge) → Reached b → Reached (searched m i c b).bridge
unfolding searched continued
reached_searched zero i c b r = r
reached_searched (suc m) i c b r =
    go reset.registers.status.ppd w.conflict (searched m w.id w.conflict w.bridge)
    (reached_searched m w.id w.conflict w.bridge end)
  where
    reset : Bridge
    reset = command (0xB4 ∷ []) b

    w : Walk
    w = passed i c reset

    end : Reached w.bridge
    end = reached_passed i c (reached_reset r)

    go : (t : Bool) (q : Option ℕ) (rest : Result) → Reached rest.bridge → Reached (cond t (continued q w rest) (absent reset)).bridge
    go true None rest f = end
    go true (Some k) rest f = f
    go false q rest f = reached_reset r

pub reached_search : (m : ℕ) {b : Bridge} → Reached b → Reached (search m b).bridge
unfolding search
reached_search zero r = r
reached_search (suc m) {b} r =
    reached_searched (suc m) 0 None (command (0xF0 ∷ []) b) (reached_command (0xF0 ∷ []) (bytes_one 0xF0 (lit< tt)) r)
