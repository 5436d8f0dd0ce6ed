-- The wrong searches, each against the demand on a line of A, of C, of A and C, or of A, B and C.
--   ours             the search itself meets the demand by the same frame
--   resumed_one      a Resume selects one probe: two that are said to be the one are the same; resumed_some, it selects one
use Prim.Native.Nat.{ℕ, zero, suc, ◌+◌, ◌*◌, ◌%◌, ◌≤◌, ◌<◌, min, max}
use mathlib.Core.Bool.{Bool, true, false, cond, ◌&&◌, false≢true}
use mathlib.Core.List.Memᴰ
use mathlib.Core.List.{List, [], ◌∷◌, ◌++◌}
use mathlib.Core.Path.{◌≡◌, refl, sym, ap, ap₂, subst, ◌∙◌}
use native.Mathlib.Decide.{dec_le}
use native.Mathlib.Omega.{arith}
use borrow.Author.Tests.{lt-ltb, le-ltb, ltb-true, eqb-true, eq-eqb}
use lib.Dec.{eqb, leb, ltb, lit<, lit≤}
use lib.ListN.{length, get_or, take, drop, replicate, length-append}
use lib.Seq.{get_or_at}
use Rattle.std.specs.Prelude.{Option, None}
use Rattle.checksum.specs.Register.{crc8_of, crc_from, entered, shifts, shifted, taps8, taps}
use Rattle.identity.specs.Identity.{number_of, bit_of, crc_right, family_of, refusal_of}
use Rattle.probe.specs.declared.Condition.TheVariants.{Deaf, Selected}
use Rattle.probe.specs.declared.Probe.{Probe}
use Rattle.probe.specs.Probe.{reaches, digit, sends, sends_in, sends_at, sends_searching, took, took_in, took_at, reset, took_code, took_searching, obeyed}
use Rattle.line.specs.declared.Line.{Line}
use Rattle.line.specs.Line.{all, any, bare, fitted, on_fitted, level, slot, slots, present, after_reset, id_of, ids_of, is_fitted, place_number, fit_number, with_probe, after_fit}
use Rattle.bridge.specs.declared.Bridge.{Bridge}
use Rattle.bridge.specs.Bridge.{power_on, after_fitting, command, bytes_of, taken_while_busy, good_parameter, write_number, after_write, accepted}
use Rattle.bridge.specs.Bridge.{finished_reset, finished_write, finished_triplet, finished_of, after_time}
use Rattle.bridge.specs.Reached.{Bytes, Reached}
use Rattle.bridge.specs.Reached.Reached.{on, fit}
use Rattle.pass.specs.Pass.{direction, noted, took_triplet, tripled, walked, begun, passed}
use Rattle.pass.specs.Passes.{Result, absent, continued, searched, search}
use Rattle.pass.specs.declared.Walk.{Walk}
use Rattle.search.specs.Search.Answer.{Refused}
use Rattle.search.specs.Search.{listed, answer_values, bytes_from, list_of, written}
use Rattle.search.proofs.Call.{short, done}
use Rattle.search.proofs.Bytes.{list_of_append}
use Rattle.enumeration.specs.Order.{Among, InOrder}
use Rattle.paper.specs.Paper.{a, b, c, with_one}
use Rattle.paper.proofs.Paper.{paper}
use Rattle.demand.specs.Demand.{Outcome, Search, Done, bytes_listed, ids_at, Resumed, ResumesNone, Meets}
use Rattle.demand.proofs.Demand.{outcome, outcome_path, Exactly, exact, fewer}
use Rattle.refuted.specs.Versions.{outcome_with, call_of, always_refuses, fixed_list, first_pass_only, passes_of, passes_as_listed, inserted, ascending, sorted_as_numbers, tripled_by, walked_by, searched_by, search_by, notes_one, once_more, starts_again}

-- ---- the frame

-- with the library's own passes it is the library's outcome
same_outcome : (s : Bridge) (n : ℕ) (d : List ℕ) → outcome_with search s n d ≡ outcome s n d
unfolding outcome_with
same_outcome s n d = go (dec_le (8 * min n 64) (length d))
  where
    refused : Outcome
    refused = record { answer = Refused 9; bridge = s; list = d }

    done_with : Outcome
    done_with = record { answer = listed (search n s); bridge = (search n s).bridge; list = written (search n s).ids d }

    go : Dec (8 * min n 64 ≤ length d) → outcome_with search s n d ≡ outcome s n d
    go (yes h) =
        let w = done n d s h in
        ap (λ (t : Bool). cond t refused done_with) (le-ltb (length d) (8 * min n 64) h)
        ∙ sym (outcome_path w.answer w.state w.buffer)
    go (no h) =
        let w = short n d s (omega arith) in
        ap (λ (t : Bool). cond t refused done_with) (lt-ltb (length d) (8 * min n 64) (omega arith))
        ∙ sym (outcome_path w.answer w.state w.buffer)

pub ours : Meets (call_of search)
ours = fewer (call_of search) Exactly (λ s n d. (outcome_with search s n d, refl)) (λ s r n d o e. e ∙ same_outcome s n d) exact

-- ---- the rule of what is noted

walked_by_lem : (n k i : ℕ) (q : Option ℕ) (w : Walk) → walked_by noted n k i q w ≡ walked n k i q w
unfolding walked_by walked tripled_by tripled took_triplet
walked_by_lem zero k i q w = refl
walked_by_lem (suc n) k i q w = walked_by_lem n (suc k) i q (tripled_by noted i q k w)

searched_by_lem : (n i : ℕ) (q : Option ℕ) (s : Bridge) → searched_by noted n i q s ≡ searched n i q s
unfolding searched_by searched passed
searched_by_lem zero i q s = refl
searched_by_lem (suc n) i q s = go (walked_by noted 64 0 i q start) (walked_by_lem 64 0 i q start) (searched_by_lem n)
  where
    r : Bridge
    r = command (0xB4 ∷ []) s

    start : Walk
    start = begun (command (0xA5 ∷ 0xF0 ∷ []) r)

    go : (w : Walk) → w ≡ walked 64 0 i q start → ((i : ℕ) (q : Option ℕ) (s : Bridge) → searched_by noted n i q s ≡ searched n i q s) → cond r.registers.status.ppd (continued w.conflict w (searched_by noted n w.id w.conflict w.bridge)) (absent r) ≡ searched (suc n) i q s
    go w e rest =
        ap (λ (t : Result). cond r.registers.status.ppd (continued w.conflict w t) (absent r)) (rest w.id w.conflict w.bridge)
        ∙ ap (λ (v : Walk). cond r.registers.status.ppd (continued v.conflict v (searched n v.id v.conflict v.bridge)) (absent r)) e

pub rules : (n : ℕ) (s : Bridge) → search_by noted n s ≡ search n s
unfolding search_by search
rules zero s = refl
rules (suc n) s = searched_by_lem (suc n) 0 None (command (0xF0 ∷ []) s)

-- ---- the lines

pub below : (x : List ℕ) → all (λ (v : ℕ). ltb v 256) x ≡ true → Bytes x
unfolding all
below [] e k = lit< tt
below (y ∷ x) e k = go (ltb y 256) refl (below x) e k
  where
    go : (t : Bool) → ltb y 256 ≡ t → (all (λ (v : ℕ). ltb v 256) x ≡ true → Bytes x) → cond t (all (λ (v : ℕ). ltb v 256) x) false ≡ true → (k : ℕ) → get_or (y ∷ x) k 0 < 256
    go true et rest f zero = ltb-true y 256 et
    go true et rest f (suc k) = rest f k
    go false et rest f k = absurd (false≢true f)

abbrev two : Bridge
two = after_fitting c (with_one a)

abbrev three : Bridge
three = after_fitting c (after_fitting b (with_one a))

pub one_reached : (x : List ℕ) → all (λ (v : ℕ). ltb v 256) x ≡ true → length x ≡ 8 → Reached (with_one x)
one_reached x small eight = fit x (below x small) eight on

three_reached : Reached three
unfolding all
three_reached = fit c (below c refl) refl (fit b (below b refl) refl (one_reached a refl refl))

two_reached : Reached two
unfolding all
two_reached = fit c (below c refl) refl (one_reached a refl refl)

ids_one : (x : List ℕ) → refusal_of x ≡ 0 → ids_at (with_one x) ≡ number_of x ∷ []
unfolding power_on bare after_fitting after_fit fit_number place_number is_fitted ids_of fitted any with_probe
ids_one x e = simp e

sound_a : refusal_of a ≡ 0
unfolding refusal_of crc_right family_of crc8_of crc_from entered shifts shifted taps8 taps
sound_a = refl

sound_c : refusal_of c ≡ 0
unfolding refusal_of crc_right family_of crc8_of crc_from entered shifts shifted taps8 taps
sound_c = refl

ids_two : ids_at two ≡ number_of a ∷ number_of c ∷ []
unfolding power_on bare after_fitting after_fit fit_number place_number is_fitted ids_of fitted any with_probe refusal_of crc_right family_of crc8_of crc_from entered shifts shifted taps8 taps number_of
ids_two = refl

ids_three : ids_at three ≡ number_of a ∷ number_of b ∷ number_of c ∷ []
unfolding power_on bare after_fitting after_fit fit_number place_number is_fitted ids_of fitted any with_probe refusal_of crc_right family_of crc8_of crc_from entered shifts shifted taps8 taps number_of
ids_three = refl

-- one ID is in order by itself
alone : (x : ℕ) → InOrder (x ∷ []) (x ∷ [])
alone x =
    record {
      rising = (λ j m. absurd (Memᴰ.not-nil m), tt);
      all = λ i m. m;
      only = λ i m. m;
      once = refl;
    }

-- ---- what is demanded on a line whose IDs and their order are known

module _ (run : Search) (meets : Meets run) (s : Bridge) (r : Reached s) (ids : List ℕ) (known : ids_at s ≡ ids) where
  list_due : (order : List ℕ) → InOrder ids order → (n : ℕ) (d : List ℕ) (o : Outcome) → Done run s n d o → o.list ≡ list_of (take n order) ++ drop (8 * min n (length ids)) d
  list_due order is n d o g =
      (meets s r).listed n d o g
      ∙ ap₂ (λ (l i : List ℕ). list_of (take n l) ++ drop (8 * min n (length i)) d)
      (sym ((meets s r).unique order (subst (λ (i : List ℕ). InOrder i order) (sym known) is))) known

  values_due : (n : ℕ) (d : List ℕ) (o : Outcome) → Done run s n d o → answer_values o.answer ≡ min n (length ids) ∷ min n (max 1 (length ids)) ∷ digit (leb 1 n && leb (length ids) n) ∷ []
  values_due n d o g =
      (meets s r).values n d o g
      ∙ ap (λ (i : List ℕ). min n (length i) ∷ min n (max 1 (length i)) ∷ digit (leb 1 n && leb (length i) n) ∷ []) known

-- room for so many IDs
abbrev room : ℕ → List ℕ
room n = replicate (8 * n) 0

-- ---- the search that always refuses

pub search_refuses_lem : (f : Bridge → ℕ → List ℕ → ℕ) → Meets (always_refuses f) → ⊥
search_refuses_lem f meets =
    let e : ◌≡◌ {A = ℕ} 0 3 = ap length ((meets power_on on).values 1 (room 1) (record { answer = Refused (f power_on 1 (room 1)); bridge = power_on; list = room 1 }) (refl, lit≤ tt)) in
    omega arith

-- ---- a fixed list: on the line of A and on the line of C it lists the same

pub list_fixed_lem : (l : ℕ → List ℕ) → Meets (call_of (fixed_list l)) → ⊥
unfolding outcome_with all list_of bytes_from number_of
list_fixed_lem l meets =
    let due-a = list_due (call_of (fixed_list l)) meets (with_one a) (one_reached a refl refl) (number_of a ∷ []) (ids_one a sound_a) (number_of a ∷ []) (alone (number_of a)) 1 (room 1) (outcome_with (fixed_list l) (with_one a) 1 (room 1)) (refl, lit≤ tt) in
    let due-c = list_due (call_of (fixed_list l)) meets (with_one c) (one_reached c refl refl) (number_of c ∷ []) (ids_one c sound_c) (number_of c ∷ []) (alone (number_of c)) 1 (room 1) (outcome_with (fixed_list l) (with_one c) 1 (room 1)) (refl, lit≤ tt) in
    let e : ◌≡◌ {A = ℕ} 0x19 0x02 = ap (λ (v : List ℕ). get_or v 0 0) (sym due-a ∙ due-c) in
    omega arith

-- ---- a made-up number of passes

-- with two passes allowed, one is used on the bare line and both are on that of A, B and C
pub passes_made_up_lem : (f : ℕ → ℕ) → Meets (call_of (passes_of f)) → ⊥
unfolding outcome_with ids_of fitted power_on bare
passes_made_up_lem f meets =
    let bare-due = values_due (call_of (passes_of f)) meets power_on on [] refl 2 (room 2) (outcome_with (passes_of f) power_on 2 (room 2)) (refl, lit≤ tt) in
    let three-due = values_due (call_of (passes_of f)) meets three three_reached (number_of a ∷ number_of b ∷ number_of c ∷ []) ids_three 2 (room 2) (outcome_with (passes_of f) three 2 (room 2)) (refl, lit≤ tt) in
    let one : f 2 ≡ 1 = ap (λ (v : List ℕ). get_or v 1 0) bare-due in
    let both : f 2 ≡ 2 = ap (λ (v : List ℕ). get_or v 1 0) three-due in
    omega arith

-- the pass that finds no presence counts
pub passes_listed_lem : Meets (call_of passes_as_listed) → ⊥
unfolding outcome_with ids_of fitted power_on bare
passes_listed_lem meets =
    let due = values_due (call_of passes_as_listed) meets power_on on [] refl 1 (room 1) (outcome_with passes_as_listed power_on 1 (room 1)) (refl, lit≤ tt) in
    let none : length (search 1 power_on).ids ≡ 0 = ap (λ (v : List ℕ). get_or v 0 0) due in
    let one : length (search 1 power_on).ids ≡ 1 = ap (λ (v : List ℕ). get_or v 1 0) due in
    omega arith

-- ---- IDs sorted as numbers: A first, where C is due

pub numbers : Meets (call_of sorted_as_numbers) → ⊥
unfolding outcome_with ascending inserted list_of bytes_from power_on bare after_fitting after_fit fit_number place_number is_fitted ids_of fitted any with_probe refusal_of crc_right family_of crc8_of crc_from entered shifts shifted taps8 taps number_of
numbers meets =
    let due = list_due (call_of sorted_as_numbers) meets three three_reached (number_of a ∷ number_of b ∷ number_of c ∷ []) ids_three (number_of c ∷ number_of b ∷ number_of a ∷ []) paper.p5 1 (room 1) (outcome_with sorted_as_numbers three 1 (room 1)) (refl, lit≤ tt) in
    let e : ◌≡◌ {A = ℕ} 0x19 0x02 = ap (λ (v : List ℕ). get_or v 0 0) due in
    omega arith

-- ---- a search that moves the line in its first pass alone: Resume then selects the first listed, and not the last

-- a Resume selects one probe
resumed_one : (x y : ℕ) (l : Line) → Resumed x l → Resumed y l → x ≡ y
unfolding ids_of
resumed_one x y l p q =
    let v = Memᴰ.of_map id_of (fitted l) p.there in
    go v.0 v.2 (p.only v.0 v.1) (q.only v.0 v.1) (eqb v.0.id y) refl
  where
    go : (v : Probe) → v.id ≡ x → v.condition ≡ cond (eqb v.id x) Selected Deaf → v.condition ≡ cond (eqb v.id y) Selected Deaf → (t : Bool) → eqb v.id y ≡ t → x ≡ y
    go v e f g true h = sym e ∙ eqb-true v.id y h
    go v e f g false h =
        let differ : Selected ≡ Deaf =
        sym (f ∙ ap (λ (t : Bool). cond t Selected Deaf) (eq-eqb v.id x e)) ∙ g ∙ ap (λ (t : Bool). cond t Selected Deaf) h in
        let z : ◌≡◌ {A = ℕ} 0 1 = cc in
        absurd (omega arith)

-- the low byte of the last ID listed
last_byte : (p : List ℕ) (x n : ℕ) (l : List ℕ) → l ≡ list_of (p ++ x ∷ []) → length l ≡ 8 * suc n → get_or l (8 * n) 0 ≡ x % 256
unfolding list_of bytes_from
last_byte p x n l e h =
    let split = e ∙ list_of_append p (x ∷ []) in
    ap (λ (v : List ℕ). get_or v (8 * n) 0) split
    ∙ get_or_at (list_of p) (x % 256) _ 0 (8 * n) (omega (arith, ap length split, length-append (list_of p) (list_of (x ∷ []))))

-- the bytes that are due on the line of A, B and C
bytes_due : (run : Search) → Meets run → (n : ℕ) (d : List ℕ) (o : Outcome) → Done run three n d o → bytes_listed o ≡ take (8 * min n 3) (list_of (take n (number_of c ∷ number_of b ∷ number_of a ∷ [])) ++ drop (8 * min n 3) d)
bytes_due run meets n d o g =
    ap₂ (λ (v l : List ℕ). take (8 * get_or v 0 0) l) (values_due run meets three three_reached (number_of a ∷ number_of b ∷ number_of c ∷ []) ids_three n d o g)
    (list_due run meets three three_reached (number_of a ∷ number_of b ∷ number_of c ∷ []) ids_three (number_of c ∷ number_of b ∷ number_of a ∷ []) paper.p5 n d o g)

pub line_left_lem : Meets (call_of first_pass_only) → ⊥
unfolding outcome_with list_of bytes_from number_of
line_left_lem meets =
    let o = outcome_with first_pass_only three 2 (room 2) in
    let q = outcome_with search three 1 (room 1) in
    let listed = bytes_due (call_of first_pass_only) meets 2 (room 2) o (refl, lit≤ tt) in
    let first = bytes_due (call_of search) ours 1 (room 1) q (refl, lit≤ tt) in
    let filled = (meets three three_reached).resume 2 (room 2) o (refl, lit≤ tt) (omega (arith, ap length listed)) in
    let walked = (ours three three_reached).resume 1 (room 1) q (refl, lit≤ tt) (omega (arith, ap length first)) in
    let same = resumed_one filled.1 walked.1 _ filled.3.selects walked.3.selects in
    let second : 0x19 ≡ filled.1 % 256 = ap (λ (v : List ℕ). get_or v 8 0) (sym listed) ∙ last_byte filled.0 filled.1 1 _ filled.2 (ap length listed) in
    let one : 0x02 ≡ walked.1 % 256 = ap (λ (v : List ℕ). get_or v 0 0) (sym first) ∙ last_byte walked.0 walked.1 0 _ walked.2 (ap length first) in
    omega arith

-- ---- a probe that is not withdrawn: Resume selects the last one listed

resumed_some : (x : ℕ) (l : Line) → Resumed x l → ((p : Probe) → Among p (fitted l) → p.condition ≡ Deaf) → ⊥
unfolding ids_of
resumed_some x l p none =
    let v = Memᴰ.of_map id_of (fitted l) p.there in
    let differ : Selected ≡ Deaf =
    sym (p.only v.0 v.1 ∙ ap (λ (t : Bool). cond t Selected Deaf) (eq-eqb v.0.id x v.2)) ∙ none v.0 v.1 in
    let z : ◌≡◌ {A = ℕ} 0 1 = cc in
    omega arith

pub probe_stays_lem : ((s : Bridge) → Reached s → (n : ℕ) (d : List ℕ) (o : Outcome) → Done (call_of search) s n d o → 0 < length (bytes_listed o) → ResumesNone o.bridge) → ⊥
unfolding outcome_with list_of bytes_from number_of
probe_stays_lem h =
    let q = outcome_with search three 1 (room 1) in
    let first = bytes_due (call_of search) ours 1 (room 1) q (refl, lit≤ tt) in
    let some : 0 < length (bytes_listed q) = omega (arith, ap length first) in
    let walked = (ours three three_reached).resume 1 (room 1) q (refl, lit≤ tt) some in
    resumed_some walked.1 _ walked.3.selects (h three three_reached 1 (room 1) q (refl, lit≤ tt) some).selects_none

-- ---- nor is its closing state that of the commands

pub state_left_lem : ((n : ℕ) (s : Bridge) → Reached s → (first_pass_only n s).bridge ≡ (search n s).bridge) → ⊥
unfolding outcome_with
state_left_lem h =
    line_left_lem
    (fewer (call_of first_pass_only) (call_of search) (λ s n d. (outcome_with first_pass_only s n d, refl))
    (λ s r n d o e. e ∙ ap (λ (t : Bridge). closed s n d t) (h n s r)) ours)
  where
    closed : Bridge → ℕ → List ℕ → Bridge → Outcome
    closed s n d t =
        cond (ltb (length d) (8 * min n 64)) (record { answer = Refused 9; bridge = s; list = d })
        (record { answer = listed (search n s); bridge = t; list = written (search n s).ids d })

-- ---- a conflict noted where 1 was taken: after C and A, of two, it is not complete

pub one_noted_lem : Meets (call_of notes_one) → ⊥
unfolding outcome_with search_by searched_by walked_by tripled_by took_triplet continued command after_time finished_of after_write write_number bytes_of taken_while_busy good_parameter accepted obeyed finished_reset finished_write finished_triplet present after_reset reset reaches level slot slots on_fitted all sends sends_in sends_at sends_searching took took_in took_at took_code took_searching bit_of direction power_on bare after_fitting after_fit fit_number place_number is_fitted ids_of fitted any with_probe refusal_of crc_right family_of crc8_of crc_from entered shifts shifted taps8 taps number_of
one_noted_lem meets =
    let due = values_due (call_of notes_one) meets two two_reached (number_of a ∷ number_of c ∷ []) ids_two 2 (room 2) (outcome_with notes_one two 2 (room 2)) (refl, lit≤ tt) in
    let e : ◌≡◌ {A = ℕ} 0 1 = ap (λ (v : List ℕ). get_or v 2 0) due in
    omega arith

-- ---- a pass more after the last: A is listed twice

twice : (r : Result) → length r.ids ≡ 1 → r.passes ≡ 1 → digit r.complete ≡ 1 → length (once_more 2 r).ids ≡ 2
twice r i p q = go r.complete q ∙ length-append r.ids _ ∙ ap (λ (n : ℕ). n + 1) i
  where
    w : Walk
    w = passed 0 None (command (0xB4 ∷ []) r.bridge)

    more : Result
    more = record { ids = r.ids ++ w.id ∷ []; passes = suc r.passes; complete = true; bridge = w.bridge }

    go : (t : Bool) → digit t ≡ 1 → length (cond (t && (ltb r.passes 2 && ltb 0 (length r.ids))) more r).ids ≡ length (r.ids ++ w.id ∷ [])
    go true e = ap₂ (λ (m n : ℕ). length (cond (ltb m 2 && ltb 0 n) more r).ids) p i
    go false e = absurd (omega (arith, e))

pub list_again_lem : Meets (call_of starts_again) → ⊥
unfolding outcome_with all
list_again_lem meets =
    let one = one_reached a refl refl in
    let due = values_due (call_of starts_again) meets (with_one a) one (number_of a ∷ []) (ids_one a sound_a) 2 (room 2) (outcome_with starts_again (with_one a) 2 (room 2)) (refl, lit≤ tt) in
    let right = values_due (call_of search) ours (with_one a) one (number_of a ∷ []) (ids_one a sound_a) 2 (room 2) (outcome_with search (with_one a) 2 (room 2)) (refl, lit≤ tt) in
    let once : length (once_more 2 (search 2 (with_one a))).ids ≡ 1 = ap (λ (v : List ℕ). get_or v 0 0) due in
    let both = twice (search 2 (with_one a)) (ap (λ (v : List ℕ). get_or v 0 0) right) (ap (λ (v : List ℕ). get_or v 1 0) right) (ap (λ (v : List ℕ). get_or v 2 0) right) in
    omega arith
