-- The answer, slot by slot.
--   length_levels, length_answer   how many slots bytes take, and an answer
--   sent_in_then                   two lists of slots, one after the other
--   reply, ended                   the chip before a slot of its answer, and behind the answer
--   replied                        the chip after some slots; replied_within, replied_past, by their number
--   answers                        what it sends
--   never_over                     behind a status that is not 0 it is never deaf
--   over_stays                     a chip that is deaf stays so
use mathlib.Core.Path.{◌≡◌, refl, sym, ap, ap₂, ◌∙◌}
use mathlib.Core.Bool.{Bool, true, false, cond}
use mathlib.Core.List.{List, [], ◌∷◌, ◌++◌}
use Prim.Native.Nat.{ℕ, zero, suc, ◌+◌, ◌*◌, ◌-◌, ◌/◌, ◌%◌, ◌<◌, ◌≤◌}
use native.Mathlib.Numerals.{add-one}
use native.Mathlib.Omega.{arith}
use borrow.Author.Tests.{lt-ltb, le-ltb, ltb-true, ltb-false, ne_eqb}
use lib.Dec.{eqb, ltb}
use lib.ListN.{length, get_or, drop, replicate, drop_of_length-le}
use lib.Seq.{drop-cons}
use Rattle.identity.specs.Identity.{bit_of}
use Rattle.chip.specs.declared.Place.TheVariants.{Answering, Silent, Over}
use Rattle.chip.specs.declared.Asked.{Asked}
use Rattle.chip.specs.declared.Chip.{Chip}
use Rattle.chip.specs.Chip.{next_at, with_packet, answer_of, sends_answer, sends_in, sends, slots_of, behind_answer, answered, heard_in, heard, over_at, is_over}
use Rattle.obeying.specs.Obeying.{levels_of, hearing, sent_in, answer_in, Answers}
use Rattle.obeying.proofs.Body.{at_place}

-- ---- levels of an answer

pub length_levels : (s : List ℕ) → length (levels_of s) ≡ 8 * length s
unfolding levels_of
length_levels [] = refl
length_levels (x ∷ s) = omega (arith, length_levels s)

pub length_answer : (s : List ℕ) → length (answer_in s) ≡ 2 + 8 * length s
unfolding answer_in
length_answer s = omega (arith, length_levels s)

-- each level is a bit of its byte
level_at : (s : List ℕ) (m : ℕ) → m < length (levels_of s) → get_or (levels_of s) m true ≡ bit_of (get_or s (m / 8) 255) (m % 8)
unfolding levels_of
level_at [] m h = absurd (omega arith)
level_at (x ∷ s) zero h = refl
level_at (x ∷ s) (suc zero) h = refl
level_at (x ∷ s) (suc (suc zero)) h = refl
level_at (x ∷ s) (suc (suc (suc zero))) h = refl
level_at (x ∷ s) (suc (suc (suc (suc zero)))) h = refl
level_at (x ∷ s) (suc (suc (suc (suc (suc zero))))) h = refl
level_at (x ∷ s) (suc (suc (suc (suc (suc (suc zero)))))) h = refl
level_at (x ∷ s) (suc (suc (suc (suc (suc (suc (suc zero))))))) h = refl
level_at (x ∷ s) (suc (suc (suc (suc (suc (suc (suc (suc m)))))))) h =
    let next : suc (suc (suc (suc (suc (suc (suc (suc m))))))) / 8 ≡ suc (m / 8) = omega arith in
    let same : suc (suc (suc (suc (suc (suc (suc (suc m))))))) % 8 ≡ m % 8 = omega arith in
    level_at s m (omega arith) ∙ sym (ap₂ (λ (j k : ℕ). bit_of (get_or (x ∷ s) j 255) k) next same)

-- ---- slots, one list after the other

pub sent_in_then : (ls ms : List Bool) (d : Chip) → sent_in (ls ++ ms) d ≡ sent_in ls d ++ sent_in ms (hearing ls d)
unfolding sent_in hearing
sent_in_then [] ms d = refl
sent_in_then (l ∷ ls) ms d = ap (λ (r : List Bool). sends d ∷ r) (sent_in_then ls ms (heard l d))

-- ---- the slots

module _ (c : Chip) (t : ℕ) (a : Asked) where
  -- before the slot n of the answer, and behind the answer
  abbrev pub reply : ℕ → Chip
  reply n = at_place c (Answering t n) a

  abbrev pub ended : Chip
  ended = at_place c (behind_answer t) a

  sends_at : (n : ℕ) → n < length (answer_in (answer_of t a)) → sends (reply n) ≡ get_or (answer_in (answer_of t a)) n true
  unfolding sends sends_in sends_answer answer_in
  sends_at zero h = cc
  sends_at (suc zero) h = cc
  sends_at (suc (suc m)) h =
      let two : suc (suc m) - 2 ≡ m = omega arith in
      simp (ne_eqb (suc (suc m)) 0 (omega arith), ne_eqb (suc (suc m)) 1 (omega arith), two)
      (sym (level_at (answer_of t a) m (omega arith)))

  heard_reply : (l : Bool) (n : ℕ) → heard l (reply n) ≡ cond (ltb (n + 1) (slots_of t a)) (reply (n + 1)) ended
  unfolding heard heard_in answered
  heard_reply l n = go (ltb (n + 1) (slots_of t a))
    where
      go : (b : Bool) → with_packet (next_at (cond b (Answering t (n + 1)) (behind_answer t)) a) c ≡ cond b (reply (n + 1)) ended
      go true = refl
      go false = refl

  heard_ended : (l : Bool) → heard l ended ≡ ended
  unfolding heard heard_in
  heard_ended l = go (eqb t 0)
    where
      go : (b : Bool) → heard l (at_place c (cond b Over Silent) a) ≡ at_place c (cond b Over Silent) a
      go true = refl
      go false = refl

  sends_ended : sends ended ≡ true
  unfolding sends sends_in
  sends_ended = go (eqb t 0)
    where
      go : (b : Bool) → sends_in (cond b Over Silent) a ≡ true
      go true = refl
      go false = refl

  hearing_ended : (ls : List Bool) → hearing ls ended ≡ ended
  unfolding hearing
  hearing_ended [] = refl
  hearing_ended (l ∷ ls) = ap (hearing ls) (heard_ended l) ∙ hearing_ended ls

  sent_in_ended : (ls : List Bool) → sent_in ls ended ≡ replicate (length ls) true
  unfolding sent_in
  sent_in_ended [] = refl
  sent_in_ended (l ∷ ls) = ap₂ ◌∷◌ sends_ended (ap (sent_in ls) (heard_ended l) ∙ sent_in_ended ls)

  -- the chip after some slots
  replied : (ls : List Bool) (n : ℕ) → n < slots_of t a → hearing ls (reply n) ≡ cond (ltb (n + length ls) (slots_of t a)) (reply (n + length ls)) ended
  unfolding hearing
  replied [] n h =
      let same : n + 0 ≡ n = omega arith in
      simp (same, lt-ltb n (slots_of t a) h)
  replied (l ∷ ls) n h = ap (hearing ls) (heard_reply l n) ∙ go (ltb (n + 1) (slots_of t a)) refl (replied ls (n + 1))
    where
      Replied : ℕ → Chip
      Replied k = cond (ltb k (slots_of t a)) (reply k) ended

      go : (b : Bool) → ltb (n + 1) (slots_of t a) ≡ b → (n + 1 < slots_of t a → hearing ls (reply (n + 1)) ≡ Replied (n + 1 + length ls)) → hearing ls (cond b (reply (n + 1)) ended) ≡ Replied (n + suc (length ls))
      go true e r = r (ltb-true (n + 1) (slots_of t a) e) ∙ ap Replied (omega arith)
      go false e r =
          let past : ltb (n + suc (length ls)) (slots_of t a) ≡ false = le-ltb (n + suc (length ls)) (slots_of t a) (omega (arith, ltb-false (n + 1) (slots_of t a) e)) in
          hearing_ended ls ∙ simp past

  -- what it sends from the slot n on
  sent_in_reply : (ls : List Bool) (n : ℕ) → n + length ls ≡ length (answer_in (answer_of t a)) → sent_in ls (reply n) ≡ drop n (answer_in (answer_of t a))
  unfolding sent_in
  sent_in_reply [] n h =
      let past : length (answer_in (answer_of t a)) ≤ n = omega arith in
      sym (drop_of_length-le (answer_in (answer_of t a)) past)
  sent_in_reply (l ∷ []) n h =
      let last : length (answer_in (answer_of t a)) ≤ suc n = omega arith in
      ap₂ ◌∷◌ (sends_at n (omega arith)) (sym (drop_of_length-le (answer_in (answer_of t a)) last))
      ∙ sym (drop-cons (answer_in (answer_of t a)) n true (omega arith))
  sent_in_reply (l ∷ m ∷ ls) n h =
      let more : ltb (n + 1) (slots_of t a) ≡ true = lt-ltb (n + 1) (slots_of t a) (omega (arith, length_answer (answer_of t a))) in
      let next : heard l (reply n) ≡ reply (n + 1) = heard_reply l n ∙ simp more in
      let rest : sent_in (m ∷ ls) (reply (n + 1)) ≡ drop (suc n) (answer_in (answer_of t a))
      = sent_in_reply (m ∷ ls) (n + 1) (omega arith) ∙ ap (λ (k : ℕ). drop k (answer_in (answer_of t a))) (add-one n) in
      ap₂ ◌∷◌ (sends_at n (omega arith)) (ap (sent_in (m ∷ ls)) next ∙ rest)
      ∙ sym (drop-cons (answer_in (answer_of t a)) n true (omega arith))

  -- ---- the whole answer

  pub replied_past : (ls : List Bool) → length (answer_in (answer_of t a)) ≤ length ls → hearing ls (reply 0) ≡ ended
  replied_past ls h =
      let past : ltb (0 + length ls) (slots_of t a) ≡ false = le-ltb (0 + length ls) (slots_of t a) (omega (arith, length_answer (answer_of t a))) in
      replied ls 0 (omega arith) ∙ simp past

  pub replied_within : (ls : List Bool) → length ls < length (answer_in (answer_of t a)) → hearing ls (reply 0) ≡ reply (length ls)
  replied_within ls h =
      let within : ltb (0 + length ls) (slots_of t a) ≡ true = lt-ltb (0 + length ls) (slots_of t a) (omega (arith, length_answer (answer_of t a))) in
      replied ls 0 (omega arith) ∙ simp within (ap reply (omega arith))

  pub answers : Answers (answer_of t a) c.sensor (reply 0)
  answers = record {
    sent = λ ls more h.
        sent_in_then ls more (reply 0)
        ∙ ap₂ ◌++◌ (sent_in_reply ls 0 (omega arith))
        (ap (sent_in more) (replied_past ls (omega arith)) ∙ sent_in_ended more);
    kept = λ ls. ap (λ (d : Chip). d.sensor) (replied ls 0 (omega arith)) ∙ go (ltb (0 + length ls) (slots_of t a)) (0 + length ls);
  }
    where
      go : (b : Bool) (n : ℕ) → (cond b (reply n) ended).sensor ≡ c.sensor
      go true n = refl
      go false n = refl

  -- behind a status that is not 0
  pub never_over : eqb t 0 ≡ false → (ls : List Bool) → is_over (hearing ls (reply 0)) ≡ false
  unfolding is_over over_at
  never_over nonzero ls = ap is_over (replied ls 0 (omega arith)) ∙ go (ltb (0 + length ls) (slots_of t a)) (0 + length ls)
    where
      go : (b : Bool) (n : ℕ) → is_over (cond b (reply n) ended) ≡ false
      go true n = refl
      go false n = simp nonzero

-- ---- a chip that is deaf

pub over_stays : (c : Chip) (a : Asked) (ls : List Bool) → hearing ls (at_place c Over a) ≡ at_place c Over a
unfolding hearing heard heard_in
over_stays c a [] = refl
over_stays c a (l ∷ ls) = over_stays c a ls
