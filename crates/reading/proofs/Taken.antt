-- Laws of reading.
--   whole             a packet of the length that it should have has three bytes and the length of its form
--   no_zero           a packet without a count of zero
--   known             the last of the codes is the one that is left
--   form_by c p        the form of a packet p of three bytes or more, by its code c
--   form_known        which is its form
--   pick              what holds either way of a test holds of the choice by it
--   Head p b n        the packet p has the low address bit b, a first count that is not zero, and n bytes
--   by_form           what holds of every refusal and of the parts of each form holds of the form of a packet
--   reading_within    the data that the parts of p tell of lies within p
--   same_refusal      a refusal is told from the others by its number and place
use mathlib.Core.Path.{◌≡◌, refl, sym, ap, ap₂, ◌∙◌}
use mathlib.Core.Bool.{Bool, true, false, cond, not, ◌&&◌, ◌||◌}
use mathlib.Core.List.{List}
use Prim.Native.Nat.{ℕ, ◌+◌, ◌%◌, ◌/◌, ◌≤◌}
use native.Mathlib.Omega.{arith}
use borrow.Author.Tests.{eqb-true, not-false, le-leb}
use lib.Dec.{eqb}
use lib.ListN.{length}
use Rattle.std.specs.Prelude.{Result, Ok, Err, IfOk}
use Rattle.std.proofs.lemmas.Result.{IfOk-at_ok}
use Rattle.std.proofs.lemmas.Bool.Decides.{nat_tests}
use Rattle.reading.specs.declared.Parts.{Parts}
use Rattle.reading.specs.declared.Refusal.{Refusal}
use Rattle.reading.specs.declared.Refusal.TheVariants.{Code, Length, Count, Bit, Crc}
use Rattle.reading.specs.Reading.{code_of, address_byte, count_byte, behind_data, is_unknown, length_for, wanted_of, zero_count, low_bit, parts, parts_in, form_of, is_sealed, checked, reading_of, number_of, place_of}

-- ---- the form

pub whole : (p : List ℕ) → length p ≡ wanted_of p → (3 ≤ length p) × (length p ≡ length_for (code_of p) (count_byte p))
unfolding wanted_of
whole p e = (grind (arith, nat_tests), grind (arith, nat_tests))

pub no_zero : (p : List ℕ) → zero_count p ≡ 0 → (1 ≤ count_byte p) × (code_of p ≡ 0x2D → 1 ≤ behind_data p)
unfolding zero_count
no_zero p e = (grind (arith, nat_tests), λ c. grind (arith, nat_tests))

pub known : (p : List ℕ) → is_unknown p ≡ false → 1 ≤ length p → eqb (code_of p) 0x4B ≡ false → eqb (code_of p) 0x87 ≡ false → code_of p ≡ 0x2D
unfolding is_unknown
known p u n w r = grind (arith, nat_tests)

abbrev pub form_by : ℕ → List ℕ → Result Parts Refusal
form_by c p =
    let zero = cond (eqb (count_byte p) 0) 2 (cond (eqb c 0x2D && eqb (behind_data p) 0) (count_byte p + 3) 0) in
    cond (not (eqb (length p) (length_for c (count_byte p)))) (Err (Length (length_for c (count_byte p))))
    (cond (not (eqb zero 0)) (Err (Count zero))
    (cond (not (eqb (address_byte p % 2) (low_bit c))) (Err Bit) (Ok (parts_in p))))

pub form_known : (p : List ℕ) (c : ℕ) → 3 ≤ length p → code_of p ≡ c → (eqb c 0x4B || eqb c 0x87 || eqb c 0x2D) ≡ true → form_of p ≡ form_by c p
unfolding form_of is_unknown wanted_of zero_count
form_known p c h e k = simp (e, k, le-leb 1 (length p) (omega arith), le-leb 3 (length p) h)

pub record Head (p : List ℕ) (low wanted : ℕ) : Type 0 where
  pub bit : address_byte p % 2 ≡ low
  pub some : 1 ≤ count_byte p
  pub long : length p ≡ wanted

pub pick : {A : Type 0} (P : A → Type 0) (t : Bool) (r s : A) → (t ≡ true → P r) → (t ≡ false → P s) → P (cond t r s)
pick P true r s h k = h refl
pick P false r s h k = k refl

module _ (p : List ℕ) (P : Result Parts Refusal → Type 0) (no : (e : Refusal) → P (Err e)) (write : code_of p ≡ 0x4B → Head p 0 (count_byte p + 5) → P (Ok (parts 0x4B (address_byte p / 2) 3 (count_byte p) 0))) (read : code_of p ≡ 0x87 → Head p 1 5 → P (Ok (parts 0x87 (address_byte p / 2) 0 0 (count_byte p)))) (write_read : code_of p ≡ 0x2D → Head p 0 (count_byte p + 6) → 1 ≤ behind_data p → P (Ok (parts 0x2D (address_byte p / 2) 3 (count_byte p) (behind_data p)))) where
  -- the parts, where none of the checks finds anything
  of_parts : is_unknown p ≡ false → length p ≡ wanted_of p → zero_count p ≡ 0 → address_byte p % 2 ≡ low_bit (code_of p) → P (Ok (parts_in p))
  unfolding parts_in
  of_parts u l z b =
      pick (λ x. P (Ok x)) (eqb (code_of p) 0x4B) _ _
      (λ t. let c = eqb-true (code_of p) 0x4B t in write c (head c))
      (λ n. pick (λ x. P (Ok x)) (eqb (code_of p) 0x87) _ _
      (λ t. let c = eqb-true (code_of p) 0x87 t in read c (head c))
      (λ m. let c = known p u (omega (arith, (whole p l).0)) n m in write_read c (head c) ((no_zero p z).1 c)))
    where
      head : {c : ℕ} → code_of p ≡ c → Head p (low_bit c) (length_for c (count_byte p))
      head c =
          record {
            bit = b ∙ ap low_bit c;
            some = (no_zero p z).0;
            long = (whole p l).1 ∙ ap (λ (x : ℕ). length_for x (count_byte p)) c;
          }

  pub by_form : P (form_of p)
  unfolding form_of
  by_form =
      pick P (is_unknown p) _ _ (λ t. no Code)
      (λ u. pick P (not (eqb (length p) (wanted_of p))) _ _ (λ t. no (Length (wanted_of p)))
      (λ l. pick P (not (eqb (zero_count p) 0)) _ _ (λ t. no (Count (zero_count p)))
      (λ z. pick P (not (eqb (address_byte p % 2) (low_bit (code_of p)))) _ _ (λ t. no Bit)
      (λ b. of_parts u (same (length p) (wanted_of p) l) (same (zero_count p) 0 z) (same (address_byte p % 2) (low_bit (code_of p)) b)))))
    where
      same : (x y : ℕ) → not (eqb x y) ≡ false → x ≡ y
      same x y t = eqb-true x y (not-false (eqb x y) t)

-- ---- where the data lies

within_checked : (s : Bool) (r : Result Parts Refusal) (n : ℕ) → IfOk r (λ x. x.start + x.len ≤ n) → IfOk (checked s r) (λ x. x.start + x.len ≤ n)
unfolding checked
within_checked true (Ok x) n h = h
within_checked false (Ok x) n h = tt
within_checked s (Err e) n h = tt

pub reading_within : (p : List ℕ) (x : Parts) → Ok x ≡ reading_of p → x.start + x.len ≤ length p
unfolding reading_of
reading_within p x e =
    IfOk-at_ok (λ (y : Parts). y.start + y.len ≤ length p) (sym e)
    (within_checked (is_sealed p) (form_of p) (length p)
    (by_form p (λ (r : Result Parts Refusal). IfOk r (λ y. y.start + y.len ≤ length p)) (λ e. tt) (λ c h. omega (arith, h.long)) (λ c h. omega arith) (λ c h r. omega (arith, h.long))))

-- ---- number and place

-- the refusal of a number and a place
refusal_at : ℕ → ℕ → Refusal
refusal_at n k = cond (eqb n 14) Crc (cond (eqb n 16) Code (cond (eqb n 17) (Length k) (cond (eqb n 18) (Count k) Bit)))

told : (e : Refusal) → refusal_at (number_of e) (place_of e) ≡ e
unfolding refusal_at
told Crc = refl
told Code = refl
told (Length n) = refl
told (Count k) = refl
told Bit = refl

pub same_refusal : (e f : Refusal) → number_of e ≡ number_of f → place_of e ≡ place_of f → e ≡ f
same_refusal e f n k = sym (told e) ∙ ap₂ refusal_at n k ∙ told f
