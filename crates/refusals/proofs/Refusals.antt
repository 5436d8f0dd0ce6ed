-- What the reader gives for a packet is what is wrong with it first of all.
--   refusals    the statement, of every packet
use Rattle.std.proofs.Common.{◌≡◌, ℕ, ◌+◌, ◌-◌, ◌*◌, ◌/◌, ◌%◌, ◌≤◌, Bool, true, false, cond, not, ◌&&◌, eqb, leb, length, get_or, take, Result, Ok, Err, refl, sym, ap, subst, ◌∙◌, arith}
use Rattle.std.proofs.lemmas.Bool.{false≢true}
use Rattle.std.proofs.lemmas.Bool.Decides.{nat_tests}
use mathlib.Core.List.{List, [], ◌∷◌, Memᴰ}
use native.Mathlib.Nat.{le_antisymm}
use Rattle.reading.specs.declared.Parts.{Parts}
use Rattle.reading.specs.declared.Refusal.{Refusal}
use Rattle.reading.specs.declared.Refusal.TheVariants.{Code, Length, Count, Bit, Crc}
use Rattle.reading.specs.Reading.{code_of, address_byte, count_byte, behind_data, is_unknown, length_for, wanted_of, zero_count, low_bit, parts_in, form_of, is_sealed, checked, reading_of, number_of, place_of, reading_number, reading_place, Refuses}
use Rattle.reading.proofs.Seal.{sealed_split, sealed_true}
use Rattle.reading.proofs.Taken.{whole, known, pick}
use Rattle.refusals.specs.Refusals.{Unknown, Wants, short, write, read, write_read, Zero, third, behind, WrongBit, odd_write, even_read, odd_write_read, Wrong, code, long, count, bit, First, Right, Sealed, Refusals}

-- an answer of the reader, and what it says of the packet
data Says (p : List ℕ) : Result Parts Refusal → Type 0 where
  wrong : (e : Refusal) → First p (number_of e) (place_of e) → Says p (Err e)
  spoilt : Right p → (Sealed p → ⊥) → Says p (Err Crc)
  parts : (x : Parts) → Right p → Sealed p → Says p (Ok x)

module _ (p : List ℕ) where
  -- ---- the first byte

  unknown_of : is_unknown p ≡ true → Unknown p
  unfolding is_unknown
  unknown_of t =
      record {
        there = grind (arith, nat_tests);
        write = λ b. grind (arith, nat_tests);
        read = λ b. grind (arith, nat_tests);
        write_read = λ b. grind (arith, nat_tests);
      }

  unknown_not : is_unknown p ≡ false → Unknown p → ⊥
  unfolding is_unknown
  unknown_not f u =
      let h = u.there in
      let w : code_of p ≡ 0x4B → ⊥ = λ e. u.write (h, e) in
      let r : code_of p ≡ 0x87 → ⊥ = λ e. u.read (h, e) in
      let b : code_of p ≡ 0x2D → ⊥ = λ e. u.write_read (h, e) in
      grind (arith, nat_tests)

  -- ---- the length

  wants_is : {n : ℕ} → Wants p n → n ≡ wanted_of p
  unfolding wanted_of
  wants_is (short h) = grind (arith, nat_tests)
  wants_is (write l c b) = grind (arith, nat_tests)
  wants_is (read r c b) = grind (arith, nat_tests)
  wants_is (write_read l c b) = grind (arith, nat_tests)

  wants_of : is_unknown p ≡ false → Wants p (wanted_of p)
  unfolding wanted_of
  wants_of u = of_length (leb 3 (length p)) refl
    where
      of_code : 3 ≤ length p → (x y : Bool) → eqb (code_of p) 0x4B ≡ x → eqb (code_of p) 0x87 ≡ y → Wants p (cond x (count_byte p + 5) (cond y 5 (count_byte p + 6)))
      of_code h true y a b =
          subst (Wants p) (omega arith) (write (count_byte p) (omega arith, grind (arith, nat_tests)) (omega arith, refl))
      of_code h false true a b = read (count_byte p) (omega arith, grind (arith, nat_tests)) (omega arith, refl)
      of_code h false false a b =
          subst (Wants p) (omega arith) (write_read (count_byte p) (omega arith, known p u (omega arith) a b) (omega arith, refl))

      of_length : (t : Bool) → leb 3 (length p) ≡ t → Wants p (cond t (length_for (code_of p) (count_byte p)) 5)
      of_length true t = of_code (grind (arith, nat_tests)) (eqb (code_of p) 0x4B) (eqb (code_of p) 0x87) refl refl
      of_length false t = short (grind (arith, nat_tests))

  -- ---- the counts

  zero_is : {j : ℕ} → Zero p j → (zero_count p ≡ 0 → ⊥) × (zero_count p ≤ j)
  unfolding zero_count
  zero_is (third b) = (λ z. grind (arith, nat_tests), grind (arith, nat_tests))
  zero_is (behind l c b z) =
      let last : behind_data p ≡ 0 = ap (λ (k : ℕ). get_or p k 0) (omega (arith, b.1)) ∙ z.1 in
      (λ n. grind (arith, nat_tests), grind (arith, nat_tests))

  zero_of : length p ≡ wanted_of p → (zero_count p ≡ 0 → ⊥) → Zero p (zero_count p)
  unfolding zero_count
  zero_of l some = by (eqb (count_byte p) 0) (eqb (code_of p) 0x2D) (eqb (behind_data p) 0) refl refl refl some
    where
      room : code_of p ≡ 0x2D → length p ≡ count_byte p + 6
      room c = (whole p l).1 ∙ ap (λ (x : ℕ). length_for x (count_byte p)) c

      by : (x y z : Bool) → eqb (count_byte p) 0 ≡ x → eqb (code_of p) 0x2D ≡ y → eqb (behind_data p) 0 ≡ z → (cond x 2 (cond (y && z) (count_byte p + 3) 0) ≡ 0 → ⊥) → Zero p (cond x 2 (cond (y && z) (count_byte p + 3) 0))
      by true y z a b c n = third (omega (arith, (whole p l).0), grind (arith, nat_tests))
      by false true true a b c n =
          let d : code_of p ≡ 0x2D = grind (arith, nat_tests) in
          let e : behind_data p ≡ 0 = grind (arith, nat_tests) in
          let at : 3 + count_byte p ≡ count_byte p + 3 = omega arith in
          subst (Zero p) at
          (behind (count_byte p) (omega (arith, (whole p l).0), d) (omega (arith, (whole p l).0), refl) (omega (arith, room d), ap (λ (k : ℕ). get_or p k 0) at ∙ e))
      by false true false a b c n = absurd (n refl)
      by false false z a b c n = absurd (n refl)

  -- ---- the low address bit

  bit_is : WrongBit p → address_byte p % 2 ≡ low_bit (code_of p) → ⊥
  bit_is (odd_write a c b) e = omega (arith, e ∙ ap low_bit c.1, b.1)
  bit_is (even_read a c b) e = omega (arith, e ∙ ap low_bit c.1, b.1)
  bit_is (odd_write_read a c b) e = omega (arith, e ∙ ap low_bit c.1, b.1)

  bit_of : is_unknown p ≡ false → 3 ≤ length p → (address_byte p % 2 ≡ low_bit (code_of p) → ⊥) → WrongBit p
  bit_of u h turned = by (eqb (code_of p) 0x4B) (eqb (code_of p) 0x87) refl refl
    where
      odd : {c : ℕ} → code_of p ≡ c → low_bit c ≡ 0 → address_byte p ≡ address_byte p / 2 * 2 + 1
      odd e z =
          let n : address_byte p % 2 ≡ 0 → ⊥ = λ x. turned (x ∙ sym (ap low_bit e ∙ z)) in
          omega arith

      by : (x y : Bool) → eqb (code_of p) 0x4B ≡ x → eqb (code_of p) 0x87 ≡ y → WrongBit p
      by true y a b =
          let c : code_of p ≡ 0x4B = grind (arith, nat_tests) in
          odd_write (address_byte p / 2) (omega arith, c) (omega arith, odd c refl)
      by false true a b =
          let c : code_of p ≡ 0x87 = grind (arith, nat_tests) in
          let n : address_byte p % 2 ≡ 1 → ⊥ = λ x. turned (x ∙ sym (ap low_bit c)) in
          even_read (address_byte p / 2) (omega arith, c) (omega arith, omega arith)
      by false false a b =
          let c = known p u (omega arith) a b in
          odd_write_read (address_byte p / 2) (omega arith, c) (omega arith, odd c refl)

  -- ---- the checksum

  sealed_of : 3 ≤ length p → is_sealed p ≡ true → Sealed p
  sealed_of h s = record { body = take (length p - 2) p; ends = sealed_split p (length p - 2) (omega arith) s }

  sealed_not : is_sealed p ≡ false → Sealed p → ⊥
  sealed_not f s = false≢true (sym f ∙ ap is_sealed s.ends ∙ sealed_true s.body)

  -- ---- what comes first

  by_wrong : (P : ℕ → ℕ → Type 0) → (Unknown p → P 16 0) → ((n : ℕ) → Wants p n → (length p ≡ n → ⊥) → P 17 n) → ((k : ℕ) → Zero p k → P 18 k) → (WrongBit p → P 19 1) → (n k : ℕ) → Wrong p n k → P n k
  by_wrong P a b c d _ _ (code u) = a u
  by_wrong P a b c d _ _ (long n w h) = b n w h
  by_wrong P a b c d _ _ (count k z) = c k z
  by_wrong P a b c d _ _ (bit w) = d w

  first_code : Unknown p → First p 16 0
  first_code u =
      record {
        holds = code u;
        lowest = by_wrong (λ n k. 16 ≤ n) (λ w. omega arith) (λ n w h. omega arith) (λ k z. omega arith) (λ w. omega arith);
        front = λ j w. omega arith;
      }

  module _ (known : Unknown p → ⊥) where
    first_long : Wants p (wanted_of p) → (length p ≡ wanted_of p → ⊥) → First p 17 (wanted_of p)
    first_long w h =
        record {
          holds = long (wanted_of p) w h;
          lowest = by_wrong (λ n k. 17 ≤ n) (λ u. absurd (known u)) (λ n w h. omega arith) (λ k z. omega arith) (λ w. omega arith);
          front = λ j x. by_wrong (λ n k. n ≡ 17 → wanted_of p ≤ k) (λ u e. absurd (omega arith)) (λ n v h e. omega (arith, wants_is v)) (λ k z e. absurd (omega arith)) (λ b e. absurd (omega arith)) 17 j x refl;
        }

    module _ (fits : length p ≡ wanted_of p) where
      fitting : (n : ℕ) → Wants p n → (length p ≡ n → ⊥) → ⊥
      fitting n w h = h (fits ∙ sym (wants_is w))

      first_count : (zero_count p ≡ 0 → ⊥) → First p 18 (zero_count p)
      first_count zero =
          record {
            holds = count (zero_count p) (zero_of fits zero);
            lowest = by_wrong (λ n k. 18 ≤ n) (λ u. absurd (known u)) (λ n w h. absurd (fitting n w h)) (λ k z. omega arith) (λ w. omega arith);
            front = λ j x. by_wrong (λ n k. n ≡ 18 → zero_count p ≤ k) (λ u e. absurd (known u)) (λ n w h e. absurd (fitting n w h)) (λ k z e. (zero_is z).1) (λ b e. absurd (omega arith)) 18 j x refl;
          }

      module _ (some : zero_count p ≡ 0) where
        first_bit : WrongBit p → First p 19 1
        first_bit w =
            record {
              holds = bit w;
              lowest = by_wrong (λ n k. 19 ≤ n) (λ u. absurd (known u)) (λ n w h. absurd (fitting n w h)) (λ k z. absurd ((zero_is z).0 some)) (λ w. omega arith);
              front = λ j x. by_wrong (λ n k. 1 ≤ k) (λ u. absurd (known u)) (λ n w h. absurd (fitting n w h)) (λ k z. absurd ((zero_is z).0 some)) (λ b. omega arith) 19 j x;
            }

        right : address_byte p % 2 ≡ low_bit (code_of p) → Right p
        right b =
            by_wrong (λ n k. ⊥) known fitting (λ k z. (zero_is z).0 some) (λ w. bit_is w b)

  -- ---- the answer

  says_parts : (x : Parts) → 3 ≤ length p → Right p → (t : Bool) → is_sealed p ≡ t → Says p (checked t (Ok x))
  unfolding checked
  says_parts x h r true s = parts x r (sealed_of h s)
  says_parts x h r false s = spoilt r (sealed_not s)

  says : Says p (reading_of p)
  unfolding reading_of form_of checked
  says =
      let P : Result Parts Refusal → Type 0 = λ x. Says p (checked (is_sealed p) x) in
      pick P (is_unknown p) _ _ (λ t. wrong Code (first_code (unknown_of t)))
      (λ u. pick P (not (eqb (length p) (wanted_of p))) _ _ (λ t. wrong (Length (wanted_of p)) (first_long (unknown_not u) (wants_of u) (differ t)))
      (λ l. pick P (not (eqb (zero_count p) 0)) _ _ (λ t. wrong (Count (zero_count p)) (first_count (unknown_not u) (same l) (differ t)))
      (λ z. pick P (not (eqb (address_byte p % 2) (low_bit (code_of p)))) _ _ (λ t. wrong Bit (first_bit (unknown_not u) (same l) (same z) (bit_of u (whole p (same l)).0 (differ t))))
      (λ b. says_parts (parts_in p) (whole p (same l)).0 (right (unknown_not u) (same l) (same z) (same b)) (is_sealed p) refl))))
    where
      same : {x y : ℕ} → not (eqb x y) ≡ false → x ≡ y
      same {x} {y} t = grind (arith, nat_tests)

      differ : {x y : ℕ} → not (eqb x y) ≡ true → x ≡ y → ⊥
      differ {x} {y} t e = grind (arith, nat_tests)

  -- ---- the statement

  first_unique : {n k m j : ℕ} → First p n k → First p m j → (n ≡ m) × (k ≡ j)
  first_unique {n} {k} {m} {j} f g =
      let e : n ≡ m = le_antisymm (f.lowest m j g.holds) (g.lowest n k f.holds) in (
        e,
        le_antisymm (f.front j (subst (λ (x : ℕ). Wrong p x j) (sym e) g.holds)) (g.front k (subst (λ (x : ℕ). Wrong p x k) e f.holds)),
      )

  one_of : {r : Result Parts Refusal} → Says p r → Memᴰ (reading_number r) (0 ∷ 14 ∷ 16 ∷ 17 ∷ 18 ∷ 19 ∷ [])
  one_of (wrong e f) =
      by_wrong (λ n k. Memᴰ n (0 ∷ 14 ∷ 16 ∷ 17 ∷ 18 ∷ 19 ∷ [])) (λ u. Memᴰ.tail (Memᴰ.tail (Memᴰ.head refl)))
      (λ n w h. Memᴰ.tail (Memᴰ.tail (Memᴰ.tail (Memᴰ.head refl))))
      (λ k z. Memᴰ.tail (Memᴰ.tail (Memᴰ.tail (Memᴰ.tail (Memᴰ.head refl)))))
      (λ w. Memᴰ.tail (Memᴰ.tail (Memᴰ.tail (Memᴰ.tail (Memᴰ.tail (Memᴰ.head refl)))))) (number_of e) (place_of e) f.holds
  one_of (spoilt r s) = Memᴰ.tail (Memᴰ.head refl)
  one_of (parts x h s) = Memᴰ.head refl

  -- a condition of the form has a number of 16 or above
  above : {n k : ℕ} → First p n k → 16 ≤ n
  above {n} {k} f =
      by_wrong (λ n k. 16 ≤ n) (λ w. omega arith) (λ n w h. omega arith) (λ k z. omega arith) (λ w. omega arith) n k f.holds

  form_to : {r : Result Parts Refusal} {n k : ℕ} → Says p r → (n ≡ 14 → ⊥) → Refuses r n k → First p n k
  form_to {k = k} (wrong e f) other h = subst (λ (x : ℕ). First p x k) h.0 (subst (First p (number_of e)) h.1 f)
  form_to (spoilt r s) other h = absurd (other (sym h.0))
  form_to (parts x r s) other h = absurd h

  form_from : {r : Result Parts Refusal} {n k : ℕ} → Says p r → First p n k → Refuses r n k
  form_from (wrong e f) g = first_unique f g
  form_from {n = n} {k = k} (spoilt r s) g = absurd (r n k g.holds)
  form_from {n = n} {k = k} (parts x r s) g = absurd (r n k g.holds)

  crc_to : {r : Result Parts Refusal} {k : ℕ} → Says p r → Refuses r 14 k → (k ≡ 0) × Right p × (Sealed p → ⊥)
  crc_to (wrong e f) h = absurd (omega (arith, above f, h.0))
  crc_to (spoilt r s) h = (sym h.1, r, s)
  crc_to (parts x r s) h = absurd h

  crc_from : {r : Result Parts Refusal} {k : ℕ} → Says p r → (k ≡ 0) × Right p × (Sealed p → ⊥) → Refuses r 14 k
  crc_from (wrong e f) g = absurd (g.1 (number_of e) (place_of e) f.holds)
  crc_from (spoilt r s) g = (refl, sym g.0)
  crc_from (parts x r s) g = absurd (g.2 s)

  accepted_to : {r : Result Parts Refusal} → Says p r → reading_number r ≡ 0 → Right p × Sealed p
  accepted_to (wrong e f) z = absurd (omega (arith, above f))
  accepted_to (spoilt r s) z = absurd (omega arith)
  accepted_to (parts x r s) z = (r, s)

  accepted_from : {r : Result Parts Refusal} → Says p r → Right p × Sealed p → reading_number r ≡ 0
  accepted_from (wrong e f) g = absurd (g.0 (number_of e) (place_of e) f.holds)
  accepted_from (spoilt r s) g = absurd (s g.1)
  accepted_from (parts x r s) g = refl

  placeless_of : {r : Result Parts Refusal} → Says p r → reading_number r ≡ 0 → reading_place r ≡ 0
  placeless_of (wrong e f) z = absurd (omega (arith, above f))
  placeless_of (spoilt r s) z = refl
  placeless_of (parts x r s) z = refl

  pub refusals : Refusals p
  refusals =
      record {
        one = one_of says;
        form = λ n k other. (form_to says other, form_from says);
        crc = λ k. (crc_to says, crc_from says);
        accepted = (accepted_to says, accepted_from says);
        placeless = placeless_of says;
      }
