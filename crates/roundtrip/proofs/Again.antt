-- Forming the parts of an accepted packet gives its bytes.
--   Bytes p        every element of p is a byte
--   Again r p      where r are the parts of p, the request that they stand for is within its limits, and its packet is p
--   again          so it is for every packet and the reader's answer
--   again_formed, again_refused    what forming the parts again gives
use Rattle.std.proofs.Common.{◌≡◌, ℕ, suc, ◌+◌, ◌*◌, ◌/◌, ◌<◌, ◌≤◌, Bool, true, false, List, [], ◌∷◌, ◌++◌, length, get_or, take, drop, Result, Ok, Err, refl, sym, ap, ◌∙◌, subst, arith}
use Rattle.std.proofs.lemmas.Bool.Decides.{nat_tests}
use lib.ListN.{length-drop}
use lib.Seq.{length-take-le, take-suc}
use Rattle.packet.specs.Request.{Request, write, read, write_read, body_of, seal_of, packet_of}
use Rattle.forming.specs.Forming.{in_limits, form_number, formed}
use Rattle.reading.specs.declared.Parts.{Parts}
use Rattle.reading.specs.declared.Refusal.{Refusal}
use Rattle.reading.specs.Reading.{code_of, address_byte, count_byte, behind_data, parts, form_of, is_sealed, checked, reading_of, number_of, place_of, data_in, request_for, request_in}
use Rattle.reading.proofs.Seal.{sealed_split}
use Rattle.reading.proofs.Taken.{Head, by_form}
use Rattle.roundtrip.specs.RoundTrip.{again_for, again_number, again_place, again_in, formed_again}

-- ---- the body

-- three bytes and n more
front : (p : List ℕ) (n : ℕ) → n + 3 ≤ length p → take (n + 3) p ≡ get_or p 0 0 ∷ get_or p 1 0 ∷ get_or p 2 0 ∷ take n (drop 3 p)
front [] n h = absurd (omega arith)
front (x ∷ []) n h = absurd (omega arith)
front (x ∷ y ∷ []) n h = absurd (omega arith)
front (x ∷ y ∷ z ∷ zs) n h = ap (λ (k : ℕ). take k (x ∷ y ∷ z ∷ zs)) (add_three n)
  where
    add_three : (k : ℕ) → k + 3 ≡ suc (suc (suc k))
    add_three k = omega arith

-- the data has the length that is given for it
data_size : (p : List ℕ) (n : ℕ) → n + 3 ≤ length p → length (take n (drop 3 p)) ≡ n
data_size p n h = length-take-le n (drop 3 p) (simp length-drop (omega arith))

body_write : (p : List ℕ) → code_of p ≡ 0x4B → Head p 0 (count_byte p + 5) → take (count_byte p + 3) p ≡ body_of (write (address_byte p / 2) (take (count_byte p) (drop 3 p)))
unfolding body_of
body_write p c h =
    let l : ℕ = count_byte p in
    let w = h.long in
    let even : address_byte p ≡ address_byte p / 2 * 2 = omega (arith, h.bit) in
    let size = data_size p l (omega arith) in
    let three = front p l (omega arith) in
    cc

body_read : (p : List ℕ) → code_of p ≡ 0x87 → Head p 1 5 → take 3 p ≡ body_of (read (address_byte p / 2) (count_byte p))
unfolding body_of
body_read p c h =
    let w = h.long in
    let odd : address_byte p ≡ address_byte p / 2 * 2 + 1 = omega (arith, h.bit) in
    let three = front p 0 (omega arith) in
    cc

body_write_read : (p : List ℕ) → code_of p ≡ 0x2D → Head p 0 (count_byte p + 6) → take (count_byte p + 4) p ≡ body_of (write_read (address_byte p / 2) (take (count_byte p) (drop 3 p)) (behind_data p))
unfolding body_of
body_write_read p c h =
    let l : ℕ = count_byte p in
    let w = h.long in
    let even : address_byte p ≡ address_byte p / 2 * 2 = omega (arith, h.bit) in
    let size = data_size p l (omega arith) in
    let three = front p l (omega arith) in
    let more : l + 4 ≡ suc (l + 3) = omega arith in
    let last = take-suc p (l + 3) 0 (omega arith) in
    cc

-- ---- the packet

abbrev pub Bytes : List ℕ → Type 0
Bytes p = (k : ℕ) → get_or p k 0 < 256

abbrev pub Again : Result Parts Refusal → List ℕ → Type 0
Again (Ok x) p = (in_limits (request_in (Ok x) p) ≡ true) × (packet_of (request_in (Ok x) p) ≡ p)
Again (Err e) p = Unit {0}

-- a body and its checksum are the packet
rejoined : (p : List ℕ) (q : Request) (n : ℕ) → length p ≡ n + 2 → is_sealed p ≡ true → take n p ≡ body_of q → packet_of q ≡ p
unfolding packet_of
rejoined p q n h s e = sym (sealed_split p n h s ∙ ap (λ (b : List ℕ). b ++ seal_of b) e)

module _ (p : List ℕ) (bytes : Bytes p) (s : is_sealed p ≡ true) where
  again_write : code_of p ≡ 0x4B → Head p 0 (count_byte p + 5) → Again (Ok (parts 0x4B (address_byte p / 2) 3 (count_byte p) 0)) p
  unfolding request_in in_limits
  again_write c h =
      let w = h.long in
      let some = h.some in
      let a = bytes 1 in
      let b = bytes 2 in
      let size = data_size p (count_byte p) (omega arith) in (
        grind (arith, nat_tests),
        rejoined p (write (address_byte p / 2) (take (count_byte p) (drop 3 p))) (count_byte p + 3) (omega arith) s (body_write p c h),
      )

  again_read : code_of p ≡ 0x87 → Head p 1 5 → Again (Ok (parts 0x87 (address_byte p / 2) 0 0 (count_byte p))) p
  unfolding request_in in_limits
  again_read c h =
      let w = h.long in
      let some = h.some in
      let a = bytes 1 in
      let b = bytes 2 in (
        grind (arith, nat_tests),
        rejoined p (read (address_byte p / 2) (count_byte p)) 3 (omega arith) s (body_read p c h),
      )

  again_write_read : code_of p ≡ 0x2D → Head p 0 (count_byte p + 6) → 1 ≤ behind_data p → Again (Ok (parts 0x2D (address_byte p / 2) 3 (count_byte p) (behind_data p))) p
  unfolding request_in in_limits
  again_write_read c h r =
      let w = h.long in
      let some = h.some in
      let a = bytes 1 in
      let b = bytes 2 in
      let d = bytes (count_byte p + 3) in
      let size = data_size p (count_byte p) (omega arith) in (
        grind (arith, nat_tests),
        rejoined p (write_read (address_byte p / 2) (take (count_byte p) (drop 3 p)) (behind_data p)) (count_byte p + 4) (omega arith) s (body_write_read p c h),
      )

  again_form : Again (form_of p) p
  again_form = by_form p (λ (r : Result Parts Refusal). Again r p) (λ e. tt) again_write again_read again_write_read

again_checked : (t : Bool) (r : Result Parts Refusal) (p : List ℕ) → (t ≡ true → Again r p) → Again (checked t r) p
unfolding checked
again_checked true (Ok x) p h = h refl
again_checked false (Ok x) p h = tt
again_checked t (Err e) p h = tt

pub again : (p : List ℕ) → Bytes p → Again (reading_of p) p
unfolding reading_of
again p bytes = again_checked (is_sealed p) (form_of p) p (again_form p bytes)

-- ---- forming the parts again

pub again_refused : (p d : List ℕ) (e : Refusal) → Err e ≡ reading_of p → (number_of e ≡ again_number p d) × (place_of e ≡ again_place p) × (d ≡ formed_again p d)
unfolding again_number again_for again_place formed_again again_in
again_refused p d e r = rw (← r) (refl, refl, refl)

pub again_formed : (p d : List ℕ) (x : Parts) → Bytes p → Ok x ≡ reading_of p → let q = request_for x (data_in (reading_of p) p) in (form_number q d ≡ again_number p d) × (0 ≡ again_place p) × (formed q d ≡ formed_again p d)
unfolding form_number formed again_number again_for again_place formed_again again_in data_in request_in
again_formed p d x bytes r =
    let g : Again (Ok x) p = subst (λ (y : Result Parts Refusal). Again y p) (sym r) (again p bytes) in
    let good = g.0 in
    let whole = g.1 in
    rw (← r) (grind (arith, nat_tests), refl, grind (arith, nat_tests))
