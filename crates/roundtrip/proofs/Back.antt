-- Reading a packet just formed gives the request that made it.
--   longest         the packet of a request within its limits has at most 261 bytes
--   longest_is      and a write-read of 255 bytes has so many
--   back            the reader's answer for the packet of a request within its limits
--   numbered_back, values_back    that answer in document 01's number and values
--   request_back    the request that this answer stands for in that packet is the very request, its data included
--   fits_formed     the packet fits the buffer that it was formed in
--   back_formed     the reader's answer for what forming leaves at the front of a buffer
--   back_refused    a request that is refused
use Rattle.std.proofs.Common.{◌≡◌, ℕ, ◌+◌, ◌*◌, ◌/◌, ◌%◌, ◌≤◌, Bool, true, false, cond, ◌&&◌, eqb, List, [], ◌∷◌, ◌++◌, length, get_or, take, Result, Ok, Err, refl, sym, ap, ap₂, ◌∙◌, append_assoc, arith}
use Rattle.std.proofs.lemmas.Bool.Decides.{nat_tests}
use lib.Seq.{take-append_seam, get_or-append_seam, length-take-le}
use Rattle.packet.specs.Request.{Request, write, read, write_read, body_of, seal_of, packet_of}
use Rattle.forming.specs.declared.Refusal as forming
use Rattle.forming.specs.declared.Refusal.TheVariants.{Limits, Buffer}
use Rattle.forming.specs.Buffer.{over}
use Rattle.forming.specs.Forming as forming_specs
use Rattle.forming.specs.Forming.{good_address, good_count, in_limits, form_number, formed}
use Rattle.forming.proofs.Buffer.{take_over}
use Rattle.forming.proofs.Forming.{length_write, length_read, length_write_read}
use Rattle.reading.specs.declared.Parts.{Parts}
use Rattle.reading.specs.declared.Refusal as reading
use Rattle.reading.specs.Reading.{parts_in, form_of, checked, reading_of, reading_number, reading_values, parts_of, request_in}
use Rattle.reading.proofs.Seal.{sealed_true}
use Rattle.reading.proofs.Taken.{form_known}
use Rattle.roundtrip.specs.declared.Refusal.TheVariants.{Forming}
use Rattle.roundtrip.specs.RoundTrip.{read_back}

-- ---- the length

pub longest : (q : Request) → in_limits q ≡ true → length (packet_of q) ≤ 261
unfolding in_limits
longest (write a s) g = let n = length_write a s in grind (arith, nat_tests)
longest (read a r) g = let n = length_read a r in grind (arith, nat_tests)
longest (write_read a s r) g = let n = length_write_read a s r in grind (arith, nat_tests)

pub longest_is : (a : ℕ) (s : List ℕ) (r : ℕ) → length s ≡ 255 → length (packet_of (write_read a s r)) ≡ 261
longest_is a s r e = omega (arith, length_write_read a s r)

-- ---- the form

form_write : (a : ℕ) (s : List ℕ) → good_count (length s) ≡ true → form_of (packet_of (write a s)) ≡ Ok (parts_of (write a s))
unfolding parts_in parts_of packet_of body_of
form_write a s g =
    let n = length_write a s in
    form_known (packet_of (write a s)) 0x4B (omega arith) refl refl ∙ grind (arith, nat_tests)

form_read : (a r : ℕ) → good_count r ≡ true → form_of (packet_of (read a r)) ≡ Ok (parts_of (read a r))
unfolding parts_in parts_of packet_of body_of
form_read a r g =
    let n = length_read a r in
    form_known (packet_of (read a r)) 0x87 (omega arith) refl refl ∙ grind (arith, nat_tests)

-- R stands behind the data
last_count : (a : ℕ) (s : List ℕ) (r : ℕ) → get_or (packet_of (write_read a s r)) (length s + 3) 0 ≡ r
unfolding packet_of body_of
last_count a s r =
    let h : List ℕ = 0x2D ∷ (a * 2) ∷ length s ∷ s in
    let t : List ℕ = seal_of (body_of (write_read a s r)) in
    let at : length s + 3 ≡ length h = omega arith in
    ap (λ (k : ℕ). get_or ((h ++ (r ∷ [])) ++ t) k 0) at ∙ ap (λ (l : List ℕ). get_or l (length h) 0) (append_assoc h (r ∷ []) t)
    ∙ get_or-append_seam h r t 0

form_write_read : (a : ℕ) (s : List ℕ) (r : ℕ) → good_count (length s) ≡ true → good_count r ≡ true → form_of (packet_of (write_read a s r)) ≡ Ok (parts_of (write_read a s r))
unfolding parts_in parts_of packet_of body_of
form_write_read a s r g f =
    let n = length_write_read a s r in
    let last = last_count a s r in
    form_known (packet_of (write_read a s r)) 0x2D (omega arith) refl refl ∙ grind (arith, nat_tests)

form_of_lem : (q : Request) → in_limits q ≡ true → form_of (packet_of q) ≡ Ok (parts_of q)
unfolding in_limits
form_of_lem (write a s) g = form_write a s (grind (arith, nat_tests))
form_of_lem (read a r) g = form_read a r (grind (arith, nat_tests))
form_of_lem (write_read a s r) g = form_write_read a s r (grind (arith, nat_tests)) (grind (arith, nat_tests))

-- ---- the answer

pub back : (q : Request) → in_limits q ≡ true → reading_of (packet_of q) ≡ Ok (parts_of q)
unfolding reading_of checked packet_of
back q g = ap₂ checked (sealed_true (body_of q)) (form_of_lem q g)

-- The answer in numbers: 0, and for each form its values.
pub numbered_back : (q : Request) → in_limits q ≡ true → reading_number (reading_of (packet_of q)) ≡ 0
numbered_back q g = ap reading_number (back q g)

pub values_back : (q : Request) → in_limits q ≡ true → reading_values (reading_of (packet_of q)) ≡ reading_values (Ok (parts_of q))
values_back q g = ap reading_values (back q g)

-- the data lies in the packet where the parts say
request_parts : (q : Request) → request_in (Ok (parts_of q)) (packet_of q) ≡ q
unfolding request_in parts_of packet_of body_of
request_parts (write a s) = ap (write a) (take-append_seam s (seal_of (body_of (write a s))))
request_parts (read a r) = refl
request_parts (write_read a s r) =
    let t : List ℕ = seal_of (body_of (write_read a s r)) in
    ap (λ (x : List ℕ). write_read a x r)
    (ap (take (length s)) (append_assoc s (r ∷ []) t) ∙ take-append_seam s (r ∷ t))

pub request_back : (q : Request) → in_limits q ≡ true → request_in (reading_of (packet_of q)) (packet_of q) ≡ q
request_back q g = ap (λ (x : Result Parts reading.Refusal). request_in x (packet_of q)) (back q g) ∙ request_parts q

-- ---- what forming leaves in a buffer

pub fits_formed : (q : Request) (d : List ℕ) → 0 ≡ form_number q d → length (packet_of q) ≤ length d
unfolding form_number
fits_formed q d z = grind (arith, nat_tests)

pub back_formed : (q : Request) (d : List ℕ) (n : ℕ) → length (packet_of q) ≡ n → 0 ≡ form_number q d → reading_of (take n (formed q d)) ≡ Ok (parts_of q)
unfolding form_number formed
back_formed q d n h z =
    let good : in_limits q ≡ true = grind (arith, nat_tests) in
    let is : formed q d ≡ over (packet_of q) d = grind (arith, nat_tests) in
    ap₂ (λ (k : ℕ) (l : List ℕ). reading_of (take k l)) (sym h) is ∙ ap reading_of (take_over (packet_of q) d) ∙ back q good

pub read_back_formed : (q : Request) (d : List ℕ) → 0 ≡ form_number q d → read_back q d ≡ Ok (parts_of q)
unfolding read_back
read_back_formed q d z = grind (arith, nat_tests)

pub back_refused : (q : Request) (d : List ℕ) (e : forming.Refusal) → forming_specs.number_of e ≡ form_number q d → Err (Forming e) ≡ read_back q d
unfolding read_back
back_refused q d Limits n = grind (arith, nat_tests)
back_refused q d Buffer n = grind (arith, nat_tests)

pub back_write : (a : ℕ) (s d : List ℕ) → 0 ≡ form_number (write a s) d → reading_of (take (length s + 5) (formed (write a s) d)) ≡ Ok (parts_of (write a s))
back_write a s d z = back_formed (write a s) d (length s + 5) (length_write a s) z

pub back_read : (a r : ℕ) (d : List ℕ) → 0 ≡ form_number (read a r) d → reading_of (take 5 (formed (read a r) d)) ≡ Ok (parts_of (read a r))
back_read a r d z = back_formed (read a r) d 5 (length_read a r) z

pub back_write_read : (a : ℕ) (s : List ℕ) (r : ℕ) (d : List ℕ) → 0 ≡ form_number (write_read a s r) d → reading_of (take (length s + 6) (formed (write_read a s r) d)) ≡ Ok (parts_of (write_read a s r))
back_write_read a s r d z = back_formed (write_read a s r) d (length s + 6) (length_write_read a s r) z

-- what reading back needs
pub ruleset backs = (fits_formed, length_write, length_read, length_write_read, length-take-le, back_write, back_read, back_write_read, read_back_formed)
