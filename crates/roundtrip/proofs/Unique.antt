-- Each contract leaves one answer, and one content of the lent buffer, for each argument.
use Rattle.std.proofs.Common.{◌≡◌, ℕ, cond, eqb, Result, Ok, Err, refl, sym, ap₂, ◌∙◌}
use Rattle.checksum.proofs.Unique.{OneAnswer, OneAnswerAnd}
use Rattle.forming.specs.declared.Refusal.TheVariants.{Limits, Buffer}
use Rattle.reading.specs.declared.Refusal.TheVariants.{Code, Length, Count, Bit, Crc}
use Rattle.roundtrip.specs.declared.Refusal.{Refusal}
use Rattle.roundtrip.specs.declared.Refusal.TheVariants.{Forming, Reading}
use Rattle.roundtrip.specs.RoundTrip.{number_in, place_in}
use Rattle.roundtrip.proofs.Refusal.number.Reads as number
use Rattle.roundtrip.proofs.Refusal.place.Reads as place
use Rattle.roundtrip.proofs.RefusalFromFormingRefusal.from.Reads as from_forming_refusal
use Rattle.roundtrip.proofs.RefusalFromReadingRefusal.from.Reads as from_reading_refusal
use Rattle.roundtrip.proofs.read_back_write.Reads as read_back_write
use Rattle.roundtrip.proofs.read_back_read.Reads as read_back_read
use Rattle.roundtrip.proofs.read_back_write_read.Reads as read_back_write_read
use Rattle.roundtrip.proofs.form_again.Reads as form_again

pub one_number : OneAnswer number.Post
one_number κ a x y s t p q = p ∙ sym q

pub one_place : OneAnswer place.Post
one_place κ a x y s t p q = p ∙ sym q

pub one_from_forming_refusal : OneAnswer from_forming_refusal.Post
one_from_forming_refusal κ a x y s t p q = p ∙ sym q

pub one_from_reading_refusal : OneAnswer from_reading_refusal.Post
one_from_reading_refusal κ a x y s t p q = p ∙ sym q

pub one_read_back_write : OneAnswerAnd read_back_write.Post (λ κ s. s.1.1.0.now)
one_read_back_write κ a x y s t p q = (p.0 ∙ sym q.0, p.1 ∙ sym q.1)

pub one_read_back_read : OneAnswerAnd read_back_read.Post (λ κ s. s.1.1.0.now)
one_read_back_read κ a x y s t p q = (p.0 ∙ sym q.0, p.1 ∙ sym q.1)

pub one_read_back_write_read : OneAnswerAnd read_back_write_read.Post (λ κ s. s.1.1.1.0.now)
one_read_back_write_read κ a x y s t p q = (p.0 ∙ sym q.0, p.1 ∙ sym q.1)

-- the answer of a number and a place
answer_at : ℕ → ℕ → Result Unit Refusal
answer_at n k =
    cond (eqb n 0) (Ok tt)
    (cond (eqb n 11) (Err (Forming Limits))
    (cond (eqb n 12) (Err (Forming Buffer))
    (Err (Reading (cond (eqb n 14) Crc (cond (eqb n 16) Code (cond (eqb n 17) (Length k) (cond (eqb n 18) (Count k) Bit))))))))

answer_told : (r : Result Unit Refusal) → answer_at (number_in r) (place_in r) ≡ r
unfolding answer_at
answer_told (Ok x) = refl
answer_told (Err (Forming Limits)) = refl
answer_told (Err (Forming Buffer)) = refl
answer_told (Err (Reading Crc)) = refl
answer_told (Err (Reading Code)) = refl
answer_told (Err (Reading (Length n))) = refl
answer_told (Err (Reading (Count k))) = refl
answer_told (Err (Reading Bit)) = refl

pub one_form_again : OneAnswerAnd form_again.Post (λ κ s. s.1.0.now)
one_form_again κ a x y s t p q = (
  sym (answer_told x) ∙ ap₂ answer_at (p.0 ∙ sym q.0) (p.1.0 ∙ sym q.1.0) ∙ answer_told y,
  p.1.1 ∙ sym q.1.1,
)
