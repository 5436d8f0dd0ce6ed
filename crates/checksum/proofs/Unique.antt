-- Each contract leaves one answer for each argument. What is stated is the promise itself, as the check reads it off the source.
--   OneAnswer P          two results that meet the promise P for the same arguments are equal
--   OneSeen P v          what v takes of the result is the same: the content of a part that is given back
--   OneAnswerAnd P v     the results are equal, and so is what v takes of the arguments at exit: the content of a lent buffer
use Rattle.std.proofs.Common.{◌≡◌, sym, ◌∙◌}
use Rattle.checksum.proofs.entered.Reads as entered
use Rattle.checksum.proofs.crc8.Reads as crc8
use Rattle.checksum.proofs.crc16.Reads as crc16

-- A promise speaks of lifetimes, arguments, a result, and the arguments at exit.
abbrev pub OneAnswer : {K : Type 0} {A R S : K → Type 0} → ((κ : K) → A κ → R κ → S κ → Type 0) → Type 0
OneAnswer {K} {A} {R} {S} P = (κ : K) (a : A κ) (x y : R κ) (s t : S κ) → P κ a x s → P κ a y t → x ≡ y

abbrev pub OneSeen : {K C : Type 0} {A R S : K → Type 0} → ((κ : K) → A κ → R κ → S κ → Type 0) → ((κ : K) → R κ → C) → Type 0
OneSeen {K} {C} {A} {R} {S} P v = (κ : K) (a : A κ) (x y : R κ) (s t : S κ) → P κ a x s → P κ a y t → v κ x ≡ v κ y

abbrev pub OneAnswerAnd : {K C : Type 0} {A R S : K → Type 0} → ((κ : K) → A κ → R κ → S κ → Type 0) → ((κ : K) → S κ → C) → Type 0
OneAnswerAnd {K} {C} {A} {R} {S} P v =
    (κ : K) (a : A κ) (x y : R κ) (s t : S κ) → P κ a x s → P κ a y t → (x ≡ y) × (v κ s ≡ v κ t)

-- for any taps
pub one_entered : (n : _) (f : _) → OneAnswer (entered.Post n f)
one_entered n f κ a x y s t p q = p ∙ sym q

pub one_crc8 : OneAnswer crc8.Post
one_crc8 κ a x y s t p q = p ∙ sym q

pub one_crc16 : OneAnswer crc16.Post
one_crc16 κ a x y s t p q = p ∙ sym q
