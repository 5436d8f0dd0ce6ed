-- Where a `match` leaves places out, those that are left are told by their numbers among the variants.
--   not_over_lem        any other place is not over
--   not_answering_lem   at any other place the chip sends nothing
--   gathers             at any other place it gathers
--   stays               behind its packet or its answer it stays as it is
--   is_code_lem         one of the three codes; no_code, none of them
use mathlib.Core.Path.{◌≡◌, refl}
use mathlib.Core.Bool.{Bool, true, false}
use mathlib.Core.Logic.{inl, inr}
use mathlib.Core.List.{List, [], ◌∷◌}
use Prim.Native.Nat.{ℕ}
use borrow.Author.Tests.{ne_eqb}
use types.Run.{OneOf, miss}
use denote.Enum.Declared.{tag_of}
use Rattle.chip.specs.declared.Place.{Place}
use Rattle.chip.specs.declared.Place.TheVariants.{Code, Address, Count, First, Later, Reads, Seal, SealEnd, Answering, Silent, Over}
use Rattle.chip.specs.declared.Asked.{Asked}
use Rattle.chip.specs.declared.Chip.{Chip}
use Rattle.chip.specs.Chip.{is_code, gathered, sends_in, heard_in, over_at}
use Rattle.chip.specs.contracts.Place.{the_type}

abbrev gathering : List ℕ
gathering = 0 ∷ 1 ∷ 2 ∷ 3 ∷ 4 ∷ 5 ∷ 6 ∷ 7 ∷ []

abbrev not_over : List ℕ
not_over = 0 ∷ 1 ∷ 2 ∷ 3 ∷ 4 ∷ 5 ∷ 6 ∷ 7 ∷ 8 ∷ 9 ∷ []

abbrev not_answering : List ℕ
not_answering = 0 ∷ 1 ∷ 2 ∷ 3 ∷ 4 ∷ 5 ∷ 6 ∷ 7 ∷ 9 ∷ 10 ∷ []

pub not_over_lem : (p : Place) → OneOf not_over (tag_of the_type p) → false ≡ over_at p
unfolding over_at
not_over_lem Code k = refl
not_over_lem Address k = refl
not_over_lem Count k = refl
not_over_lem First k = refl
not_over_lem Later k = refl
not_over_lem Reads k = refl
not_over_lem Seal k = refl
not_over_lem (SealEnd low) k = refl
not_over_lem (Answering t n) k = refl
not_over_lem Silent k = refl
not_over_lem Over k = absurd (miss not_over 10 tt k)

pub not_answering_lem : (p : Place) (a : Asked) → OneOf not_answering (tag_of the_type p) → true ≡ sends_in p a
unfolding sends_in
not_answering_lem Code a k = refl
not_answering_lem Address a k = refl
not_answering_lem Count a k = refl
not_answering_lem First a k = refl
not_answering_lem Later a k = refl
not_answering_lem Reads a k = refl
not_answering_lem Seal a k = refl
not_answering_lem (SealEnd low) a k = refl
not_answering_lem (Answering t n) a k = absurd (miss not_answering 8 tt k)
not_answering_lem Silent a k = refl
not_answering_lem Over a k = refl

pub gathers : (p : Place) (l : Bool) (c : Chip) → OneOf gathering (tag_of the_type p) → gathered l c ≡ heard_in p l c
unfolding heard_in
gathers Code l c k = refl
gathers Address l c k = refl
gathers Count l c k = refl
gathers First l c k = refl
gathers Later l c k = refl
gathers Reads l c k = refl
gathers Seal l c k = refl
gathers (SealEnd low) l c k = refl
gathers (Answering t n) l c k = absurd (miss gathering 8 tt k)
gathers Silent l c k = absurd (miss gathering 9 tt k)
gathers Over l c k = absurd (miss gathering 10 tt k)

abbrev ended : List ℕ
ended = 9 ∷ 10 ∷ []

pub stays : (p : Place) (l : Bool) (c : Chip) → OneOf ended (tag_of the_type p) → c ≡ heard_in p l c
unfolding heard_in
stays Code l c k = absurd (miss ended 0 tt k)
stays Address l c k = absurd (miss ended 1 tt k)
stays Count l c k = absurd (miss ended 2 tt k)
stays First l c k = absurd (miss ended 3 tt k)
stays Later l c k = absurd (miss ended 4 tt k)
stays Reads l c k = absurd (miss ended 5 tt k)
stays Seal l c k = absurd (miss ended 6 tt k)
stays (SealEnd low) l c k = absurd (miss ended 7 tt k)
stays (Answering t n) l c k = absurd (miss ended 8 tt k)
stays Silent l c k = refl
stays Over l c k = refl

abbrev codes : List ℕ
codes = 0x2D ∷ 0x4B ∷ 0x87 ∷ []

pub is_code_lem : (x : ℕ) → OneOf codes x → is_code x ≡ true
is_code_lem x (inl e) = simp e refl
is_code_lem x (inr (inl e)) = simp e refl
is_code_lem x (inr (inr e)) = simp e refl

pub no_code : (x : ℕ) → (OneOf codes x → ⊥) → is_code x ≡ false
no_code x n =
    simp (ne_eqb x 0x2D (λ e. n (inl e)), ne_eqb x 0x4B (λ e. n (inr (inl e))), ne_eqb x 0x87 (λ e. n (inr (inr e)))) refl
