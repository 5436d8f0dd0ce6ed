-- What fitting answers.
--   fit_number_refused    an ID that is wrong by itself
--   fit_number_fitted     one that is right and there already; fit_number_full, new on a full line; fit_number_free, new with room for it
--   after_fit_refused     a refused fitting leaves the line; after_fit_done, an accepted one adds the probe
use mathlib.Core.Path.{◌≡◌, refl, sym, ◌∙◌}
use mathlib.Core.Bool.{true, false}
use mathlib.Core.List.{List}
use Prim.Native.Nat.{ℕ, ◌<◌, ◌≤◌}
use borrow.Author.Tests.{eq-eqb, ne_eqb, le-leb, lt-leb}
use Rattle.identity.specs.Identity.{number_of, refusal_of}
use Rattle.line.specs.declared.Line.{Line}
use Rattle.line.specs.Line.{is_fitted, place_number, fit_number, with_probe, after_fit}

module _ (x : List ℕ) (l : Line) where
  pub fit_number_refused : (refusal_of x ≡ 0 → ⊥) → refusal_of x ≡ fit_number x l
  unfolding fit_number
  fit_number_refused h = simp (ne_eqb (refusal_of x) 0 h) refl

  pub fit_number_fitted : refusal_of x ≡ 0 → is_fitted (number_of x) l ≡ true → 4 ≡ fit_number x l
  unfolding fit_number place_number
  fit_number_fitted e f = simp (eq-eqb (refusal_of x) 0 e, f) refl

  pub fit_number_full : refusal_of x ≡ 0 → is_fitted (number_of x) l ≡ false → 64 ≤ l.count → 1 ≡ fit_number x l
  unfolding fit_number place_number
  fit_number_full e f h = simp (eq-eqb (refusal_of x) 0 e, f, le-leb 64 l.count h)

  pub fit_number_free : refusal_of x ≡ 0 → is_fitted (number_of x) l ≡ false → l.count < 64 → 0 ≡ fit_number x l
  unfolding fit_number place_number
  fit_number_free e f h = simp (eq-eqb (refusal_of x) 0 e, f, lt-leb 64 l.count h)

  pub after_fit_refused : (n : ℕ) → n ≡ fit_number x l → (n ≡ 0 → ⊥) → l ≡ after_fit x l
  unfolding after_fit
  after_fit_refused n e h = simp (ne_eqb (fit_number x l) 0 (λ z. h (e ∙ z))) refl

  pub after_fit_done : 0 ≡ fit_number x l → with_probe (number_of x) l ≡ after_fit x l
  unfolding after_fit
  after_fit_done e = simp (eq-eqb (fit_number x l) 0 (sym e))
