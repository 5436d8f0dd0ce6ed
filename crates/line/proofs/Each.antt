-- Something done to each probe of a line.
--   fitted_on_fitted, on_fitted_on_fitted, on_fitted_none     the probes after it; two things in a row; nothing
--   on_fitted_same                                         two things that are the same to each probe that passes a test
--   all_map, all_of_map, all_same                         a test of what a function makes of each; two tests that say the same
use mathlib.Core.Path.{◌≡◌, refl, ap, ap₂, ◌∙◌}
use mathlib.Core.Bool.{Bool, true, false, cond}
use mathlib.Core.List.{List, [], ◌∷◌, ◌++◌, map, map-map, map-id}
use Prim.Native.Nat.{ℕ, zero, suc}
use lib.ListN.{take, drop, take-append-drop}
use Rattle.probe.specs.declared.Probe.{Probe}
use Rattle.line.specs.declared.Line.{Line}
use Rattle.line.specs.Line.{all, fitted, on_fitted}
use Rattle.line.proofs.Front.{first_of, rest_of, both}

module _ {A : Type 0} where
  take_front : (f : A → A) (n : ℕ) (l : List A) → take n (map f (take n l) ++ drop n l) ≡ map f (take n l)
  take_front f zero l = refl
  take_front f (suc n) [] = refl
  take_front f (suc n) (x ∷ l) = ap (λ (t : List A). f x ∷ t) (take_front f n l)

  drop_front : (f : A → A) (n : ℕ) (l : List A) → drop n (map f (take n l) ++ drop n l) ≡ drop n l
  drop_front f zero l = refl
  drop_front f (suc n) [] = refl
  drop_front f (suc n) (x ∷ l) = drop_front f n l

  -- a test that holds of each, and so another does after f
  pub all_map : (s t : A → Bool) (f : A → A) → ((x : A) → s x ≡ true → t (f x) ≡ true) → (l : List A) → all s l ≡ true → all t (map f l) ≡ true
  unfolding all
  all_map s t f h [] e = refl
  all_map s t f h (x ∷ l) e =
      both (t (f x)) (all t (map f l)) (h x (first_of (s x) (all s l) e)) (all_map s t f h l (rest_of (s x) (all s l) e))

  -- a test after f is a test of what f makes
  pub all_of_map : (t : A → Bool) (f : A → A) (l : List A) → all t (map f l) ≡ all (λ (x : A). t (f x)) l
  unfolding all
  all_of_map t f [] = refl
  all_of_map t f (x ∷ l) = ap (λ (b : Bool). cond (t (f x)) b false) (all_of_map t f l)

  -- what is the same to each that passes a test
  map_same : (s : A → Bool) (f g : A → A) → ((x : A) → s x ≡ true → f x ≡ g x) → (l : List A) → all s l ≡ true → map f l ≡ map g l
  unfolding all
  map_same s f g h [] e = refl
  map_same s f g h (x ∷ l) e =
      ap₂ (λ (y : A) (t : List A). y ∷ t) (h x (first_of (s x) (all s l) e)) (map_same s f g h l (rest_of (s x) (all s l) e))

  pub all_same : (s t u : A → Bool) → ((x : A) → s x ≡ true → t x ≡ u x) → (l : List A) → all s l ≡ true → all t l ≡ all u l
  unfolding all
  all_same s t u h [] e = refl
  all_same s t u h (x ∷ l) e =
      ap₂ (λ (a b : Bool). cond a b false) (h x (first_of (s x) (all s l) e)) (all_same s t u h l (rest_of (s x) (all s l) e))

pub on_fitted_same : (s : Probe → Bool) (f g : Probe → Probe) → ((p : Probe) → s p ≡ true → f p ≡ g p) → (l : Line) → all s (fitted l) ≡ true → on_fitted f l ≡ on_fitted g l
unfolding on_fitted
on_fitted_same s f g h l e =
    ap (λ (ps : List Probe). record { probes = ps ++ drop l.count l.probes; count = l.count }) (map_same s f g h (fitted l) e)

pub fitted_on_fitted : (f : Probe → Probe) (l : Line) → fitted (on_fitted f l) ≡ map f (fitted l)
unfolding fitted on_fitted
fitted_on_fitted f l = take_front f l.count l.probes

pub on_fitted_on_fitted : (g f : Probe → Probe) (l : Line) → on_fitted g (on_fitted f l) ≡ on_fitted (λ (p : Probe). g (f p)) l
unfolding fitted on_fitted
on_fitted_on_fitted g f l =
    ap₂ (λ (s t : List Probe). record { probes = s ++ t; count = l.count })
    (ap (map g) (take_front f l.count l.probes) ∙ map-map g f (take l.count l.probes))
    (drop_front f l.count l.probes)

pub on_fitted_none : (l : Line) → on_fitted (λ (p : Probe). p) l ≡ l
unfolding fitted on_fitted
on_fitted_none l =
    ap (λ (s : List Probe). record { probes = s; count = l.count })
    (ap (λ (s : List Probe). s ++ drop l.count l.probes) (map-id (take l.count l.probes))
    ∙ take-append-drop l.count l.probes)
