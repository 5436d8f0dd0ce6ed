-- Text in a buffer, and the digits of numbers.
--   sets_append         text behind text
--   put_more            what is put behind a text joins it
--   put_same            by another name of the text
--   put_front           text at the front of the buffer
--   puts_more, puts_same    the same of lines
--   digits_one, digits_pair     a number of one digit, and of two
--   digits_hundreds     a number of more: what stands before its last two digits, and those
--   length_decimal      five digits at most
--   behind_number_lem   what stands behind an event's number, for a number below 10
use mathlib.Core.Path.{◌≡◌, sym, ap, ap₂, ◌∙◌, subst}
use mathlib.Core.Bool.{Bool, true, false, cond}
use mathlib.Core.List.{List, [], ◌∷◌, ◌++◌, append_assoc}
use Prim.Native.Nat.{ℕ, zero, suc, ◌+◌, ◌/◌, ◌%◌, ◌<◌, ◌≤◌}
use native.Mathlib.Nat.{add-zero, zero-add}
use native.Mathlib.Omega.{arith}
use lib.Dec.{ltb}
use lib.ListN.{length, set, drop, length-append}
use lib.Seq.{sets, sets-eq}
use borrow.Author.Tests.{lt-ltb, le-ltb}
use Rattle.transcript.specs.Text.{Put, Puts, pair_of, behind_number}
use Rattle.transcript.specs.declared.text.Lines.{Lines}
use Rattle.transcript.specs.Transcript.{digits_of, decimal}

-- ---- a run of stores

pub sets_append : (d : List ℕ) (k : ℕ) (t u : List ℕ) → sets d k (t ++ u) ≡ sets (sets d k t) (k + length t) u
sets_append d k [] u = ap (λ (j : ℕ). sets d j u) (sym (add-zero k))
sets_append d k (x ∷ t) u =
    let e : suc k + length t ≡ k + suc (length t) = omega arith in
    sets_append (set d k x) (suc k) t u ∙ ap (λ (j : ℕ). sets (sets (set d k x) (suc k) t) j u) e

pub put_more : {d e f : List ℕ} {k r q : ℕ} {t u : List ℕ} → Put d e k r t → Put e f r q u → Put d f k q (t ++ u)
put_more {d} {e} {f} {k} {r} {q} {t} {u} p n =
    record {
      content = n.content ∙ ap₂ (λ (b : List ℕ) (j : ℕ). sets b j u) p.content p.end ∙ sym (sets_append d k t u);
      end = omega (arith, n.end, p.end, length-append t u);
    }

pub put_same : {d e : List ℕ} {k r : ℕ} {t u : List ℕ} → Put d e k r t → t ≡ u → Put d e k r u
put_same {d} {e} {k} {r} p same = subst (λ (x : List ℕ). Put d e k r x) same p

pub puts_more : {a b c : Lines} {t u : List ℕ} → Puts a b t → Puts b c u → Puts a c (t ++ u)
puts_more {a} {b} {c} {t} {u} p q = record { put = put_more p.put q.put; same = q.same ∙ p.same }

pub puts_same : {a b : Lines} {t u : List ℕ} → Puts a b t → t ≡ u → Puts a b u
puts_same {a} {b} {t} {u} p same = record { put = put_same p.put same; same = p.same }

pub put_front : {d e : List ℕ} {r : ℕ} {t : List ℕ} → Put d e 0 r t → r ≤ length d → (r ≡ length t) × (e ≡ t ++ drop (length t) d)
put_front {d} {e} {r} {t} p h =
    let whole : r ≡ length t = p.end ∙ zero-add (length t) in
    (whole, p.content ∙ sets-eq t d 0 (omega arith) ∙ ap (λ (n : ℕ). t ++ drop n d) (zero-add (length t)))

-- ---- digits

-- a number below 10 is its digit; any other is what stands before the last digit, and that digit
pub digits_one : (d n : ℕ) → n < 10 → digits_of (suc d) n ≡ (48 + n) ∷ []
unfolding digits_of
digits_one d n h = simp (lt-ltb n 10 h)

digits_more : (d n : ℕ) → 10 ≤ n → digits_of (suc d) n ≡ digits_of d (n / 10) ++ ((48 + n % 10) ∷ [])
unfolding digits_of
digits_more d n h = simp (le-ltb n 10 h)

pub digits_pair : (d n : ℕ) → 10 ≤ n → n < 100 → digits_of (suc (suc d)) n ≡ pair_of n
digits_pair d n h l =
    digits_more (suc d) n h ∙ ap (λ (t : List ℕ). t ++ ((48 + n % 10) ∷ [])) (digits_one d (n / 10) (omega arith))

pub digits_hundreds : (d n : ℕ) → 100 ≤ n → digits_of (suc (suc d)) n ≡ digits_of d (n / 100) ++ pair_of (n % 100)
digits_hundreds d n h =
    let high : n / 10 / 10 ≡ n / 100 = omega arith in
    let tens : n / 10 % 10 ≡ n % 100 / 10 = omega arith in
    let ones : n % 10 ≡ n % 100 % 10 = omega arith in
    digits_more (suc d) n (omega arith)
    ∙ ap (λ (t : List ℕ). t ++ ((48 + n % 10) ∷ [])) (digits_more d (n / 10) (omega arith))
    ∙ append_assoc (digits_of d (n / 10 / 10)) ((48 + n / 10 % 10) ∷ []) ((48 + n % 10) ∷ [])
    ∙ ap₂ (λ (m : ℕ) (t : List ℕ). digits_of d m ++ t) high (ap₂ (λ (x y : ℕ). (48 + x) ∷ (48 + y) ∷ []) tens ones)

length_digits_of : (d n : ℕ) → length (digits_of d n) ≤ d
unfolding digits_of
length_digits_of zero n = omega arith
length_digits_of (suc d) n = go (ltb n 10) (length_digits_of d (n / 10))
  where
    go : (t : Bool) → length (digits_of d (n / 10)) ≤ d → length (cond t ((48 + n) ∷ []) (digits_of d (n / 10) ++ ((48 + n % 10) ∷ []))) ≤ suc d
    go true h = omega arith
    go false h = omega (arith, length-append (digits_of d (n / 10)) ((48 + n % 10) ∷ []))

pub length_decimal : (n : ℕ) → length (decimal n) ≤ 5
unfolding decimal
length_decimal n = length_digits_of 5 n

-- ---- behind an event's number

decimal_one : (n : ℕ) → n < 10 → decimal n ≡ (48 + n) ∷ []
unfolding decimal
decimal_one n h = digits_one 4 n h

pub behind_number_lem : (l v : ℕ) → v < 10 → (0x20 ∷ l ∷ 0x20 ∷ []) ++ ((48 + v) ∷ 0x0A ∷ []) ≡ behind_number l (decimal v)
unfolding behind_number
behind_number_lem l v h = ap (λ (t : List ℕ). (0x20 ∷ l ∷ 0x20 ∷ []) ++ t ++ (0x0A ∷ [])) (sym (decimal_one v h))
