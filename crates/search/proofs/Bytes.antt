-- The bytes of a list of IDs.
--   length_list_of    eight for each ID
--   get_d_bytes_from   byte k of an ID
--   le_bytes_from     what `to_le_bytes` gives of an ID
--   list_of_append    the bytes of two lists of IDs
--   written_more, length_written   one ID more in the list buffer, which is as long as it was
use mathlib.Core.Path.{◌≡◌, refl, sym, ap, ap₂, ◌∙◌}
use mathlib.Core.List.{List, [], ◌∷◌, ◌++◌, append-nil, append_assoc}
use Prim.Native.Nat.{ℕ, zero, suc, ◌+◌, ◌*◌, ◌/◌, ◌%◌, ◌^◌, ◌<◌, ◌≤◌}
use native.Mathlib.Nat.{div-div-eq-div-mul, div-one, pow-suc}
use native.Mathlib.Omega.{arith}
use lib.ListN.{length, get_or, drop, length-append, length-drop}
use lib.Pow.{pow-add}
use lib.Seq.{take_all, take_at, drop-append-add, drop-drop, paste}
use Rattle.std.specs.Int.{bytes_low_first}
use Rattle.search.specs.Search.{bytes_from, list_of, written}

pub length_bytes_from : (n i : ℕ) → length (bytes_from n i) ≡ n
unfolding bytes_from
length_bytes_from zero i = refl
length_bytes_from (suc n) i = ap suc (length_bytes_from n (i / 256))

pub length_list_of : (ids : List ℕ) → length (list_of ids) ≡ 8 * length ids
unfolding list_of
length_list_of [] = refl
length_list_of (i ∷ ids) =
    omega (arith, length-append (bytes_from 8 i) (list_of ids), length_bytes_from 8 i, length_list_of ids)

-- byte k of an ID
pub get_d_bytes_from : (n i k : ℕ) → k < n → get_or (bytes_from n i) k 0 ≡ i / 2 ^ (8 * k) % 256
unfolding bytes_from
get_d_bytes_from zero i k h = absurd (omega arith)
get_d_bytes_from (suc n) i zero h = ap (λ (m : ℕ). m % 256) (sym (div-one i))
get_d_bytes_from (suc n) i (suc k) h = get_d_bytes_from n (i / 256) k (omega arith) ∙ ap (λ (m : ℕ). m % 256) (lower i k)
  where
    lower : (i k : ℕ) → i / 256 / 2 ^ (8 * k) ≡ i / 2 ^ (8 * suc k)
    lower i k =
        div-div-eq-div-mul i 256 (2 ^ (8 * k))
        ∙ ap (λ (m : ℕ). i / m) (sym (pow-add 2 8 (8 * k)))
        ∙ ap (λ (m : ℕ). i / 2 ^ m) (omega arith)

-- n bytes of an ID from byte k on
low_first : (n k i : ℕ) → bytes_low_first k n i ≡ bytes_from n (i / 256 ^ k)
unfolding bytes_from
low_first zero k i = refl
low_first (suc n) zero i =
    ap₂ {C = List ℕ} (λ (b : ℕ) (l : List ℕ). b ∷ l) (ap (λ (m : ℕ). m % 256) (sym (div-one i)))
    (low_first n 1 i ∙ ap (λ (m : ℕ). bytes_from n (m / 256)) (sym (div-one i)))
low_first (suc n) (suc k) i =
    ap {B = List ℕ} (λ (l : List ℕ). i / 256 ^ suc k % 256 ∷ l) (low_first n (suc (suc k)) i ∙ ap (bytes_from n) further)
  where
    further : i / 256 ^ suc (suc k) ≡ i / 256 ^ suc k / 256
    further = ap (λ (m : ℕ). i / m) (pow-suc 256 (suc k)) ∙ sym (div-div-eq-div-mul i (256 ^ suc k) 256)

pub le_bytes_from : (i : ℕ) → bytes_low_first 0 8 i ≡ bytes_from 8 i
le_bytes_from i = low_first 8 0 i ∙ ap (bytes_from 8) (div-one i)

-- the bytes of two lists of IDs, one behind the other
pub list_of_append : (p q : List ℕ) → list_of (p ++ q) ≡ list_of p ++ list_of q
unfolding list_of
list_of_append [] q = refl
list_of_append (x ∷ p) q =
    ap (λ (l : List ℕ). bytes_from 8 x ++ l) (list_of_append p q) ∙ sym (append_assoc (bytes_from 8 x) (list_of p) (list_of q))

-- ---- the list buffer

-- one ID more, put behind the n that are there
pub written_more : (ids : List ℕ) (x n : ℕ) (d : List ℕ) → length ids ≡ n → paste (written ids d) (8 * n) (bytes_from 8 x) 8 ≡ written (ids ++ x ∷ []) d
unfolding list_of
written_more ids x n d e =
    ap₂ (λ (p q : List ℕ). p ++ q ++ drop (8 * n + 8) (written ids d)) (take_at (list_of ids) _ (8 * n) (sym whole))
    (take_all 8 (bytes_from 8 x) (omega (arith, length_bytes_from 8 x)))
    ∙ ap₂ (λ (p q : List ℕ). p ++ q) (sym grown) behind
  where
    whole : 8 * n ≡ length (list_of ids)
    whole = omega (arith, length_list_of ids)

    grown : list_of (ids ++ x ∷ []) ≡ list_of ids ++ bytes_from 8 x
    grown = list_of_append ids (x ∷ []) ∙ ap (λ (l : List ℕ). list_of ids ++ l) (append-nil (bytes_from 8 x))

    longer : length (list_of ids) + 8 ≡ length (list_of (ids ++ x ∷ []))
    longer = omega (arith, ap length grown, length-append (list_of ids) (bytes_from 8 x), length_bytes_from 8 x)

    behind : drop (8 * n + 8) (written ids d) ≡ drop (length (list_of (ids ++ x ∷ []))) d
    behind =
        ap (λ (m : ℕ). drop (m + 8) (written ids d)) whole
        ∙ drop-append-add (list_of ids) _ 8
        ∙ drop-drop 8 (length (list_of ids)) d
        ∙ ap (λ (m : ℕ). drop m d) longer

-- as long as it was
pub length_written : (ids d : List ℕ) → 8 * length ids ≤ length d → length (written ids d) ≡ length d
length_written ids d h =
    length-append (list_of ids) _ ∙ omega (arith, length_list_of ids, length-drop (length (list_of ids)) d)
