-- What a pass adds to the IDs that are found already. The definition puts an ID before what the passes after it come to; a search that goes
-- on puts it behind what it has.
--   search_some      a search that is allowed a pass is its Device Reset and its passes
--   onward p r       the result r of the passes to come, behind the IDs p
--   onward_none      no ID is found yet
--   onward_f         one pass more, by how it ends: absent, last, more; onward_over, no pass is left
--   Going            a search under way, and the list so far
--   going_start      before its first pass
--   stands           what is handed back stands for the whole
use mathlib.Core.Path.{◌≡◌, refl, sym, ap, ◌∙◌}
use mathlib.Core.Bool.{Bool, true, false, true≢false, false≢true}
use mathlib.Core.List.{List, [], ◌∷◌, ◌++◌, append-nil}
use Prim.Native.Nat.{ℕ, zero, suc, ◌+◌, ◌-◌, ◌<◌}
use native.Mathlib.Nat.{zero-add}
use native.Mathlib.Omega.{arith}
use lib.ListN.{length, length-append}
use lib.Seq.{append_snoc}
use Rattle.std.specs.Prelude.{Option, None, Some, is_some}
use Rattle.bridge.specs.declared.Bridge.{Bridge}
use Rattle.bridge.specs.Bridge.{command}
use Rattle.pass.specs.declared.Walk.{Walk}
use Rattle.pass.specs.Pass.{passed}
use Rattle.pass.specs.Passes.{Result, before, continued, searched, search}
use Rattle.pass.proofs.Next.{next, searched_absent, searched_next}
use Rattle.search.specs.declared.Searched.{Searched}
use Rattle.search.specs.Search.{list_of, told, written}

-- where a pass is allowed, the Device Reset comes before the first one
pub search_some : (n : ℕ) (b : Bridge) → (n ≡ 0 → ⊥) → search n b ≡ searched n 0 None (command (0xF0 ∷ []) b)
unfolding search
search_some zero b h = absurd (h refl)
search_some (suc n) b h = refl

-- ---- behind what is found

abbrev pub onward : List ℕ → Result → Result
onward p r = record { ids = p ++ r.ids; passes = length p + r.passes; complete = r.complete; bridge = r.bridge }

result_path : {x y : List ℕ} {m n : ℕ} (t : Bool) {a b : Bridge} → x ≡ y → m ≡ n → a ≡ b → ◌≡◌ {A = Result} (record { ids = x; passes = m; complete = t; bridge = a }) (record { ids = y; passes = n; complete = t; bridge = b })
result_path t p q e i = record { ids = p i; passes = q i; complete = t; bridge = e i }

onward_none : (r : Result) → r ≡ onward [] r
onward_none r = ap (λ (n : ℕ). record { ids = r.ids; passes = n; complete = r.complete; bridge = r.bridge }) (sym (zero-add r.passes))

-- an ID before what is to come is an ID behind what is found
onward_before : (p : List ℕ) (x : ℕ) (r : Result) → onward p (before x r) ≡ onward (p ++ x ∷ []) r
onward_before p x r =
    result_path r.complete (sym (append_snoc p x r.ids))
    (omega (arith, length-append p (x ∷ []))) (λ i. r.bridge)

-- n of the passes allowed are used, each for one ID found
module _ (allowed n i : ℕ) (c : Option ℕ) (b : Bridge) (p : List ℕ) (counted : length p ≡ n) where
  pub onward_over : n ≡ allowed → onward p (searched (allowed - n) i c b) ≡ record { ids = p; passes = allowed; complete = false; bridge = b }
  unfolding searched
  onward_over e =
      ap (λ (m : ℕ). onward p (searched m i c b)) over
      ∙ result_path false (append-nil p) (omega arith) (λ j. b)
    where
      over : allowed - n ≡ 0
      over = omega arith

  module _ (some : n < allowed) {r : Bridge} (reset : r ≡ command (0xB4 ∷ []) b) where
    one_more : onward p (searched (allowed - n) i c b) ≡ onward p (searched (suc (allowed - (n + 1))) i c b)
    one_more = ap (λ (m : ℕ). onward p (searched m i c b)) left
      where
        left : allowed - n ≡ suc (allowed - (n + 1))
        left = omega arith

    pub onward_absent : r.registers.status.ppd ≡ false → onward p (searched (allowed - n) i c b) ≡ record { ids = p; passes = n + 1; complete = true; bridge = r }
    onward_absent e =
        one_more
        ∙ ap (onward p) (searched_absent (allowed - (n + 1)) i c b (ap (λ (v : Bridge). v.registers.status.ppd) (sym reset) ∙ e))
        ∙ result_path true (append-nil p) (omega arith) (sym reset)

    module _ (present : r.registers.status.ppd ≡ true) {w : Walk} (walk : w ≡ passed i c r) where
      there : (command (0xB4 ∷ []) b).registers.status.ppd ≡ true
      there = ap (λ (v : Bridge). v.registers.status.ppd) (sym reset) ∙ present

      ends : next i c b ≡ w
      ends = ap (passed i c) (sym reset) ∙ sym walk

      went : (q : Option ℕ) → w.conflict ≡ q → onward p (searched (allowed - n) i c b) ≡ onward p (continued q w (searched (allowed - (n + 1)) w.id q w.bridge))
      went q e =
          one_more
          ∙ ap (onward p)
          (searched_next (allowed - (n + 1)) i c b q there (ap (λ (v : Walk). v.conflict) ends ∙ e)
          ∙ ap (λ (v : Walk). continued q v (searched (allowed - (n + 1)) v.id q v.bridge)) ends)

      pub onward_last : is_some w.conflict ≡ false → onward p (searched (allowed - n) i c b) ≡ record { ids = p ++ w.id ∷ []; passes = n + 1; complete = true; bridge = w.bridge }
      unfolding continued
      onward_last = go w.conflict refl
        where
          go : (q : Option ℕ) → w.conflict ≡ q → is_some q ≡ false → onward p (searched (allowed - n) i c b) ≡ record { ids = p ++ w.id ∷ []; passes = n + 1; complete = true; bridge = w.bridge }
          go None e h = went None e ∙ result_path true refl (omega arith) (λ j. w.bridge)
          go (Some k) e h = absurd (true≢false h)

      pub onward_more : is_some w.conflict ≡ true → onward p (searched (allowed - n) i c b) ≡ onward (p ++ w.id ∷ []) (searched (allowed - (n + 1)) w.id w.conflict w.bridge)
      unfolding continued
      onward_more = go w.conflict refl
        where
          go : (q : Option ℕ) → w.conflict ≡ q → is_some q ≡ true → onward p (searched (allowed - n) i c b) ≡ onward (p ++ w.id ∷ []) (searched (allowed - (n + 1)) w.id w.conflict w.bridge)
          go None e h = absurd (false≢true h)
          go (Some k) e h =
              went (Some k) e ∙ onward_before p w.id (searched (allowed - (n + 1)) w.id (Some k) w.bridge)
              ∙ ap (λ (q : Option ℕ). onward (p ++ w.id ∷ []) (searched (allowed - (n + 1)) w.id q w.bridge)) (sym e)

-- ---- a search under way

-- of at most `allowed` passes from `start` on, with the list buffer d, n are used, each for one ID; the list is e by now, the bridge b, and
-- the next pass goes by the ID i and the last conflict c
pub record Going (allowed : ℕ) (start : Bridge) (d e : List ℕ) (b : Bridge) (i : ℕ) (c : Option ℕ) (n : ℕ) : Type 0 where
  pub ids : List ℕ
  pub counted : length ids ≡ n
  pub list : e ≡ written ids d
  pub whole : searched allowed 0 None start ≡ onward ids (searched (allowed - n) i c b)

pub going_start : (allowed : ℕ) (start : Bridge) (d : List ℕ) → Going allowed start d d start 0 None 0
unfolding list_of
going_start allowed start d =
    record {
      ids = [];
      counted = refl;
      list = refl;
      whole = onward_none _ ∙ ap (λ (m : ℕ). onward [] (searched m 0 None start)) (omega arith);
    }

-- what is handed back stands for the whole, if it was made so
pub stands : {whole : Result} {r : Searched} {e : List ℕ} (d p : List ℕ) {n m : ℕ} {t : Bool} {b : Bridge} → whole ≡ record { ids = p; passes = m; complete = t; bridge = b } → length p ≡ n → r ≡ record { count = n; passes = m; complete = t; bridge = b } → e ≡ written p d → (r ≡ told whole) × (e ≡ written whole.ids d)
stands d p {m = m} {t = t} {b = b} w counted r l = (
  r ∙ ap {B = Searched} (λ (k : ℕ). record { count = k; passes = m; complete = t; bridge = b }) (sym counted) ∙ ap told (sym w),
  l ∙ ap (λ (v : Result). written v.ids d) (sym w),
)
