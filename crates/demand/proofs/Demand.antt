-- The third demand holds of the library's search: of every outcome that its contract allows.
--   listed_bytes     the bytes listed of an ID are its bytes
--   outcome          what answer, bridge and buffer are by their definitions
--   promised         an outcome that the contract allows is that one
--   exact            the demand, of the search that has just this outcome
--   fewer            a search with no other outcomes than one that meets the demand meets it
--   promised_some    the contract allows an outcome for every state, allowance and buffer; promised_always, it has no `requires`
--   demand           the demand, of the contract of search::search
use mathlib.Core.Path.{◌≡◌, refl, sym, ap, ap₂, subst⁻¹, ◌∙◌}
use mathlib.Core.Bool.{◌&&◌}
use mathlib.Core.List.{List, [], ◌∷◌, ◌++◌, append-nil}
use denote.MutBor.{MutBor}
use Prim.Native.Nat.{ℕ, zero, suc, ◌+◌, ◌*◌, ◌/◌, ◌%◌, ◌^◌, ◌<◌, ◌≤◌, min, max}
use native.Mathlib.Nat.{pow-suc}
use native.Mathlib.Decide.{dec_le}
use native.Mathlib.Omega.{arith}
use lib.Dec.{leb}
use lib.ListN.{length, get_or, take, drop}
use lib.Seq.{take_at}
use Rattle.std.specs.Prelude.{Result, Ok, Err}
use Rattle.identity.specs.Identity.{number_of}
use Rattle.probe.specs.Probe.{digit}
use Rattle.line.specs.Line.{fit_number}
use Rattle.withdrawal.specs.Withdrawal.{withdraw_number}
use Rattle.bridge.specs.declared.Bridge.{Bridge}
use Rattle.bridge.specs.Bridge.{after_fitting, after_withdrawal}
use Rattle.bridge.specs.Reached.{Bytes, Reached}
use Rattle.bridge.specs.Reached.Reached.{fit, withdraw}
use Rattle.search.specs.Search.Answer.{Listed}
use Rattle.search.specs.declared.Refusal.{Refusal}
use Rattle.search.specs.declared.Refusal.TheVariants.{Short}
use Rattle.search.specs.declared.Searched.{Searched}
use Rattle.search.specs.Search.{Answer, answer_in, bridge_in, told, answer_of, answer_number, answer_values, bytes_from, list_of, buffer_of, bridge_of}
use Rattle.search.proofs.search.Reads as search-fn
use Rattle.search.proofs.Bytes.{length_list_of, length_bytes_from, list_of_append}
use Rattle.search.proofs.Call.{short, done}
use Rattle.pass.specs.Passes.{search}
use Rattle.enumeration.proofs.Order.{in_order_unique}
use Rattle.demand.specs.Demand.{Outcome, Search, Done, bytes_listed, ids_at, after_resume, Resumes, ResumesNone, Meets}
use Rattle.demand.specs.Contract.{Promised}
use Rattle.demand.proofs.Reached.{bytes_number, reached_search}
use Rattle.demand.proofs.Search.{order_of, order_is, listed_of, number_of_lem, complete_when, passes_used, longer_by, kept_ids, resume_kept, resume_last, none_last, listed_narrow, at_most_lem, fitting_one, withdrawing_one}

-- ---- bytes

-- the bytes that are listed of one ID
listed_alone : (i : ℕ) → list_of (i ∷ []) ≡ bytes_from 8 i
unfolding list_of
listed_alone i = append-nil (bytes_from 8 i)

listed_bytes : (x : List ℕ) → Bytes x → length x ≡ 8 → list_of (number_of x ∷ []) ≡ x
listed_bytes x small eight =
    listed_alone (number_of x) ∙ ap (λ (n : ℕ). bytes_from n (number_of x)) (sym eight) ∙ bytes_number x small

-- the number of the low bytes of a number that has no others
number_bytes : (n i : ℕ) → i < 256 ^ n → number_of (bytes_from n i) ≡ i
unfolding bytes_from number_of
number_bytes zero i h = omega arith
number_bytes (suc n) i h =
    let rest = number_bytes n (i / 256) (omega (arith, pow-suc 256 n)) in
    ap (λ (k : ℕ). i % 256 + 256 * k) rest ∙ omega arith

-- ---- the outcome, by the definitions

abbrev pub outcome : Bridge → ℕ → List ℕ → Outcome
outcome s b d = record { answer = answer_of b d s; bridge = bridge_of b d s; list = buffer_of b d s }

pub outcome_path : {a a' : Answer} {s s' : Bridge} {d d' : List ℕ} → a ≡ a' → s ≡ s' → d ≡ d' → ◌≡◌ {A = Outcome} (record { answer = a; bridge = s; list = d }) (record { answer = a'; bridge = s'; list = d' })
outcome_path {a} {a'} {s} {s'} {d} {d'} p q r =
    ap₂ {C = Outcome} (λ (x : Answer) (y : Bridge). record { answer = x; bridge = y; list = d }) p q
    ∙ ap {B = Outcome} (λ (l : List ℕ). record { answer = a'; bridge = s'; list = l }) r

-- the search that has just this outcome
abbrev pub Exactly : Search
Exactly s b d o = o ≡ outcome s b d

pub promised : (s : Bridge) (b : ℕ) (d : List ℕ) (o : Outcome) → Promised s b d o → o ≡ outcome s b d
promised s b d o c =
    sym c.comes_back
    ∙ outcome_path c.promise.0 c.promise.1.0 c.promise.1.1
    ∙ ap {B = Outcome} (λ (g : Bridge × ℕ × List ℕ). outcome g.0 g.1 g.2) c.goes_in

-- ---- an outcome from a state that calls reach

module _ (s : Bridge) (r : Reached s) where
  values_of : (b : ℕ) (d : List ℕ) → 8 * min b 64 ≤ length d → answer_values (answer_of b d s) ≡ min b (length (ids_at s)) ∷ min b (max 1 (length (ids_at s))) ∷ digit (leb 1 b && leb (length (ids_at s)) b) ∷ []
  values_of b d h =
      ap answer_values
      ((done b d s h).answer
      ∙ ap₂ (λ (x y : ℕ). Listed x y (search b s).complete) (number_of_lem s r b) (passes_used s r b)
      ∙ ap (Listed (min b (length (ids_at s))) (min b (max 1 (length (ids_at s))))) (complete_when s r b))

  length_of : (b : ℕ) → length (list_of (search b s).ids) ≡ 8 * min b (length (ids_at s))
  length_of b = length_list_of (search b s).ids ∙ ap (λ (n : ℕ). 8 * n) (number_of_lem s r b)

  list_of_lem : (b : ℕ) (d : List ℕ) → 8 * min b 64 ≤ length d → buffer_of b d s ≡ list_of (take b (order_of s r)) ++ drop (8 * min b (length (ids_at s))) d
  list_of_lem b d h =
      (done b d s h).buffer
      ∙ ap₂ (λ (ids : List ℕ) (n : ℕ). list_of ids ++ drop n d) (listed_of s r b) (length_of b)

  -- the bytes listed are those of the IDs that the search found
  bytes_of : (b : ℕ) (d : List ℕ) (o : Outcome) → Done Exactly s b d o → bytes_listed o ≡ list_of (search b s).ids
  bytes_of b d o g =
      ap bytes_listed g.0
      ∙ ap₂ (λ (v l : List ℕ). take (8 * get_or v 0 0) l) (values_of b d g.1) (done b d s g.1).buffer
      ∙ take_at (list_of (search b s).ids) (drop (length (list_of (search b s).ids)) d) (8 * min b (length (ids_at s))) (length_of b)

  -- a refused search has left the bridge as it was, any other has run its commands
  after : (P : Bridge → Type 0) (b : ℕ) (d : List ℕ) (o : Outcome) → P s → P (search b s).bridge → Exactly s b d o → P o.bridge
  after P b d o kept moved g = subst⁻¹ P (ap (λ (x : Outcome). x.bridge) g) (go (dec_le (8 * min b 64) (length d)))
    where
      go : Dec (8 * min b 64 ≤ length d) → P (bridge_of b d s)
      go (yes h) = subst⁻¹ P (done b d s h).state moved
      go (no h) = subst⁻¹ P (short b d s (omega arith)).state kept

  refused_of : (b : ℕ) (d : List ℕ) (o : Outcome) → Exactly s b d o → length d < 8 * min b 64 → (answer_number o.answer ≡ 9) × (o.bridge ≡ s) × (o.list ≡ d)
  refused_of b d o g h = (
    ap (λ (x : Outcome). answer_number x.answer) g ∙ ap answer_number (short b d s h).answer,
    ap (λ (x : Outcome). x.bridge) g ∙ (short b d s h).state,
    ap (λ (x : Outcome). x.list) g ∙ (short b d s h).buffer,
  )

  longer_of : (b c : ℕ) (d e : List ℕ) (o q : Outcome) → b ≤ c → Done Exactly s b d o → Done Exactly s c e q → (t : List ℕ) × (bytes_listed q ≡ bytes_listed o ++ t)
  longer_of b c d e o q h g f =
      let more = longer_by s r b c h in (
        list_of more.0,
        bytes_of c e q f
            ∙ ap list_of more.1
            ∙ list_of_append (search b s).ids more.0
            ∙ ap (λ (l : List ℕ). l ++ list_of more.0) (sym (bytes_of b d o g)),
      )

  resume_of : (b : ℕ) (d : List ℕ) (o : Outcome) → Done Exactly s b d o → 0 < length (bytes_listed o) → (p : List ℕ) × (x : ℕ) × (bytes_listed o ≡ list_of (p ++ x ∷ [])) × Resumes x o.bridge
  resume_of b d o g h =
      let e = bytes_of b d o g in
      let last = resume_last s r b (omega (arith, ap length e, length_list_of (search b s).ids)) in (
        last.0,
        last.1,
        e ∙ ap list_of last.2,
        subst⁻¹ (Resumes last.1) (ap (λ (x : Outcome). x.bridge) g.0 ∙ (done b d s g.1).state) last.3,
      )

  -- the last one listed, as its bytes
  none_of : (b : ℕ) (d : List ℕ) (o : Outcome) → Done Exactly s b d o → 0 < length (bytes_listed o) → (p : List ℕ) × (x : List ℕ) × (bytes_listed o ≡ p ++ x) × (length x ≡ 8) × (withdraw_number x o.bridge.line ≡ 0) × ResumesNone (after_withdrawal x o.bridge)
  none_of b d o g h =
      let e = bytes_of b d o g in
      let last = resume_last s r b (omega (arith, ap length e, length_list_of (search b s).ids)) in
      let x = bytes_from 8 last.1 in
      let back : number_of x ≡ last.1 = number_bytes 8 last.1 (listed_narrow s r b last.0 last.1 last.2) in
      let none = none_last s r b last.0 x (last.2 ∙ ap (λ (i : ℕ). last.0 ++ i ∷ []) (sym back)) in
      let state = ap (λ (y : Outcome). y.bridge) g.0 ∙ (done b d s g.1).state in (
        list_of last.0,
        x,
        e ∙ ap list_of last.2 ∙ list_of_append last.0 (last.1 ∷ [])
            ∙ ap (λ (l : List ℕ). list_of last.0 ++ l) (listed_alone last.1),
        length_bytes_from 8 last.1,
        subst⁻¹ (λ (t : Bridge). withdraw_number x t.line ≡ 0) state none.0,
        subst⁻¹ (λ (t : Bridge). ResumesNone (after_withdrawal x t)) state none.1,
      )

  kept_of : (b : ℕ) (d : List ℕ) (o : Outcome) → Exactly s b d o → (ids_at o.bridge ≡ ids_at s) × (ids_at (after_resume o.bridge) ≡ ids_at s)
  unfolding search
  kept_of b d o g =
      after (λ (y : Bridge). (ids_at y ≡ ids_at s) × (ids_at (after_resume y) ≡ ids_at s)) b d o (refl, resume_kept s r 0)
      (kept_ids s r b, resume_kept s r b) g

-- the bytes of an ID between those of others
listed_between : (p t x : List ℕ) → Bytes x → length x ≡ 8 → list_of (p ++ number_of x ∷ t) ≡ list_of p ++ (x ++ list_of t)
listed_between p t x bytes eight =
    list_of_append p (number_of x ∷ t)
    ∙ ap (λ (l : List ℕ). list_of p ++ l)
    (list_of_append (number_of x ∷ []) t ∙ ap (λ (l : List ℕ). l ++ list_of t) (listed_bytes x bytes eight))

-- one probe more, whose bytes stand between those of the others
fitting_of : (s : Bridge) → Reached s → (x : List ℕ) → Bytes x → length x ≡ 8 → fit_number x s.line ≡ 0 → (b : ℕ) (d e : List ℕ) (o q : Outcome) → length (ids_at s) < b → Done Exactly s b d o → Done Exactly (after_fitting x s) b e q → (p : List ℕ) × (t : List ℕ) × (bytes_listed q ≡ list_of p ++ (x ++ list_of t)) × (bytes_listed o ≡ list_of p ++ list_of t)
fitting_of s r x bytes eight accepted b d e o q h g f =
    let cut = fitting_one s r x bytes eight accepted b h in (
      cut.0,
      cut.1,
      bytes_of (after_fitting x s) (fit x bytes eight r) b e q f
          ∙ ap list_of cut.2
          ∙ listed_between cut.0 cut.1 x bytes eight,
      bytes_of s r b d o g ∙ ap list_of cut.3 ∙ list_of_append cut.0 cut.1,
    )

-- one probe less, whose bytes stood between those of the others
withdrawing_of : (s : Bridge) → Reached s → (x : List ℕ) → Bytes x → length x ≡ 8 → withdraw_number x s.line ≡ 0 → (b : ℕ) (d e : List ℕ) (o q : Outcome) → length (ids_at s) ≤ b → Done Exactly s b d o → Done Exactly (after_withdrawal x s) b e q → (p : List ℕ) × (t : List ℕ) × (bytes_listed o ≡ list_of p ++ (x ++ list_of t)) × (bytes_listed q ≡ list_of p ++ list_of t)
withdrawing_of s r x bytes eight accepted b d e o q h g f =
    let cut = withdrawing_one s r x bytes eight accepted b h in (
      cut.0,
      cut.1,
      bytes_of s r b d o g ∙ ap list_of cut.2 ∙ listed_between cut.0 cut.1 x bytes eight,
      bytes_of (after_withdrawal x s) (withdraw x bytes eight r) b e q f ∙ ap list_of cut.3 ∙ list_of_append cut.0 cut.1,
    )

-- ---- the demand

pub exact : Meets Exactly
exact s r =
    record {
      at_most = at_most_lem s r;
      order = order_of s r;
      ordered = order_is s r;
      unique = λ l o. in_order_unique o (order_is s r);
      some = λ b d. (outcome s b d, refl);
      done = λ b d o g. ap (λ (x : Outcome). answer_number x.answer) g.0 ∙ ap answer_number (done b d s g.1).answer;
      listed = λ b d o g. ap (λ (x : Outcome). x.list) g.0 ∙ list_of_lem s r b d g.1;
      values = λ b d o g. ap (λ (x : Outcome). answer_values x.answer) g.0 ∙ values_of s r b d g.1;
      refused = refused_of s r;
      bytes = listed_bytes;
      longer = longer_of s r;
      fitting = fitting_of s r;
      withdrawing = withdrawing_of s r;
      resume = resume_of s r;
      resume_none = none_of s r;
      reached = λ b d o g. after s r Reached b d o r (reached_search b r) g;
      kept = kept_of s r;
    }

-- ---- the searches that meet it

-- a search that answers, and has from the states that calls reach no outcome but those of one that meets the demand, meets it too
pub fewer : (run other : Search) → ((s : Bridge) (b : ℕ) (d : List ℕ) → (o : Outcome) × run s b d o) → ((s : Bridge) → Reached s → (b : ℕ) (d : List ℕ) (o : Outcome) → run s b d o → other s b d o) → Meets other → Meets run
fewer run other some sub meets s r =
    record {
      at_most = (meets s r).at_most;
      order = (meets s r).order;
      ordered = (meets s r).ordered;
      unique = (meets s r).unique;
      some = some s;
      done = λ b d o g. (meets s r).done b d o (sub s r b d o g.0, g.1);
      listed = λ b d o g. (meets s r).listed b d o (sub s r b d o g.0, g.1);
      values = λ b d o g. (meets s r).values b d o (sub s r b d o g.0, g.1);
      refused = λ b d o g. (meets s r).refused b d o (sub s r b d o g);
      bytes = (meets s r).bytes;
      longer = λ b c d e o q h g f. (meets s r).longer b c d e o q h (sub s r b d o g.0, g.1) (sub s r c e q f.0, f.1);
      fitting =
          λ x bytes eight accepted b d e o q h g f.
          (meets s r).fitting x bytes eight accepted b d e o q h (sub s r b d o g.0, g.1)
          (sub (after_fitting x s) (fit x bytes eight r) b e q f.0, f.1);
      withdrawing =
          λ x bytes eight accepted b d e o q h g f.
          (meets s r).withdrawing x bytes eight accepted b d e o q h (sub s r b d o g.0, g.1)
          (sub (after_withdrawal x s) (withdraw x bytes eight r) b e q f.0, f.1);
      resume = λ b d o g. (meets s r).resume b d o (sub s r b d o g.0, g.1);
      resume_none = λ b d o g. (meets s r).resume_none b d o (sub s r b d o g.0, g.1);
      reached = λ b d o g. (meets s r).reached b d o (sub s r b d o g);
      kept = λ b d o g. (meets s r).kept b d o (sub s r b d o g);
    }

-- ---- the contract allows an outcome for every state, allowance and buffer

lent : List ℕ → MutBor (List ℕ)
lent d = record { ref_ptr = (0, 0); ghost_name = 0; now = d }

pub promised_some : (s : Bridge) (b : ℕ) (d : List ℕ) → Promised s b d (outcome s b d)
unfolding lent
promised_some s b d = go (dec_le (8 * min b 64) (length d))
  where
    by : (r : Result Searched Refusal) → answer_in r ≡ answer_of b d s → bridge_in s r ≡ bridge_of b d s → Promised s b d (outcome s b d)
    by r p q =
        record {
          lifetimes = ([], tt);
          arguments = (s, (b, (lent d, tt)));
          result = r;
          exit = (s, (b, (lent (buffer_of b d s), tt)));
          promise = (p, (q, refl));
          goes_in = refl;
          comes_back = outcome_path p q refl;
        }

    go : Dec (8 * min b 64 ≤ length d) → Promised s b d (outcome s b d)
    go (yes h) =
        let w = done b d s h in by (Ok (told (search b s))) (sym w.answer) (sym w.state)
    go (no h) =
        let w = short b d s (omega arith) in by (Err Short) (sym w.answer) (sym w.state)

-- it asks for nothing
pub promised_always : (κ : _) (a : _) → search-fn.Pre κ a
promised_always κ a = tt

-- ---- the demand, of the contract

pub demand : Meets Promised
demand = fewer Promised Exactly (λ s b d. (outcome s b d, promised_some s b d)) (λ s r. promised s) exact
