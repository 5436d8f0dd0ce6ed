-- The call's contract leaves one answer, one state and one content of the lent list for each argument.
use mathlib.Core.Path.{◌≡◌, sym, ◌∙◌}
use Rattle.std.specs.Prelude.{Result, Ok, Err}
use Rattle.bridge.specs.declared.Bridge.{Bridge}
use Rattle.checksum.proofs.Unique.{OneAnswer, OneAnswerAnd}
use Rattle.search.specs.declared.Refusal.{Refusal}
use Rattle.search.specs.declared.Refusal.TheVariants.{Short}
use Rattle.search.specs.declared.Searched.{Searched}
use Rattle.search.specs.Search.{answer_in, bridge_in}
use Rattle.search.proofs.Refusal.number.Reads as number
use Rattle.search.proofs.search.Reads as search

pub one_number : OneAnswer number.Post
one_number κ a x y s t p q = p ∙ sym q

-- a result is what it tells and the bridge that it leaves
told_apart : (b : Bridge) (x y : Result Searched Refusal) → answer_in x ≡ answer_in y → bridge_in b x ≡ bridge_in b y → x ≡ y
told_apart b (Ok x) (Ok y) p q =
    let n : x.count ≡ y.count = cc in
    let m : x.passes ≡ y.passes = cc in
    let t : x.complete ≡ y.complete = cc in
    λ i. Ok (record { count = n i; passes = m i; complete = t i; bridge = q i })
told_apart b (Ok x) (Err y) p q = cc
told_apart b (Err x) (Ok y) p q = cc
told_apart b (Err Short) (Err Short) p q = cc

pub one_search : OneAnswerAnd search.Post (λ κ s. s.1.1.0.now)
one_search κ a x y s t p q =
    (told_apart a.0 x y (p.0 ∙ sym q.0) (p.1.0 ∙ sym q.1.0), p.1.1 ∙ sym q.1.1)
