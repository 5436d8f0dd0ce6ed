-- `passes::passes` meets its contract: the IDs found so far stand in the list, before what the passes that are left come to.
use mathlib.Core.Path.{◌≡◌, ap, ◌∙◌}
use Prim.Native.Nat.{ℕ, ◌+◌, ◌*◌}
use native.Mathlib.Omega.{arith}
use mathlib.Core.List.{List, [], ◌∷◌, ◌++◌}
use lib.ListN.{length, length-append}
use lib.Seq.{paste}
use Rattle.search.specs.Search.{bytes_from, written}
use Rattle.search.proofs.Bytes.{written_more}
use Rattle.search.proofs.Onward.{onward_over, onward_absent, onward_last, onward_more, going_start, stands}
use Rattle.search.proofs.passes.passes.Goals as goal

-- one ID more in the list
placed : (ids : List ℕ) (x n : ℕ) (d l l' : List ℕ) → l ≡ written ids d → l' ≡ paste l (8 * n) (bytes_from 8 x) 8 → length ids ≡ n
    → l' ≡ written (ids ++ x ∷ []) d
placed ids x n d l l' e put counted =
    put ∙ ap (λ (t : List ℕ). paste t (8 * n) (bytes_from 8 x) 8) e ∙ written_more ids x n d counted

counted_more : (ids : List ℕ) (x n : ℕ) → length ids ≡ n → length (ids ++ x ∷ []) ≡ n + 1
counted_more ids x n counted = length-append ids (x ∷ []) ∙ ap (λ (m : ℕ). m + 1) counted

pub loop-count-init : goal.loop-count-init
loop-count-init c = going_start _ _ _

pub returns-then-not-walk : goal.returns-then-not-walk
returns-then-not-walk c =
    let g = c.loop-count.invariant in
    let s =
    stands c.args.list.now g.ids
    (g.whole
    ∙ onward_absent _ _ _ _ _ g.ids g.counted (omega arith) c.command-walk.ensures c.if-not-walk.true)
    g.counted c.listed.ensures g.list in
    record { told_value = s.0; list_after = s.1 }

pub returns-then-is_none : goal.returns-then-is_none
returns-then-is_none c =
    let l = c.loop-count in
    let g = l.invariant in
    let x = c.pass-walk.result.id in
    let s =
    stands c.args.list.now (g.ids ++ x ∷ [])
    (g.whole
    ∙ onward_last _ _ _ _ _ g.ids g.counted (omega arith) c.command-walk.ensures c.if-not-walk.false
    c.pass-walk.ensures c.if-is_none.ensures)
    (counted_more g.ids x l.count g.counted) c.listed-then-is_none.ensures
    (placed g.ids x l.count c.args.list.now l.list c.put.new.list g.list c.put.ensures g.counted) in
    record { told_value = s.0; list_after = s.1 }

pub loop-count-preserved : goal.loop-count-preserved
loop-count-preserved c =
    let l = c.loop-count in
    let g = l.invariant in
    let x = c.pass-walk.result.id in
    record {
      ids = g.ids ++ x ∷ [];
      counted = counted_more g.ids x l.count g.counted;
      list = placed g.ids x l.count c.args.list.now l.list c.put.new.list g.list c.put.ensures g.counted;
      whole =
          g.whole
          ∙ onward_more _ _ _ _ _ g.ids g.counted (omega arith) c.command-walk.ensures c.if-not-walk.false
          c.pass-walk.ensures c.if-is_none.ensures;
    }

pub returns : goal.returns
returns c =
    let g = c.loop-count.invariant in
    let stop : c.loop-count.count ≡ c.args.allowed = omega arith in
    let s =
    stands c.args.list.now g.ids
    (g.whole ∙ onward_over _ _ _ _ _ g.ids g.counted stop) (g.counted ∙ stop) c.listed-2.ensures g.list in
    record { told_value = s.0; list_after = s.1 }
