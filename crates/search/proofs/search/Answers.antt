-- `search` meets its contract: by whether the list is long enough. More passes than the table has entries do nothing more, and that it has
-- 64 is part of its type.
use mathlib.Core.Path.{◌≡◌, sym, ap, ◌∙◌}
use Prim.Native.Nat.{ℕ}
use native.Mathlib.Omega.{arith}
use lib.ListN.{length}
use Rattle.std.specs.Prelude.{Ok}
use Rattle.pass.specs.Passes.{search as search_of, Result}
use Rattle.search.specs.declared.Searched.{Searched}
use Rattle.search.specs.Search.{answer_in, bridge_in, told, written}
use Rattle.searching.proofs.Facts.{search_capped}
use Rattle.search.proofs.Call.{short, done}
use Rattle.search.proofs.search.Goals as goal

pub returns-then-list-allowed : goal.returns-then-list-allowed
returns-then-list-allowed c =
    let a = c.args in
    let o = short a.b a.list.now a.bridge (omega arith) in
    record { answer_value = sym o.answer; bridge_value = sym o.state; list_after = sym o.buffer }

pub returns : goal.returns
returns c =
    let a = c.args in
    let table : length a.bridge.line.probes ≡ 64 = omega arith in
    let capped = c.from-allowed.ensures ∙ c.min.ensures in
    let e =
    ap (λ (n : ℕ). search_of n a.bridge) capped
    ∙ sym (search_capped a.bridge (omega (arith, table)) (omega (arith, table)) a.b) in
    let o = done a.b a.list.now a.bridge (omega arith) in
    let p = c.all.ensures in
    record {
      answer_value = ap (λ (s : Searched). answer_in (Ok s)) (p.told_value ∙ ap told e) ∙ sym o.answer;
      bridge_value = ap (λ (s : Searched). bridge_in a.bridge (Ok s)) (p.told_value ∙ ap told e) ∙ sym o.state;
      list_after = p.list_after ∙ ap (λ (r : Result). written r.ids a.list.now) e ∙ sym o.buffer;
    }
