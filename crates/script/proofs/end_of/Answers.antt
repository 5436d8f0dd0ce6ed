-- `script::end_of` meets its contract: from each event's place the events left end where all of them do.
use Rattle.std.proofs.Common.{ℕ, List, Bor, ◌-◌, ◌+◌, ◌≡◌, sym, ap, ap₂, ◌∙◌, arith}
use Rattle.script.specs.Script.{end_of, size_of, size_at}
use Rattle.script.proofs.Events.{size_at_high, size_of_event, end_of_next, end_of_none}
use Rattle.script.proofs.end_of.Goals as goal

pub loop-init : goal.loop-init
loop-init c =
    let r = c.moved-reader in
    let whole = r.ensures.0 ∙ c.opened.ensures.0 in
    let n = c.count_of-end.result in
    let all : n - 0 ≡ n = omega arith in
    (omega (arith, r.ensures.1), ap (λ (m : ℕ). end_of r.result.script.now m r.result.place) all ∙ ap₂ (λ (b : Bor (List ℕ)) (k : ℕ). end_of b.now n k) whole r.ensures.1)

pub overflow_add-reader : goal.overflow_add-reader
overflow_add-reader c =
    let l = c.loop in
    let s = l.reader.script.now in
    omega (arith, ap size_of c.event.ensures, size_of_event s l.reader.place, size_at_high s l.reader.place)

pub loop-preserved : goal.loop-preserved
loop-preserved c =
    let l = c.loop in
    let s = l.reader.script.now in
    let k = l.reader.place in
    let n = c.count_of-end.result in
    let size : c.size.result ≡ size_at s k = c.size.ensures ∙ ap size_of c.event.ensures ∙ size_of_event s k in
    let left : n - (l.counter + 1) ≡ n - l.counter - 1 = omega arith in (
      omega (arith, size_at_high s k),
      ap₂ (λ (m j : ℕ). end_of s m (k + j)) left size ∙ end_of_next s (n - l.counter) k (omega arith) ∙ l.invariant.1,
    )

pub returns : goal.returns
returns c =
    let l = c.loop in
    let n = c.count_of-end in
    sym (end_of_none l.reader.script.now (n.result - l.counter) l.reader.place (omega arith)) ∙ l.invariant.1 ∙ ap (λ (m : ℕ). end_of c.args.script.now m 16) n.ensures
