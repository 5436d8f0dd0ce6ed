use Rattle.std.proofs.Common.{◌≡◌, ℕ, ◌+◌, List, Bor, length, ap, ap₂, subst, ◌∙◌, refl, arith, rules}
use Rattle.script.proofs.Events.{size_at_high, size_of_event, count_of_most}
use Rattle.script.specs.Script.{size_of, count_of}
use Rattle.transcript.specs.Text.{Put}
use Rattle.transcript.specs.Transcript.{decimal, lines_from}
use lib.Seq.{length-sets}
use Rattle.bridge.specs.Bridge.{power_on}
use Rattle.transcript.proofs.Buffer.{put_same}
use Rattle.transcript.proofs.Events.{runs_first, runs_next, runs_last}
use Rattle.transcript.proofs.lines.Goals as goal

pub loop-before-init : goal.loop-before-init
loop-before-init c =
    let n = c.count_of-before-end in
    let r = c.moved-reader in
    let first = runs_first r.result.script.now n.result c.args.out.now c.power_on-bridge.result r.result.place _ (omega (arith, n.ensures, count_of_most c.args.script.now c.requires.0)) c.power_on-bridge.ensures r.ensures.1 refl refl in
    (first, ap (λ (x : Bor (List ℕ)). x.now) (r.ensures.0 ∙ c.opened.ensures.0), refl)

pub step-requires-clause-room : goal.step-requires-clause-room
step-requires-clause-room c =
    let l = c.loop-before in
    let d = c.decimal in
    omega (arith, d.ensures.upper_bound, l.invariant.0.room, l.invariant.0.most, l.invariant.0.kept, ap length d.ensures.puts.put.content, length-sets l.lines.out.now l.lines.len (decimal (l.before + 1)))

pub overflow_add-reader : goal.overflow_add-reader
overflow_add-reader c =
    let l = c.loop-before in
    let s = l.reader.script.now in
    omega (arith, l.invariant.0.near, l.invariant.0.most, ap size_of c.event-event.ensures, size_of_event s l.reader.place, size_at_high s l.reader.place)

pub loop-before-preserved : goal.loop-before-preserved
loop-before-preserved c =
    let l = c.loop-before in
    let s = l.reader.script.now in
    let d = c.decimal in
    let r = c.step in
    let sized = c.size.ensures ∙ ap size_of c.event-event.ensures ∙ size_of_event s l.reader.place in (
      runs_next s c.count_of-before-end.result c.args.out.now l.bridge l.before l.reader.place l.lines l.invariant.0 d.new.self r.new.lines r.new.bridge c.size.result
          (omega arith) d.ensures.puts d.ensures.upper_bound r.ensures.bridge_after r.ensures.puts r.ensures.upper_bound sized,
      l.invariant.1,
      r.ensures.puts.same ∙ d.ensures.puts.same ∙ l.invariant.2,
    )

pub returns : goal.returns
returns c =
    let l = c.loop-before in
    let a = c.args in
    let n = c.count_of-before-end in
    let last = put_same (runs_last l.reader.script.now n.result a.out.now l.bridge l.before l.reader.place l.lines l.invariant.0 c.loop-before-test.false)
    (ap₂ (λ (s : List ℕ) (m : ℕ). lines_from s m 1 16 power_on) l.invariant.1 n.ensures) in
    let final : l.lines.out.now ≡ c.out-1.given.0 = search rules in
    (subst (λ (e : List ℕ). Put a.out.now e 0 l.lines.len (lines_from a.script.now (count_of a.script.now) 1 16 power_on)) final last, omega (arith, l.invariant.0.room, l.invariant.0.most))
