-- `transcript::step` meets its contract: each arm gives what the event's case gives.
use Rattle.std.proofs.Common.{◌≡◌, ℕ, List, Bor, ap₂, Ok, Err, take, sym, ap, subst, ◌∙◌, arith}
use Rattle.std.proofs.lemmas.List.{length-take-le}
use Rattle.bridge.specs.declared.Bridge.{Bridge}
use Rattle.script.specs.declared.Event.{Event}
use Rattle.script.specs.declared.Reader.{Reader}
use Rattle.script.specs.declared.Event.TheVariants.{Write, Read, Wait, Fit}
use lib.Seq.{take_all}
use Rattle.script.specs.Script.{bytes_at, event_at}
use Rattle.script.proofs.Events.{write_lt}
use Rattle.transcript.specs.declared.text.Lines.{Lines}
use Rattle.transcript.specs.Text.{Puts, behind_number}
use Rattle.transcript.specs.Transcript.{Step, decimal, write_step, fit_step, step_at}
use Rattle.transcript.proofs.Events.{step_of, step_at_event, write_is, read_is, wait_is, fit_is, write_refusal_lt, fit_refusal_lt}
use Rattle.transcript.proofs.step.Goals as goal

-- what is put and the bridge left, by what the event gives
ran : (s : List ℕ) (k : ℕ) (b : Bridge) {a c : Lines} (e case : Event) → e ≡ case → e ≡ event_at s k → (t : Step) → t ≡ step_of s k b case → Puts a c (behind_number t.letter t.value) → (t.bridge ≡ (step_at s k b).bridge) × Puts a c (behind_number (step_at s k b).letter (step_at s k b).value)
ran s k b {a} {c} e case is here t gives p =
    let same : t ≡ step_at s k b = gives ∙ step_at_event s k b case (sym is ∙ here) in
    (ap (λ (x : Step). x.bridge) same, subst (λ (x : Step). Puts a c (behind_number x.letter x.value)) same p)

-- the bytes from where a reader was moved to
from : {r : Reader} {x : Bor (List ℕ)} {k : ℕ} (n : ℕ) → (r.script ≡ x) × (r.place ≡ k) → bytes_at r.script.now r.place n ≡ bytes_at x.now k n
from {r} {x} {k} n moved = ap₂ (λ (y : Bor (List ℕ)) (j : ℕ). bytes_at y.now j n) moved.0 moved.1

pub gathered-bytes-requires : goal.gathered-bytes-requires
gathered-bytes-requires c =
    let few = write_lt c.args.reader.script.now c.args.reader.place c.in-Write.n (sym c.in-Write.is ∙ c.requires.event_is) in
    (omega arith, omega arith)

pub slice_bounds-bytes-end : goal.slice_bounds-bytes-end
slice_bounds-bytes-end c =
    let few = write_lt c.args.reader.script.now c.args.reader.place c.in-Write.n (sym c.in-Write.is ∙ c.requires.event_is) in
    omega arith

pub slice_bounds-write-end : goal.slice_bounds-write-end
slice_bounds-write-end c =
    let few = write_lt c.args.reader.script.now c.args.reader.place c.in-Write.n (sym c.in-Write.is ∙ c.requires.event_is) in
    sym (length-take-le c.in-Write.n c.gathered-bytes.result (omega arith))

pub number-requires-in-Err-2 : goal.number-requires-in-Err-2
number-requires-in-Err-2 c = (omega arith, omega (arith, write_refusal_lt c.in-Err.refusal))

pub returns-in-Ok : goal.returns-in-Ok
returns-in-Ok c =
    let a = c.args in
    let n = c.in-Write.n in
    let b = a.bridge.now in
    let g = c.gathered-bytes in
    let w = c.in-Ok in
    let bytes = ap (λ (x : List ℕ). write_step x b) (g.ensures.1 ∙ from n c.moved.ensures) in
    let both = ran a.reader.script.now a.reader.place b a.event (Write n) c.in-Write.is c.requires.event_is _ (write_is (take n g.result) b (Ok w.after) w.ensures.number_value w.ensures.bridge_value ∙ bytes) c.number.ensures.puts in
    record { bridge_after = both.0; puts = both.1; upper_bound = c.number.ensures.upper_bound }

pub returns-in-Err : goal.returns-in-Err
returns-in-Err c =
    let a = c.args in
    let n = c.in-Write.n in
    let b = a.bridge.now in
    let g = c.gathered-bytes in
    let w = c.in-Err in
    let bytes = ap (λ (x : List ℕ). write_step x b) (g.ensures.1 ∙ from n c.moved.ensures) in
    let put = subst (λ (v : ℕ). Puts a.lines.now c.number-in-Err-2.new.self (behind_number 0x57 (decimal v))) c.number-in-Err.ensures c.number-in-Err-2.ensures.puts in
    let both = ran a.reader.script.now a.reader.place b a.event (Write n) c.in-Write.is c.requires.event_is _ (write_is (take n g.result) b (Err w.refusal) w.ensures.number_value w.ensures.bridge_value ∙ bytes) put in
    record { bridge_after = both.0; puts = both.1; upper_bound = c.number-in-Err-2.ensures.upper_bound }

pub returns-in-Read : goal.returns-in-Read
returns-in-Read c =
    let a = c.args in
    let b = a.bridge.now in
    let both = ran a.reader.script.now a.reader.place b a.event Read c.in-Read.is c.requires.event_is _ (read_is b c.read.result c.read.ensures) c.hexadecimal.ensures.puts in
    record { bridge_after = both.0; puts = both.1; upper_bound = c.hexadecimal.ensures.upper_bound }

pub returns-in-Wait : goal.returns-in-Wait
returns-in-Wait c =
    let a = c.args in
    let b = a.bridge.now in
    let t = c.pass_time in
    let p = c.number-in-Wait.ensures in
    let both = ran a.reader.script.now a.reader.place b a.event Wait c.in-Wait.is c.requires.event_is _ (wait_is b t.new.bridge t.ensures) p.puts in
    record { bridge_after = both.0; puts = both.1; upper_bound = p.upper_bound }

pub number-requires-in-Err-fit-2 : goal.number-requires-in-Err-fit-2
number-requires-in-Err-fit-2 c = (omega arith, omega (arith, fit_refusal_lt c.in-Err-fit.refusal))

pub returns-in-Ok-fit : goal.returns-in-Ok-fit
returns-in-Ok-fit c =
    let a = c.args in
    let b = a.bridge.now in
    let g = c.gathered-id in
    let w = c.in-Ok-fit in
    let p = c.number-in-Ok-fit.ensures in
    let bytes = ap (λ (x : List ℕ). fit_step x b) (sym (take_all 8 g.result (omega arith)) ∙ g.ensures.1 ∙ from 8 c.moved-in-Fit.ensures) in
    let both = ran a.reader.script.now a.reader.place b a.event Fit c.in-Fit.is c.requires.event_is _ (fit_is g.result b (Ok w.after) w.ensures.number_value w.ensures.bridge_value ∙ bytes) p.puts in
    record { bridge_after = both.0; puts = both.1; upper_bound = p.upper_bound }

pub returns-in-Err-fit : goal.returns-in-Err-fit
returns-in-Err-fit c =
    let a = c.args in
    let b = a.bridge.now in
    let g = c.gathered-id in
    let w = c.in-Err-fit in
    let p = c.number-in-Err-fit-2 in
    let bytes = ap (λ (x : List ℕ). fit_step x b) (sym (take_all 8 g.result (omega arith)) ∙ g.ensures.1 ∙ from 8 c.moved-in-Fit.ensures) in
    let put = subst (λ (v : ℕ). Puts a.lines.now p.new.self (behind_number 0x46 (decimal v))) c.number-in-Err-fit.ensures p.ensures.puts in
    let both = ran a.reader.script.now a.reader.place b a.event Fit c.in-Fit.is c.requires.event_is _ (fit_is g.result b (Err w.refusal) w.ensures.number_value w.ensures.bridge_value ∙ bytes) put in
    record { bridge_after = both.0; puts = both.1; upper_bound = p.ensures.upper_bound }
