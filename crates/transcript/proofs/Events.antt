-- The run of a script, event by event.
--   step_of, step_at_event               what an event gives, by its case
--   step_write, _read, _wait, _fit       by its kind, and by what was computed for it
--   line_of_text                          its line
--   script_number_case                    the number of a script and of any other bytes
--   run_number_is, run_values_is           the run's number, and how many bytes it writes
--   write_is, fit_is                      what a write and a fitting give, by their results
--   read_is, wait_is                      what a read gives, and time passing
--   write_refusal_lt, fit_refusal_lt       the numbers printed have one digit
--   Runs                                 the lines left to print bring the buffer to what is promised
--   runs_first, runs_next, runs_last     where no event has run, one event more, and where all have
use mathlib.Core.Path.{◌≡◌, refl, sym, ap, ap₂, ◌∙◌}
use mathlib.Core.Bool.{Bool, true, false, cond}
use mathlib.Core.List.{List, [], ◌∷◌, ◌++◌, append_assoc}
use Prim.Native.Nat.{ℕ, zero, suc, ◌+◌, ◌-◌, ◌*◌, ◌<◌, ◌≤◌}
use native.Mathlib.Numerals.{add-one}
use native.Mathlib.Omega.{arith}
use lib.Dec.{eqb}
use Rattle.std.proofs.Common.{Result, Ok, Err}
use lib.ListN.{length, length-append}
use lib.Seq.{sets, length-sets}
use borrow.Author.Tests.{ne_eqb}
use Rattle.line.specs.declared.Refusal.{Refusal as WrongFitting}
use Rattle.line.specs.declared.Refusal.TheVariants as wrong
use Rattle.line.specs.Line.{fit_number, number_returned}
use Rattle.bridge.specs.declared.Bridge.{Bridge}
use Rattle.bridge.specs.Bridge.{power_on, read_of, write_number, after_write, after_time, after_fitting, number_of, number_by, number_in, bridge_in}
use Rattle.bridge.specs.declared.Refusal.{Refusal}
use Rattle.bridge.specs.declared.Refusal.TheVariants.{Unknown, Busy, Length, Parameter}
use Rattle.script.specs.declared.Event.{Event}
use Rattle.script.specs.declared.Event.TheVariants.{Write, Read, Wait, Fit}
use Rattle.script.specs.Script.{bytes_at, is_script, kind_at, length_at, event_of, event_at, size_at}
use Rattle.script.proofs.Events.{kind_at_lt, size_at_high}
use Rattle.transcript.specs.declared.text.Lines.{Lines}
use Rattle.transcript.specs.Text.{Put, Puts, behind_number}
use Rattle.transcript.specs.Transcript.{decimal, hexadecimal, Step, write_step, read_step, wait_step, fit_step, step_at, line_of, lines_from, lines_of, script_number, run_of, run_number, run_values}
use Rattle.transcript.specs.declared.Refusal.TheVariants.{Malformed}
use Rattle.transcript.proofs.Buffer.{sets_append, puts_more}

-- ---- events

module _ (s : List ℕ) (k : ℕ) (b : Bridge) where
  -- what an event gives, by its case
  abbrev pub step_of : Event → Step
  step_of (Write n) = write_step (bytes_at s (k + 4) n) b
  step_of Read = read_step b
  step_of Wait = wait_step b
  step_of Fit = fit_step (bytes_at s (k + 2) 8) b

  pub step_at_event : (e : Event) → e ≡ event_at s k → step_of e ≡ step_at s k b
  unfolding step_at event_at event_of
  step_at_event e is = ap step_of is ∙ go (kind_at s k) (kind_at_lt s k)
    where
      go : (kind : ℕ) → kind < 4 → step_of (event_of kind (length_at s k)) ≡ cond (eqb kind 0) (write_step (bytes_at s (k + 4) (length_at s k)) b) (cond (eqb kind 1) (read_step b) (cond (eqb kind 2) (wait_step b) (fit_step (bytes_at s (k + 2) 8) b)))
      go zero h = refl
      go (suc zero) h = refl
      go (suc (suc zero)) h = refl
      go (suc (suc (suc zero))) h = refl
      go (suc (suc (suc (suc kind)))) h = absurd (omega arith)

  pub step_write : (n x : ℕ) (after : Bridge) → kind_at s k ≡ 0 → n ≡ length_at s k → x ≡ write_number (bytes_at s (k + 4) n) b → after ≡ after_write (bytes_at s (k + 4) n) b → step_at s k b ≡ record { letter = 0x57; value = decimal x; bridge = after }
  unfolding step_at write_step
  step_write n x after kind len number state =
      simp kind (ap (λ (m : ℕ). write_step (bytes_at s (k + 4) m) b) (sym len) ∙ ap₂ (λ (y : ℕ) (z : Bridge). record { letter = 0x57; value = decimal y; bridge = z }) (sym number) (sym state))

  pub step_read : (x : ℕ) → kind_at s k ≡ 1 → x ≡ read_of b → step_at s k b ≡ record { letter = 0x52; value = hexadecimal x; bridge = b }
  unfolding step_at read_step
  step_read x kind byte = simp kind (ap (λ (y : ℕ). record { letter = 0x52; value = hexadecimal y; bridge = b }) (sym byte))

  pub step_wait : (after : Bridge) → kind_at s k ≡ 2 → after ≡ after_time b → step_at s k b ≡ record { letter = 0x54; value = decimal 0; bridge = after }
  unfolding step_at wait_step
  step_wait after kind state = simp kind (ap (λ (z : Bridge). record { letter = 0x54; value = decimal 0; bridge = z }) (sym state))

  pub step_fit : (x : ℕ) (after : Bridge) → (kind_at s k ≡ 0 → ⊥) → (kind_at s k ≡ 1 → ⊥) → (kind_at s k ≡ 2 → ⊥) → x ≡ fit_number (bytes_at s (k + 2) 8) b.line → after ≡ after_fitting (bytes_at s (k + 2) 8) b → step_at s k b ≡ record { letter = 0x46; value = decimal x; bridge = after }
  unfolding step_at fit_step
  step_fit x after w r t number state =
      simp (ne_eqb (kind_at s k) 0 w, ne_eqb (kind_at s k) 1 r, ne_eqb (kind_at s k) 2 t)
      (ap₂ (λ (y : ℕ) (z : Bridge). record { letter = 0x46; value = decimal y; bridge = z }) (sym number) (sym state))

pub write_is : (x : List ℕ) (b : Bridge) (r : Result Bridge Refusal) → number_in r ≡ write_number x b → bridge_in b r ≡ after_write x b → record { letter = 0x57; value = decimal (number_in r); bridge = bridge_in b r } ≡ write_step x b
unfolding write_step
write_is x b r number state = ap₂ (λ (y : ℕ) (z : Bridge). record { letter = 0x57; value = decimal y; bridge = z }) number state

pub fit_is : (x : List ℕ) (b : Bridge) (r : Result Bridge WrongFitting) → number_by number_returned r ≡ fit_number x b.line → bridge_in b r ≡ after_fitting x b → record { letter = 0x46; value = decimal (number_by number_returned r); bridge = bridge_in b r } ≡ fit_step x b
unfolding fit_step
fit_is x b r number state = ap₂ (λ (y : ℕ) (z : Bridge). record { letter = 0x46; value = decimal y; bridge = z }) number state

pub read_is : (b : Bridge) (x : ℕ) → x ≡ read_of b → record { letter = 0x52; value = hexadecimal x; bridge = b } ≡ read_step b
unfolding read_step
read_is b x byte = ap (λ (y : ℕ). record { letter = 0x52; value = hexadecimal y; bridge = b }) byte

pub wait_is : (b after : Bridge) → after ≡ after_time b → record { letter = 0x54; value = decimal 0; bridge = after } ≡ wait_step b
unfolding wait_step
wait_is b after state = ap (λ (z : Bridge). record { letter = 0x54; value = decimal 0; bridge = z }) state

pub line_of_text : (i : ℕ) (t : Step) → decimal i ++ behind_number t.letter t.value ≡ line_of i t
unfolding line_of behind_number
line_of_text i t = simp append_assoc

-- ---- the whole

pub script_number_case : (s : List ℕ) (t : Bool) → is_script s ≡ t → script_number s ≡ cond t 0 15
unfolding script_number
script_number_case s t h = ap (λ (u : Bool). cond u 0 15) h

module _ (s : List ℕ) where
  -- by the two cases of the script's form
  by_form : (P : ℕ → Type 0) → P 0 → P 15 → P (script_number s)
  unfolding script_number
  by_form P done refused = go (is_script s)
    where
      go : (t : Bool) → P (cond t 0 15)
      go true = done
      go false = refused

  pub run_number_is : run_number (run_of s) ≡ script_number s
  unfolding run_of
  run_number_is =
      by_form (λ (n : ℕ). run_number (cond (eqb n 0) (Ok (length (lines_of s))) (Err Malformed)) ≡ n) refl refl

  pub run_values_is : run_values (run_of s) ≡ cond (eqb (script_number s) 0) (length (lines_of s) ∷ []) []
  unfolding run_of
  run_values_is =
      by_form (λ (n : ℕ). run_values (cond (eqb n 0) (Ok (length (lines_of s))) (Err Malformed)) ≡ cond (eqb n 0) (length (lines_of s) ∷ []) []) refl refl

-- ---- numbers of one digit

pub write_refusal_lt : (e : Refusal) → number_of e < 10
write_refusal_lt Unknown = omega arith
write_refusal_lt Busy = omega arith
write_refusal_lt Length = omega arith
write_refusal_lt Parameter = omega arith

pub fit_refusal_lt : (e : WrongFitting) → number_returned e < 10
fit_refusal_lt wrong.Full = omega arith
fit_refusal_lt wrong.Crc = omega arith
fit_refusal_lt wrong.Family = omega arith
fit_refusal_lt wrong.Fitted = omega arith

-- ---- the run

lines_from_next : (s : List ℕ) (n i k : ℕ) (b : Bridge) → 0 < n → lines_from s n i k b ≡ line_of i (step_at s k b) ++ lines_from s (n - 1) (i + 1) (k + size_at s k) (step_at s k b).bridge
unfolding lines_from
lines_from_next s zero i k b h = absurd (omega arith)
lines_from_next s (suc n) i k b h =
    let one : n ≡ suc n - 1 = omega arith in
    ap₂ (λ (m j : ℕ). line_of i (step_at s k b) ++ lines_from s m j (k + size_at s k) (step_at s k b).bridge) one (sym (add-one i))

-- i of n events have run; the next stands at the place k, and its line comes behind the lines a, whose buffer was d
pub record Runs (s : List ℕ) (n : ℕ) (d : List ℕ) (b : Bridge) (i k : ℕ) (a : Lines) : Type 0 where
  pub most : n ≤ 16376
  pub near : k ≤ 16 + 66 * i
  pub room : a.len ≤ 11 * i
  pub kept : length a.out.now ≡ length d
  pub content : sets a.out.now a.len (lines_from s (n - i) (i + 1) k b) ≡ sets d 0 (lines_from s n 1 16 power_on)
  pub end : a.len + length (lines_from s (n - i) (i + 1) k b) ≡ length (lines_from s n 1 16 power_on)

pub runs_first : (s : List ℕ) (n : ℕ) (d : List ℕ) (b : Bridge) (k : ℕ) (a : Lines) → n ≤ 16376 → b ≡ power_on → k ≡ 16 → a.out.now ≡ d → a.len ≡ 0 → Runs s n d b 0 k a
runs_first s n d b k a h e at out len =
    let all : lines_from s (n - 0) 1 k b ≡ lines_from s n 1 16 power_on = ap₂ (λ (m : ℕ) (x : Bridge). lines_from s m 1 k x) (omega arith) e ∙ ap (λ (j : ℕ). lines_from s n 1 j power_on) at in
    record {
      most = h;
      near = omega arith;
      room = omega arith;
      kept = ap length out;
      content = ap₂ (λ (x : List ℕ) (j : ℕ). sets x j (lines_from s (n - 0) 1 k b)) out len ∙ ap (sets d 0) all;
      end = omega (arith, ap length all);
    }

module _ (s : List ℕ) (n : ℕ) (d : List ℕ) (b : Bridge) (i k : ℕ) (a : Lines) (runs : Runs s n d b i k a) where
  pub runs_next : (m c : Lines) (after : Bridge) (size : ℕ) → i < n → Puts a m (decimal (i + 1)) → m.len ≤ a.len + 5 → after ≡ (step_at s k b).bridge → Puts m c (behind_number (step_at s k b).letter (step_at s k b).value) → c.len ≤ m.len + 6 → size ≡ size_at s k → Runs s n d after (i + 1) (k + size) c
  runs_next m c after size more number short state value less sized =
      let t = step_at s k b in
      let line = decimal (i + 1) ++ behind_number t.letter t.value in
      let put = (puts_more number value).put in
      let rest = lines_from s (n - (i + 1)) (i + 1 + 1) (k + size) after in
      let left : n - i - 1 ≡ n - (i + 1) = omega arith in
      let same : lines_from s (n - i) (i + 1) k b ≡ line ++ rest =
      lines_from_next s (n - i) (i + 1) k b (omega arith)
      ∙ ap₂ (λ (m z : ℕ). line_of (i + 1) t ++ lines_from s m (i + 1 + 1) (k + z) t.bridge) left (sym sized)
      ∙ ap₂ (λ (x : List ℕ) (y : Bridge). x ++ lines_from s (n - (i + 1)) (i + 1 + 1) (k + size) y) (sym (line_of_text (i + 1) t)) (sym state) in
      record {
        most = runs.most;
        near = omega (arith, runs.near, size_at_high s k);
        room = omega (arith, runs.room);
        kept = ap length put.content ∙ length-sets a.out.now a.len line ∙ runs.kept;
        content =
            ap₂ (λ (x : List ℕ) (j : ℕ). sets x j rest) put.content put.end
            ∙ sym (sets_append a.out.now a.len line rest) ∙ ap (sets a.out.now a.len) (sym same) ∙ runs.content;
        end = omega (arith, put.end, runs.end, ap length same, length-append line rest);
      }

  pub runs_last : n ≤ i → Put d a.out.now 0 a.len (lines_from s n 1 16 power_on)
  unfolding lines_from
  runs_last h =
      let left : n - i ≡ 0 = omega arith in
      let none : lines_from s (n - i) (i + 1) k b ≡ [] = ap (λ (m : ℕ). lines_from s m (i + 1) k b) left in
      record {
        content = sym (ap (sets a.out.now a.len) none) ∙ runs.content;
        end = omega (arith, runs.end, ap length none);
      }
