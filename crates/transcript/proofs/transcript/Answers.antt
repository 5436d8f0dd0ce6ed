-- `transcript::transcript` meets its contract: the events run only where the script is well formed.
use mathlib.Core.Path.{sym, ap, ◌∙◌}
use mathlib.Core.Bool.{true, false}
use native.Mathlib.Omega.{arith}
use Rattle.std.proofs.Common.{Ok}
use Rattle.transcript.specs.Transcript.{lines_of, run_of, run_buffer}
use Rattle.transcript.proofs.Buffer.{put_front}
use Rattle.transcript.proofs.Events.{script_number_case}
use Rattle.transcript.proofs.transcript.Goals as goal

pub returns-then-is_script : goal.returns-then-is_script
unfolding lines_of run_of run_buffer
returns-then-is_script c =
    let s = c.args.script.now in
    let form = sym c.is_script.ensures ∙ c.if-is_script.true in
    let front = put_front c.lines.ensures.0 (omega arith) in
    record {
      value = simp (script_number_case s true form) (ap Ok front.0);
      out_after = simp (script_number_case s true form) front.1;
    }

pub returns-else-is_script : goal.returns-else-is_script
unfolding run_of run_buffer
returns-else-is_script c =
    let s = c.args.script.now in
    let form = sym c.is_script.ensures ∙ c.if-is_script.false in
    record { value = simp (script_number_case s false form); out_after = simp (script_number_case s false form) }
