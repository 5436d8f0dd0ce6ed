-- `output::output` meets its contract: the lines lie in the buffer where the run was done, and the line 15 is put there where it was refused.
use Rattle.std.proofs.Common.{ℕ, List, [], ◌∷◌, ◌++◌, ◌≡◌, length, drop, sym, ap, ◌∙◌}
use Rattle.transcript.specs.Text.{pair_of}
use Rattle.output.specs.Output.{transcript_of}
use Rattle.output.proofs.Printed.{printed_done, printed_refused}
use Rattle.output.proofs.output.Goals as goal

pub returns-in-Ok : goal.returns-in-Ok
returns-in-Ok c =
    let done = printed_done c.args.script.now c.args.out.now c.in-Ok.len c.in-Ok.ensures.value in
    record { value = done.0; out_after = c.in-Ok.ensures.out_after ∙ done.1 }

pub returns-in-Err : goal.returns-in-Err
returns-in-Err c =
    let a = c.args in
    let t = c.in-Err.ensures in
    let p = c.put_refusal in
    let refused = printed_refused a.script.now a.out.now c.in-Err.refusal t.value in
    let line : transcript_of a.script.now ≡ pair_of c.number.result ++ 0x0A ∷ [] = refused.1 ∙ ap (λ (n : ℕ). pair_of n ++ 0x0A ∷ []) (sym c.number.ensures) in
    record {
      value = p.ensures.0 ∙ ap length (sym line);
      out_after =
          p.ensures.1 ∙ ap (λ (d : List ℕ). pair_of c.number.result ++ 0x0A ∷ drop 3 d) (t.out_after ∙ refused.0)
          ∙ ap (λ (u : List ℕ). u ++ drop (length u) a.out.now) (sym line);
    }
