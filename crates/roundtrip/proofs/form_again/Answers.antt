-- `roundtrip::form_again` meets its contract: the parts of an accepted packet make a request within its limits, whose packet is the packet itself.
use Rattle.std.proofs.Common.{ℕ, List, ap, ◌∙◌, arith}
use Rattle.std.proofs.lemmas.Result.{err_from_is_err_and}
use Rattle.packet.specs.Request.{Request}
use Rattle.forming.specs.Forming.{form_number, formed}
use Rattle.reading.specs.Reading.{request_for}
use Rattle.roundtrip.proofs.Again.{Bytes, again_formed, again_refused}
use Rattle.roundtrip.proofs.form_again.Goals as goal

pub returns-in_err-parts : goal.returns-in_err-parts
returns-in_err-parts c =
    let e = err_from_is_err_and c.from_residual.result c.from_residual.ensures.1 in
    let g = again_refused c.args.packet.now c.args.buffer.now _ c.in_err-parts.ensures in
    record {
      number_value = rw (e.1, e.2) (g.0);
      place_value = rw (e.1, e.2) (g.1);
      buffer_after = g.2;
    }

pub returns-in_err-form : goal.returns-in_err-form
returns-in_err-form c =
    let p = c.args.packet.now in
    let d = c.args.buffer.now in
    let e = err_from_is_err_and c.from_residual-in_err-form.result c.from_residual-in_err-form.ensures.1 in
    let bytes : Bytes p = λ k. omega (arith, c.type_inv.packet k) in
    let g = again_formed p d _ bytes c.in_ok-parts.ensures in
    let asked = ap (λ (s : List ℕ). request_for c.in_ok-parts.parts s) c.data_of.ensures.result_value in
    record {
      number_value = rw (e.1, e.2) (c.in_err-form.ensures.value ∙ ap (λ (q : Request). form_number q d) asked ∙ g.0);
      place_value = rw (e.1, e.2) (g.1);
      buffer_after = c.in_err-form.ensures.buffer_after ∙ ap (λ (q : Request). formed q d) asked ∙ g.2;
    }

pub returns : goal.returns
returns c =
    let p = c.args.packet.now in
    let d = c.args.buffer.now in
    let bytes : Bytes p = λ k. omega (arith, c.type_inv.packet k) in
    let g = again_formed p d _ bytes c.in_ok-parts.ensures in
    let asked = ap (λ (s : List ℕ). request_for c.in_ok-parts.parts s) c.data_of.ensures.result_value in
    record {
      number_value = c.in_ok-form.ensures.value ∙ ap (λ (q : Request). form_number q d) asked ∙ g.0;
      place_value = g.1;
      buffer_after = c.in_ok-form.ensures.buffer_after ∙ ap (λ (q : Request). formed q d) asked ∙ g.2;
    }
