use Rattle.std.proofs.Common.{◌≡◌, ◌∙◌, sym, ap, suc, arith, List, Some, None, Bor, option_map}
use Rattle.std.specs.Prelude.{option_and_then}
use Rattle.wasm_bodies.specs.declared.instructions.BodyInstruction.{BodyInstruction}
use Rattle.wasm_bodies.specs.Generated.{behind, behind_one}
use Rattle.wasm_bodies.proofs.Again.{none_within}
use Rattle.wasm_bodies.proofs.decoding.behind_parameters.Goals as goal

pub returns-in_err-rest-clause-value : goal.returns-in_err-rest-clause-value
returns-in_err-rest-clause-value c =
    let p = c.loop-parameter.parameter in
    let whole = c.args.instructions.now in
    let one : behind (suc p) whole ≡ option_and_then (behind_one p) (Some c.loop-parameter.rest.now) = ap (option_and_then (behind_one p)) c.loop-parameter.invariant.0 in
    let none : option_map {T = Bor (List BodyInstruction)} {U = List BodyInstruction} (λ r. r.now) c.from_residual.result ≡ None = ap (option_map (λ r. r.now)) c.from_residual.ensures in
    none ∙ sym (none_within (suc p) c.args.count whole (one ∙ sym c.in_err-rest.ensures.value) (omega (arith, c.loop-parameter-test.true)))
