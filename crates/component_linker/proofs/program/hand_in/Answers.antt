use Rattle.std.proofs.Common.{◌≡◌, ◌<◌, length, get_or, ap, subst, string_bytes}
use Rattle.wit_component.proofs.Results.{moved_up}
use Rattle.component_session.specs.Pushes.{Resolved}
use Rattle.component_session.specs.Input.{Input}
use Rattle.component_linker.specs.Stops.{IsInputStop, IsHandStop}
use Rattle.component_linker.proofs.Files.{hand_at}
use Rattle.component_linker.proofs.program.hand_in.Goals as goal

pub returns-in_err-hand_in_one-clause-err : goal.returns-in_err-hand_in_one-clause-err
returns-in_err-hand_in_one-clause-err c =
    let files = c.args.files.now in
    let line = c.args.line.now in
    let r = c.args.session.now.resolved in
    let is = line.inputs.items in
    let i = c.loop-input.input-index in
    let x = c.input-item.result in
    let stop = c.in_err-hand_in_one.field-0.0 in
    let whole = c.deref-input-items.ensures.value in
    let here : i < length is = subst (λ l. i < length l) whole c.loop-input-test.true in
    let at : x ≡ get_or is i x = subst (λ l. x ≡ get_or l i x) whole c.input-item.is in
    let same : c.loop-input.session.resolved ≡ r = ap (λ (s : Input). s.resolved) c.loop-input.invariant.1 in
    moved_up c.from_residual.result stop (IsHandStop files r c.args.«package» (string_bytes line.world) is) c.from_residual.ensures.1
    (hand_at files r c.args.«package» (string_bytes line.world) is i x stop here at
    (subst (λ (q : Resolved). IsInputStop files q c.args.«package» (string_bytes line.world) x stop) same c.in_err-hand_in_one.ensures.err))
