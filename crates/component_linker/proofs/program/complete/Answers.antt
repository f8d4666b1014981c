use Rattle.std.proofs.Common.{string_bytes, subst}
use Rattle.wit_component.proofs.Results.{err_map, moved_up}
use Rattle.wit_types.specs.contracts.«package».PackageNamePartialEq.TheImpl.{eq-value as package_eq}
use Rattle.component_session.specs.Input.{Input}
use Rattle.component_linker.specs.Program.{Names}
use Rattle.component_linker.specs.Stops.{IsCompleteStop, IsHandStop, IsNameError, IsResolveStop}
use Rattle.component_linker.proofs.Handing.{both_ok, completed, hand_stop, name_stop}
use Rattle.component_linker.proofs.program.complete.Goals as goal

pub returns-in_err-choose-clause-err : goal.returns-in_err-choose-clause-err
returns-in_err-choose-clause-err c =
    let r = c.args.session.now.resolved in
    let stop = c.in_err-choose.field-0.0 in
    moved_up c.from_residual.result stop (IsCompleteStop c.args.files.now r c.args.«package» c.args.line.now) c.from_residual.ensures.1
    (name_stop package_eq.it c.args.files.now c.args.line.now r c.args.«package» stop (subst (λ t. IsResolveStop (IsNameError r c.args.«package» t) stop) c.as_str.ensures.value c.in_err-choose.ensures.err))

pub returns-clause-ok : goal.returns-clause-ok
returns-clause-ok c =
    let old = c.args.session.now in
    let chosen = c.choose.new.session in
    let (w, chose, names) = c.in_ok-choose.ensures.ok in
    both_ok c.hand_in.result
    (λ is rest. completed c.args.files.now c.args.line.now c.args.«package» w old chosen c.hand_in.new.session chose (subst (λ t. Names old.resolved c.args.«package» t w) c.as_str.ensures.value names) is rest)
    c.hand_in.ensures.modules c.hand_in.ensures.rest

pub returns-clause-err : goal.returns-clause-err
returns-clause-err c =
    let files = c.args.files.now in
    let line = c.args.line.now in
    let main = c.args.«package» in
    err_map c.hand_in.result
    (λ stop why. hand_stop package_eq.it files line c.args.session.now.resolved main stop
    (subst (λ (i : Input). IsHandStop files i.resolved main (string_bytes line.world) line.inputs.items stop) c.in_ok-choose.ensures.ok.1 why))
    c.hand_in.ensures.err
