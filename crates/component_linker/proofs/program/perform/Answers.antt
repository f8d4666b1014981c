use Rattle.std.proofs.Common.{refl}
use Rattle.wit_component.proofs.Results.{err_map, moved_up, ok_map}
use Rattle.wit_types.specs.contracts.«package».PackageNamePartialEq.TheImpl.{eq-value as package_eq}
use Rattle.component_linker.proofs.Performing.{outcome, prepared, stopped}
use Rattle.component_linker.proofs.program.perform.Goals as goal

pub returns-in_err-session-clause-err : goal.returns-in_err-session-clause-err
returns-in_err-session-clause-err g c =
    let stop = c.in_err-session.field-0.0 in
    moved_up c.from_residual.result stop _ c.from_residual.ensures.1 (prepared package_eq.it c.args.files.now c.args.line.now _ _ _ refl stop c.in_err-session.ensures.err)

pub returns-clause-ok : goal.returns-clause-ok
returns-clause-ok g c = ok_map c.act.result (outcome package_eq.it c.args.files.now c.args.line.now _ _ c.in_ok-session.session c.in_ok-session.ensures.ok) c.act.ensures.ok

pub returns-clause-err : goal.returns-clause-err
returns-clause-err g c = err_map c.act.result (stopped package_eq.it c.args.files.now c.args.line.now _ _ c.in_ok-session.session c.in_ok-session.ensures.ok _) c.act.ensures.err
