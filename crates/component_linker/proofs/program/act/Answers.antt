use Rattle.std.proofs.Common.{subst}
use Rattle.component_linker.specs.Program.{HasComponent}
use Rattle.wit_component.proofs.Results.{ok_map, err_map}
use Rattle.component_linker.proofs.Answering.{acted}
use Rattle.component_linker.proofs.program.act.Goals as goal

pub returns-in-Build-clause-err : goal.returns-in-Build-clause-err
returns-in-Build-clause-err g c =
    err_map c.build.result (λ s why. acted _ c.args.files.now c.args.line.now c.args.session.now _ _ s (λ fault cause. rw c.in-Build.is cause) (λ status text is. rw c.in-Build.is is) why) c.build.ensures.err

pub returns-in-Links-clause-err : goal.returns-in-Links-clause-err
returns-in-Links-clause-err g c =
    err_map c.list.result (λ s why. acted _ c.args.files.now c.args.line.now c.args.session.now _ _ s (λ fault cause. rw c.in-Links.is cause) (λ status text is. rw c.in-Links.is is) why) c.list.ensures.err

pub returns-in_ok-component-in-Audit-clause-ok : goal.returns-in_ok-component-in-Audit-clause-ok
returns-in_ok-component-in-Audit-clause-ok g c =
    let bytes = c.in_ok-component-in-Audit.component.now in
    let found : HasComponent c.args.files.now c.args.line.now.inputs.items bytes =
    subst (λ is. HasComponent c.args.files.now is bytes) c.deref.ensures.value c.in_ok-component-in-Audit.ensures.ok in
    rw c.in-Audit.is (ok_map c.judge.result (λ s written. (written.0, (bytes, found, written.1), written.2)) c.judge.ensures.ok)

pub returns-in_ok-component-in-Audit-clause-err : goal.returns-in_ok-component-in-Audit-clause-err
returns-in_ok-component-in-Audit-clause-err g c =
    let bytes = c.in_ok-component-in-Audit.component.now in
    let found : HasComponent c.args.files.now c.args.line.now.inputs.items bytes =
    subst (λ is. HasComponent c.args.files.now is bytes) c.deref.ensures.value c.in_ok-component-in-Audit.ensures.ok in
    err_map c.judge.result
    (λ s why. acted _ c.args.files.now c.args.line.now c.args.session.now _ _ s (λ fault cause. rw c.in-Audit.is (bytes, found, cause)) (λ status text is. rw c.in-Audit.is (bytes, found, is)) why)
    c.judge.ensures.err
