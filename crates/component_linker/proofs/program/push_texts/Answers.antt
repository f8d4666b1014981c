use Rattle.std.proofs.Common.{◌≡◌, ap, subst, ◌∙◌}
use Rattle.std.specs.List.{flat_map}
use Rattle.wit_component.proofs.Results.{err_map, moved_up, ok_map}
use Rattle.wit_types.specs.contracts.«package».PackageNamePartialEq.TheImpl.{eq-value as package_eq}
use Rattle.component_session.specs.GroupView.{texts}
use Rattle.component_session.specs.Pushes.{AreTextsPushed}
use Rattle.component_session.specs.Texts.{files_of}
use Rattle.component_linker.specs.Program.{main_text, packages_of}
use Rattle.component_linker.specs.Stops.{IsResolveStop, IsTextsStop, AreTextsNotTaken}
use Rattle.component_linker.proofs.Handing.{not_there, of_texts}
use Rattle.component_linker.proofs.program.push_texts.Goals as goal

pub returns-in_err-main-clause-err : goal.returns-in_err-main-clause-err
returns-in_err-main-clause-err c =
    let stop = c.in_err-main.field-0.0 in
    moved_up c.from_residual.result stop _ c.from_residual.ensures.1
    (not_there c.args.files.now (AreTextsNotTaken package_eq.it c.args.session.now.resolved (packages_of c.args.files.now c.args.inputs.now)) c.args.inputs.now stop c.in_err-main.ensures.err)

pub returns-in_err-deps-clause-err : goal.returns-in_err-deps-clause-err
returns-in_err-deps-clause-err c =
    let stop = c.in_err-deps.field-0.0 in
    moved_up c.from_residual-in_err-deps.result stop _ c.from_residual-in_err-deps.ensures.1
    (not_there c.args.files.now (AreTextsNotTaken package_eq.it c.args.session.now.resolved (packages_of c.args.files.now c.args.inputs.now)) c.args.inputs.now stop c.in_err-deps.ensures.err)

pub returns-clause-ok : goal.returns-clause-ok
returns-clause-ok c =
    let files = c.args.files.now in
    let inputs = c.args.inputs.now in
    let packages : files_of (texts c.deref.result.now) (texts c.deref-2.result.now) ≡ packages_of files inputs =
    ap (λ m. files_of m (texts c.deref-2.result.now)) (ap texts c.deref.ensures.value ∙ c.in_ok-main.ensures.ok)
    ∙ ap (files_of (flat_map (main_text files) inputs)) (ap texts c.deref-2.ensures.value ∙ c.in_ok-deps.ensures.ok) in
    ok_map c.take_texts.result (λ id h. subst (λ fs. AreTextsPushed package_eq.it c.args.session.now.resolved fs c.take_texts.new.session.resolved id) packages h) c.take_texts.ensures.ok

pub returns-clause-err : goal.returns-clause-err
returns-clause-err c =
    let files = c.args.files.now in
    let inputs = c.args.inputs.now in
    let packages : files_of (texts c.deref.result.now) (texts c.deref-2.result.now) ≡ packages_of files inputs =
    ap (λ m. files_of m (texts c.deref-2.result.now)) (ap texts c.deref.ensures.value ∙ c.in_ok-main.ensures.ok)
    ∙ ap (files_of (flat_map (main_text files) inputs)) (ap texts c.deref-2.ensures.value ∙ c.in_ok-deps.ensures.ok) in
    err_map c.take_texts.result (λ s h. of_texts files (AreTextsNotTaken package_eq.it c.args.session.now.resolved (packages_of files inputs)) inputs s (subst (λ fs. IsResolveStop (AreTextsNotTaken package_eq.it c.args.session.now.resolved fs) s) packages h)) c.take_texts.ensures.err

pub returns-clause-rest : goal.returns-clause-rest
returns-clause-rest c = c.take_texts.ensures.rest
