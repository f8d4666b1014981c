use Rattle.std.proofs.Common.{◌≡◌, ◌∙◌, None, Some, sym, ap, subst}
use Rattle.wit_component.proofs.Results.{moved_up}
use Rattle.component_session.specs.Pushes.{AreTextsPushed}
use Rattle.wit_types.specs.contracts.«package».PackageNamePartialEq.TheImpl.{eq-value as package_eq}
use Rattle.component_session.specs.Input.{Input}
use Rattle.component_linker.specs.Program.{file_fault, packages_of}
use Rattle.component_linker.specs.Stops.{IsFileStop, IsTextsStop, AreTextsNotTaken, IsPrepareStop}
use Rattle.component_linker.proofs.Handing.{looked, texts_stop, complete_stop, handed}
use Rattle.component_linker.proofs.program.prepare.Goals as goal

pub returns-in_err-look_at_files-clause-err : goal.returns-in_err-look_at_files-clause-err
returns-in_err-look_at_files-clause-err c =
    let files = c.args.files.now in
    let line = c.args.line.now in
    let stop = c.in_err-look_at_files.field-0.0 in
    moved_up c.from_residual.result stop (IsPrepareStop package_eq.it files line) c.from_residual.ensures.1
    (looked package_eq.it files line stop (subst (λ is. IsFileStop (λ p. file_fault files is ≡ Some p) stop) c.deref.ensures.value c.in_err-look_at_files.ensures.err))

pub returns-in_err-package-clause-err : goal.returns-in_err-package-clause-err
returns-in_err-package-clause-err c =
    let files = c.args.files.now in
    let line = c.args.line.now in
    let is = line.inputs.items in
    let stop = c.in_err-package.field-0.0 in
    let session = c.in_ok-session.session in
    let none : file_fault files is ≡ None = ap (file_fault files) (sym c.deref.ensures.value) ∙ c.in_ok-look_at_files.ensures.ok in
    moved_up c.from_residual-in_err-package.result stop (IsPrepareStop package_eq.it files line) c.from_residual-in_err-package.ensures.1
    (texts_stop package_eq.it files line stop none
    (subst (λ (i : Input). IsTextsStop files (AreTextsNotTaken package_eq.it i.resolved (packages_of files is)) is stop) c.in_ok-session.ensures
    (subst (λ js. IsTextsStop files (AreTextsNotTaken package_eq.it session.resolved (packages_of files js)) js stop) c.deref-2.ensures.value c.in_err-package.ensures.err)))

pub returns-in_err-complete-clause-err : goal.returns-in_err-complete-clause-err
returns-in_err-complete-clause-err c =
    let files = c.args.files.now in
    let line = c.args.line.now in
    let is = line.inputs.items in
    let stop = c.in_err-complete.field-0.0 in
    let texts = c.push_texts.new.session in
    let main = c.in_ok-package.«package» in
    let none : file_fault files is ≡ None = ap (file_fault files) (sym c.deref.ensures.value) ∙ c.in_ok-look_at_files.ensures.ok in
    moved_up c.from_residual-in_err-complete.result stop (IsPrepareStop package_eq.it files line) c.from_residual-in_err-complete.ensures.1
    (complete_stop package_eq.it files line texts.resolved main stop none
    (subst (λ (i : Input). AreTextsPushed package_eq.it i.resolved (packages_of files is) texts.resolved main) c.in_ok-session.ensures
    (subst (λ js. AreTextsPushed package_eq.it c.in_ok-session.session.resolved (packages_of files js) texts.resolved main) c.deref-2.ensures.value c.in_ok-package.ensures.ok))
    c.in_err-complete.ensures.err)

pub returns-clause-ok : goal.returns-clause-ok
returns-clause-ok c =
    let files = c.args.files.now in
    let line = c.args.line.now in
    let is = line.inputs.items in
    let first = c.in_ok-session.session in
    let texts = c.push_texts.new.session in
    let main = c.in_ok-package.«package» in
    let none : file_fault files is ≡ None = ap (file_fault files) (sym c.deref.ensures.value) ∙ c.in_ok-look_at_files.ensures.ok in
    handed package_eq.it files line first texts c.complete.new.session main none c.in_ok-session.ensures
    (subst (λ js. AreTextsPushed package_eq.it first.resolved (packages_of files js) texts.resolved main) c.deref-2.ensures.value c.in_ok-package.ensures.ok)
    c.in_ok-package.ensures.rest c.in_ok-complete.ensures.ok
