use Rattle.wit_well_formed.specs.Passed.wit_package-GroupView.{texts}
use Rattle.wit_scopes.proofs.Outcomes.{if_err}
use Rattle.wit_types.specs.contracts.«package».PackageNamePartialEq.TheImpl.{eq-value as package_eq}
use Rattle.wit_resolution.specs.Pushes.{IsGroupsError, AreGroupsRefused, AreTextsError, AreTextsRefused, AreGroupTextsKept, AreTextsKept}
use Rattle.wit_resolution.specs.Texts.{files_of}
use Rattle.wit_resolution.proofs.Coming.{each_well_formed}
use Rattle.wit_resolution.proofs.Refusing.{texts_error, groups_left, texts_left, texts_kept, all_kept, on_err_weaker}
use Rattle.wit_resolution.proofs.resolve.Resolve.push_texts.Goals as goal

pub push_all-requires-clause-whole : goal.push_all-requires-clause-whole
push_all-requires-clause-whole c = each_well_formed c.law_parsed_packages_are_well_formed.ensures (files_of (texts c.args.main.now) (texts c.args.deps.now)) c.in-Ok.groups.items c.in-Ok.ensures.ok

pub returns-in-Ok-clause-cause : goal.returns-in-Ok-clause-cause
returns-in-Ok-clause-cause c =
    let files = files_of (texts c.args.main.now) (texts c.args.deps.now) in
    if_err c.push_all.result (IsGroupsError package_eq.it c.args.self.now c.in-Ok.groups.items) (AreTextsError package_eq.it c.args.self.now files)
    (λ kind h. AreTextsError.refused c.in-Ok.groups.items c.in-Ok.ensures.ok h) c.push_all.ensures.cause

pub returns-in-Err-clause-cause : goal.returns-in-Err-clause-cause
returns-in-Err-clause-cause c =
    texts_error package_eq.it c.args.self.now (files_of (texts c.args.main.now) (texts c.args.deps.now)) _ _ _ _ _ c.in-Err.ensures.cause.1 c.in-Err.ensures.cause.2 c.refused.ensures

pub returns-in-Ok-clause-err : goal.returns-in-Ok-clause-err
returns-in-Ok-clause-err c =
    let files = files_of (texts c.args.main.now) (texts c.args.deps.now) in
    on_err_weaker c.push_all.result (AreGroupsRefused package_eq.it c.args.self.now c.in-Ok.groups.items c.push_all.new.self) (AreTextsRefused package_eq.it c.args.self.now files c.push_all.new.self)
    (groups_left package_eq.it c.args.self.now c.push_all.new.self files c.in-Ok.groups.items c.in-Ok.ensures.ok) c.push_all.ensures.err

pub returns-in-Err-clause-err : goal.returns-in-Err-clause-err
returns-in-Err-clause-err c =
    texts_left package_eq.it c.args.self.now c.refused.new.self (files_of (texts c.args.main.now) (texts c.args.deps.now)) _ _ _ _ c.in-Err.ensures.cause.1 c.in-Err.ensures.cause.2 c.refused.ensures

pub returns-in-Ok-clause-texts : goal.returns-in-Ok-clause-texts
returns-in-Ok-clause-texts c =
    let files = files_of (texts c.args.main.now) (texts c.args.deps.now) in
    if_err c.push_all.result (λ kind. AreGroupTextsKept c.args.self.now c.in-Ok.groups.items kind c.push_all.new.self) (λ kind. AreTextsKept c.args.self.now files kind c.push_all.new.self)
    (λ kind h. all_kept c.args.self.now files c.in-Ok.groups.items kind c.push_all.new.self c.in-Ok.ensures.ok h) c.push_all.ensures.texts

pub returns-in-Err-clause-texts : goal.returns-in-Err-clause-texts
returns-in-Err-clause-texts c =
    texts_kept package_eq.it c.args.self.now (files_of (texts c.args.main.now) (texts c.args.deps.now)) _ _ _ _ _ c.in-Err.ensures.cause.1 c.in-Err.ensures.cause.2 c.refused.ensures
