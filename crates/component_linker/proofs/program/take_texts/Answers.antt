use Rattle.wit_types.specs.contracts.«package».PackageNamePartialEq.TheImpl.{eq-value as package_eq}
use Rattle.component_session.specs.GroupView.{texts}
use Rattle.component_session.specs.Texts.{files_of}
use Rattle.component_linker.proofs.Handing.{not_taken}
use Rattle.component_linker.proofs.program.take_texts.Goals as goal

pub returns-in-Err-clause-err : goal.returns-in-Err-clause-err
returns-in-Err-clause-err c =
    not_taken package_eq.it c.args.session.now.resolved c.push_texts.new.self.resolved (files_of (texts c.args.main.now) (texts c.args.deps.now)) c.in-Err.error c.unresolved.result c.in-Err.ensures.cause c.in-Err.ensures.texts c.unresolved.ensures

pub returns-in-Ok-clause-ok : goal.returns-in-Ok-clause-ok
returns-in-Ok-clause-ok c = c.in-Ok.ensures.ok

pub returns-in-Ok-clause-rest : goal.returns-in-Ok-clause-rest
returns-in-Ok-clause-rest c = c.push_texts.ensures.rest

pub returns-in-Ok-clause-err : goal.returns-in-Ok-clause-err
returns-in-Ok-clause-err c = tt

pub returns-in-Err-clause-ok : goal.returns-in-Err-clause-ok
returns-in-Err-clause-ok c = tt

pub returns-in-Err-clause-rest : goal.returns-in-Err-clause-rest
returns-in-Err-clause-rest c = tt
