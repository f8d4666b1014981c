use Rattle.text_graphs.specs.Passed.wit_package-GroupView.{texts}
use Rattle.text_graphs.specs.Passed.wit_resolution-Texts.{files_of}
use Rattle.wit_types.specs.contracts.«package».PackageNamePartialEq.TheImpl.{eq-value as package_eq}
use Rattle.component_session.proofs.Keeping.{kept_after}
use Rattle.component_session.proofs.session.Session.push_texts.Goals as goal

pub invariant_of-self : goal.invariant_of-self
invariant_of-self c =
    kept_after package_eq.it _ _ _ _ (files_of (texts c.args.main.now) (texts c.args.deps.now)) c.self.invariant c.push_texts.result c.push_texts.ensures.ok c.push_texts.ensures.more c.push_texts.ensures.err
