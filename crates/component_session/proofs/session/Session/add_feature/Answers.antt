use Rattle.wit_types.specs.contracts.«package».PackageNamePartialEq.TheImpl.{eq-value as package_eq}
use Rattle.component_session.proofs.Keeping.{kept_feature}
use Rattle.component_session.proofs.session.Session.add_feature.Goals as goal

pub invariant_of-self : goal.invariant_of-self
invariant_of-self c = kept_feature package_eq.it _ _ _ _ c.self.invariant c.add_feature.result _ c.add_feature.ensures.ok c.add_feature.ensures.err
