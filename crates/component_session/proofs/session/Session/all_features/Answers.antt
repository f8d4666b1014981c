use Rattle.wit_types.specs.contracts.«package».PackageNamePartialEq.TheImpl.{eq-value as package_eq}
use Rattle.component_session.proofs.Keeping.{kept_features}
use Rattle.component_session.proofs.session.Session.all_features.Goals as goal

pub invariant_of-self : goal.invariant_of-self
invariant_of-self c = kept_features package_eq.it _ _ _ _ c.self.invariant _ c.all_features.ensures
