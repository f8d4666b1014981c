use Rattle.wit_types.specs.contracts.«package».PackageNamePartialEq.TheImpl.{eq-value as package_eq}
use Rattle.component_session.proofs.session.Session.law_packages_mean_their_texts.Goals as goal

pub returns : goal.returns
returns c come = (
  c.law_text_graphs_mean_their_texts.ensures package_eq.it c.args.self.now.resolved c.law_equal_names_are_the_same.ensures c.law_same_names_are_equal.ensures come,
  c.law_text_packages_are_there.ensures package_eq.it c.law_equal_names_are_the_same.ensures c.args.self.now.resolved come,
)
