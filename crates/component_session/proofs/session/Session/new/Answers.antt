use Rattle.std.proofs.Common.{None, sym, subst}
use Rattle.wit_types.specs.contracts.«package».PackageNamePartialEq.TheImpl.{eq-value as package_eq}
use Rattle.component_session.specs.Kept.{WellKept}
use Rattle.component_session.proofs.Keeping.{first_kept}
use Rattle.component_session.proofs.session.Session.new.Goals as goal

pub invariant_of-result : goal.invariant_of-result
invariant_of-result c = subst (λ ms. WellKept package_eq.it c.new.result None ms) (sym c.new-2.ensures) (first_kept package_eq.it c.new.result c.new.ensures)
