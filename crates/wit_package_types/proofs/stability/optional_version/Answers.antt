use Rattle.std.proofs.Common.{Option, Some, None, sym, subst}
use Rattle.std.specs.Prelude.{option_map}
use Rattle.wit_rules.specs.Passed.wit_productions-declared-names-Version.{Version}
use Rattle.wit_rules.specs.Passed.wit_syntax-AstView as view
use Rattle.wit_package_types.specs.Stability.{IsVersionWhere, no_version, a_version}
use Rattle.wit_package_types.proofs.stability.optional_version.Goals as goal

pub returns-in-None : goal.returns-in-None
returns-in-None c = subst (λ (v : Option Version). IsVersionWhere (option_map view.version v) None) (sym c.in-None.is) no_version

pub returns-in_ok-version_of-in-Some : goal.returns-in_ok-version_of-in-Some
returns-in_ok-version_of-in-Some c =
    subst (λ (v : Option Version). IsVersionWhere (option_map view.version v) (Some c.in_ok-version_of-in-Some.field-0)) (sym c.in-Some.is)
    (a_version (view.version c.in-Some.version) c.in_ok-version_of-in-Some.field-0 c.in_ok-version_of-in-Some.ensures)
