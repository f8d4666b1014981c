use Rattle.std.proofs.Common.{◌≡◌, take}
use Rattle.wit_syntax.specs.AstView as view
use Rattle.wit_scopes.specs.View as scope_view
use Rattle.wit_placeholders.specs.Passed.wit_foreign-View as asked
use Rattle.wit_package.specs.TopUses as spec
use Rattle.wit_package.proofs.top_uses.top_needs.Given as goal

abbrev pub invariant-loop-statements : goal.invariant-loop-statements
invariant-loop-statements l = asked.needs l.found.items ≡ spec.files_top_needs (view.package_name l.me) (asked.needs l.needs) (scope_view.uses (take l.statements-index l.uses))
