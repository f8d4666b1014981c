use Rattle.wit_lookups.specs.Passed.wit_scopes-View as scope_view
use Rattle.wit_functions.proofs.Passed.wit_package_types-Filling.{filled_extends}
use Rattle.wit_resolved_scopes.proofs.Results.{first_known}
use Rattle.wit_resolved_scopes.proofs.scope.fill_in_order.Goals as goal

pub catch_up-requires : goal.catch_up-requires
catch_up-requires c =
    first_known c.args.types.now c.fill_types.new.types c.args.natures.now
    (filled_extends c.args.known.now c.args.owner c.args.types.now (scope_view.members c.args.sorted.now) c.fill_types.new.types c.in_ok-table.table c.in_ok-table.ensures) c.requires.natures
