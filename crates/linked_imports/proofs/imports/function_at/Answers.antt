use Rattle.std.proofs.Common.{◌≡◌, Some, refl, subst}
use Rattle.core_links.specs.Names.{names_in}
use Rattle.wit_core_items.specs.ImportPlaces.{import_at}
use Rattle.wit_core_names.specs.Items.{CoreImport}
use Rattle.linked_imports.proofs.imports.function_at.Goals as goal

pub returns-in-OwnFunction : goal.returns-in-OwnFunction
returns-in-OwnFunction c key f at =
    let n = names_in c.args.names.now in
    c.own_function.ensures n key f refl (subst (λ p. import_at n.known n.world p ≡ Some (CoreImport.func key f)) c.in-OwnFunction.is at)
