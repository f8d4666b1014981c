use Rattle.std.proofs.Common.{◌≡◌, ◌++◌, drop}
use Rattle.wit_productions.specs.NameView as view
use Rattle.wit_selection.specs.Selection as spec
use Rattle.wit_selection.proofs.packages.exact_ids.Given as goal

abbrev pub invariant-loop-index : goal.invariant-loop-index
invariant-loop-index l = l.ids.items ++ spec.ids_where (spec.is_exactly (view.package_name l.path)) l.index (drop l.index l.packages) ≡ spec.ids_where (spec.is_exactly (view.package_name l.path)) 0 l.packages
