use Rattle.std.proofs.Common.{◌≡◌, ◌++◌, filter}
use Rattle.wit_core_names.specs.Texts.{known}
use Rattle.wit_core_items.specs.World.{is_resource, resources}
use Rattle.wit_core_items.proofs.resources.resources.Given as goal

abbrev pub invariant-loop-id : goal.invariant-loop-id
invariant-loop-id l = l.found.items ++ filter (is_resource (known l.tables)) l.id-iterator ≡ resources (known l.tables) l.types.entries
