use Rattle.std.proofs.Common.{◌≡◌, map, take}
use Rattle.wit_syntax.specs.AstView as view
use Rattle.wit_worlds.specs.Worlds.{written_name, include_name}
use Rattle.wit_worlds.proofs.lists.include_names.Given as goal

abbrev pub invariant-loop-one : goal.invariant-loop-one
invariant-loop-one l = map include_name l.names.items ≡ map written_name (map view.include_name (take l.one-index l.written))
