use Rattle.std.proofs.Common.{◌≡◌, map, take}
use Rattle.plain_worlds.specs.World.{function_item}
use Rattle.plain_imports.specs.Imports.{names_of}
use Rattle.plain_imports.proofs.imports.names_of.Given as goal

abbrev pub invariant-loop-function : goal.invariant-loop-function
invariant-loop-function l = l.names ≡ names_of (map function_item (take l.function-index l.functions))
