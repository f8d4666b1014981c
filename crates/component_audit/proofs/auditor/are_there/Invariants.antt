use Rattle.std.proofs.Common.{◌≡◌, map, drop}
use Rattle.std.specs.List.{list_all}
use Rattle.plain_worlds.specs.World.{function_item}
use Rattle.component_audit.specs.Tests.{is_there}
use Rattle.component_audit.proofs.auditor.are_there.Given as goal

abbrev pub invariant-loop-function : goal.invariant-loop-function
invariant-loop-function l = list_all (is_there l.names) (map (λ f. function_item f.now) l.functions) ≡ list_all (is_there l.names) (map (λ f. function_item f.now) (drop l.function-index l.functions))
