use Rattle.std.proofs.Common.{◌≡◌, ◌++◌, map, take}
use Rattle.link_table.specs.Linking.{functions_at, AreFunctionsOf}
use Rattle.link_table.proofs.exports.add_exported.Given as goal

abbrev pub invariant-loop-entry : goal.invariant-loop-entry
invariant-loop-entry l = (map (λ f. f.now) l.functions.items ≡ map (λ f. f.now) l.initial.functions.items ++ functions_at (take l.entry l.world.exports.entries)) × AreFunctionsOf (take l.entry l.world.exports.entries)
