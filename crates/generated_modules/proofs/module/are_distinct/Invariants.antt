use Rattle.std.proofs.Common.{◌≡◌, [], drop, map}
use Rattle.wasm_types.specs.Entries.{export_value}
use Rattle.distinct_names.specs.Names.{all_new}
use Rattle.generated_modules.proofs.module.are_distinct.Given as goal

abbrev pub invariant-loop-export : goal.invariant-loop-export
invariant-loop-export l = all_new [] (map (λ e. e.name) (map export_value l.exports)) ≡ all_new l.names (map (λ e. e.name) (map export_value (drop l.export-index l.exports)))
