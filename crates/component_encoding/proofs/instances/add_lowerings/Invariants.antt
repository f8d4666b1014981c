use Rattle.std.proofs.Common.{◌≡◌, ◌++◌, ◌+◌, map, take}
use Rattle.wasm_types.specs.Entries.{import_value}
use Rattle.component_builder.specs.Builder.{index_behind}
use Rattle.core_links.specs.Imports.{RepeatsPair}
use Rattle.component_encoding.specs.Given.{under_value, AreGivenFor, MayBeGiven}
use Rattle.component_encoding.specs.Instances.{lowering_of}
use Rattle.component_encoding.proofs.instances.add_lowerings.Given as goal

abbrev pub invariant-loop-place : goal.invariant-loop-place
invariant-loop-place l =
    (l.builder ≡ l.initial.builder ++ map lowering_of (take l.place l.functions))
    × AreGivenFor (index_behind l.initial.builder (lowering_of 0)) (map import_value (take l.place l.imports)) (map under_value l.given.groups.items)
    × ((RepeatsPair (map import_value l.imports) → ⊥) → MayBeGiven (index_behind l.initial.builder (lowering_of 0) + l.place) (map under_value l.given.groups.items))
