use Rattle.std.proofs.Common.{◌≡◌, ◌++◌, [], map}
use Rattle.component_builder.specs.Builder.{index_behind}
use Rattle.component_instances.specs.Instances.{core_argument_value}
use Rattle.component_value_types.specs.Names.{named_value}
use Rattle.component_encoding.specs.Given.{under_value}
use Rattle.component_encoding.specs.Instances.{instance_of, arguments_from}
use Rattle.component_encoding.proofs.instances.add_groups.Given as goal

abbrev pub invariant-loop-group : goal.invariant-loop-group
invariant-loop-group l =
    (l.builder ≡ l.initial.builder ++ map instance_of (map under_value l.yielded))
    × (map (named_value core_argument_value) l.args.items ≡ arguments_from (index_behind l.initial.builder (instance_of (record { text = []; items = [] }))) (map under_value l.yielded))
