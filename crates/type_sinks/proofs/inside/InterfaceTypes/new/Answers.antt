use Rattle.std.proofs.Common.{ap}
use Rattle.std.specs.Prelude.{map}
use Rattle.component_sections.specs.Passed.component_instances-Declarators.{declarator_value}
use Rattle.type_sinks.proofs.Insides.{nothing_counted, nothing_named, inside_nothing}
use Rattle.type_sinks.proofs.PlacedInside.{nothing_placed}
use Rattle.type_sinks.proofs.inside.InterfaceTypes.new.Goals as goal

pub invariant_of-result : goal.invariant_of-result
invariant_of-result c = record {
  counted = nothing_counted c.new.result.items c.new.ensures.items;
  named = nothing_named c.new.result.items c.new-4.result c.new.ensures.items c.new-4.ensures;
}

pub returns-clause-good : goal.returns-clause-good
returns-clause-good c = λ types root apart. inside_nothing _ _ _ _ _ c.new-3.result.items _ c.args.interface types c.new-2.ensures c.new-3.ensures.items (ap (map declarator_value) c.new.ensures.items) root apart

pub returns-clause-placed : goal.returns-clause-placed
returns-clause-placed c = nothing_placed c.args.root _ (ap (map declarator_value) c.new.ensures.items)
