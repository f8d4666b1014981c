use Rattle.std.proofs.Common.{refl}
use Rattle.component_definitions.specs.declared.externs.Description.TheVariants as descriptions
use Rattle.component_sections.specs.Passed.component_instances-Declarators.{declared_export}
use Rattle.type_sinks.specs.Views.{declarator_values}
use Rattle.type_sinks.proofs.Insides.{counted_push, named_push}
use Rattle.type_sinks.proofs.inside.InterfaceTypes.export_type.Goals as goal

pub invariant_of-self-2 : goal.invariant_of-self-2
invariant_of-self-2 c =
    let s = c.args.self.now in
    let d = declared_export c.args.name.now (descriptions.Equal c.args.body) in
    let n = rw c.in_ok-next.ensures.ok_part at c.checked_add.ensures in
    let a = c.in_ok-export.ensures in
    record {
      counted = counted_push (declarator_values s) _ d s.types c.in_ok-next.next a.declarator refl s.counted n.1;
      named = named_push (declarator_values s) _ d s.exported _ a.declarator s.named a.name;
    }
