use Rattle.std.proofs.Common.{refl, sym, ap, ◌∙◌, map}
use Rattle.component_definitions.specs.declared.externs.Description.TheVariants as descriptions
use Rattle.component_sections.specs.Passed.component_instances-Declarators.{declarator_value, declared_export}
use Rattle.type_sinks.specs.Inside.{type_count, exported_names}
use Rattle.type_sinks.specs.Views.{declarator_values}
use Rattle.type_sinks.proofs.Insides.{counted_same, named_push, either_way}
use Rattle.type_sinks.proofs.inside.InterfaceTypes.export_item.Goals as goal

pub invariant_of-self : goal.invariant_of-self
invariant_of-self c =
    let s = c.args.self.now in
    let d = declared_export c.args.name.now (descriptions.Function c.args.ty) in
    let a = c.export.ensures in
    record {
      counted = either_way c.export.result a.name a.declarator a.err (λ n e. counted_same (declarator_values s) _ d s.types e refl s.counted) (λ e. s.counted ∙ ap (λ ds. type_count (map declarator_value ds)) (sym e.1));
      named = either_way c.export.result a.name a.declarator a.err (λ n e. named_push (declarator_values s) _ d s.exported _ e s.named n) (λ e. e.0 ∙ s.named ∙ ap (λ ds. exported_names (map declarator_value ds)) (sym e.1));
    }
