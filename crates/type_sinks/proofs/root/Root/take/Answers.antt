use Rattle.std.proofs.Common.{refl, subst, sym, ◌∙◌}
use Rattle.std.proofs.lemmas.List.{append-nil}
use Rattle.std.proofs.lemmas.Result.{IfOk-weaker}
use Rattle.component_value_types.specs.declared.values.ValueType.TheVariants.{Index}
use Rattle.component_definitions.specs.declared.sorts.ComponentSort.TheVariants as sorts
use Rattle.component_definitions.specs.Aliases.{instance_export}
use Rattle.component_sections.specs.Passed.component_entries-Entries.{an_alias}
use Rattle.wit_types.specs.declared.kind.«Type».TheVariants.{Id}
use Rattle.type_writing.specs.Passed.type_meaning-Scope.{adds}
use Rattle.type_sinks.specs.Root.{root_label}
use Rattle.type_writing.specs.Writing.{Stands}
use Rattle.type_sinks.specs.Views.{root_scope, root_names, interface_names}
use Rattle.type_sinks.proofs.RootImports.{take_keeps}
use Rattle.type_sinks.proofs.Rooted.{types_added, names_added, functions_same, instances_same, root_keeps, alias_stands}
use Rattle.type_sinks.proofs.PlacedRoot.{type_there, home_there, alias_placed}
use Rattle.type_sinks.proofs.root.Root.take.Goals as goal

pub returns-clause-ok : goal.returns-clause-ok
returns-clause-ok c =
    let old = c.args.self.now in
    let new = c.add_type.new.self in
    let k = c.in_ok-instance.instance in
    let n = c.args.name.now in
    let e = an_alias (instance_export sorts.Type_ k n) in
    let home = sym c.get.ensures ∙ c.in_ok-instance.ensures.ok_part in
    IfOk-weaker c.add_type.result _ _ (λ i h. record {
      names = h.1.names;
      imported = names_added old new e h.1 ∙ append-nil (root_names old);
      known = h.1.known;
      homes = h.1.homes;
      functions = functions_same old new e h.1 refl;
      instances = instances_same old new e h.1 refl;
      home = (k, home);
      there = type_there old new e i refl h.0 h.1;
      placed = λ types g p. alias_placed old new sorts.Type_ k n (home_there (interface_names old) types (root_scope old).instances c.args.id k (g.instances c.args.id k home)) h.1 p;
      begins = ((adds (root_scope old) e).types, types_added old new e h.1);
      good = λ types. root_keeps old new e types h.1 (take_keeps (root_scope old) k n);
      stands = λ types d g at w.
          subst (λ m. Stands (root_label m) types (root_scope new).types (Id c.args.id) (Index i)) (sym h.1.names)
          (alias_stands (interface_names old) types (root_scope old) (root_scope new) k c.args.id i d n (g.instances c.args.id k home) at w h.0 (types_added old new e h.1));
    }) c.add_type.ensures.ok
