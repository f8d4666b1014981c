use Rattle.std.proofs.Common.{refl, ap}
use Rattle.component_definitions.specs.declared.externs.Description.TheVariants as descriptions
use Rattle.component_sections.specs.Passed.component_entries-Entries.{an_import}
use Rattle.type_writing.specs.Passed.type_meaning-Scope.{Scope, adds}
use Rattle.type_sinks.specs.Views.{root_scope, entry_values}
use Rattle.type_sinks.proofs.Rooted.{scope_after, one_more, no_more, imported_after}
use Rattle.type_sinks.proofs.root.Root.add_function.Goals as goal

pub invariant_of-self-2 : goal.invariant_of-self-2
invariant_of-self-2 c =
    let s = c.args.self.now in
    let old = root_scope s in
    let d = an_import (record { name = c.args.name.now; description = descriptions.Function c.args.ty }) in
    let more = adds old d in
    let n = rw c.in_ok-next.ensures.ok_part at c.checked_add.ensures in
    let a = c.in_ok-import.ensures in
    let e = scope_after (entry_values s) _ d a.entry in
    record {
      counted_types = no_more old.types _ more.types s.types (ap (λ (x : Scope). x.types) e) refl s.counted_types;
      counted_functions = one_more old.functions _ more.functions s.functions c.in_ok-next.next (ap (λ (x : Scope). x.functions) e) refl s.counted_functions n.1;
      counted_instances = no_more old.instances _ more.instances s.instances (ap (λ (x : Scope). x.instances) e) refl s.counted_instances;
      named = imported_after (entry_values s) _ d s.imported _ a.entry s.named a.name;
    }
