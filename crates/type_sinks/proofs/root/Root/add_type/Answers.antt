use Rattle.std.proofs.Common.{ap, sym, ◌∙◌, ◌++◌}
use Rattle.std.proofs.lemmas.List.{append-nil}
use Rattle.component_sections.specs.Passed.component_entries-Entries.{entry_value}
use Rattle.type_writing.specs.Passed.type_meaning-Scope.{Scope, adds}
use Rattle.type_sinks.specs.Views.{root_scope, entry_values}
use Rattle.type_sinks.proofs.Rooted.{scope_push, values_push, one_more, no_more, imported_after}
use Rattle.type_sinks.proofs.root.Root.add_type.Goals as goal

pub invariant_of-self-2 : goal.invariant_of-self-2
invariant_of-self-2 c =
    let s = c.args.self.now in
    let old = root_scope s in
    let news = c.push.new.self.items in
    let more = adds old (entry_value c.args.entry) in
    let n = rw c.in_ok-next.ensures.ok_part at c.checked_add.ensures in
    let e = scope_push s.entries.items news c.args.entry c.in_ok-push.ensures.items in
    record {
      counted_types = one_more old.types _ more.types s.types c.in_ok-next.next (ap (λ (x : Scope). x.types) e) c.requires.adds.types s.counted_types n.1;
      counted_functions = no_more old.functions _ more.functions s.functions (ap (λ (x : Scope). x.functions) e) c.requires.adds.functions s.counted_functions;
      counted_instances = no_more old.instances _ more.instances s.instances (ap (λ (x : Scope). x.instances) e) c.requires.adds.instances s.counted_instances;
      named = imported_after (entry_values s) _ (entry_value c.args.entry) s.imported s.imported (values_push s.entries.items news c.args.entry c.in_ok-push.ensures.items) s.named (sym (append-nil s.imported) ∙ ap (λ l. s.imported ++ l) (sym c.requires.nothing));
    }
