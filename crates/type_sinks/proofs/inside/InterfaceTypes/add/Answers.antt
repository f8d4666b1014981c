use Rattle.std.proofs.Common.{◌++◌, ◌∙◌, sym, ap}
use Rattle.std.proofs.lemmas.List.{append-nil}
use Rattle.component_sections.specs.Passed.component_instances-Declarators.{declarator_value}
use Rattle.type_sinks.specs.Views.{declarator_values}
use Rattle.type_sinks.proofs.Insides.{declarators_push, counted_push, named_push}
use Rattle.type_sinks.proofs.inside.InterfaceTypes.add.Goals as goal

pub invariant_of-self-2 : goal.invariant_of-self-2
invariant_of-self-2 c =
    let s = c.args.self.now in
    let d = declarator_value c.args.declarator in
    let n = rw c.in_ok-next.ensures.ok_part at c.checked_add.ensures in
    let e = declarators_push s.declarators.items c.push.new.self.items c.args.declarator c.in_ok-push.ensures.items in
    record {
      counted = counted_push (declarator_values s) _ d s.types c.in_ok-next.next e c.requires.count s.counted n.1;
      named = named_push (declarator_values s) _ d s.exported s.exported e s.named (sym (append-nil s.exported) ∙ ap (λ l. s.exported ++ l) (sym c.requires.name));
    }
