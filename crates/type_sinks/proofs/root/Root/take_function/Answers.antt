use Rattle.std.proofs.lemmas.Result.{IfOk-weaker}
use Rattle.component_definitions.specs.declared.sorts.ComponentSort.TheVariants as sorts
use Rattle.component_definitions.specs.Aliases.{instance_export}
use Rattle.component_sections.specs.Passed.component_entries-Entries.{an_alias}
use Rattle.type_writing.proofs.Standing.{in_either}
use Rattle.type_sinks.specs.Views.{root_scope}
use Rattle.type_sinks.proofs.RootImports.{take_function_keeps}
use Rattle.type_sinks.proofs.Rooted.{root_keeps, same_good, alias_function}
use Rattle.type_sinks.proofs.PlacedRoot.{alias_placed, same_placed}
use Rattle.type_sinks.proofs.root.Root.take_function.Goals as goal

pub returns : goal.returns
returns c =
    let old = c.args.self.now in
    let new = c.push_function.new.self in
    let k = c.args.instance in
    let n = c.args.name.now in
    let r = c.push_function.result in
    let a = c.push_function.ensures in
    record {
      ok = a.ok;
      err = a.err;
      good = λ types. in_either r _ (λ i h. root_keeps old new (an_alias (instance_export sorts.Function k n)) types h.1 (take_function_keeps (root_scope old) k n)) (same_good old new types) a.ok a.err;
      placed = λ lt p. in_either r _ (λ i h. alias_placed old new sorts.Function k n lt h.1 p) (λ s. same_placed old new s p) a.ok a.err;
      is = IfOk-weaker r _ _ (λ i h site types params answer. alias_function old new k n i site types params answer h.0 h.1) a.ok;
      cause = a.cause;
    }
