use Rattle.std.proofs.Common.{ap, sym, length}
use Rattle.type_writing.specs.Passed.type_meaning-Scope.{Scope}
use Rattle.type_sinks.proofs.Rooted.{nothing_good, nothing_written, nothing_imported}
use Rattle.type_sinks.proofs.PlacedRoot.{none_placed}
use Rattle.type_sinks.proofs.root.Root.new.Goals as goal

pub invariant_of-result : goal.invariant_of-result
invariant_of-result c =
    let e = nothing_written c.new.result.items c.new.ensures.items in
    record {
      counted_types = ap (λ (s : Scope). length s.types) (sym e);
      counted_functions = ap (λ (s : Scope). length s.functions) (sym e);
      counted_instances = ap (λ (s : Scope). length s.instances) (sym e);
      named = nothing_imported c.new.result.items c.new-2.result c.new.ensures.items c.new-2.ensures;
    }

pub returns-clause-good : goal.returns-clause-good
returns-clause-good c = λ defs. nothing_good _ _ _ _ defs (nothing_written c.new.result.items c.new.ensures.items) c.new-3.ensures c.new-4.ensures

pub returns-clause-placed : goal.returns-clause-placed
returns-clause-placed c = none_placed c.new.result.items c.new.ensures.items
