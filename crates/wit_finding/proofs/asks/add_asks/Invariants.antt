use Rattle.std.proofs.Common.{◌≡◌, ◌++◌}
use Rattle.wit_finding.specs.Asks as spec
use Rattle.wit_finding.proofs.Asking.{Leads}
use Rattle.wit_finding.proofs.asks.add_asks.Given as goal

abbrev pub invariant-loop-name : goal.invariant-loop-name
invariant-loop-name l = record {
  found : l.found.items ++ spec.found_by l.asker.features.now (spec.asks_of l.«package» l.name-iterator) ≡ l.initial.found.items ++ spec.found_by l.asker.features.now (spec.asks_of l.«package» l.items.entries);
  there : spec.AreItemsThere l.asker.interfaces.now l.asker.worlds.now l.name-iterator;
  leads : Leads l.asker.features.now l.asker.interfaces.now l.asker.worlds.now (spec.asks_of l.«package» l.items.entries) (spec.asks_of l.«package» l.name-iterator);
}
