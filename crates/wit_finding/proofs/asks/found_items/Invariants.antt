use Rattle.std.proofs.Common.{◌≡◌, ◌++◌, drop}
use Rattle.indexmap.specs.IndexMap.{values}
use Rattle.wit_finding.specs.Asks as spec
use Rattle.wit_finding.proofs.Asking.{Leads, asks_from}
use Rattle.wit_finding.proofs.asks.found_items.Given as goal

abbrev pub invariant-loop-place : goal.invariant-loop-place
invariant-loop-place g l = record {
  left : l.place-iterator.iter ≡ drop l.place-iterator.count (values l.deps);
  found : l.found.items ++ spec.found_by l.asker.features.now (asks_from l.packages l.ids (spec.items_of l.deps.entries) l.place-iterator.count) ≡ spec.found_by l.asker.features.now (spec.asks_in l.packages l.ids (spec.items_of l.deps.entries));
  leads : Leads l.asker.features.now l.asker.interfaces.now l.asker.worlds.now (spec.asks_in l.packages l.ids (spec.items_of l.deps.entries)) (asks_from l.packages l.ids (spec.items_of l.deps.entries) l.place-iterator.count);
}
