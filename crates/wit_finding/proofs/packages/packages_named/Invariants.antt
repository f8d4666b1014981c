use Rattle.std.proofs.Common.{◌≡◌, drop, take}
use Rattle.indexmap.specs.IndexMap.{keys}
use Rattle.wit_finding.specs.Packages as spec
use Rattle.wit_finding.proofs.packages.packages_named.Given as goal

abbrev pub invariant-loop-place : goal.invariant-loop-place
invariant-loop-place g l = record {
  left : l.place-iterator.iter ≡ drop l.place-iterator.count (keys l.deps);
  named : spec.AreNamed g.K.PartialEq.eq l.names.entries (take l.place-iterator.count l.deps.entries) l.found.items;
}
