use Rattle.std.proofs.Common.{◌≡◌, ◌+◌, ◌≤◌, map, drop}
use Rattle.wit_finding.specs.Own as spec
use Rattle.wit_finding.proofs.own.own_worlds.Given as goal

abbrev pub invariant-loop-world : goal.invariant-loop-world
invariant-loop-world l = record {
  places : spec.with_own l.features (record { places = l.places; next = l.next }) (map (λ d. d.stability) (drop l.world-index l.own)) ≡ spec.with_own l.features (record { places = l.fn.others; next = l.fn.base }) (map (λ d. d.stability) l.own);
  next : l.next ≤ l.fn.base + l.world-index;
}
