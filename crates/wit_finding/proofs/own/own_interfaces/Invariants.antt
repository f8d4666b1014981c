use Rattle.std.proofs.Common.{◌≡◌, ◌+◌, ◌≤◌, map, drop}
use Rattle.wit_finding.specs.Own as spec
use Rattle.wit_finding.proofs.own.own_interfaces.Given as goal

abbrev pub invariant-loop-interface : goal.invariant-loop-interface
invariant-loop-interface l = record {
  places : spec.with_own l.features (record { places = l.places; next = l.next }) (map (λ d. d.stability) (drop l.interface-index l.own)) ≡ spec.with_own l.features (record { places = l.fn.others; next = l.fn.base }) (map (λ d. d.stability) l.own);
  next : l.next ≤ l.fn.base + l.interface-index;
}
