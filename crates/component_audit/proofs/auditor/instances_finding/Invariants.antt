use Rattle.std.proofs.Common.{◌≡◌, true, take, drop}
use Rattle.std.specs.List.{list_all}
use Rattle.component_audit.specs.Tests.{IsSoFar}
use Rattle.component_audit.specs.SpacesView.{all_given, is_within}
use Rattle.component_audit.proofs.auditor.instances_finding.Given as goal

abbrev pub invariant-loop-instance : goal.invariant-loop-instance
invariant-loop-instance l = record {
  so_far : IsSoFar l.found (all_given (take l.instance-index l.instances));
  within : list_all (is_within l.length) (drop l.instance-index l.instances) ≡ true;
}
