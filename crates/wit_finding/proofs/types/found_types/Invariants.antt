use Rattle.std.proofs.Common.{◌≡◌, ◌++◌, map, drop}
use Rattle.wit_finding.specs.Types as spec
use Rattle.wit_finding.proofs.types.found_types.Given as goal

abbrev pub invariant-loop-def : goal.invariant-loop-def
invariant-loop-def l = l.found ++ map (spec.type_found l.interfaces l.places) (drop l.def-index l.defs) ≡ map (spec.type_found l.interfaces l.places) l.defs
