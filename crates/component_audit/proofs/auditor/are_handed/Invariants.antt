use Rattle.std.proofs.Common.{◌≡◌, map, drop}
use Rattle.std.specs.Prelude.{bytes_eq}
use Rattle.std.specs.List.{list_all}
use Rattle.component_audit.specs.SpacesView.{module_bytes}
use Rattle.component_audit.proofs.auditor.are_handed.Given as goal

abbrev pub invariant-loop-found : goal.invariant-loop-found
invariant-loop-found l = list_all (λ m. bytes_eq m l.linking.bytes.now) (map module_bytes l.spaces.modules.items) ≡ list_all (λ m. bytes_eq m l.linking.bytes.now) (map module_bytes (drop l.found-index l.spaces.modules.items))
