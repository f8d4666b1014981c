use Rattle.std.proofs.Common.{◌≡◌, map, take}
use Rattle.std.specs.Prelude.{string_bytes}
use Rattle.component_audit.proofs.auditor.Listed.new.Given as goal

abbrev pub invariant-loop-function : goal.invariant-loop-function
invariant-loop-function l = l.places ≡ map (λ f. string_bytes f.name) (take l.function-index l.functions)
