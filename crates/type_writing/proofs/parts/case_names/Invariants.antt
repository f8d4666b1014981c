use Rattle.std.proofs.Common.{◌≡◌, map, take}
use Rattle.std.specs.Prelude.{string_bytes}
use Rattle.type_meaning.specs.Passed.component_value_types-Names.{label_value}
use Rattle.type_writing.proofs.parts.case_names.Given as goal

abbrev pub invariant-loop-case : goal.invariant-loop-case
invariant-loop-case l = map label_value l.found.items ≡ map (λ c. string_bytes c.name) (take l.case-index l.cases)
