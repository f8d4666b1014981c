use Rattle.std.proofs.Common.{◌≡◌, map, take}
use Rattle.std.specs.Prelude.{string_bytes}
use Rattle.type_meaning.specs.Passed.component_value_types-Names.{label_value}
use Rattle.type_writing.proofs.parts.flag_names.Given as goal

abbrev pub invariant-loop-flag : goal.invariant-loop-flag
invariant-loop-flag l = map label_value l.found.items ≡ map (λ f. string_bytes f.name) (take l.flag-index l.flags)
