use Rattle.std.proofs.Common.{◌≡◌, ◌≤◌, length, filter, take}
use Rattle.component_definitions.specs.Canonical.{is_encoding}
use Rattle.component_definitions.proofs.canonical.count_of_encodings.Given as goal

abbrev pub invariant-loop-option : goal.invariant-loop-option
invariant-loop-option l = (l.count ≡ length (filter is_encoding (take l.option-index l.options))) × (l.count ≤ l.option-index)
