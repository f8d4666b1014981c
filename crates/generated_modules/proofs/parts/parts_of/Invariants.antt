use Rattle.std.proofs.Common.{◌≡◌, map}
use Rattle.generated_sections.specs.Sections.{section_value}
use Rattle.generated_modules.specs.Parts.{parts_value, gathered}
use Rattle.generated_modules.proofs.parts.parts_of.Given as goal

abbrev pub invariant-loop-section : goal.invariant-loop-section
invariant-loop-section l = parts_value l.parts ≡ gathered (map section_value l.yielded)
