use Rattle.std.proofs.Common.{◌≡◌, map}
use Rattle.wasm_sections.specs.Module.{section_value}
use Rattle.wasm_format.specs.Module.{module_value}
use Rattle.wasm_format.proofs.Folding.{parts_of}
use Rattle.wasm_format.proofs.module_reader.module_of.Given as goal

abbrev pub invariant-loop-section : goal.invariant-loop-section
invariant-loop-section l = module_value l.found ≡ parts_of (map section_value l.yielded)
