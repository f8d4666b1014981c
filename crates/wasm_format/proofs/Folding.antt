-- A module that is gathered section by section.
use Rattle.std.proofs.Common.{List, []}
use Rattle.wasm_sections.specs.Module.{SectionValue}
use Rattle.wasm_format.specs.Module.{ModuleValue, module_of}

-- what sections hold, before the functions' types are gathered
abbrev pub parts_of : List SectionValue → ModuleValue
parts_of ss = record (module_of ss) { function_space = [] }
