-- Which bytes are a core module, and why others aren't read (WebAssembly Core, Binary Format, Modules).
use Rattle.std.specs.Prelude.{◌≡◌, ◌<◌, ◌≤◌, ◌^◌, ℕ, List, length}
use Rattle.binary_grammar.specs.declared.fault.Fault.{Fault}
use Rattle.binary_grammar.specs.declared.fault.Rule.{Rule}
use Rattle.binary_grammar.specs.declared.fault.Rule.TheVariants as rules
use Rattle.binary_grammar.specs.Syntax.{meaning}
use Rattle.wasm_sections.specs.Module.{SectionValue, AreSections, file, nothing}
use Rattle.wasm_format.specs.declared.fault.ModuleFault.{ModuleFault}
use Rattle.wasm_format.specs.declared.fault.ModuleFault.TheVariants as faults
use Rattle.wasm_format.specs.Module.{ModuleValue, module_of}

-- the bytes are this module
pub record IsModule (bytes : List ℕ) (m : ModuleValue) : Type 0 where
  pub sections : List SectionValue
  pub are : AreSections bytes sections
  pub made : module_of sections ≡ m
  pub small : length bytes < 2 ^ 32

-- the parts of a module stand in the bytes, one after the other, up to the one that breaks this rule, and so many
-- bytes are left there
abbrev pub BreaksModule : List ℕ → Fault → Type 0
BreaksModule bytes e = (meaning file nothing).breaks bytes e

-- what a broken rule is called
abbrev pub fault_of : Rule → ModuleFault
fault_of rules.Unsupported = faults.Unsupported
fault_of rule = faults.Malformed

-- what is wrong with the bytes: they break a rule that is called this, or are too many, or memory ran out
abbrev pub IsModuleFault : List ℕ → ModuleFault → Type 0
IsModuleFault bytes faults.OutOfMemory = Unit {0}
IsModuleFault bytes faults.TooLarge = 2 ^ 32 ≤ length bytes
IsModuleFault bytes faults.Malformed = (length bytes < 2 ^ 32) × (e : Fault) × BreaksModule bytes e × (fault_of e.rule ≡ faults.Malformed)
IsModuleFault bytes faults.Unsupported = (length bytes < 2 ^ 32) × (e : Fault) × BreaksModule bytes e × (fault_of e.rule ≡ faults.Unsupported)
