-- Modules that are handed in, as values.
use Rattle.std.proofs.Common.{◌≡◌, ℕ, true, false, List, [], Some, refl, subst}
use Rattle.handed_modules.specs.Library.{ArgumentInput}
use Rattle.handed_modules.specs.Modules.{ModuleInput, NamesUnknown}
use Rattle.handed_modules.specs.declared.modules.ModuleKind.{ModuleKind}
use Rattle.link_lines.specs.declared.encoding.StringEncoding.{StringEncoding}
use Rattle.wasm_format.specs.declared.fault.ModuleFault.{ModuleFault}
use Rattle.wasm_format.specs.declared.fault.ModuleFault.TheVariants as reading
use Rattle.wasm_format.specs.Grammar.{IsModuleFault}
use Rattle.component_session.specs.Faults.{of_module}
use Rattle.component_session.specs.Input.{Input, main_in}
use Rattle.component_session.specs.Refusals.{IsInputCause}

module _ (kind : ModuleKind) (bytes : List ℕ) (world : ℕ) (encoding : StringEncoding) where
  abbrev input : List ℕ → List ArgumentInput → ModuleInput
  input name arguments = record { name = name; kind = kind; bytes = bytes; world = world; encoding = encoding; arguments = arguments }

  -- what isn't so of a module isn't so of one with the same name and arguments
  pub nor : (P : ModuleInput → Type 0) (name given : List ℕ) (arguments others : List ArgumentInput) → name ≡ given → arguments ≡ others → (P (input given others) → ⊥) → P (input name arguments) → ⊥
  nor P name given arguments others same alike none h = none (subst P (λ i. input (same i) (alike i)) h)

-- a module without arguments names none that is unknown
pub none_named : (ms : List ModuleInput) (m : ModuleInput) → m.arguments ≡ [] → NamesUnknown ms m → ⊥
none_named ms m none h = (let bad : true ≡ false = rw none at h in absurd cc)

-- the bytes of the main module aren't read
pub module_cause_is : (input : Input) (handed : ModuleInput) (fault : ModuleFault) → main_in input ≡ Some handed → IsModuleFault handed.bytes fault → IsInputCause input (of_module fault)
module_cause_is input handed reading.Malformed hands h = (handed, hands, (reading.Malformed, refl, h))
module_cause_is input handed reading.Unsupported hands h = (handed, hands, (reading.Unsupported, refl, h))
module_cause_is input handed reading.TooLarge hands h = (handed, hands, (reading.TooLarge, refl, h))
module_cause_is input handed reading.OutOfMemory hands h = tt
