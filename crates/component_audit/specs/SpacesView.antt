-- What a walk has found, as values.
use Rattle.std.specs.Prelude.{◌≡◌, ℕ, nat_le, Bool, true, if◌then◌else◌, List, [], ◌∷◌, map, Option, option_map, option_and_then, slice_get}
use Rattle.std.specs.List.{flat_map, list_all}
use Rattle.wasm_types.specs.Types.{FuncTypeValue, func_type_value}
use Rattle.known_definitions.specs.declared.definition.Argument.{Argument}
use Rattle.plain_worlds.specs.World.{FunctionTypeValue}
use Rattle.known_definitions.specs.Definition.{function_type_value}
use Rattle.component_audit.specs.declared.spaces.CoreOrigin.{CoreOrigin as Whose}
use Rattle.component_audit.specs.declared.spaces.CoreOrigin.TheVariants as core_origins
use Rattle.component_audit.specs.declared.spaces.Origin.{Origin as OuterOrigin}
use Rattle.component_audit.specs.declared.spaces.Origin.TheVariants as origins
use Rattle.component_audit.specs.declared.spaces.CoreType.{CoreType}
use Rattle.component_audit.specs.declared.spaces.CoreType.TheVariants as types
use Rattle.component_audit.specs.declared.spaces.CoreFunction.{CoreFunction as Core}
use Rattle.component_audit.specs.declared.spaces.ComponentFunction.{ComponentFunction as Outer}
use Rattle.component_audit.specs.declared.spaces.Entries.{Entries}
use Rattle.component_audit.specs.declared.spaces.CoreInstance.{CoreInstance as Instance}
use Rattle.component_audit.specs.declared.spaces.CoreInstance.TheVariants as instances
use Rattle.component_audit.specs.declared.spaces.ModuleEntry.{ModuleEntry}
use Rattle.component_audit.specs.declared.spaces.TypeEntry.{TypeEntry}
use Rattle.component_audit.specs.declared.spaces.Given.{Given}
use Rattle.component_audit.specs.declared.spaces.ImportEntry.{ImportEntry as Imported}
use Rattle.component_audit.specs.declared.spaces.ExportEntry.{ExportEntry as Exported}
use Rattle.component_audit.specs.declared.spaces.Spaces.{Spaces as Found}
use Rattle.wit_component.specs.Linking.{MainModule}
use Rattle.wit_component.specs.Flat.{flat}
use Rattle.wit_component.specs.Meaning.{CoreOrigin, of_export, of_lower, Origin, of_import, of_lift, CoreFunction, ComponentFunction, CoreEntry, CoreInstance, Source, of_main, of_unknown, of_items, given_by, ImportEntry, ExportEntry, exports_of, Spaces}

abbrev pub core_origin : Whose → CoreOrigin
core_origin (core_origins.Export k name) = of_export k name.now
core_origin (core_origins.Lower n) = of_lower n

abbrev pub origin : OuterOrigin → Origin
origin (origins.Import name) = of_import name.now
origin (origins.Lift n) = of_lift n

abbrev pub core_type : CoreType → FuncTypeValue
core_type (types.Own t) = func_type_value t.now
core_type (types.Flat t) = flat (function_type_value t.now)

abbrev pub core_function : Core → CoreFunction
core_function f = record { origin = core_origin f.origin; ty = core_type f.ty }

abbrev pub component_function : Outer → ComponentFunction
component_function f = record { origin = origin f.origin; ty = function_type_value f.ty.now }

-- names beside what they name
abbrev pub core_entries : List (List ℕ) → List (Option CoreFunction) → List CoreEntry
core_entries [] items = []
core_entries (n ∷ ns) [] = []
core_entries (n ∷ ns) (f ∷ fs) = record { name = n; item = f } ∷ core_entries ns fs

-- what the entry at a place stands for
abbrev pub entry_item : List CoreEntry → ℕ → Option CoreFunction
entry_item es i = option_and_then (λ (e : CoreEntry). e.item) (slice_get es i)

-- the instance of the argument at a place
abbrev pub argument_item : List Argument → ℕ → Option ℕ
argument_item args i = option_map (λ (a : Argument). a.instance) (slice_get args i)

abbrev pub entries : Entries → List CoreEntry
entries e = core_entries e.names (map (option_map core_function) e.items.items)

abbrev pub given : Given → List (Option CoreFunction)
given g = map (option_map core_function) g.functions.items

abbrev pub source : Instance → Source
source instances.Unknown = of_unknown
source (instances.Main g) = of_main (given g)
source (instances.Inline e) = of_items

-- what each instance of the main module is given
abbrev pub all_given : List Instance → List (List (Option CoreFunction))
all_given = flat_map (λ (i : Instance). given_by (source i))

abbrev pub own_exports : MainModule → Given → List CoreEntry
own_exports main g = if g.whole then exports_of main g.index else []

abbrev pub exports : MainModule → Instance → List CoreEntry
exports main instances.Unknown = []
exports main (instances.Main g) = own_exports main g
exports main (instances.Inline e) = entries e

abbrev pub instance : MainModule → Instance → CoreInstance
instance main i = record { source = source i; exports = exports main i }

abbrev pub import_entry : Imported → ImportEntry
import_entry e = record { name = e.name.now; item = option_map (λ t. function_type_value t.now) e.item }

abbrev pub export_entry : Exported → ExportEntry
export_entry e = record { name = e.name.now; item = option_map component_function e.item }

abbrev pub module_bytes : ModuleEntry → List ℕ
module_bytes m = m.bytes.now

abbrev pub type_value : TypeEntry → FunctionTypeValue
type_value t = function_type_value t.ty.now

abbrev pub spaces : MainModule → Found → Spaces
spaces main s = record {
  modules = map module_bytes s.modules.items;
  instances = map (instance main) s.instances.items;
  core_functions = map (option_map core_function) s.core_functions.items;
  types = map type_value s.types.items;
  functions = map (option_map component_function) s.functions.items;
  imports = map import_entry s.imports.items;
  exports = map export_entry s.exports.items;
}

-- where an instance of the main module lies
abbrev pub is_within : ℕ → Instance → Bool
is_within n instances.Unknown = true
is_within n (instances.Main g) = nat_le g.offset n
is_within n (instances.Inline e) = true

-- what a finding may speak of lies within so many bytes
pub record AreWithin (n : ℕ) (s : Found) : Type 0 where
  pub instances : list_all (is_within n) s.instances.items ≡ true
  pub imports : list_all (λ e. nat_le e.offset n) s.imports.items ≡ true
  pub exports : list_all (λ e. nat_le e.offset n) s.exports.items ≡ true
