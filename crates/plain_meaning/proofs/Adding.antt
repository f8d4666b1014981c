-- What each definition adds is seen as what it adds among all definitions.
use Rattle.std.proofs.Common.{◌≡◌, ℕ, List, [], ◌∷◌, length, Bool, true, false, Option, refl, ap, ◌∙◌}
use Rattle.std.specs.Prelude.{map, slice_get, option_map}
use Rattle.std.proofs.lemmas.Slice.Zip.{AllZip-long}
use Rattle.wasm_types.specs.declared.types.ExportKind.TheVariants as kinds
use Rattle.wasm_format.specs.Module.{ModuleValue}
use Rattle.component_value_types.specs.Types.{function}
use Rattle.component_definitions.specs.declared.sorts.ComponentSort.TheVariants as components
use Rattle.component_definitions.specs.declared.externs.Description.TheVariants as descriptions
use Rattle.plain_worlds.specs.World.{FunctionTypeValue}
use Rattle.known_definitions.specs.Definition.{ArgumentValue, DefinitionValue, core_module_of, instantiation_of, inline_of, alias_of, type_of, lift_of, lower_of, import_of, export_of}
use Rattle.known_definitions.specs.Known.{named_argument, named_function, function_type, definition_of}
use Rattle.wit_component.specs.Linking as plain_main
use Rattle.wit_component.specs.Meaning as plain
use Rattle.wit_component.specs.Meaning.{CoreFunction, ComponentFunction, ImportEntry, ExportEntry}
use Rattle.type_meaning.specs.Items.{item_at, type_at, is_function, function_import, type_item as defined_item}
use Rattle.type_meaning.specs.Scope.{Scope, no_scope, in_space, import_label, exported_item}
use Rattle.component_meaning.specs.Core as cores
use Rattle.component_meaning.specs.Core.{CoreItem}
use Rattle.component_meaning.specs.Spaces as full
use Rattle.component_meaning.specs.Spaces.{if_of_kind}
use Rattle.right_components.specs.Main as full_main
use Rattle.plain_meaning.specs.Trees.{function_tree}
use Rattle.plain_meaning.specs.Seen.{type_item, function_item, import_entry, export_entry, core_item, IsInstanceSeenAs, IsSeenAs}
use Rattle.plain_meaning.specs.Law.{ExportsHaveTypes}
use Rattle.plain_meaning.proofs.Trees.{type_defined, type_found}
use Rattle.plain_meaning.proofs.Items.{function_found, lifted, imported, imported_function, exported_as}
use Rattle.plain_meaning.proofs.Core.{lowered}
use Rattle.plain_meaning.proofs.Instances.{export_found, all_given_same, main_same, is_main_same, inline_same}

-- ---- one space is added to

instance_seen : (i : plain.CoreInstance) (j : cores.CoreInstance) → IsInstanceSeenAs i j → IsSeenAs (plain.instance_space i) (full.instance_space j)
instance_seen i j h = record {
  modules = refl;
  types = refl;
  functions = refl;
  instances = refl;
  imports = refl;
  exports = refl;
  core_instances = (h, tt);
  core_functions = refl;
  core_tables = refl;
  core_memories = refl;
  core_globals = refl;
}

core_seen : (c : Option CoreFunction) (i : Option CoreItem) → i ≡ option_map core_item c → IsSeenAs (plain.core_space c) (full.core_space kinds.Func i)
core_seen c i e = record {
  modules = refl;
  types = refl;
  functions = refl;
  instances = refl;
  imports = refl;
  exports = refl;
  core_instances = tt;
  core_functions = λ k. e k ∷ [];
  core_tables = refl;
  core_memories = refl;
  core_globals = refl;
}

-- what is added to a scope
scope_seen : (types : List FunctionTypeValue) (functions : List (Option ComponentFunction)) (imports : List ImportEntry) (exports : List ExportEntry) (t : Scope)
    → t.types ≡ map type_item types → t.functions ≡ map function_item functions → t.instances ≡ [] → t.imports ≡ map import_entry imports → t.exports ≡ map export_entry exports
    → IsSeenAs (record plain.no_spaces { types = types; functions = functions; imports = imports; exports = exports }) (full.scoped t)
scope_seen types functions imports exports t a b c d e = record {
  modules = refl;
  types = a;
  functions = b;
  instances = c;
  imports = d;
  exports = e;
  core_instances = tt;
  core_functions = refl;
  core_tables = refl;
  core_memories = refl;
  core_globals = refl;
}

pub nothing_seen : IsSeenAs plain.no_spaces full.no_spaces
nothing_seen = scope_seen [] [] [] [] no_scope refl refl refl refl refl

-- ---- core instances

instantiated_seen : (bytes : List ℕ) (m : ModuleValue) (s : plain.Spaces) (t : full.Spaces) (args : List ArgumentValue) (is : Bool) → ExportsHaveTypes m → IsSeenAs s t
    → IsInstanceSeenAs (plain.instantiated (plain_main.main_of bytes m) s is args) (full.instantiated (full_main.main_of bytes m) t is (map named_argument args))
instantiated_seen bytes m s t args true typed h =
    rw (AllZip-long IsInstanceSeenAs s.instances t.core_instances h.core_instances, all_given_same m s.instances t.core_instances args m.imports h.core_instances)
    (main_same bytes m (length s.instances) (map (plain.given_for s.instances args) (map (plain_main.core_import m) m.imports)) typed)
instantiated_seen bytes m s t args false typed h = record { source = refl; exports = tt }

instance_adds : (bytes : List ℕ) (m : ModuleValue) (s : plain.Spaces) (t : full.Spaces) (k : ℕ) (args : List ArgumentValue) → ExportsHaveTypes m → IsSeenAs s t
    → IsInstanceSeenAs (plain.instantiated (plain_main.main_of bytes m) s (plain.is_main (plain_main.main_of bytes m) (slice_get s.modules k)) args)
    (full.instantiated (full_main.main_of bytes m) t (full.is_main (full_main.main_of bytes m) (slice_get t.modules k)) (map named_argument args))
instance_adds bytes m s t k args typed h =
    let is : full.is_main (full_main.main_of bytes m) (slice_get t.modules k) ≡ plain.is_main (plain_main.main_of bytes m) (slice_get s.modules k) = rw h.modules (is_main_same bytes m (slice_get s.modules k)) in
    rw is (instantiated_seen bytes m s t args (plain.is_main (plain_main.main_of bytes m) (slice_get s.modules k)) typed h)

-- ---- all definitions

pub adds_seen : (bytes : List ℕ) (m : ModuleValue) (s : plain.Spaces) (t : full.Spaces) (d : DefinitionValue) → ExportsHaveTypes m → IsSeenAs s t
    → IsSeenAs (plain.adds (plain_main.main_of bytes m) s d) (full.adds (full_main.main_of bytes m) t (definition_of d))
adds_seen bytes m s t (core_module_of b) typed h = record {
  modules = refl;
  types = refl;
  functions = refl;
  instances = refl;
  imports = refl;
  exports = refl;
  core_instances = tt;
  core_functions = refl;
  core_tables = refl;
  core_memories = refl;
  core_globals = refl;
}
adds_seen bytes m s t (instantiation_of k args) typed h =
    instance_seen (plain.instantiated (plain_main.main_of bytes m) s (plain.is_main (plain_main.main_of bytes m) (slice_get s.modules k)) args)
    (full.instantiated (full_main.main_of bytes m) t (full.is_main (full_main.main_of bytes m) (slice_get t.modules k)) (map named_argument args)) (instance_adds bytes m s t k args typed h)
adds_seen bytes m s t (inline_of es) typed h =
    instance_seen (record { source = plain.of_items; exports = plain.inline_entries s es }) (record { source = cores.of_items; exports = map (full.inline_entry t) (map named_function es) })
    (record { source = refl; exports = inline_same s t es h.core_functions })
adds_seen bytes m s t (alias_of k name) typed h =
    core_seen (plain.exported s.instances k name) (if_of_kind kinds.Func (full.core_export t.core_instances k name)) (export_found s.instances t.core_instances k name h.core_instances)
adds_seen bytes m s t (type_of f) typed h =
    let e = type_defined t.scope.types f in
    scope_seen (f ∷ []) [] [] [] (in_space components.Type_ (defined_item t.scope.types (function (function_type f)))) (λ i. e i ∷ []) refl refl refl refl
adds_seen bytes m s t (lift_of c k) typed h =
    let found : type_at is_function t.scope.types k ≡ option_map function_tree (slice_get s.types k) = rw h.types (type_found s.types k) in
    let e = ap (full.lifting c []) found ∙ lifted c (slice_get s.types k) in
    scope_seen [] (option_map (plain.lifting c) (slice_get s.types k) ∷ []) [] [] (in_space components.Function (full.lifting c [] (type_at is_function t.scope.types k))) refl (λ i. e i ∷ []) refl refl refl
adds_seen bytes m s t (lower_of f) typed h =
    let found : item_at t.scope.functions f ≡ function_item (plain.item_at s.functions f) = rw h.functions (function_found s.functions f) in
    core_seen (option_map (plain.lowering f) (plain.item_at s.functions f)) (full.lowering f [] (item_at t.scope.functions f)) (ap (full.lowering f []) found ∙ lowered f (plain.item_at s.functions f))
adds_seen bytes m s t (import_of name k) typed h =
    let found : type_at is_function t.scope.types k ≡ option_map function_tree (slice_get s.types k) = rw h.types (type_found s.types k) in
    let item = function_import (import_label name) (type_at is_function t.scope.types k) in
    let e = ap (function_import (import_label name)) found ∙ imported_function name (slice_get s.types k) in
    let d = ap (function_import (import_label name)) found ∙ imported name (slice_get s.types k) in
    scope_seen [] (option_map (plain.import_with name) (slice_get s.types k) ∷ []) (record { name = name; item = slice_get s.types k } ∷ []) []
    (record no_scope { functions = item ∷ []; imports = record { name = name; item = item } ∷ [] }) refl (λ i. e i ∷ []) refl (λ i. record { name = name; item = d i } ∷ []) refl
adds_seen bytes m s t (export_of name f k) typed h =
    let found : item_at t.scope.functions f ≡ function_item (plain.item_at s.functions f) = rw h.functions (function_found s.functions f) in
    let asked = option_map (λ (i : ℕ). descriptions.Function i) k in
    let item = exported_item t.scope.types name asked (item_at t.scope.functions f) in
    let e = ap (exported_item t.scope.types name asked) found ∙ exported_as s t.scope.types name k (plain.item_at s.functions f) h.types in
    scope_seen [] (plain.export_item s f k ∷ []) [] (record { name = name; item = plain.export_item s f k } ∷ []) (record no_scope { functions = item ∷ []; exports = record { name = name; item = item } ∷ [] })
    refl (λ i. e i ∷ []) refl refl (λ i. record { name = name; item = e i } ∷ [])
