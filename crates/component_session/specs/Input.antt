-- The input of a session: all that was handed in, and what of it is linked.
use Rattle.std.specs.Prelude.{◌≡◌, ℕ, Bool, true, false, List, [], Option, Some, None, option_and_then, slice_get}
use Rattle.wasm_format.specs.Module.{ModuleValue}
use Rattle.wasm_format.specs.Grammar.{IsModule}
use Rattle.wit_component.specs.Linking.{Linking, main_of}
use Rattle.handed_modules.specs.Modules.{ModuleInput, main_module, has_others}
use Rattle.link_lines.specs.declared.encoding.StringEncoding.{StringEncoding}
use Rattle.linked_components.specs.Passed.link_table-Linking.{Linking as WideLinking}
use Rattle.linked_components.specs.Build.{AreNamesOf}
use Rattle.plain_worlds.specs.World.{WorldMeaning, plain_world}
use Rattle.text_graphs.specs.Passed.wit_resolution-Pushes.{Resolved, nothing_resolved}
use Rattle.wit_types.specs.declared.world.World.{World}

pub record OptionsInput : Type 0 where
  pub merge_imports_based_on_semver : Bool
  pub emit_canonical_names : Bool
  pub reject_legacy_names : Bool
  pub shim_return_call_ref : Bool
  pub debug_names : Bool
  pub validate : Bool
  pub import_name_map : List (List ℕ × List ℕ)

pub record Input : Type 0 where
  -- the packages, with the features that are active and all texts
  pub resolved : Resolved
  pub world : Option ℕ
  -- the modules that were handed in, each once
  pub modules : List ModuleInput
  pub options : OptionsInput

abbrev pub first_options : OptionsInput
first_options = record {
  merge_imports_based_on_semver = true;
  emit_canonical_names = false;
  reject_legacy_names = false;
  shim_return_call_ref = false;
  debug_names = false;
  validate = false;
  import_name_map = [];
}

abbrev pub empty_input : Input
empty_input = record { resolved = nothing_resolved; world = None; modules = []; options = first_options }

-- the worlds, each with all that it imports in the end
abbrev pub worlds_of : Resolved → List World
worlds_of r = r.graph.tables.worlds.elaborated

-- the plain functions of a world, if it is linked so far
abbrev pub world_at : Input → ℕ → Option WorldMeaning
world_at input w = option_and_then plain_world (slice_get (worlds_of input.resolved) w)

-- the main module
abbrev pub main_in : Input → Option ModuleInput
main_in input = main_module input.modules

-- adapters or libraries were handed in
abbrev pub HasOthers : Input → Type 0
HasOthers input = has_others input.modules ≡ true

-- ---- what is linked

-- the chosen world has these plain functions
abbrev pub IsChosen : Input → WorldMeaning → Type 0
IsChosen input plain = (chosen : ℕ) × (input.world ≡ Some chosen) × (world_at input chosen ≡ Some plain)

-- the main module, the only one that was handed in, as its bytes are read
pub record IsMainModule (input : Input) (bytes : List ℕ) (encoding : StringEncoding) (core : ModuleValue) : Type 0 where
  pub alone : HasOthers input → ⊥
  pub handed : ModuleInput
  pub hands : main_in input ≡ Some handed
  pub bytes_are : bytes ≡ handed.bytes
  pub encoding_is : encoding ≡ handed.encoding
  pub reads : IsModule handed.bytes core

-- the plain functions of the chosen world, and the main module, the only one that was handed in, as its bytes are read
pub record IsLinkingOf (input : Input) (l : Linking) : Type 0 where
  pub alone : HasOthers input → ⊥
  pub chosen : ℕ
  pub handed : ModuleInput
  pub core : ModuleValue
  pub chooses : input.world ≡ Some chosen
  pub world : world_at input chosen ≡ Some l.world
  pub hands : main_in input ≡ Some handed
  pub reads : IsModule handed.bytes core
  pub main : l.main ≡ main_of handed.bytes core
  pub rejects : l.rejects_legacy ≡ input.options.reject_legacy_names

-- the chosen world with all that it has, and that module
pub record IsWideLinkingOf (input : Input) (l : WideLinking) : Type 0 where
  pub alone : HasOthers input → ⊥
  pub chosen : ℕ
  pub handed : ModuleInput
  pub chooses : input.world ≡ Some chosen
  pub names : AreNamesOf input.resolved.graph.tables chosen l.names
  pub hands : main_in input ≡ Some handed
  pub reads : IsModule handed.bytes l.main
  pub encoding : l.encoding ≡ handed.encoding
  pub rejects : l.names.rejects_legacy ≡ input.options.reject_legacy_names
