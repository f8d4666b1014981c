-- What libraries are instantiated with (Component Model, Shared-Everything Dynamic Linking).
use Rattle.std.specs.Prelude.{ℕ, List, Option, Some, None, Bool, true, map, String, string_bytes}
use Rattle.std.specs.List.{list_all}
use Rattle.std.specs.declared.alloc.Global.{Global}
use Rattle.wasm_types.specs.declared.types.ExportKind.{ExportKind}
use Rattle.handed_modules.specs.declared.library.Instance.{Instance}
use Rattle.handed_modules.specs.declared.library.Instance.TheVariants as instances
use Rattle.handed_modules.specs.declared.library.Item.{Item}
use Rattle.handed_modules.specs.declared.library.MainOrAdapter.{MainOrAdapter}
use Rattle.handed_modules.specs.declared.library.MainOrAdapter.TheVariants as modules

-- the export of that name, of the instance of an adapter or library, or of the main module, which has no name
pub record ItemInput : Type 0 where
  pub alias : List ℕ
  pub kind : ExportKind
  pub which : Option (List ℕ)
  pub name : List ℕ

-- the instance of a module, or one made of single exports
pub data InstanceInput : Type 0 where
  of_module : Option (List ℕ) → InstanceInput
  of_items : List ItemInput → InstanceInput

-- an instance, under the text by which core imports name it
pub record ArgumentInput : Type 0 where
  pub name : List ℕ
  pub instance : InstanceInput

-- ---- what the Rust values stand for

abbrev pub module_name : MainOrAdapter → Option (List ℕ)
module_name modules.Main = None
module_name (modules.Adapter name) = Some (string_bytes name)

abbrev pub item_input : Item → ItemInput
item_input i = record { alias = string_bytes i.alias; kind = i.kind; which = module_name i.which; name = string_bytes i.name }

abbrev pub instance_input : Instance → InstanceInput
instance_input (instances.MainOrAdapter which) = of_module (module_name which)
instance_input (instances.Items items) = of_items (map item_input items.items)

abbrev pub argument_input : String Global × Instance → ArgumentInput
argument_input a = record { name = string_bytes a.0; instance = instance_input a.1 }

-- ---- the adapters and libraries that an instance is of

-- the main module needs no name
abbrev pub is_known : (List ℕ → Bool) → Option (List ℕ) → Bool
is_known knows None = true
is_known knows (Some name) = knows name

-- each name is known
abbrev pub are_known : (List ℕ → Bool) → InstanceInput → Bool
are_known knows (of_module which) = is_known knows which
are_known knows (of_items items) = list_all (λ (i : ItemInput). is_known knows i.which) items
