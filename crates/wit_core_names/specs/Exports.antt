-- The names by which core modules export (Component Model, Build Targets).
use Rattle.std.specs.Prelude.{◌≡◌, ℕ, List, ◌++◌, Option, Some, None, codes, string_bytes}
use Rattle.wit_names.specs.Passed.wit_types-CoreName.{core_export_name}
use Rattle.wit_names.specs.Passed.wit_types-declared-mangling-Mangling.{Mangling}
use Rattle.wit_names.specs.Passed.wit_types-declared-mangling-Mangling-TheVariants.{Standard32, Legacy}
use Rattle.wit_names.specs.Passed.wit_types-declared-world_key-WorldKey.{WorldKey}
use Rattle.wit_names.specs.Names.{IsKeyText}
use Rattle.wit_core_names.specs.Imports.{IsInterfaceNamed}
use Rattle.wit_core_names.specs.Items.{CoreExport, func, destructor, memory, initialize, realloc}
use Rattle.wit_core_names.specs.Texts.{Known, interface_text_in, IsKeyNamed, IsNameOf, HasName}
use Rattle.wit_core_names.specs.declared.items.WasmExportKind.{WasmExportKind}
use Rattle.wit_core_names.specs.declared.items.WasmExportKind.TheVariants.{Normal, PostReturn}

-- the function that is called when results are read, by the name of its function
abbrev pub post_return_name : Mangling → List ℕ → List ℕ
post_return_name Standard32 name = name ++ codes "_post"
post_return_name Legacy name = codes "cabi_post_" ++ name

abbrev pub kind_name : Mangling → WasmExportKind → List ℕ → List ℕ
kind_name m Normal name = name
kind_name m PostReturn name = post_return_name m name

abbrev pub destructor_name : Mangling → List ℕ → List ℕ → List ℕ
destructor_name Standard32 key r = codes "cm32p2|" ++ (key ++ (codes "|" ++ (r ++ codes "_dtor")))
destructor_name Legacy key r = key ++ (codes "#[dtor]" ++ r)

abbrev pub memory_name : Mangling → List ℕ
memory_name Standard32 = codes "cm32p2_memory"
memory_name Legacy = codes "memory"

abbrev pub initialize_name : Mangling → List ℕ
initialize_name Standard32 = codes "cm32p2_initialize"
initialize_name Legacy = codes "_initialize"

abbrev pub realloc_name : Mangling → List ℕ
realloc_name Standard32 = codes "cm32p2_realloc"
realloc_name Legacy = codes "cabi_realloc"

module _ (m : Mangling) (t : Known) where
  abbrev pub IsTextOf : Option WorldKey → Option (List ℕ) → Type 0
  IsTextOf None found = found ≡ None
  IsTextOf (Some key) found = (text : List ℕ) × IsKeyText (interface_text_in m) t.packages t.interfaces key (Some text) × (found ≡ Some text)

  -- a function by its name
  abbrev pub IsFunctionName : Option WorldKey → List ℕ → List ℕ → Type 0
  IsFunctionName interface own name = (key : Option (List ℕ)) × IsTextOf interface key × (name ≡ core_export_name m key own)

  -- the name by which it is exported
  abbrev pub IsExportName : CoreExport → List ℕ → Type 0
  IsExportName (func interface f kind) name = (of_function : List ℕ) × IsFunctionName interface (string_bytes f.name) of_function × (name ≡ kind_name m kind of_function)
  IsExportName (destructor interface resource) name =
      (key r : List ℕ) × IsKeyText (interface_text_in m) t.packages t.interfaces interface (Some key) × IsNameOf t.types resource r × (name ≡ destructor_name m key r)
  IsExportName memory name = name ≡ memory_name m
  IsExportName initialize name = name ≡ initialize_name m
  IsExportName realloc name = name ≡ realloc_name m

module _ (t : Known) where
  abbrev pub IsExportNamed : CoreExport → Type 0
  IsExportNamed (func interface f kind) = IsInterfaceNamed t interface
  IsExportNamed (destructor interface resource) = IsKeyNamed t.packages t.interfaces interface × HasName t.types resource
  IsExportNamed memory = Unit {0}
  IsExportNamed initialize = Unit {0}
  IsExportNamed realloc = Unit {0}
