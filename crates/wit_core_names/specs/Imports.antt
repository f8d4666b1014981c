-- The names by which core modules import (Component Model, Build Targets).
use Rattle.std.specs.Prelude.{◌≡◌, ℕ, List, ◌++◌, Option, Some, None, codes, string_bytes}
use Rattle.wit_names.specs.Passed.wit_types-declared-mangling-Mangling.{Mangling}
use Rattle.wit_names.specs.Passed.wit_types-declared-mangling-Mangling-TheVariants.{Standard32, Legacy}
use Rattle.wit_names.specs.Passed.wit_types-declared-world_key-WorldKey.{WorldKey}
use Rattle.wit_names.specs.Names.{IsKeyText}
use Rattle.wit_core_names.specs.Items.{CoreImport, func, intrinsic}
use Rattle.wit_core_names.specs.Texts.{Known, interface_text_in, IsKeyNamed, IsNameOf, HasName}
use Rattle.wit_core_names.specs.declared.items.ResourceIntrinsic.{ResourceIntrinsic}
use Rattle.wit_core_names.specs.declared.items.ResourceIntrinsic.TheVariants.{ImportedDrop, ExportedDrop, ExportedNew, ExportedRep}

-- ---- modules: of the world's own, of an interface, and of an exported interface

abbrev pub root_module : Mangling → List ℕ
root_module Standard32 = codes "cm32p2"
root_module Legacy = codes "$root"

abbrev pub interface_module : Mangling → List ℕ → List ℕ
interface_module Standard32 key = codes "cm32p2|" ++ key
interface_module Legacy key = key

abbrev pub exported_module : Mangling → List ℕ → List ℕ
exported_module Standard32 key = codes "cm32p2|_ex_" ++ key
exported_module Legacy key = codes "[export]" ++ key

-- ---- names: what is done with a resource of that name

abbrev pub drop_name : Mangling → List ℕ → List ℕ
drop_name Standard32 r = r ++ codes "_drop"
drop_name Legacy r = codes "[resource-drop]" ++ r

abbrev pub new_name : Mangling → List ℕ → List ℕ
new_name Standard32 r = r ++ codes "_new"
new_name Legacy r = codes "[resource-new]" ++ r

abbrev pub rep_name : Mangling → List ℕ → List ℕ
rep_name Standard32 r = r ++ codes "_rep"
rep_name Legacy r = codes "[resource-rep]" ++ r

abbrev pub intrinsic_name : Mangling → ResourceIntrinsic → List ℕ → List ℕ
intrinsic_name m ImportedDrop r = drop_name m r
intrinsic_name m ExportedDrop r = drop_name m r
intrinsic_name m ExportedNew r = new_name m r
intrinsic_name m ExportedRep r = rep_name m r

abbrev pub side_module : Mangling → ResourceIntrinsic → List ℕ → List ℕ
side_module m ImportedDrop key = interface_module m key
side_module m ExportedDrop key = exported_module m key
side_module m ExportedNew key = exported_module m key
side_module m ExportedRep key = exported_module m key

-- ---- what is imported

module _ (m : Mangling) (t : Known) where
  abbrev pub IsModuleOf : (List ℕ → List ℕ) → Option WorldKey → List ℕ → Type 0
  IsModuleOf of_key None module_text = module_text ≡ root_module m
  IsModuleOf of_key (Some key) module_text = (text : List ℕ) × IsKeyText (interface_text_in m) t.packages t.interfaces key (Some text) × (module_text ≡ of_key text)

  -- the module and the name by which it is imported
  abbrev pub IsImportName : CoreImport → List ℕ → List ℕ → Type 0
  IsImportName (func interface f) module_text name = IsModuleOf (interface_module m) interface module_text × (name ≡ string_bytes f.name)
  IsImportName (intrinsic interface resource what) module_text name =
      IsModuleOf (side_module m what) interface module_text × ((r : List ℕ) × IsNameOf t.types resource r × (name ≡ intrinsic_name m what r))

-- ---- what has a name

-- only an interface has exported resources of which modules import something
abbrev pub IsOnSide : ResourceIntrinsic → Option WorldKey → Type 0
IsOnSide ImportedDrop interface = Unit {0}
IsOnSide ExportedDrop interface = (key : WorldKey) × (interface ≡ Some key)
IsOnSide ExportedNew interface = (key : WorldKey) × (interface ≡ Some key)
IsOnSide ExportedRep interface = (key : WorldKey) × (interface ≡ Some key)

module _ (t : Known) where
  abbrev pub IsInterfaceNamed : Option WorldKey → Type 0
  IsInterfaceNamed None = Unit {0}
  IsInterfaceNamed (Some key) = IsKeyNamed t.packages t.interfaces key

  abbrev pub IsImportNamed : CoreImport → Type 0
  IsImportNamed (func interface f) = IsInterfaceNamed interface
  IsImportNamed (intrinsic interface resource what) = IsInterfaceNamed interface × IsOnSide what interface × HasName t.types resource
