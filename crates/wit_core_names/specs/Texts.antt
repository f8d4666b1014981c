-- Keys of worlds and names of resources, as core names have them (Component Model, Build Targets).
use Rattle.std.specs.Prelude.{◌≡◌, ℕ, List, Some, String, string_bytes, slice_get}
use Rattle.std.specs.declared.alloc.Global.{Global}
use Rattle.wit_names.specs.Passed.wit_types-Package.{interface_text}
use Rattle.wit_names.specs.Passed.wit_types-declared-interface-Interface.{Interface}
use Rattle.wit_names.specs.Passed.wit_types-declared-interface-TypeDef.{TypeDef}
use Rattle.wit_names.specs.Passed.wit_types-declared-mangling-Mangling.{Mangling}
use Rattle.wit_names.specs.Passed.wit_types-declared-mangling-Mangling-TheVariants.{Standard32, Legacy}
use Rattle.wit_names.specs.Passed.wit_types-declared-package-Package.{Package}
use Rattle.wit_names.specs.Passed.wit_types-declared-package-PackageName.{PackageName}
use Rattle.wit_names.specs.Passed.wit_types-declared-world_key-WorldKey.{WorldKey}
use Rattle.wit_names.specs.Names.{canonical_text, IsKeyText}
use Rattle.wit_core_names.specs.declared.texts.Tables.{Tables}

-- what is known by ids
pub record Known : Type 0 where
  pub packages : List Package
  pub interfaces : List Interface
  pub types : List TypeDef

abbrev pub known : Tables → Known
known t = record { packages = t.packages.now; interfaces = t.interfaces.now; types = t.types.now }

-- the text of an interface in a spelling: that of the standard has a track in place of the version
abbrev pub interface_text_in : Mangling → PackageName → List ℕ → List ℕ
interface_text_in Standard32 = canonical_text
interface_text_in Legacy = interface_text

-- a key has a text, whatever the spelling
abbrev pub IsKeyNamed : List Package → List Interface → WorldKey → Type 0
IsKeyNamed packages interfaces key = (text : PackageName → List ℕ → List ℕ) → (t : List ℕ) × IsKeyText text packages interfaces key (Some t)

-- a type has that name
abbrev pub IsNameOf : List TypeDef → ℕ → List ℕ → Type 0
IsNameOf types id name = (d : TypeDef) × (n : String Global) × (slice_get types id ≡ Some d) × (d.name ≡ Some n) × (name ≡ string_bytes n)

abbrev pub HasName : List TypeDef → ℕ → Type 0
HasName types id = (name : List ℕ) × IsNameOf types id name
