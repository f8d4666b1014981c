-- Names that tell packages and their interfaces apart (WIT, Package Names; Component Model, Import and Export Definitions).
use Rattle.std.specs.Prelude.{◌≡◌, ℕ, List, Some, String, slice_get, string_bytes}
use Rattle.std.specs.declared.alloc.Global.{Global}
use Rattle.wit_types.specs.Package.{interface_text, package_text}
use Rattle.wit_types.specs.declared.interface.Interface.{Interface}
use Rattle.wit_types.specs.declared.«package».Package.{Package}
use Rattle.wit_names.specs.Names.{IsTextOf}
use Rattle.wit_labels.specs.Passed.wit_plain_texts-Plain.{IsPlain}

-- no two packages have one text, and no two interfaces of a package one name; parts of names have no marks
pub record AreNamedApart (packages : List Package) (interfaces : List Interface) : Type 0 where
  pub packages_apart : (p q : ℕ) (a b : Package) → slice_get packages p ≡ Some a → slice_get packages q ≡ Some b → package_text a.name ≡ package_text b.name → p ≡ q
  pub interfaces_apart : (i j p : ℕ) (d e : Interface) (x y : String Global) → slice_get interfaces i ≡ Some d → slice_get interfaces j ≡ Some e → d.«package» ≡ Some p → e.«package» ≡ Some p
      → d.name ≡ Some x → e.name ≡ Some y → string_bytes x ≡ string_bytes y → i ≡ j
  pub namespaces : (p : ℕ) (a : Package) → slice_get packages p ≡ Some a → IsPlain (string_bytes a.name.namespace)
  pub names : (p : ℕ) (a : Package) → slice_get packages p ≡ Some a → IsPlain (string_bytes a.name.name)
  pub interface_names : (i : ℕ) (d : Interface) (x : String Global) → slice_get interfaces i ≡ Some d → d.name ≡ Some x → IsPlain (string_bytes x)

-- no two interfaces that a package holds have one name, and names have no marks
pub record AreOwnNamedApart (interfaces : List Interface) : Type 0 where
  pub apart : (i j : ℕ) (d e : Interface) (x y : String Global) → slice_get interfaces i ≡ Some d → slice_get interfaces j ≡ Some e → d.name ≡ Some x → e.name ≡ Some y → string_bytes x ≡ string_bytes y → i ≡ j
  pub names : (i : ℕ) (d : Interface) (x : String Global) → slice_get interfaces i ≡ Some d → d.name ≡ Some x → IsPlain (string_bytes x)

-- then no two interfaces have one text
abbrev pub NamesTellInterfacesApart : Type 0
NamesTellInterfacesApart = (packages : List Package) (interfaces : List Interface) (i j : ℕ) (text : List ℕ) → AreNamedApart packages interfaces
    → IsTextOf interface_text packages interfaces i (Some text) → IsTextOf interface_text packages interfaces j (Some text) → i ≡ j
