-- Names within each interface of a resolved package differ (WIT, Item: `interface`).
use Rattle.std.specs.Prelude.{◌≡◌, ℕ, List, Some, String, slice_get, string_bytes}
use Rattle.std.specs.declared.alloc.Global.{Global}
use Rattle.wit_types.specs.declared.interface.Interface.{Interface}
use Rattle.wit_types.specs.declared.«package».UnresolvedPackage.{UnresolvedPackage}
use Rattle.wit_package.specs.Passed.wit_syntax-Ast.{FileTree}
use Rattle.wit_labels.specs.Passed.wit_placed-Naming.{HaveNamesApart}
use Rattle.wit_graph_parts.specs.Own.{own_parts}
use Rattle.wit_offsets.specs.Offsets.{package_at}
use Rattle.wit_package.specs.Steps.{Resolves}

-- interfaces of other packages have neither types nor functions
abbrev pub NamesAreApart : Type 0
NamesAreApart = (files : List FileTree) (p : UnresolvedPackage) → Resolves files p → HaveNamesApart p.interfaces

-- two of the package's own interfaces have different names
abbrev pub AreInterfacesNamedApart : UnresolvedPackage → Type 0
AreInterfacesNamedApart p =
    (i j : ℕ) (d e : Interface) (x y : String Global) → slice_get (own_parts p).interfaces i ≡ Some d → slice_get (own_parts p).interfaces j ≡ Some e → d.name ≡ Some x → e.name ≡ Some y → string_bytes x ≡ string_bytes y → i ≡ j

abbrev pub InterfacesAreNamedApart : Type 0
InterfacesAreNamedApart = (files : List FileTree) (p : UnresolvedPackage) → Resolves files p → AreInterfacesNamedApart p

-- wherever its places are
abbrev pub MovedInterfacesAreNamedApart : Type 0
MovedInterfacesAreNamedApart = (p : UnresolvedPackage) (n : ℕ) → AreInterfacesNamedApart p → AreInterfacesNamedApart (package_at n p)
