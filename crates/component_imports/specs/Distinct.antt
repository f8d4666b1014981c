-- Names within an interface: no two of its types and functions have one (WIT, Item: `interface`).
use Rattle.std.specs.Prelude.{◌≡◌, ℕ, List, Some, true, slice_get, String, string_bytes}
use Rattle.std.specs.declared.alloc.Global.{Global}
use Rattle.wit_order.specs.Order.{Has}
use Rattle.wit_types.specs.declared.function.Function.{Function}
use Rattle.wit_types.specs.declared.interface.TypeDef.{TypeDef}
use Rattle.type_sinks.specs.Inside.{is_of}
use Rattle.component_imports.specs.Ready.{HaveDistinctItems}

-- the type is the interface's, and has that name
pub record IsNamedIn (types : List TypeDef) (interface i : ℕ) (name : List ℕ) : Type 0 where
  pub type_def : TypeDef
  pub there : slice_get types i ≡ Some type_def
  pub its : is_of interface type_def.owner ≡ true
  pub own_name : String Global
  pub named : type_def.name ≡ Some own_name
  pub is : string_bytes own_name ≡ name

-- no two types of an interface have one name, no two of its functions, and no type has that of a function
pub record AreNamesApart (types : List TypeDef) (linked : List (List Function)) : Type 0 where
  pub types_apart : (own i j : ℕ) (name : List ℕ) → IsNamedIn types own i name → IsNamedIn types own j name → i ≡ j
  pub functions_apart : (own : ℕ) (fs : List Function) (i j : ℕ) (f g : Function) → slice_get linked own ≡ Some fs → slice_get fs i ≡ Some f → slice_get fs j ≡ Some g → string_bytes f.name ≡ string_bytes g.name → i ≡ j
  pub between : (own : ℕ) (fs : List Function) (i : ℕ) (f : Function) → slice_get linked own ≡ Some fs → Has fs f → IsNamedIn types own i (string_bytes f.name) → ⊥

-- then no two items that an instance of an interface exports have one
abbrev pub ApartAreDistinct : Type 0
ApartAreDistinct = (types : List TypeDef) (linked : List (List Function)) → AreNamesApart types linked → HaveDistinctItems types linked
