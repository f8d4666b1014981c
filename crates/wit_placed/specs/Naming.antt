-- Names within an interface differ, and still do where it stands in a graph (WIT, Item: `interface`).
use Rattle.std.specs.Prelude.{◌≡◌, ℕ, List, Some, String, slice_get, string_bytes}
use Rattle.std.specs.declared.alloc.Global.{Global}
use Rattle.wit_plans.specs.Passed.wit_order-Order.{Has}
use Rattle.wit_plans.specs.Passed.wit_types-declared-function-Function.{Function}
use Rattle.wit_plans.specs.Passed.wit_types-declared-interface-Interface.{Interface}
use Rattle.wit_plans.specs.Passed.wit_features-Features.{FeatureSet}
use Rattle.wit_plans.specs.Checks.{Standing}
use Rattle.wit_plans.specs.Moves.{AreMovedInterfaces}

-- no two entries stand under one name
abbrev pub AreNamesApart : {V : Type 0} → List (String Global × V) → Type 0
AreNamesApart {V} es = (i j : ℕ) (e f : String Global × V) → slice_get es i ≡ Some e → slice_get es j ≡ Some f → string_bytes e.0 ≡ string_bytes f.0 → i ≡ j

-- no two types of an interface have one name, no two of its functions, which stand under their names, and no type has that of a function
pub record HasNamesApart (d : Interface) : Type 0 where
  pub types : AreNamesApart d.types.entries
  pub functions : AreNamesApart d.functions.entries
  pub named : (f : String Global × Function) → Has d.functions.entries f → string_bytes f.1.name ≡ string_bytes f.0
  pub between : (e : String Global × ℕ) (f : String Global × Function) → Has d.types.entries e → Has d.functions.entries f → string_bytes e.0 ≡ string_bytes f.0 → ⊥

abbrev pub HaveNamesApart : List Interface → Type 0
HaveNamesApart ds = (d : Interface) → Has ds d → HasNamesApart d

-- what stays of such interfaces has names apart, too
abbrev pub MovedInterfacesHaveNamesApart : Type 0
MovedInterfacesHaveNamesApart = (features : FeatureSet) (s : Standing) (owner : ℕ) (old new : List Interface) → AreMovedInterfaces features s owner old new → HaveNamesApart old → HaveNamesApart new
