-- One way to bring a function into an arena (WIT, Item: `func`, Item: `resource`).
use Rattle.std.specs.Prelude.{◌≡◌, List, string_bytes}
use Rattle.wit_types.specs.declared.function.Function.{Function}
use Rattle.wit_types.specs.declared.interface.TypeDef.{TypeDef}
use Rattle.wit_package_types.specs.Passed.wit_scopes-Members.{MemberTree}
use Rattle.wit_package_types.specs.Passed.wit_rules-Labels.{full_name, name_place}
use Rattle.wit_package_types.specs.Passed.wit_arena-Table.{Entries}
use Rattle.wit_package_types.specs.Passed.wit_arena-Docs.{said, contents_of}
use Rattle.wit_package_types.specs.Stability.{IsStabilityOf}
use Rattle.wit_functions.specs.Signature.{all_params, all_result, IsKindOf, LowersSignature}

-- from an arena a function of a scope gives an arena and what it is there
pub record LowersFunction (table : Entries) (a : List TypeDef) (m : MemberTree) (b : List TypeDef) (f : Function) : Type 0 where
  pub name : string_bytes f.name ≡ full_name m.kind m.name
  pub kind : IsKindOf table m.kind f.kind
  pub signature : LowersSignature table a (all_params m) (all_result m) b (record { params = f.params; result = f.result })
  pub docs : contents_of f.docs ≡ said m.docs
  pub stability : IsStabilityOf m.attributes f.stability
  pub span : f.span ≡ name_place m.kind m.name m.span
