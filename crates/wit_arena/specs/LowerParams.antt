-- One way to bring the parameters of a function into an arena (WIT, Item: `func`).
use Rattle.std.specs.Prelude.{◌≡◌, List, Some, None, map, string_bytes}
use Rattle.wit_types.specs.declared.function.Param.{Param}
use Rattle.wit_types.specs.declared.interface.TypeDef.{TypeDef}
use Rattle.wit_type_names.specs.Passed.wit_items-ItemTree.{ParamTree}
use Rattle.wit_type_names.specs.TypeNames.{param_parts}
use Rattle.wit_arena.specs.Table.{Entries}
use Rattle.wit_arena.specs.Lower.{LowersParts}
use Rattle.wit_arena.specs.LowerKind.{Label}

-- the name of a parameter as it is written, of which nothing is said
abbrev pub written_param : ParamTree → Label
written_param p = record { docs = None; name = p.name.text; span = p.name.span }

-- in the arena
abbrev pub param_label : Param → Label
param_label p = record { docs = None; name = string_bytes p.name; span = p.span }

-- from an arena the parameters give an arena and what they are there, from left to right
pub record LowersParams (table : Entries) (a : List TypeDef) (ps : List ParamTree) (b : List TypeDef) (qs : List Param) : Type 0 where
  pub types : LowersParts table a (param_parts ps) b (map (λ q. Some q.ty) qs)
  pub labels : map param_label qs ≡ map written_param ps
