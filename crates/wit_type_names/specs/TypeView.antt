-- What parts of types of the code stand for.
use Rattle.std.specs.Prelude.{Option, Box, option_map}
use Rattle.std.specs.declared.alloc.Global.{Global}
use Rattle.wit_scopes.specs.Passed.wit_productions-declared-types-Type.{«Type» as Written}
use Rattle.wit_scopes.specs.Passed.wit_productions-TypeTree.{TypeOption, opt, a_type}
use Rattle.wit_scopes.specs.Passed.wit_productions-TypeView.{type_tree, boxed_tree}

-- a part that may be missing
abbrev pub part_tree : Option (Box Written Global) → TypeOption
part_tree p = opt (option_map boxed_tree p)

-- a part that is there
abbrev pub type_part : Written → TypeOption
type_part t = a_type (type_tree t)
