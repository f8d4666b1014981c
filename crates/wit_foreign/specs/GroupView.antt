-- Needs in parts, as values.
use Rattle.std.specs.Prelude.{List, Vec, map, option_map}
use Rattle.std.specs.declared.alloc.Global.{Global}
use Rattle.wit_package_types.specs.Passed.wit_arena-Tree.{PackageText}
use Rattle.wit_foreign.specs.declared.needs.Need.{Need}
use Rattle.wit_foreign.specs.declared.groups.PackagePath.{PackagePath}
use Rattle.wit_foreign.specs.Needs.{NeedTree}
use Rattle.wit_foreign.specs.View.{needs}

abbrev pub row : Vec Need Global → List NeedTree
row r = needs r.items

abbrev pub rows : List (Vec Need Global) → List (List NeedTree)
rows rs = map row rs

abbrev pub path_text : PackagePath → PackageText
path_text p = record { namespace = p.namespace.now; name = p.name.now; version = option_map (λ v. v.now) p.version }
