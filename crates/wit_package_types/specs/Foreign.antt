-- Types of other packages, by the texts of their names.
use Rattle.std.specs.Prelude.{ℕ, List, map, option_map}
use Rattle.wit_types.specs.Passed.wit_words-Slice.{Slice}
use Rattle.wit_rules.specs.Passed.wit_syntax-Ast.{PackageNameTree}
use Rattle.wit_arena.specs.Tree.{Name, in_interface, Owner}
use Rattle.wit_arena.specs.Meaning.{package_text}
use Rattle.wit_package_types.specs.declared.foreign.TypePath.{TypePath}

-- a name of an interface of another package
abbrev pub ForeignName : Type 0
ForeignName = Owner × Name

abbrev pub owner_in : PackageNameTree → Slice → Owner
owner_in p i = record { package_text = package_text p; place = in_interface i.text }

abbrev pub foreign_name : PackageNameTree → Slice → Slice → ForeignName
foreign_name p i y = (owner_in p i, y.text)

abbrev pub path_name : TypePath → ForeignName
path_name t = (record { package_text = record { namespace = t.namespace.now; name = t.package.now; version = option_map (λ v. v.now) t.version }; place = in_interface t.interface.now }, t.name.now)

abbrev pub foreign_entries : List (TypePath × ℕ) → List (ForeignName × ℕ)
foreign_entries es = map (λ e. (path_name e.0, e.1)) es
