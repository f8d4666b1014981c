-- The names of functions in core modules (Component Model, Build Targets).
use Rattle.std.specs.Prelude.{ℕ, List, ◌++◌, Option, Some, None, codes}
use Rattle.std.specs.Borrow.{Bor}
use Rattle.wit_types.specs.declared.mangling.Mangling.{Mangling}
use Rattle.wit_types.specs.declared.mangling.Mangling.TheVariants.{Standard32, Legacy}

abbrev pub text_of : Option (Bor (List ℕ)) → Option (List ℕ)
text_of None = None
text_of (Some s) = Some s.now

-- a function of the world stands between two bars with nothing between them
abbrev pub standard_name : Option (List ℕ) → List ℕ → List ℕ
standard_name None name = codes "cm32p2||" ++ name
standard_name (Some interface) name = codes "cm32p2|" ++ (interface ++ (codes "|" ++ name))

-- a function of the world is called by its name alone
abbrev pub legacy_name : Option (List ℕ) → List ℕ → List ℕ
legacy_name None name = name
legacy_name (Some interface) name = interface ++ (codes "#" ++ name)

abbrev pub core_export_name : Mangling → Option (List ℕ) → List ℕ → List ℕ
core_export_name Standard32 interface name = standard_name interface name
core_export_name Legacy interface name = legacy_name interface name
