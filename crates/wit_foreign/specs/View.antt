-- What is asked of other packages, as values.
use Rattle.std.specs.Prelude.{List, map, option_map}
use Rattle.wit_lookups.specs.Passed.wit_syntax-AstView as view
use Rattle.wit_foreign.specs.declared.needs.Need.{Need}
use Rattle.wit_foreign.specs.Needs.{NeedTree}

abbrev pub need : Need → NeedTree
need n = record { «package» = view.package_name n.«package»; item = view.id n.item; asked = n.asked; name = option_map view.id n.name; attributes = map view.attribute n.front.value.attributes.items }

abbrev pub needs : List Need → List NeedTree
needs ns = map need ns
