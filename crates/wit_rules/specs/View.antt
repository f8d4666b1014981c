-- What the values of the code stand for.
use Rattle.std.specs.Prelude.{option_map}
use Rattle.std.specs.Cow.{cow_str_bytes}
use Rattle.wit_scopes.specs.Passed.wit_words-Slice.{Slice}
use Rattle.wit_scopes.specs.Passed.wit_syntax-AstView as view
use Rattle.wit_rules.specs.declared.labels.Label.{Label}
use Rattle.wit_rules.specs.declared.gates.Gates.{Gates}
use Rattle.wit_rules.specs.declared.gates.Gates.TheVariants as gates_of_code
use Rattle.wit_rules.specs.Gates as gates_tree
use Rattle.wit_rules.specs.Gates.{GatesTree}

abbrev pub label : Label → Slice
label l = record { text = cow_str_bytes l.text; span = l.span }

abbrev pub gates : Gates → GatesTree
gates gates_of_code.Ungated = gates_tree.ungated
gates (gates_of_code.OfFeature f d) = gates_tree.of_feature (view.id f) (option_map view.version d)
gates (gates_of_code.FromVersion v d) = gates_tree.from_version (view.version v) (option_map view.version d)
