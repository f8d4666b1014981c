use Rattle.std.proofs.Common.{refl, sym, ap, ◌∙◌}
use Rattle.std.specs.Prelude.{option_map}
use Rattle.std.proofs.lemmas.Option.{slice_get-map}
use Rattle.wit_scopes.specs.Passed.wit_syntax-AstView as view
use Rattle.wit_rules.proofs.gates.bad_gates.Goals as goal

pub returns : goal.returns
returns c = record {
  rule_is = refl;
  none = c.requires;
  first = view.attribute c.in-Some.first.now;
  there = slice_get-map view.attribute c.args.attributes.now 0 ∙ ap (option_map view.attribute) (sym c.in-Some.ensures.value);
  place = refl;
}
