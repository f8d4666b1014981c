use Rattle.std.proofs.Common.{ap, ◌∙◌, Some}
use Rattle.wit_types.proofs.Aliases.{both_ways, shorthand_by}
use Rattle.wit_types.proofs.function.Function.is_constructor_shorthand.Goals as goal

pub returns : goal.returns
returns c =
    both_ways c.is_reference.ensures
    (shorthand_by c.args.types.now c.args.self.now c.in-Constructor.resource c.in-Id.id c.meaning_of.result c.in-Constructor.is (c.in-Some.is ∙ ap Some c.in-Id.is) c.meaning_of.ensures)
