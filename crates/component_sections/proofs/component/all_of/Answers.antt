use Rattle.std.proofs.Common.{sym, subst}
use Rattle.std.specs.List.{All}
use Rattle.binary_grammar.specs.Place.{Within}
use Rattle.binary_grammar.proofs.Placing.{at_start}
use Rattle.component_sections.specs.Component.{StandsIn}
use Rattle.component_sections.proofs.Places.{all_stand}
use Rattle.component_sections.proofs.component.all_of.Goals as goal

pub returns-clause-stands : goal.returns-clause-stands
returns-clause-stands c =
    let bytes = c.args.bytes.now in
    let start : Within bytes c.new-from.result = subst (Within bytes) (sym c.new-from.ensures) (at_start bytes) in
    subst (All (StandsIn bytes)) (sym c.in_ok-definitions.ensures) (all_stand bytes c.in_ok-sections.sections.items (c.in_ok-sections.ensures.stands bytes start))
