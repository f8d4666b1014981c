use Rattle.component_entries.specs.Views as view
use Rattle.component_sections.proofs.Places.{definition_stands}
use Rattle.component_sections.proofs.section.PlacedDefinitionStep.read_behind.Goals as goal

pub returns-in_ok-define-in-Ok-clause-stands : goal.returns-in_ok-define-in-Ok-clause-stands
returns-in_ok-define-in-Ok-clause-stands c = λ total w.
    definition_stands c.in-Ok.id (view.defined_value c.args.state.now) total c.args.from.now c.definition_in.new.from c.in_ok-definition-in-Ok.definition c.offset-offset.result c.definition_in.ensures.end c.in_ok-definition-in-Ok.ensures.gives c.offset-offset.ensures.within w
