use Rattle.component_sections.proofs.Places.{behind_header}
use Rattle.component_sections.proofs.component.sections_of.Goals as goal

pub returns-clause-stands : goal.returns-clause-stands
returns-clause-stands c = λ total w. c.steps_of.ensures.stands total (behind_header total c.args.from.now c.bytes.new.self c.in_ok-bytes.field-0.now c.bytes.ensures.end c.in_ok-bytes.ensures.gives w)
