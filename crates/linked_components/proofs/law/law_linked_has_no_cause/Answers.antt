use Rattle.linked_components.proofs.law.law_linked_has_no_cause.Goals as goal

pub returns : goal.returns
returns c = λ l t of is fault cause. c.law_tables_are_one.ensures.no_cause l t fault (c.law_functions_are_there.ensures of.0 of.1 l.names of.2 of.3).backward is cause
