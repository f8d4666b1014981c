use Rattle.std.proofs.Common.{[], ◌∷◌, sym, subst, ap, ◌∙◌, ◌++◌}
use Rattle.std.specs.List.{All}
use Rattle.std.proofs.lemmas.List.Elements.{All-nil, All-cons}
use Rattle.component_sections.specs.Component.{StandsIn}
use Rattle.component_sections.proofs.section.one.Goals as goal

pub returns-clause-stands : goal.returns-clause-stands
returns-clause-stands c = λ total w.
    let d = c.in_ok-definition.definition in
    subst (All (StandsIn total)) (sym (c.in_ok-push.ensures.items ∙ ap (λ ds. ds ++ d ∷ []) c.new-definitions.ensures.items)) (All-cons (StandsIn total) d [] (c.in_ok-definition.ensures.stands total w) (All-nil (StandsIn total)))
