use Rattle.std.proofs.Common.{[], ◌∷◌, ◌++◌, ap, sym, ◌∙◌, append_assoc}
use Rattle.binary_grammar.specs.Syntax.{bytes}
use Rattle.component_sections.specs.Component.{definition_value, definition_byte, definition_behind, section_id_of}
use Rattle.component_sections.proofs.WholeSections.{own_spelled}
use Rattle.component_sections.proofs.section.put_own_section.Goals as goal

pub returns-clause-bytes : goal.returns-clause-bytes
returns-clause-bytes c =
    let d = definition_value c.args.definition.now in
    let before = c.args.out.now.items in
    let inner = bytes (definition_behind (section_id_of (definition_byte d))) d in
    c.in_ok-put.ensures.bytes ∙ ap (λ s. s ++ inner) (c.in_ok-push.ensures.items ∙ ap (λ b. before ++ b ∷ []) c.section_byte.ensures) ∙ append_assoc before (definition_byte d ∷ []) inner ∙ ap (λ s. before ++ s) (sym (own_spelled d c.requires))
