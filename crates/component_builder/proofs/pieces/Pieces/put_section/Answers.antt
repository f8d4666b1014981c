use Rattle.std.proofs.Common.{◌≡◌, ◌∷◌, ◌++◌, map, length, ap, sym, subst, ◌∙◌}
use Rattle.std.proofs.lemmas.Result.{err_from_is_err_and}
use Rattle.component_sections.specs.Component.{definition_value, a_core_module, section_of, section_bytes, IsSection}
use Rattle.component_builder.specs.Pieces.{pieces_bytes}
use Rattle.component_builder.proofs.Modules.{alone_where}
use Rattle.component_builder.proofs.pieces.Pieces.put_section.Goals as goal

pub returns-in_err-put_module-clause-large : goal.returns-in_err-put_module-clause-large
returns-in_err-put_module-clause-large c =
    let alone = alone_where c.in-CoreModule.bytes.now (definition_value c.args.first.now) (map definition_value c.args.more.now) (ap definition_value c.in-CoreModule.is) in
    let p = err_from_is_err_and c.from_residual.result c.from_residual.ensures.1 in
    λ e h. c.in_err-put_module.ensures.large (cc (p.1, p.2, e)) (subst (λ ds. IsSection (section_of ds)) alone h)

pub returns-in-CoreModule-clause-count : goal.returns-in-CoreModule-clause-count
returns-in-CoreModule-clause-count c =
    let alone = alone_where c.in-CoreModule.bytes.now (definition_value c.args.first.now) (map definition_value c.args.more.now) (ap definition_value c.in-CoreModule.is) in
    sym (ap length alone)

pub returns-in-CoreModule-clause-bytes : goal.returns-in-CoreModule-clause-bytes
returns-in-CoreModule-clause-bytes c =
    let alone = alone_where c.in-CoreModule.bytes.now (definition_value c.args.first.now) (map definition_value c.args.more.now) (ap definition_value c.in-CoreModule.is) in
    c.in_ok-put_module.ensures.bytes ∙ ap (λ ds. pieces_bytes c.args.self.now ++ section_bytes (section_of ds)) (sym alone)

pub returns-in-CoreModule-clause-typed : goal.returns-in-CoreModule-clause-typed
returns-in-CoreModule-clause-typed c =
    let alone = alone_where c.in-CoreModule.bytes.now (definition_value c.args.first.now) (map definition_value c.args.more.now) (ap definition_value c.in-CoreModule.is) in
    subst (λ ds. IsSection (section_of ds)) (sym alone) c.in_ok-put_module.ensures.typed
