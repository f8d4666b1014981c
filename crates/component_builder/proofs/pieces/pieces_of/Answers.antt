use Rattle.std.proofs.Common.{rules, ◌≡◌, ◌-◌, ◌+◌, ◌++◌, List, ◌∷◌, map, take, drop, length, ap, sym, subst, ◌∙◌, arith}
use Rattle.std.proofs.lemmas.List.{length-map}
use Rattle.std.proofs.lemmas.Result.{err_from_is_err_and}
use Rattle.component_sections.specs.Passed.component_entries-Nested.{header}
use Rattle.component_sections.specs.Component.{definition_value, first_section, section_of, section_bytes, IsSection}
use Rattle.component_sections.proofs.Passed.component_entries-Neighbours.{split_of}
use Rattle.component_sections.proofs.WholeSections.{sections_go_on, sections_stop}
use Rattle.component_builder.specs.Pieces.{pieces_bytes}
use Rattle.component_builder.proofs.Wholes.{all_written, all_typed, typed_sections}
use Rattle.component_builder.proofs.pieces.pieces_of.Goals as goal

pub returns-in_err-at-clause-large : goal.returns-in_err-at-clause-large
returns-in_err-at-clause-large c =
    let xs = c.args.definitions.now in
    let p = err_from_is_err_and c.from_residual-in_err-at.result c.from_residual-in_err-at.ensures.1 in
    let split = split_of definition_value xs c.loop-at.at c.index-definitions-at.result c.loop-at-test.true c.index-definitions-at.is in
    λ e h. sections_stop (map definition_value xs) c.loop-at.at header (pieces_bytes c.loop-at.pieces) c.loop-at.invariant.0 (omega (arith, length-map xs definition_value))
    (λ t. c.in_err-at.ensures.large (cc (p.1, p.2, e)) (subst (λ ds. IsSection (section_of (first_section ds))) (sym split) t)) (typed_sections (map definition_value xs) h)

pub loop-at-preserved : goal.loop-at-preserved
loop-at-preserved c =
    let xs = c.args.definitions.now in
    let split = split_of definition_value xs c.loop-at.at c.index-definitions-at.result c.loop-at-test.true c.index-definitions-at.is in (
      sections_go_on (map definition_value xs) c.loop-at.at header (pieces_bytes c.loop-at.pieces) c.loop-at.invariant.0 (omega (arith, length-map xs definition_value)) c.in_ok-at.field-0
          (c.in_ok-at.ensures.count ∙ ap (λ ds. length (first_section ds)) split)
          (pieces_bytes c.put_section.new.self)
          (c.in_ok-at.ensures.bytes ∙ ap (λ ds. pieces_bytes c.loop-at.pieces ++ section_bytes (section_of (first_section ds))) split)
          (subst (λ ds. IsSection (section_of (first_section ds))) split c.in_ok-at.ensures.typed),
      search rules,
    )

pub returns-clause-bytes : goal.returns-clause-bytes
returns-clause-bytes c = all_written (map definition_value c.args.definitions.now) (pieces_bytes c.loop-at.pieces) c.loop-at.at c.loop-at.invariant.0 (omega (arith, length-map c.args.definitions.now definition_value))

pub returns-clause-typed : goal.returns-clause-typed
returns-clause-typed c = all_typed (map definition_value c.args.definitions.now) (pieces_bytes c.loop-at.pieces) c.loop-at.at c.loop-at.invariant.0 (omega (arith, length-map c.args.definitions.now definition_value))
