use Rattle.std.proofs.Common.{◌∙◌, List, refl, sym, subst, map}
use Rattle.std.proofs.lemmas.Simd.{map-map}
use Rattle.wit_types.specs.declared.kind.Variant.{Variant}
use Rattle.wit_type_names.specs.Passed.wit_productions-TypeTree.{TypeOption, opt}
use Rattle.wit_type_names.specs.Passed.wit_items-ItemTree.{CaseTree}
use Rattle.wit_type_names.specs.Passed.wit_syntax-AstView as view
use Rattle.wit_type_names.specs.TypeNames.{names_in_parts}
use Rattle.wit_arena.specs.Lower.{AreThere, LowersParts}
use Rattle.wit_arena.specs.LowerKind.{written_case, lowers_variant}
use Rattle.wit_arena.proofs.definitions.lower_variant.Goals as goal

pub bring_all-requires : goal.bring_all-requires
bring_all-requires c κs = ((refl, tt), subst (λ (ps : List TypeOption). AreThere c.args.table.now (names_in_parts ps)) (map-map (λ (x : CaseTree). opt x.ty) view.case c.args.cases.now) c.requires)

pub returns : goal.returns
returns c =
    let made : Variant = record { cases = c.in_ok-cases.cases } in
    lowers_variant c.bring_all.new.types (map view.case c.args.cases.now) made
    (subst (λ (ps : List TypeOption). LowersParts c.args.table.now c.args.types.now ps c.bring_all.new.types (map (λ x. x.ty) c.in_ok-cases.cases.items)) (sym (map-map (λ (x : CaseTree). opt x.ty) view.case c.args.cases.now))
    c.in_ok-cases.ensures.types)
    (c.in_ok-cases.ensures.labels ∙ sym (map-map written_case view.case c.args.cases.now))
