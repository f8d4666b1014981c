use Rattle.std.proofs.Common.{◌∙◌, List, Some, refl, sym, subst, map}
use Rattle.std.proofs.lemmas.Simd.{map-map}
use Rattle.wit_types.specs.declared.kind.Record.{Record}
use Rattle.wit_type_names.specs.Passed.wit_productions-TypeTree.{TypeOption, a_type}
use Rattle.wit_type_names.specs.Passed.wit_items-ItemTree.{FieldTree}
use Rattle.wit_type_names.specs.Passed.wit_syntax-AstView as view
use Rattle.wit_type_names.specs.TypeNames.{names_in_parts}
use Rattle.wit_arena.specs.Lower.{AreThere, LowersParts}
use Rattle.wit_arena.specs.LowerKind.{written_field, lowers_record}
use Rattle.wit_arena.proofs.definitions.lower_record.Goals as goal

pub bring_all-requires : goal.bring_all-requires
bring_all-requires c κs = ((refl, tt), subst (λ (ps : List TypeOption). AreThere c.args.table.now (names_in_parts ps)) (map-map (λ (x : FieldTree). a_type x.ty) view.field c.args.fields.now) c.requires)

pub returns : goal.returns
returns c =
    let made : Record = record { fields = c.in_ok-fields.fields } in
    lowers_record c.bring_all.new.types (map view.field c.args.fields.now) made
    (subst (λ (ps : List TypeOption). LowersParts c.args.table.now c.args.types.now ps c.bring_all.new.types (map (λ x. Some x.ty) c.in_ok-fields.fields.items)) (sym (map-map (λ (x : FieldTree). a_type x.ty) view.field c.args.fields.now))
    c.in_ok-fields.ensures.types)
    (c.in_ok-fields.ensures.labels ∙ sym (map-map written_field view.field c.args.fields.now))
