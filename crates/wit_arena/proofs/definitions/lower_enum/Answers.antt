use Rattle.std.proofs.Common.{◌∙◌, List, None, refl, sym, subst, map}
use Rattle.std.proofs.lemmas.Simd.{map-map}
use Rattle.wit_types.specs.declared.kind.Enum.{Enum}
use Rattle.wit_types.specs.declared.kind.TypeDefKind.TheVariants as kind
use Rattle.wit_types.specs.declared.interface.TypeDef.{TypeDef}
use Rattle.wit_type_names.specs.Passed.wit_items-ItemTree as item
use Rattle.wit_type_names.specs.Passed.wit_syntax-AstView as view
use Rattle.wit_arena.specs.LowerKind.{written_label, LowersKind, lowers_enum}
use Rattle.wit_arena.proofs.Rows.{no_types_in, none_there}
use Rattle.wit_arena.proofs.definitions.lower_enum.Goals as goal

pub bring_all-requires : goal.bring_all-requires
bring_all-requires c κs = ((refl, tt), none_there c.args.table.now c.args.cases.now)

pub returns : goal.returns
returns c =
    let made : Enum = record { cases = c.in_ok-cases.cases } in
    subst (λ (b : List TypeDef). LowersKind c.args.table.now c.args.types.now (item.labels (map view.enum_case c.args.cases.now)) b (kind.Enum made))
    (sym (no_types_in c.args.table.now c.args.cases.now c.args.types.now c.bring_all.new.types (map (λ x. None) c.in_ok-cases.cases.items) c.in_ok-cases.ensures.types))
    (lowers_enum (map view.enum_case c.args.cases.now) made (c.in_ok-cases.ensures.labels ∙ sym (map-map written_label view.enum_case c.args.cases.now)))
