use Rattle.std.proofs.Common.{◌∙◌, List, None, refl, sym, subst, map}
use Rattle.std.proofs.lemmas.Simd.{map-map}
use Rattle.wit_types.specs.declared.kind.Flags.{Flags}
use Rattle.wit_types.specs.declared.kind.TypeDefKind.TheVariants as kind
use Rattle.wit_types.specs.declared.interface.TypeDef.{TypeDef}
use Rattle.wit_type_names.specs.Passed.wit_items-ItemTree as item
use Rattle.wit_type_names.specs.Passed.wit_syntax-AstView as view
use Rattle.wit_arena.specs.LowerKind.{written_label, LowersKind, lowers_flags}
use Rattle.wit_arena.proofs.Rows.{no_types_in, none_there}
use Rattle.wit_arena.proofs.definitions.lower_flags.Goals as goal

pub bring_all-requires : goal.bring_all-requires
bring_all-requires c κs = ((refl, tt), none_there c.args.table.now c.args.flags.now)

pub returns : goal.returns
returns c =
    let made : Flags = record { flags = c.in_ok-flags.flags } in
    subst (λ (b : List TypeDef). LowersKind c.args.table.now c.args.types.now (item.flags (map view.flag c.args.flags.now)) b (kind.Flags made))
    (sym (no_types_in c.args.table.now c.args.flags.now c.args.types.now c.bring_all.new.types (map (λ x. None) c.in_ok-flags.flags.items) c.in_ok-flags.ensures.types))
    (lowers_flags (map view.flag c.args.flags.now) made (c.in_ok-flags.ensures.labels ∙ sym (map-map written_label view.flag c.args.flags.now)))
