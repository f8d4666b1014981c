use Rattle.std.proofs.Common.{map, sym, subst}
use Rattle.wit_types.specs.declared.kind.TypeDefKind.TheVariants as kind
use Rattle.wit_type_names.specs.Passed.wit_productions-TypeView.{type_tree}
use Rattle.wit_type_names.specs.Passed.wit_items-declared-items-TypeDefKind.{TypeDefKind as Written}
use Rattle.wit_type_names.specs.Passed.wit_syntax-AstView as view
use Rattle.wit_arena.specs.LowerKind.{LowersKind, lowers_alias, lowers_resource}
use Rattle.wit_arena.proofs.definitions.lower_kind.Goals as goal

pub returns-in_ok-lower-in-Alias : goal.returns-in_ok-lower-in-Alias
returns-in_ok-lower-in-Alias c =
    subst (λ (k : Written). LowersKind c.args.table.now c.args.types.now (view.type_def_kind k) c.lower.new.types (kind.Alias c.in_ok-lower-in-Alias.field-0)) (sym c.in-Alias.is)
    (lowers_alias c.lower.new.types (type_tree c.in-Alias.ty) c.in_ok-lower-in-Alias.field-0 c.in_ok-lower-in-Alias.ensures)

pub returns-in-Resource : goal.returns-in-Resource
returns-in-Resource c =
    subst (λ (k : Written). LowersKind c.args.table.now c.args.types.now (view.type_def_kind k) c.args.types.now kind.Resource) (sym c.in-Resource.is)
    (lowers_resource (map (view.gated view.resource_func) c.in-Resource.field-0.items))
