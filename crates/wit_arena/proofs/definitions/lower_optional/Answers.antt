use Rattle.std.proofs.Common.{Option, Some, None, sym, subst}
use Rattle.std.specs.Prelude.{option_map}
use Rattle.wit_type_names.specs.Passed.wit_productions-declared-types-Type.{«Type» as Written}
use Rattle.wit_type_names.specs.Passed.wit_productions-TypeTree.{opt}
use Rattle.wit_type_names.specs.Passed.wit_productions-TypeView.{type_tree}
use Rattle.wit_arena.specs.Lower.{LowersPart, lowers_nothing, lowers_a_type}
use Rattle.wit_arena.proofs.definitions.lower_optional.Goals as goal

pub returns-in_ok-lower-in-Some : goal.returns-in_ok-lower-in-Some
returns-in_ok-lower-in-Some c =
    subst (λ (p : Option Written). LowersPart c.args.table.now c.args.types.now (opt (option_map type_tree p)) c.lower.new.types (Some c.in_ok-lower-in-Some.field-0)) (sym c.in-Some.is)
    (lowers_a_type c.args.types.now c.lower.new.types (type_tree c.in-Some.ty) c.in_ok-lower-in-Some.field-0 c.in_ok-lower-in-Some.ensures)

pub returns-in-None : goal.returns-in-None
returns-in-None c =
    subst (λ (p : Option Written). LowersPart c.args.table.now c.args.types.now (opt (option_map type_tree p)) c.args.types.now None) (sym c.in-None.is) (lowers_nothing c.args.types.now)
