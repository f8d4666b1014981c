use Rattle.wit_types.specs.declared.kind.Handle.TheVariants as handle
use Rattle.wit_type_names.specs.Passed.wit_productions-TypeTree as written
use Rattle.wit_type_names.specs.Passed.wit_productions-NameView.{id}
use Rattle.wit_arena.specs.Shape as shape
use Rattle.wit_arena.specs.Lower.{lowers_composed, lowers_borrow}
use Rattle.wit_arena.proofs.functions.lower_borrow.Goals as goal

pub returns : goal.returns
returns c =
    lowers_composed c.args.types.now c.args.types.now c.intern.new.self c.args.span (written.borrow (id c.args.resource.now)) (shape.handle (handle.Borrow c.id_of.result)) c.in_ok-ty.ty
    (lowers_borrow c.args.types.now (id c.args.resource.now) c.id_of.result c.id_of.ensures)
    c.in_ok-ty.ensures.ok
