use Rattle.std.proofs.Common.{sym}
use Rattle.wit_syntax.specs.AstView as view
use Rattle.wit_package.proofs.Among.{found_as_world, else_interface}
use Rattle.wit_package.proofs.top_uses.asked_among.Goals as goal

pub returns-in-Some : goal.returns-in-Some
returns-in-Some c = λ needs are. sym (found_as_world (view.package_name c.args.from.now) (view.id c.args.item.now) needs c.args.items.now are c.in-Some.field-0 c.in-Some.ensures.some)

pub returns-in-None : goal.returns-in-None
returns-in-None c = λ needs are. sym (else_interface (view.package_name c.args.from.now) (view.id c.args.item.now) needs c.args.items.now are c.in-None.ensures.none)
