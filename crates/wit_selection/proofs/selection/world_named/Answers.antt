use Rattle.std.proofs.Common.{Some, sym, subst}
use Rattle.wit_selection.specs.Selection as spec
use Rattle.wit_productions.specs.NameView as view
use Rattle.wit_selection.proofs.Choosing.{text_refused, path_refused}
use Rattle.wit_selection.proofs.selection.world_named.Goals as goal

pub returns-in_ok-world_on_path-in-Ok-clause-cause : goal.returns-in_ok-world_on_path-in-Ok-clause-cause
returns-in_ok-world_on_path-in-Ok-clause-cause c =
    path_refused c.args.packages.now c.args.main.now c.args.text.now (view.use_path c.in-Ok.path) c.in_ok-world_on_path-in-Ok.field-0 c.found.result c.found.ensures c.in_ok-world_on_path-in-Ok.ensures c.in-Ok.ensures.only

pub returns-in-Err-clause-cause : goal.returns-in-Err-clause-cause
returns-in-Err-clause-cause c =
    subst (spec.IsSelectCause c.args.packages.now c.args.main.now (Some c.args.text.now)) (sym c.refusal_of.ensures) (text_refused c.args.packages.now c.args.main.now c.args.text.now c.in-Err.fault c.in-Err.ensures.only)
