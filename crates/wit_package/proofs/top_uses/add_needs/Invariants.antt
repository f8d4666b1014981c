use Rattle.std.proofs.Common.{◌≡◌, ◌++◌, List, map, take}
use Rattle.std.specs.Prelude.{flat_map}
use Rattle.wit_syntax.specs.AstView as view
use Rattle.wit_placeholders.specs.Passed.wit_foreign-Needs.{NeedTree}
use Rattle.wit_placeholders.specs.Passed.wit_foreign-Items.{AreItemsOf}
use Rattle.wit_placeholders.specs.Passed.wit_foreign-View as asked
use Rattle.wit_package.specs.TopUses as spec
use Rattle.wit_package.proofs.top_uses.add_needs.Given as goal

abbrev pub invariant-loop-statement : goal.invariant-loop-statement
invariant-loop-statement l = (needs : List NeedTree) → AreItemsOf needs l.items → asked.needs l.found.items ≡ asked.needs l.initial.found.items ++ flat_map (spec.top_needs (view.package_name l.me) needs) (map view.toplevel_use (take l.statement-index l.statements))
