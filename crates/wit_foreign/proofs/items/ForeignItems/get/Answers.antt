use Rattle.std.proofs.Common.{IfNone, subst}
use Rattle.wit_types.specs.declared.«package».AstItem.{AstItem}
use Rattle.wit_package_types.specs.Passed.wit_arena-Tree.{Owner}
use Rattle.wit_package_types.specs.Passed.wit_arena-Meaning.{Has}
use Rattle.wit_foreign.proofs.items.ForeignItems.get.Goals as goal

pub returns-clause-none : goal.returns-clause-none
returns-clause-none c = subst (λ (w : Owner). IfNone c.find.result ((i : AstItem) → Has c.args.self.now (w, i) → ⊥)) c.new.ensures c.find.ensures.none
