use Rattle.std.proofs.Common.{◌++◌, ◌∙◌, ◌∷◌, [], ap, sym, subst}
use Rattle.wit_types.specs.declared.«package».AstItem.{AstItem}
use Rattle.wit_lookups.proofs.Passed.wit_scopes-Outcomes.{on_ok}
use Rattle.wit_package_types.specs.Passed.wit_arena-Tree.{Owner}
use Rattle.wit_package_types.specs.Passed.wit_arena-Meaning.{Has}
use Rattle.wit_foreign.specs.View as seen
use Rattle.wit_foreign.specs.Items.{IsNext, TakesNeed, is_there, goes_last}
use Rattle.wit_foreign.proofs.items.ForeignItems.take.Goals as goal

pub returns-in-Some : goal.returns-in-Some
returns-in-Some c = is_there c.in-Some.field-0 (subst (λ (w : Owner). Has c.args.self.now (w, c.in-Some.field-0)) c.new-path.ensures c.in-Some.ensures.some)

pub returns-in-None : goal.returns-in-None
returns-in-None c =
    on_ok c.add.result
    (λ r. subst (TakesNeed c.args.self.now (seen.need c.args.need.now)) (sym (r.2 ∙ ap (λ (w : Owner). c.args.self.now ++ (w, r.0) ∷ []) c.new-path.ensures))
    (goes_last r.0 (subst (λ (w : Owner). (j : AstItem) → Has c.args.self.now (w, j) → ⊥) c.new-path.ensures c.in-None.ensures.none) (subst (λ (w : Owner). IsNext c.args.self.now w.place r.0) c.new-path.ensures r.1)))
    c.add.ensures.ok
