use Rattle.std.proofs.Common.{◌∙◌, sym, subst}
use Rattle.wit_types.specs.declared.«package».AstItem.{AstItem}
use Rattle.wit_package_types.specs.Passed.wit_arena-Meaning.{Has}
use Rattle.wit_foreign.specs.ItemView.{path_owner}
use Rattle.wit_package_types.proofs.Finding.{none_if}
use Rattle.wit_foreign.proofs.ItemPaths.{path_eq}
use Rattle.wit_foreign.proofs.ItemFinding.{item_found, item_none}
use Rattle.wit_foreign.proofs.items.ForeignItems.find.Goals as goal

pub returns-clause-some : goal.returns-clause-some
unfolding path_eq
returns-clause-some c =
    subst (λ (i : AstItem). Has c.args.self.now (path_owner c.args.path.now, i)) (sym c.item_at.ensures)
    (item_found c.args.path.now c.args.self.now c.self.inside.inner.entries c.self.view_is c.in_ok-index.index (sym c.get.ensures.value ∙ sym c.copied.ensures ∙ c.in_ok-index.was))

pub returns-in_err-index-clause-none : goal.returns-in_err-index-clause-none
unfolding path_eq
returns-in_err-index-clause-none c =
    none_if c.from_residual.result ((i : AstItem) → Has c.args.self.now (path_owner c.args.path.now, i) → ⊥)
    (item_none c.args.path.now c.args.self.now c.self.inside.inner.entries c.self.view_is (sym c.get.ensures.value ∙ sym c.copied.ensures ∙ c.in_err-index.was))
