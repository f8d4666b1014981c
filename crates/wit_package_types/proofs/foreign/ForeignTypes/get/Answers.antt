use Rattle.std.proofs.Common.{◌∙◌, ℕ, sym, subst}
use Rattle.wit_arena.specs.Meaning.{Has}
use Rattle.wit_arena.proofs.Tables.{keyed_found, keyed_none}
use Rattle.wit_package_types.specs.Foreign.{path_name}
use Rattle.wit_package_types.proofs.Paths.{path_eq, path_eq-Decides}
use Rattle.wit_package_types.proofs.Finding.{none_if}
use Rattle.wit_package_types.proofs.foreign.ForeignTypes.get.Goals as goal

pub returns-clause-some : goal.returns-clause-some
unfolding path_eq
returns-clause-some c =
    subst (λ (i : ℕ). Has c.args.self.now (path_name c.args.path.now, i)) (sym c.from_index.ensures)
    (keyed_found path_name (path_name c.args.path.now) (path_eq c.args.path.now) (path_eq-Decides c.args.path.now) c.args.self.now c.self.inside.inner.entries c.in_ok-index.index c.self.view_is
    (sym c.get.ensures.value ∙ sym c.copied.ensures ∙ c.in_ok-index.was))

pub returns-in_err-index-clause-none : goal.returns-in_err-index-clause-none
unfolding path_eq
returns-in_err-index-clause-none c =
    none_if c.from_residual.result ((i : ℕ) → Has c.args.self.now (path_name c.args.path.now, i) → ⊥)
    (λ i. keyed_none path_name (path_name c.args.path.now) (path_eq c.args.path.now) (path_eq-Decides c.args.path.now) c.args.self.now c.self.inside.inner.entries i c.self.view_is
    (sym c.get.ensures.value ∙ sym c.copied.ensures ∙ c.in_err-index.was))
