use Rattle.std.proofs.Common.{ℕ, IfNone, sym, subst}
use Rattle.wit_rules.specs.Passed.wit_syntax-AstView as view
use Rattle.wit_rules.specs.Passed.wit_scopes-declared-paths-Target.{Target}
use Rattle.wit_rules.specs.Passed.wit_scopes-View as scope_view
use Rattle.wit_arena.specs.Meaning.{Has}
use Rattle.wit_package_types.specs.Foreign.{ForeignName, foreign_name}
use Rattle.wit_package_types.specs.Known.{KnownTypes, Finds}
use Rattle.wit_package_types.proofs.Finding.{if_none}
use Rattle.wit_package_types.proofs.known.Known.get.Goals as goal

pub returns-in-Own-clause-none : goal.returns-in-Own-clause-none
returns-in-Own-clause-none c =
    subst (λ (t : Target). IfNone c.get_own.result ((i : ℕ) → Finds c.args.self.now (scope_view.target t) (view.id c.args.name.now) i → ⊥)) (sym c.in-Own.is) c.get_own.ensures.none

pub returns-in-Foreign-clause-none : goal.returns-in-Foreign-clause-none
returns-in-Foreign-clause-none c =
    let name : ForeignName = foreign_name (view.package_name c.in-Foreign.«package») (view.id c.in-Foreign.interface) (view.id c.args.name.now) in
    subst (λ (t : Target). IfNone c.get.result ((i : ℕ) → Finds c.args.self.now (scope_view.target t) (view.id c.args.name.now) i → ⊥)) (sym c.in-Foreign.is)
    (if_none c.get.result
    (λ none i has. none i (subst (λ (n : ForeignName). Has c.self.inside.foreign (n, i)) (sym c.new.ensures) (subst (λ (k : KnownTypes). Has k.foreign (name, i)) (sym c.self.view_is) has))) c.get.ensures.none)
