use Rattle.std.proofs.Common.{◌≡◌, ℕ, List, Some, IfSome, IfNone, sym, subst, ◌∙◌}
use Rattle.std.specs.Prelude.{slice_get}
use Rattle.wit_rules.proofs.Places.{read_at}
use Rattle.wit_arena.specs.Table.{Entries}
use Rattle.wit_arena.specs.Meaning.{Has}
use Rattle.wit_package_types.specs.Known.{KnownTypes, FindsOwn}
use Rattle.wit_package_types.proofs.Finding.{if_some, if_none, found_own, not_own}
use Rattle.wit_package_types.proofs.known.Known.get_own.Goals as goal

pub returns-clause-some : goal.returns-clause-some
returns-clause-some c =
    let there : slice_get c.self.inside.tables.items c.in_ok-place.place ≡ Some c.in_ok-table.table.now =
    subst (λ (ts : List Entries). slice_get ts c.in_ok-place.place ≡ Some c.in_ok-table.table.now) c.deref.ensures.value
    (read_at c.deref.result.now c.in_ok-place.place c.in_ok-table.table.now c.in_ok-table.ensures.lookup.3.0 c.in_ok-table.ensures.lookup.1) in
    let inside : KnownTypes = record { names = c.self.inside.names; tables = c.self.inside.tables.items; foreign = c.self.inside.foreign } in
    subst (λ (k : KnownTypes). IfSome c.get-2.result (FindsOwn k c.args.interface.now.name.now c.args.name.now.name.now)) c.self.view_is
    (if_some c.get-2.result (λ j. Has c.in_ok-table.table.now (c.args.name.now.name.now, j)) (FindsOwn inside c.args.interface.now.name.now c.args.name.now.name.now)
    (found_own inside c.args.interface.now.name.now c.args.name.now.name.now c.in_ok-place.place (sym c.first.ensures ∙ c.in_ok-place.was) c.in_ok-table.table.now there) c.get-2.ensures.some)

pub returns-clause-none : goal.returns-clause-none
returns-clause-none c =
    let there : slice_get c.self.inside.tables.items c.in_ok-place.place ≡ Some c.in_ok-table.table.now =
    subst (λ (ts : List Entries). slice_get ts c.in_ok-place.place ≡ Some c.in_ok-table.table.now) c.deref.ensures.value
    (read_at c.deref.result.now c.in_ok-place.place c.in_ok-table.table.now c.in_ok-table.ensures.lookup.3.0 c.in_ok-table.ensures.lookup.1) in
    let inside : KnownTypes = record { names = c.self.inside.names; tables = c.self.inside.tables.items; foreign = c.self.inside.foreign } in
    subst (λ (k : KnownTypes). IfNone c.get-2.result ((i : ℕ) → FindsOwn k c.args.interface.now.name.now c.args.name.now.name.now i → ⊥)) c.self.view_is
    (if_none c.get-2.result
    (not_own inside c.args.interface.now.name.now c.args.name.now.name.now c.in_ok-place.place (sym c.first.ensures ∙ c.in_ok-place.was) c.in_ok-table.table.now there) c.get-2.ensures.none)
