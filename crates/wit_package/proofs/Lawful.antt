-- Laws of packages that are built.
use Rattle.std.proofs.Common.{List, refl}
use Rattle.wit_syntax.specs.Ast.{FileTree}
use Rattle.wit_scopes.specs.Paths.{file_uses}
use Rattle.wit_scopes.specs.Scopes.{package_scopes}
use Rattle.wit_placeholders.specs.Passed.wit_foreign-Needs.{needs_in}
use Rattle.wit_package.specs.TopUses.{files_need}
use Rattle.wit_package.proofs.Among.{asked_still}
use Rattle.wit_package.specs.Laws.{KeptPackagesMayBeBuilt, PackagesAreBuiltInTwoSteps, BuiltPackagesAreResolved, ItemsBreakAsScopesDo, MissingNamesComeFirst}
use Rattle.wit_package.proofs.Finding.{ready_together}
use Rattle.wit_package.proofs.Building.{may_add, may_add_worlds, are_numbered, builds, ready_behind, both_kept, interfaces_break, worlds_break}
use Rattle.wit_package.proofs.Scoping.{items_break, scopes_break}
use Rattle.wit_package.proofs.Whole.{may_build, is_resolved}
use Rattle.wit_package.proofs.Missing.{missing_first, files_first, lookups_first}

pub may_be_built : KeptPackagesMayBeBuilt
may_be_built files me sorted items k a ns interfaces names worlds spans begun = (
  ready_together (package_scopes me files) (files_need me files) (asked_still me (file_uses files) (needs_in (package_scopes me files))) items begun.items_are a k.foreign spans begun.start.unknown files me k refl sorted begun.declared begun.found begun.are_sorted,
  may_build files me begun.declared sorted begun.are_sorted items begun.items_are k a ns interfaces names worlds spans begun.start,
)

pub built_in_two_steps : PackagesAreBuiltInTwoSteps
built_in_two_steps c k a interfaces items worlds is ws numbered together may = record {
  may_add = may_add c k a interfaces items worlds is ws may;
  may_add_worlds = λ k2 b interfaces2 knows adds. may_add_worlds c k a interfaces items worlds is ws may numbered k2 b interfaces2 knows adds;
  numbered = λ k2 b interfaces2 knows adds. are_numbered c k a interfaces items worlds is ws may numbered k2 b interfaces2 knows adds;
  ready = λ k2 knows foreign. ready_behind k k2 items is ws together knows foreign;
  builds = λ k2 k3 b d interfaces2 interfaces3 worlds2 knows adds more. builds c k a interfaces items worlds is ws may numbered k2 b interfaces2 knows adds k3 d interfaces3 worlds2 more;
  kept = both_kept c is ws;
  by_interfaces = interfaces_break c is ws;
  by_worlds = worlds_break c is ws;
}

pub are_resolved : BuiltPackagesAreResolved
are_resolved files me sorted items k a b ns interfaces interfaces2 names worlds worlds2 spans p begun builds made =
    is_resolved files me begun.declared sorted begun.are_sorted items begun.items_are k a ns interfaces names worlds spans begun.start b interfaces2 worlds2 builds p made

pub break_alike : ItemsBreakAsScopesDo
break_alike c sorted are = record { by_items = items_break c.scopes sorted are c refl; by_scopes = scopes_break c.scopes sorted are c refl }

pub missing_come_first : (files : List FileTree) → MissingNamesComeFirst files
missing_come_first files = record {
  by_files = files_first files;
  by_lookups = λ me uses scopes. lookups_first files me uses scopes;
  behind = λ me named kept. missing_first files me named kept;
}
