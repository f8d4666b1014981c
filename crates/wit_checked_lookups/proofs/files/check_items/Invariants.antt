use Rattle.std.proofs.Common.{map}
use Rattle.wit_scopes.specs.View as scope_view
use Rattle.wit_lookups.specs.Lookups.{ItemBreaks}
use Rattle.wit_lookups.specs.Names.{known_at, item_file}
use Rattle.wit_lookups.proofs.Loops.{AreKeptTo}
use Rattle.wit_checked_lookups.proofs.files.check_items.Given as goal

abbrev pub invariant-loop-place : goal.invariant-loop-place
invariant-loop-place l =
    let scopes = map scope_view.item_scope l.scopes in
    AreKeptTo (λ s. ItemBreaks scopes (known_at l.known (item_file s)) s) scope_view.item_scope l.scopes l.place
