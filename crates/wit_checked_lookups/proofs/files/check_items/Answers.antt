use Rattle.std.proofs.Common.{map, arith}
use Rattle.wit_scopes.specs.View.{item_scope}
use Rattle.wit_lookups.specs.Lookups.{ItemBreaks}
use Rattle.wit_lookups.specs.Names.{known_at, item_file}
use Rattle.wit_lookups.proofs.Loops.{kept_through}
use Rattle.wit_checked_lookups.proofs.files.check_items.Goals as goal

pub returns-clause-ok : goal.returns-clause-ok
returns-clause-ok c =
    kept_through (λ s. ItemBreaks (map item_scope c.args.scopes.now) (known_at c.args.known.now (item_file s)) s) item_scope c.args.scopes.now c.loop-place.place (omega (arith, c.loop-place-test.false)) c.loop-place.invariant
