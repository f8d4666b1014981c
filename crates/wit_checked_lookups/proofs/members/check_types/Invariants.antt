use Rattle.std.proofs.Common.{◌++◌}
use Rattle.wit_syntax.specs.AstView as view
use Rattle.wit_lookups.specs.Lookups.{NameBreaks, found_type}
use Rattle.wit_checked_lookups.specs.View as seen
use Rattle.wit_lookups.proofs.Loops.{AreKeptTo}
use Rattle.wit_checked_lookups.proofs.members.check_types.Given as goal

abbrev pub invariant-loop-name : goal.invariant-loop-name
invariant-loop-name l = AreKeptTo (λ x. NameBreaks (found_type l.types (seen.texts l.others ++ l.known ++ l.index.items) x.text) x) view.id l.found l.name-index
