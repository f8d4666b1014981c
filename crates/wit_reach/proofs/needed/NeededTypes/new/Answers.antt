use Rattle.std.proofs.Common.{List, ℕ, sym, subst, length}
use Rattle.wit_reach.specs.Types.{IsMadeOf, AreTypesThere}
use Rattle.wit_reach.specs.Needed.{AreSorted}
use Rattle.wit_reach.proofs.Ends.{ends_below}
use Rattle.wit_reach.proofs.Sorting.{are_needed}
use Rattle.wit_reach.proofs.needed.NeededTypes.new.Goals as goal

pub by_interface-requires-clause-there : goal.by_interface-requires-clause-there
by_interface-requires-clause-there c =
    subst (AreTypesThere c.args.types.now) (sym c.as_slice.ensures.value)
    (ends_below (IsMadeOf c.args.types.now) (length c.args.types.now) c.args.ids.now c.in_ok-order.order.items c.requires.backward c.requires.there c.in_ok-order.ensures)

pub returns : goal.returns
returns c =
    are_needed c.args.interfaces c.args.types.now c.args.ids.now c.in_ok-order.order.items c.in_ok-of.of.items c.in_ok-of.ensures.size c.in_ok-order.ensures
    (subst (λ (l : List ℕ). AreSorted c.args.types.now l c.in_ok-of.of.items) c.as_slice.ensures.value c.in_ok-of.ensures.sorted)
