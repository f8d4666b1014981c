use Rattle.std.proofs.Common.{ℕ, ◌<◌, List, sym, subst, refl, inl, arith}
use Rattle.wit_order.specs.Order.{Has}
use Rattle.wit_order.proofs.Steps.{popped_step, above_apart, takes_from}
use Rattle.wit_order.proofs.sorter.Sorter.next.Goals as goal

pub place-requires-clause-settled : goal.place-requires-clause-settled
place-requires-clause-settled c =
    popped_step c.args.needs.now c.args.self.now _ c.in-Some.place c.pop_first.new.self.keys c.requires.settled c.in-Some.ensures.removal c.in-Some.ensures.all_above refl refl refl

pub place-requires-clause-apart : goal.place-requires-clause-apart
place-requires-clause-apart c = λ h.
    let l : c.in-Some.place < c.in-Some.place = above_apart c.in-Some.place c.pop_first.new.self.keys c.in-Some.place c.in-Some.ensures.all_above h in
    omega arith

pub place-requires-clause-place : goal.place-requires-clause-place
place-requires-clause-place c =
    c.requires.settled.place c.in-Some.place (subst (λ (q : List ℕ). Has q c.in-Some.place) (sym c.in-Some.ensures.removal) (inl refl))

pub returns : goal.returns
returns c =
    takes_from c.args.needs.now c.args.self.now c.place.new.self c.in-Some.place c.pop_first.new.self.keys
    c.requires.settled c.in-Some.ensures.removal c.in-Some.ensures.all_above c.in_ok-place.ensures.settled c.in_ok-place.ensures.flags
