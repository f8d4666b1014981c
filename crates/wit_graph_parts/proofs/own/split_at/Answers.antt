use Rattle.std.proofs.Common.{arith, sym, subst}
use Rattle.std.proofs.lemmas.List.{nil_from_length}
use Rattle.wit_graph_parts.proofs.Taking.{AreHalves, first_more, others_more, halves_done, no_halves}
use Rattle.wit_graph_parts.proofs.own.split_at.Goals as goal

pub loop-item-init : goal.loop-item-init
loop-item-init g c = no_halves c.args.so_many c.args.items.items _ _ _ c.new-first.ensures.items c.new-others.ensures.items c.into_iter-item-iterator.ensures.into_iter_gives.0

pub loop-item-preserved-in-Continue-1 : goal.loop-item-preserved-in-Continue-1
loop-item-preserved-in-Continue-1 g c =
    subst (λ xs. AreHalves c.args.so_many c.args.items.items xs c.loop-item.others.items c.next.new.self.rest.items) (sym c.in_ok-push.ensures.items)
    (first_more c.args.so_many c.args.items.items c.loop-item.first.items c.loop-item.others.items c.loop-item.item-iterator.rest.items c.next.new.self.rest.items c.in-Some.item c.in-Some.ensures.steps.0
    (let t = c.if-len-so_many.true in let e = c.len.ensures in omega (arith, t, e)) c.loop-item.invariant)

pub loop-item-preserved : goal.loop-item-preserved
loop-item-preserved g c =
    subst (λ xs. AreHalves c.args.so_many c.args.items.items c.loop-item.first.items xs c.next.new.self.rest.items) (sym c.in_ok-push-2.ensures.items)
    (others_more c.args.so_many c.args.items.items c.loop-item.first.items c.loop-item.others.items c.loop-item.item-iterator.rest.items c.next.new.self.rest.items c.in-Some.item c.in-Some.ensures.steps.0
    (let t = c.if-len-so_many.false in let e = c.len.ensures in omega (arith, t, e)) c.loop-item.invariant)

pub returns : goal.returns
returns g c =
    let rest = c.loop-item.item-iterator.rest in
    let none = c.in-None.ensures.steps.0 in
    let size = rest.ok.0 in
    halves_done c.args.so_many c.args.items.items c.loop-item.first.items c.loop-item.others.items rest.items (nil_from_length rest.items (omega (arith, none, size))) c.loop-item.invariant
