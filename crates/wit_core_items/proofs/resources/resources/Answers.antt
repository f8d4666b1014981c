use Rattle.std.proofs.Common.{refl, sym, ◌∙◌}
use Rattle.wit_core_names.specs.Texts.{known}
use Rattle.wit_core_items.specs.World.{is_resource}
use Rattle.wit_core_items.proofs.Lists.{kept_step, left_step}
use Rattle.wit_core_items.proofs.resources.resources.Goals as goal

pub loop-id-init : goal.loop-id-init
loop-id-init c = rw (c.into_iter-id-iterator.ensures.into_iter_gives, c.values-id-items.ensures.rest, c.new-found.ensures.items) refl

pub loop-id-preserved-in-Continue-1 : goal.loop-id-preserved-in-Continue-1
loop-id-preserved-in-Continue-1 c =
    kept_step (is_resource (known c.args.tables.now)) c.loop-id.found.items c.push.new.self.items c.loop-id.id-iterator c.next.new.self c.in-Some.id.now _ c.in-Some.ensures.steps (sym c.is_resource.ensures ∙ c.if-is_resource.true) c.in_ok-push.ensures.items c.loop-id.invariant

pub loop-id-preserved : goal.loop-id-preserved
loop-id-preserved c =
    left_step (is_resource (known c.args.tables.now)) c.loop-id.found.items c.loop-id.id-iterator c.next.new.self c.in-Some.id.now _ c.in-Some.ensures.steps (sym c.is_resource.ensures ∙ c.if-is_resource.false) c.loop-id.invariant
