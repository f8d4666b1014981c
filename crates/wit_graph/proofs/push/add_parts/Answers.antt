use Rattle.std.proofs.Common.{◌≡◌, ℕ, inl, subst, ◌∙◌, arith, length}
use Rattle.std.proofs.lemmas.Result.{err_from_is_err_and}
use Rattle.wit_moves.specs.View.{owners}
use Rattle.wit_graph.specs.Graph.{items}
use Rattle.wit_graph_parts.specs.Own.{parts}
use Rattle.wit_graph_parts.specs.Parts.{AreTypesAdded}
use Rattle.wit_graph_parts.proofs.Passed.wit_graph_worlds-Belonging.{added_named, added_listed, added_nameless}
use Rattle.wit_graph.proofs.Readying.{types_backward, types_below, uses_long, backward_uses, sound, elaborated, among, whole}
use Rattle.wit_graph.proofs.Refusing.{interfaces_refused, worlds_refused, grown_twice, known_first}
use Rattle.wit_graph.proofs.push.add_parts.Goals as goal

pub add_interfaces-requires-clause-backward : goal.add_interfaces-requires-clause-backward
add_interfaces-requires-clause-backward c =
    types_backward c.args.by.now.features.now c.args.by.now.owner (items c.args.types.now c.args.natures.now c.args.interfaces.now c.args.worlds.now) c.requires.ready.0 (parts c.args.own) (owners c.args.by.now.plan.now.owners) c.args.by.now.plan.now.types c.requires.ready.1 c.add_types.new.types (subst (λ (n : ℕ). AreTypesAdded (owners c.args.by.now.plan.now.owners) c.args.by.now.plan.now.types n c.args.own.types.items c.args.types.now c.add_types.new.types) (c.len-first.ensures ∙ (let o = c.args.own.unknown.ok.0 in let e : c.args.own.unknown.len ≡ length c.args.own.unknown.items = omega (arith, o) in e)) c.in_ok-add_types.ensures.ok) c.law_found_types_are_there.ensures c.law_moved_types_are_backward.ensures

pub add_interfaces-requires-clause-below : goal.add_interfaces-requires-clause-below
add_interfaces-requires-clause-below c =
    types_below c.args.by.now.features.now c.args.by.now.owner (items c.args.types.now c.args.natures.now c.args.interfaces.now c.args.worlds.now) c.requires.ready.0 (parts c.args.own) (owners c.args.by.now.plan.now.owners) c.args.by.now.plan.now.types c.requires.ready.1 c.add_types.new.types (subst (λ (n : ℕ). AreTypesAdded (owners c.args.by.now.plan.now.owners) c.args.by.now.plan.now.types n c.args.own.types.items c.args.types.now c.add_types.new.types) (c.len-first.ensures ∙ (let o = c.args.own.unknown.ok.0 in let e : c.args.own.unknown.len ≡ length c.args.own.unknown.items = omega (arith, o) in e)) c.in_ok-add_types.ensures.ok) c.law_found_types_are_there.ensures c.law_moved_types_are_backward.ensures

pub returns-in_err-interface_names-clause-cause : goal.returns-in_err-interface_names-clause-cause
returns-in_err-interface_names-clause-cause c =
    let p = err_from_is_err_and c.from_residual-in_err-interface_names.result c.from_residual-in_err-interface_names.ensures.1 in
    rw (p.1, p.2) (interfaces_refused c.args.by.now.features.now c.args.by.now.owner (owners c.args.by.now.plan.now.owners) c.args.by.now.plan.now.types (parts c.args.own) (items c.args.types.now c.args.natures.now c.args.interfaces.now c.args.worlds.now) c.add_types.new.types (subst (λ (n : ℕ). AreTypesAdded (owners c.args.by.now.plan.now.owners) c.args.by.now.plan.now.types n c.args.own.types.items c.args.types.now c.add_types.new.types) (c.len-first.ensures ∙ (let o = c.args.own.unknown.ok.0 in let e : c.args.own.unknown.len ≡ length c.args.own.unknown.items = omega (arith, o) in e)) c.in_ok-add_types.ensures.ok) c.add_types.new.natures c.in_err-interface_names.field-0.0 c.in_ok-add_types.ensures.natures c.in_err-interface_names.ensures.cause)

pub add_own_worlds-requires-clause-rows : goal.add_own_worlds-requires-clause-rows
add_own_worlds-requires-clause-rows c =
    uses_long c.args.by.now.features.now c.args.by.now.owner (items c.args.types.now c.args.natures.now c.args.interfaces.now c.args.worlds.now) c.requires.ready.0 (parts c.args.own) (owners c.args.by.now.plan.now.owners) c.args.by.now.plan.now.types c.requires.ready.1 c.add_types.new.types (subst (λ (n : ℕ). AreTypesAdded (owners c.args.by.now.plan.now.owners) c.args.by.now.plan.now.types n c.args.own.types.items c.args.types.now c.add_types.new.types) (c.len-first.ensures ∙ (let o = c.args.own.unknown.ok.0 in let e : c.args.own.unknown.len ≡ length c.args.own.unknown.items = omega (arith, o) in e)) c.in_ok-add_types.ensures.ok) c.law_found_types_are_there.ensures c.law_moved_types_are_backward.ensures c.add_interfaces.new.interfaces c.in_ok-interface_names.interface_names.entries c.in_ok-interface_names.ensures.ok c.law_interfaces_take_places.ensures c.law_moved_types_belong.ensures c.law_moved_interfaces_hold_their_types.ensures c.law_moved_interfaces_are_there.ensures (λ at b. c.requires.ready.1.planned.kept at (inl b))

pub add_own_worlds-requires-clause-uses : goal.add_own_worlds-requires-clause-uses
add_own_worlds-requires-clause-uses c =
    backward_uses c.args.by.now.features.now c.args.by.now.owner (items c.args.types.now c.args.natures.now c.args.interfaces.now c.args.worlds.now) c.requires.ready.0 (parts c.args.own) (owners c.args.by.now.plan.now.owners) c.args.by.now.plan.now.types c.requires.ready.1 c.add_types.new.types (subst (λ (n : ℕ). AreTypesAdded (owners c.args.by.now.plan.now.owners) c.args.by.now.plan.now.types n c.args.own.types.items c.args.types.now c.add_types.new.types) (c.len-first.ensures ∙ (let o = c.args.own.unknown.ok.0 in let e : c.args.own.unknown.len ≡ length c.args.own.unknown.items = omega (arith, o) in e)) c.in_ok-add_types.ensures.ok) c.law_found_types_are_there.ensures c.law_moved_types_are_backward.ensures c.add_interfaces.new.interfaces c.in_ok-interface_names.interface_names.entries c.in_ok-interface_names.ensures.ok c.law_interfaces_take_places.ensures c.law_moved_types_belong.ensures c.law_moved_interfaces_hold_their_types.ensures c.law_moved_interfaces_are_there.ensures (λ at b. c.requires.ready.1.planned.kept at (inl b))

pub add_own_worlds-requires-clause-sound : goal.add_own_worlds-requires-clause-sound
add_own_worlds-requires-clause-sound c =
    sound c.args.by.now.features.now c.args.by.now.owner (items c.args.types.now c.args.natures.now c.args.interfaces.now c.args.worlds.now) c.requires.ready.0 (parts c.args.own) (owners c.args.by.now.plan.now.owners) c.args.by.now.plan.now.types c.requires.ready.1 c.add_types.new.types (subst (λ (n : ℕ). AreTypesAdded (owners c.args.by.now.plan.now.owners) c.args.by.now.plan.now.types n c.args.own.types.items c.args.types.now c.add_types.new.types) (c.len-first.ensures ∙ (let o = c.args.own.unknown.ok.0 in let e : c.args.own.unknown.len ≡ length c.args.own.unknown.items = omega (arith, o) in e)) c.in_ok-add_types.ensures.ok) c.law_found_types_are_there.ensures c.law_moved_types_are_backward.ensures c.add_interfaces.new.interfaces c.in_ok-interface_names.interface_names.entries c.in_ok-interface_names.ensures.ok c.law_interfaces_take_places.ensures c.law_moved_types_belong.ensures c.law_moved_interfaces_hold_their_types.ensures c.law_moved_interfaces_are_there.ensures (λ at b. c.requires.ready.1.planned.kept at (inl b))

pub add_own_worlds-requires-clause-elaborated : goal.add_own_worlds-requires-clause-elaborated
add_own_worlds-requires-clause-elaborated c =
    elaborated c.args.by.now.features.now c.args.by.now.owner (items c.args.types.now c.args.natures.now c.args.interfaces.now c.args.worlds.now) c.requires.ready.0 (parts c.args.own) (owners c.args.by.now.plan.now.owners) c.args.by.now.plan.now.types c.requires.ready.1 c.add_types.new.types (subst (λ (n : ℕ). AreTypesAdded (owners c.args.by.now.plan.now.owners) c.args.by.now.plan.now.types n c.args.own.types.items c.args.types.now c.add_types.new.types) (c.len-first.ensures ∙ (let o = c.args.own.unknown.ok.0 in let e : c.args.own.unknown.len ≡ length c.args.own.unknown.items = omega (arith, o) in e)) c.in_ok-add_types.ensures.ok) c.law_found_types_are_there.ensures c.law_moved_types_are_backward.ensures c.add_interfaces.new.interfaces c.in_ok-interface_names.interface_names.entries c.in_ok-interface_names.ensures.ok c.law_interfaces_take_places.ensures c.law_moved_types_belong.ensures c.law_moved_interfaces_hold_their_types.ensures c.law_moved_interfaces_are_there.ensures (λ at b. c.requires.ready.1.planned.kept at (inl b)) c.law_elaborated_worlds_stay.ensures

pub add_own_worlds-requires-clause-below : goal.add_own_worlds-requires-clause-below
add_own_worlds-requires-clause-below c =
    types_below c.args.by.now.features.now c.args.by.now.owner (items c.args.types.now c.args.natures.now c.args.interfaces.now c.args.worlds.now) c.requires.ready.0 (parts c.args.own) (owners c.args.by.now.plan.now.owners) c.args.by.now.plan.now.types c.requires.ready.1 c.add_types.new.types (subst (λ (n : ℕ). AreTypesAdded (owners c.args.by.now.plan.now.owners) c.args.by.now.plan.now.types n c.args.own.types.items c.args.types.now c.add_types.new.types) (c.len-first.ensures ∙ (let o = c.args.own.unknown.ok.0 in let e : c.args.own.unknown.len ≡ length c.args.own.unknown.items = omega (arith, o) in e)) c.in_ok-add_types.ensures.ok) c.law_found_types_are_there.ensures c.law_moved_types_are_backward.ensures

pub add_own_worlds-requires-clause-among : goal.add_own_worlds-requires-clause-among
add_own_worlds-requires-clause-among c =
    among c.args.by.now.features.now c.args.by.now.owner (items c.args.types.now c.args.natures.now c.args.interfaces.now c.args.worlds.now) c.requires.ready.0 (parts c.args.own) (owners c.args.by.now.plan.now.owners) c.args.by.now.plan.now.types c.requires.ready.1 c.add_types.new.types (subst (λ (n : ℕ). AreTypesAdded (owners c.args.by.now.plan.now.owners) c.args.by.now.plan.now.types n c.args.own.types.items c.args.types.now c.add_types.new.types) (c.len-first.ensures ∙ (let o = c.args.own.unknown.ok.0 in let e : c.args.own.unknown.len ≡ length c.args.own.unknown.items = omega (arith, o) in e)) c.in_ok-add_types.ensures.ok) c.law_found_types_are_there.ensures c.law_moved_types_are_backward.ensures c.add_interfaces.new.interfaces c.in_ok-interface_names.interface_names.entries c.in_ok-interface_names.ensures.ok c.law_interfaces_take_places.ensures c.law_moved_types_belong.ensures c.law_moved_interfaces_hold_their_types.ensures c.law_moved_interfaces_are_there.ensures (λ at b. c.requires.ready.1.planned.kept at (inl b))

pub returns-in_err-world_names-clause-cause : goal.returns-in_err-world_names-clause-cause
returns-in_err-world_names-clause-cause c =
    let p = err_from_is_err_and c.from_residual-in_err-world_names.result c.from_residual-in_err-world_names.ensures.1 in
    rw (p.1, p.2) (worlds_refused c.args.by.now.features.now c.args.by.now.owner (owners c.args.by.now.plan.now.owners) c.args.by.now.plan.now.types (parts c.args.own) (items c.args.types.now c.args.natures.now c.args.interfaces.now c.args.worlds.now) c.add_types.new.types (subst (λ (n : ℕ). AreTypesAdded (owners c.args.by.now.plan.now.owners) c.args.by.now.plan.now.types n c.args.own.types.items c.args.types.now c.add_types.new.types) (c.len-first.ensures ∙ (let o = c.args.own.unknown.ok.0 in let e : c.args.own.unknown.len ≡ length c.args.own.unknown.items = omega (arith, o) in e)) c.in_ok-add_types.ensures.ok) c.add_interfaces.new.interfaces c.in_ok-interface_names.interface_names.entries c.in_err-world_names.field-0.0 c.in_ok-interface_names.ensures.ok c.in_err-world_names.ensures.cause)

pub follow-requires : goal.follow-requires
follow-requires c =
    known_first c.add_types.new.types c.add_own_worlds.new.types c.add_types.new.natures c.in_ok-add_types.ensures.natures c.add_own_worlds.ensures.types_grown

pub returns-in_err-follow-clause-types_grown : goal.returns-in_err-follow-clause-types_grown
returns-in_err-follow-clause-types_grown c =
    grown_twice c.args.types.now c.add_types.new.types c.add_own_worlds.new.types c.add_types.ensures.types_grown c.add_own_worlds.ensures.types_grown

pub returns-in_err-follow-clause-natures_grown : goal.returns-in_err-follow-clause-natures_grown
returns-in_err-follow-clause-natures_grown c =
    grown_twice c.args.natures.now c.add_types.new.natures c.follow.new.self c.add_types.ensures.natures_grown c.follow.ensures.grown

pub returns-clause-types_grown : goal.returns-clause-types_grown
returns-clause-types_grown c =
    grown_twice c.args.types.now c.add_types.new.types c.add_own_worlds.new.types c.add_types.ensures.types_grown c.add_own_worlds.ensures.types_grown

pub returns-clause-natures_grown : goal.returns-clause-natures_grown
returns-clause-natures_grown c =
    grown_twice c.args.natures.now c.add_types.new.natures c.follow.new.self c.add_types.ensures.natures_grown c.follow.ensures.grown

pub returns-clause-whole : goal.returns-clause-whole
returns-clause-whole c =
    let more = c.add_own_worlds.ensures.types_grown in
    whole c.args.by.now.features.now c.args.by.now.owner (items c.args.types.now c.args.natures.now c.args.interfaces.now c.args.worlds.now) c.requires.ready.0 (parts c.args.own) (owners c.args.by.now.plan.now.owners) c.args.by.now.plan.now.types c.requires.ready.1 c.add_types.new.types (subst (λ (n : ℕ). AreTypesAdded (owners c.args.by.now.plan.now.owners) c.args.by.now.plan.now.types n c.args.own.types.items c.args.types.now c.add_types.new.types) (c.len-first.ensures ∙ (let o = c.args.own.unknown.ok.0 in let e : c.args.own.unknown.len ≡ length c.args.own.unknown.items = omega (arith, o) in e)) c.in_ok-add_types.ensures.ok) c.law_found_types_are_there.ensures c.law_moved_types_are_backward.ensures c.add_interfaces.new.interfaces c.in_ok-interface_names.interface_names.entries c.in_ok-interface_names.ensures.ok c.law_interfaces_take_places.ensures c.law_moved_types_belong.ensures c.law_moved_interfaces_hold_their_types.ensures c.law_moved_interfaces_are_there.ensures (λ at b. c.requires.ready.1.planned.kept at (inl b)) more.0 c.add_own_worlds.new.types c.follow.new.self c.add_own_worlds.new.worlds more.1 c.in_ok-follow.ensures.ok c.in_ok-world_names.ensures.sound c.in_ok-world_names.ensures.elaborated
    (added_named c.add_interfaces.new.interfaces.all c.add_interfaces.new.interfaces.uses c.args.by.now.owner c.in_ok-world_names.ensures.ok.moved _ _ c.in_ok-world_names.ensures.ok.added)
    c.law_moved_types_are_listed.ensures
    (added_listed c.add_interfaces.new.interfaces.all c.add_interfaces.new.interfaces.all c.add_interfaces.new.interfaces.uses c.args.by.now.owner c.in_ok-world_names.ensures.ok.moved _ _ c.in_ok-world_names.ensures.ok.added)
    c.law_moved_interfaces_have_names_apart.ensures
    c.law_moved_nameless_are_free.ensures
    (added_nameless c.add_interfaces.new.interfaces.all c.add_interfaces.new.interfaces.uses c.args.by.now.owner c.in_ok-world_names.ensures.ok.moved _ _ c.in_ok-world_names.ensures.ok.added)
