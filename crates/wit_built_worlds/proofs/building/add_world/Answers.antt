use Rattle.std.proofs.Common.{◌≡◌, ℕ, List, length, sym, subst, ◌∙◌}
use Rattle.wit_scopes.proofs.Outcomes.{if_err, on_ok}
use Rattle.wit_scopes.specs.View as scope_view
use Rattle.wit_types.specs.declared.interface.Interface.{Interface}
use Rattle.wit_types.specs.declared.interface.TypeOwner.TheVariants as belongs
use Rattle.wit_rules.specs.Breaks.{IsFaultOf}
use Rattle.wit_interfaces.specs.Passed.wit_orders-Needs.{types_of}
use Rattle.wit_interfaces.specs.Passed.wit_arena-Tree.{in_world}
use Rattle.wit_interfaces.specs.Passed.wit_package_types-Known.{KnownTypes}
use Rattle.wit_interfaces.specs.Passed.wit_resolved_scopes-Scope.{ResolvesScope}
use Rattle.wit_interfaces.specs.Passed.wit_resolved_scopes-Texts.{labelled_texts, own_members}
use Rattle.wit_interfaces.specs.Adding.{MayBring}
use Rattle.wit_interfaces.specs.Labelled.{TextsBreak, MayAddTexts}
use Rattle.wit_built_worlds.specs.Adding.{WorldBreaks, paths_of}
use Rattle.wit_built_worlds.proofs.Adding.{may_bring_own, may_add_labelled, both_kept, own_breaks, labelled_breaks}
use Rattle.wit_built_worlds.proofs.building.add_world.Goals as goal

pub returns-in-Ok-clause-kept : goal.returns-in-Ok-clause-kept
returns-in-Ok-clause-kept c = λ d may.
    let k = c.args.building.now.known in
    let a = c.args.building.now.types in
    let interfaces = c.args.building.now.interfaces in
    let worlds = c.args.worlds.now.worlds in
    let w = scope_view.world_scope c.args.world.now in
    let ps = paths_of k c.args.items.now c.args.worlds.now.names in
    let new = c.bring_own.new.building in
    let scope = c.in-Ok.scope in
    let id_is : c.from_index-id.result ≡ length worlds = c.from_index-id.ensures ∙ c.len.ensures in
    let bring = subst (λ (n : ℕ). MayBring d (in_world w.name.text) (belongs.World n) k a (own_members w.members)) (sym id_is) (may_bring_own d k a interfaces worlds ps w may) in
    let r = subst (λ (n : ℕ). ResolvesScope k (belongs.World n) a (types_of (own_members w.members)) (own_members w.members) new.types scope.table scope.functions.items) id_is c.in-Ok.ensures.resolves in
    let texts = may_add_labelled d k a interfaces worlds ps w may new.types scope.table scope.functions.items r in
    let at_known = subst (λ (z : KnownTypes). MayAddTexts d z new.types (length interfaces) (labelled_texts w)) (sym c.in-Ok.ensures.known) texts in
    let at_interfaces = subst (λ (is : List Interface). MayAddTexts d new.known new.types (length is) (labelled_texts w)) (sym c.in-Ok.ensures.interfaces) at_known in
    on_ok c.finish_world.result (both_kept d w (c.in-Ok.ensures.kept d bring)) (c.finish_world.ensures.kept d at_interfaces)

pub returns-in-Ok-clause-cause : goal.returns-in-Ok-clause-cause
returns-in-Ok-clause-cause c = λ d may.
    let k = c.args.building.now.known in
    let a = c.args.building.now.types in
    let interfaces = c.args.building.now.interfaces in
    let worlds = c.args.worlds.now.worlds in
    let w = scope_view.world_scope c.args.world.now in
    let ps = paths_of k c.args.items.now c.args.worlds.now.names in
    let new = c.bring_own.new.building in
    let scope = c.in-Ok.scope in
    let id_is : c.from_index-id.result ≡ length worlds = c.from_index-id.ensures ∙ c.len.ensures in
    let r = subst (λ (n : ℕ). ResolvesScope k (belongs.World n) a (types_of (own_members w.members)) (own_members w.members) new.types scope.table scope.functions.items) id_is c.in-Ok.ensures.resolves in
    let texts = may_add_labelled d k a interfaces worlds ps w may new.types scope.table scope.functions.items r in
    let at_known = subst (λ (z : KnownTypes). MayAddTexts d z new.types (length interfaces) (labelled_texts w)) (sym c.in-Ok.ensures.known) texts in
    let at_interfaces = subst (λ (is : List Interface). MayAddTexts d new.known new.types (length is) (labelled_texts w)) (sym c.in-Ok.ensures.interfaces) at_known in
    if_err c.finish_world.result (IsFaultOf (TextsBreak d (labelled_texts w))) (IsFaultOf (WorldBreaks d w)) (labelled_breaks d w) (c.finish_world.ensures.cause d at_interfaces)

pub returns-in-Err-clause-cause : goal.returns-in-Err-clause-cause
returns-in-Err-clause-cause c = λ d may.
    let k = c.args.building.now.known in
    let a = c.args.building.now.types in
    let worlds = c.args.worlds.now.worlds in
    let w = scope_view.world_scope c.args.world.now in
    let ps = paths_of k c.args.items.now c.args.worlds.now.names in
    let id_is : c.from_index-id.result ≡ length worlds = c.from_index-id.ensures ∙ c.len.ensures in
    let bring = subst (λ (n : ℕ). MayBring d (in_world w.name.text) (belongs.World n) k a (own_members w.members)) (sym id_is) (may_bring_own d k a c.args.building.now.interfaces worlds ps w may) in
    own_breaks d w c.in-Err.fault (c.in-Err.ensures.cause d bring)
