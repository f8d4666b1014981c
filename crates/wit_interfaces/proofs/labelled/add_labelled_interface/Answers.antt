use Rattle.std.proofs.Common.{◌≡◌, ℕ, List, [], length, sym, subst, ap, ◌∙◌}
use Rattle.wit_types.specs.declared.interface.TypeDef.{TypeDef}
use Rattle.wit_types.specs.declared.interface.TypeOwner.TheVariants as belongs
use Rattle.wit_scopes.specs.Members.{MemberTree}
use Rattle.wit_scopes.specs.View as scope_view
use Rattle.wit_rules.specs.Breaks.{IsKept, IsFaultOf}
use Rattle.wit_resolved_scopes.specs.Passed.wit_orders-Needs.{types_of}
use Rattle.wit_arena.specs.Tree.{Place, in_listed}
use Rattle.wit_arena.proofs.Extending.{Extends}
use Rattle.wit_resolved_scopes.specs.Texts.{InterfaceText, listed_text}
use Rattle.wit_interfaces.specs.Adding.{MembersBreak, MayBring, IsReadyIn, MakesInterface}
use Rattle.wit_interfaces.proofs.Bringing.{on_any, on_both, scope_extends}
use Rattle.wit_interfaces.proofs.labelled.add_labelled_interface.Goals as goal

pub make_interface-requires-clause-ready : goal.make_interface-requires-clause-ready
make_interface-requires-clause-ready c = λ o.
    let r = subst (λ (t : InterfaceText). IsReadyIn c.args.building.now.known t) (sym (c.labelled_text-text.ensures [])) (c.requires.ready []) in
    record { members = r.members; functions_apart = r.functions_apart; gates = r.gates }

pub returns-in-Ok-clause-adds : goal.returns-in-Ok-clause-adds
returns-in-Ok-clause-adds c = λ w.
    let o : Place = in_listed w c.args.listed.now.side c.args.listed.now.name.name.now in
    let k = c.args.building.now.known in
    let a : List TypeDef = c.args.building.now.types in
    let text : InterfaceText = listed_text w (scope_view.listed c.args.listed.now) (scope_view.members c.args.members.now) in
    let id_is : c.from_index-id.result ≡ length c.args.building.now.interfaces = c.from_index-id.ensures ∙ c.len.ensures in
    let made = c.in-Ok.made in
    let at_text : MakesInterface k a text c.from_index-id.result c.make_interface.new.types made.table made.interface =
    subst (λ (t : InterfaceText). MakesInterface k a t c.from_index-id.result c.make_interface.new.types made.table made.interface) (c.labelled_text-text.ensures w) (c.in-Ok.ensures.makes o) in
    let at_id : MakesInterface k a text (length c.args.building.now.interfaces) c.make_interface.new.types made.table made.interface =
    subst (λ (n : ℕ). MakesInterface k a text n c.make_interface.new.types made.table made.interface) id_is at_text in
    let at_types : MakesInterface k a text (length c.args.building.now.interfaces) c.keep_labelled.new.building.types made.table made.interface =
    subst (λ (b : List TypeDef). MakesInterface k a text (length c.args.building.now.interfaces) b made.table made.interface) (sym c.keep_labelled.ensures.types) at_id in
    on_both c.keep_labelled.result (λ behind ids. (made.table, made.interface, at_types, behind)) c.keep_labelled.ensures.behind c.keep_labelled.ensures.ids

pub returns-in-Ok-clause-grown : goal.returns-in-Ok-clause-grown
returns-in-Ok-clause-grown c =
    let o : Place = in_listed [] c.args.listed.now.side c.args.listed.now.name.name.now in
    let a : List TypeDef = c.args.building.now.types in
    let ms : List MemberTree = scope_view.members c.labelled_text-text.result.members.now in
    let made = c.in-Ok.ensures.makes o in
    let more : Extends a c.make_interface.new.types = scope_extends c.args.building.now.known (belongs.Interface c.from_index-id.result) a c.make_interface.new.types (types_of ms) ms c.in-Ok.made.table made.functions made.resolves in
    on_any c.keep_labelled.result (subst (Extends a) (sym c.keep_labelled.ensures.types) more)

pub returns-in-Ok-clause-kept : goal.returns-in-Ok-clause-kept
returns-in-Ok-clause-kept c = λ d o may.
    let id_is : c.from_index-id.result ≡ length c.args.building.now.interfaces = c.from_index-id.ensures ∙ c.len.ensures in
    let ms : List MemberTree = scope_view.members c.args.members.now in
    let members_are : scope_view.members c.labelled_text-text.result.members.now ≡ ms = ap (λ (t : InterfaceText). t.members) (c.labelled_text-text.ensures []) in
    let at_id = subst (λ (n : ℕ). MayBring d o (belongs.Interface n) c.args.building.now.known c.args.building.now.types ms) (sym id_is) may in
    let all = subst (λ (ns : List MemberTree). MayBring d o (belongs.Interface c.from_index-id.result) c.args.building.now.known c.args.building.now.types ns) (sym members_are) at_id in
    on_any c.keep_labelled.result (subst (λ (ns : List MemberTree). IsKept (MembersBreak d o ns)) members_are (c.in-Ok.ensures.kept d o all))

pub returns-in-Err-clause-cause : goal.returns-in-Err-clause-cause
returns-in-Err-clause-cause c = λ d o may.
    let id_is : c.from_index-id.result ≡ length c.args.building.now.interfaces = c.from_index-id.ensures ∙ c.len.ensures in
    let ms : List MemberTree = scope_view.members c.args.members.now in
    let members_are : scope_view.members c.labelled_text-text.result.members.now ≡ ms = ap (λ (t : InterfaceText). t.members) (c.labelled_text-text.ensures []) in
    let at_id = subst (λ (n : ℕ). MayBring d o (belongs.Interface n) c.args.building.now.known c.args.building.now.types ms) (sym id_is) may in
    let all = subst (λ (ns : List MemberTree). MayBring d o (belongs.Interface c.from_index-id.result) c.args.building.now.known c.args.building.now.types ns) (sym members_are) at_id in
    subst (λ (ns : List MemberTree). IsFaultOf (MembersBreak d o ns) c.in-Err.fault) members_are (c.in-Err.ensures.cause d o all)
