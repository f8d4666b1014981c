use Rattle.std.proofs.Common.{◌≡◌, ℕ, List, length, sym, subst, ap, ◌∙◌}
use Rattle.wit_types.specs.declared.interface.TypeDef.{TypeDef}
use Rattle.wit_types.specs.declared.interface.TypeOwner.TheVariants as belongs
use Rattle.wit_scopes.specs.Members.{MemberTree}
use Rattle.wit_scopes.specs.View as scope_view
use Rattle.wit_rules.specs.Breaks.{IsKept, IsFaultOf}
use Rattle.wit_arena.specs.Tree.{Place, in_interface}
use Rattle.wit_resolved_scopes.specs.Texts.{InterfaceText, interface_text}
use Rattle.wit_interfaces.specs.Adding.{MembersBreak, MayBring, MakesInterface}
use Rattle.wit_interfaces.proofs.Bringing.{on_both, on_any}
use Rattle.wit_interfaces.proofs.building.add_interface.Goals as goal

pub returns-in-Ok-clause-adds : goal.returns-in-Ok-clause-adds
returns-in-Ok-clause-adds c =
    let o : Place = in_interface c.args.interface.now.name.name.now in
    let k = c.args.building.now.known in
    let a : List TypeDef = c.args.building.now.types in
    let text : InterfaceText = interface_text (scope_view.interface_scope c.args.interface.now) in
    let id_is : c.from_index-id.result ≡ length c.args.building.now.interfaces = c.from_index-id.ensures ∙ c.len.ensures in
    let made = c.in-Ok.made in
    let at_text : MakesInterface k a text c.from_index-id.result c.make_interface.new.types made.table made.interface =
    subst (λ (t : InterfaceText). MakesInterface k a t c.from_index-id.result c.make_interface.new.types made.table made.interface) c.text_of-text.ensures (c.in-Ok.ensures.makes o) in
    let at_id : MakesInterface k a text (length c.args.building.now.interfaces) c.make_interface.new.types made.table made.interface =
    subst (λ (n : ℕ). MakesInterface k a text n c.make_interface.new.types made.table made.interface) id_is at_text in
    let at_types : MakesInterface k a text (length c.args.building.now.interfaces) c.keep_interface.new.building.types made.table made.interface =
    subst (λ (b : List TypeDef). MakesInterface k a text (length c.args.building.now.interfaces) b made.table made.interface) (sym c.keep_interface.ensures.types) at_id in
    on_both c.keep_interface.result (λ known behind. record { table = made.table; made = made.interface; makes = at_types; known = known; behind = behind }) c.keep_interface.ensures.known c.keep_interface.ensures.behind

pub returns-in-Ok-clause-kept : goal.returns-in-Ok-clause-kept
returns-in-Ok-clause-kept c = λ d may.
    let o : Place = in_interface c.args.interface.now.name.name.now in
    let id_is : c.from_index-id.result ≡ length c.args.building.now.interfaces = c.from_index-id.ensures ∙ c.len.ensures in
    let members_are : scope_view.members c.text_of-text.result.members.now ≡ (scope_view.interface_scope c.args.interface.now).members = ap (λ (t : InterfaceText). t.members) c.text_of-text.ensures in
    let at_id = subst (λ (n : ℕ). MayBring d o (belongs.Interface n) c.args.building.now.known c.args.building.now.types (scope_view.interface_scope c.args.interface.now).members) (sym id_is) may in
    let all = subst (λ (ms : List MemberTree). MayBring d o (belongs.Interface c.from_index-id.result) c.args.building.now.known c.args.building.now.types ms) (sym members_are) at_id in
    on_any c.keep_interface.result (subst (λ (ms : List MemberTree). IsKept (MembersBreak d o ms)) members_are (c.in-Ok.ensures.kept d o all))

pub returns-in-Err-clause-cause : goal.returns-in-Err-clause-cause
returns-in-Err-clause-cause c = λ d may.
    let o : Place = in_interface c.args.interface.now.name.name.now in
    let id_is : c.from_index-id.result ≡ length c.args.building.now.interfaces = c.from_index-id.ensures ∙ c.len.ensures in
    let members_are : scope_view.members c.text_of-text.result.members.now ≡ (scope_view.interface_scope c.args.interface.now).members = ap (λ (t : InterfaceText). t.members) c.text_of-text.ensures in
    let at_id = subst (λ (n : ℕ). MayBring d o (belongs.Interface n) c.args.building.now.known c.args.building.now.types (scope_view.interface_scope c.args.interface.now).members) (sym id_is) may in
    let all = subst (λ (ms : List MemberTree). MayBring d o (belongs.Interface c.from_index-id.result) c.args.building.now.known c.args.building.now.types ms) (sym members_are) at_id in
    subst (λ (ms : List MemberTree). IsFaultOf (MembersBreak d o ms) c.in-Err.fault) members_are (c.in-Err.ensures.cause d o all)
