use Rattle.std.proofs.Common.{◌≡◌, ℕ, ◌+◌, [], ◌∷◌, List, length, length-append, refl, sym, subst, ap, ◌∙◌}
use Rattle.std.specs.Prelude.{OnOk, IfErr, slice_get}
use Rattle.wit_types.specs.declared.interface.Interface.{Interface}
use Rattle.wit_types.specs.declared.interface.TypeDef.{TypeDef}
use Rattle.wit_scopes.specs.View as scope_view
use Rattle.wit_rules.specs.Breaks.{IsKept, IsFaultOf}
use Rattle.wit_arena.specs.Tree.{Name}
use Rattle.wit_arena.proofs.Extending.{extends_self}
use Rattle.wit_resolved_scopes.specs.Texts.{InterfaceText, listed_text, member_texts}
use Rattle.wit_interfaces.specs.Labelled.{TextsBreak, MayAddTexts, AddsMore}
use Rattle.wit_scopes.proofs.Outcomes.{on_ok, if_err}
use Rattle.wit_interfaces.specs.Adding.{MembersBreak}
use Rattle.wit_interfaces.proofs.Bringing.{on_both}
use Rattle.wit_interfaces.proofs.Labelling.{interface_texts, unlisted_texts, other_texts, may_bring_one, adds_one_more, adds_no_more, one_kept, one_text_breaks, none_kept, no_text_more}
use Rattle.wit_interfaces.proofs.labelled.add_member_text.Goals as goal

pub add_labelled_interface-requires-clause-ready : goal.add_labelled_interface-requires-clause-ready
add_labelled_interface-requires-clause-ready c = λ w.
    let ready = c.requires.ready in
    let are = interface_texts ready.0 c.args.member.now c.in-Listed.listed c.in-Interface.members c.as_slice.result.now c.in-Listed.is c.in-Interface.is c.as_slice.ensures.value in
    let r = ready.1 (listed_text ready.0 (scope_view.listed c.in-Listed.listed) (scope_view.members c.as_slice.result.now)) (0, ap (λ (ts : List InterfaceText). slice_get ts 0) are) in
    record { members = r.members; functions_apart = r.functions_apart; gates = r.gates }

pub returns-in-Interface-clause-so_many : goal.returns-in-Interface-clause-so_many
returns-in-Interface-clause-so_many c = λ w.
    let are = interface_texts w c.args.member.now c.in-Listed.listed c.in-Interface.members c.as_slice.result.now c.in-Listed.is c.in-Interface.is c.as_slice.ensures.value in
    let ids : List ℕ = c.args.ids.now.items in
    on_ok c.add_labelled_interface.result
    (λ behind. ap length behind ∙ length-append ids (length c.args.building.now.interfaces ∷ []) ∙ ap (λ (ts : List InterfaceText). length ids + length ts) (sym are))
    c.add_labelled_interface.ensures.ids

pub returns-in-Interface-clause-adds : goal.returns-in-Interface-clause-adds
returns-in-Interface-clause-adds c = λ d w may.
    let k = c.args.building.now.known in
    let a : List TypeDef = c.args.building.now.types in
    let old : List Interface = c.args.building.now.interfaces in
    let new = c.add_labelled_interface.new in
    let t : InterfaceText = listed_text w (scope_view.listed c.in-Listed.listed) (scope_view.members c.as_slice.result.now) in
    let are = interface_texts w c.args.member.now c.in-Listed.listed c.in-Interface.members c.as_slice.result.now c.in-Listed.is c.in-Interface.is c.as_slice.ensures.value in
    let may_one = subst (λ (ts : List InterfaceText). MayAddTexts d k a (length old) ts) are may in
    subst (λ (ts : List InterfaceText). OnOk c.add_labelled_interface.result (AddsMore d k a old c.args.ids.now.items ts new.building.types new.building.interfaces new.ids.items)) (sym are)
    (on_both c.add_labelled_interface.result (λ adds ids. adds_one_more d k a old t may_one new.building.types adds.0 adds.1 adds.2 new.building.interfaces adds.3 c.args.ids.now.items new.ids.items ids) (c.add_labelled_interface.ensures.adds w) c.add_labelled_interface.ensures.ids)

pub returns-in-Interface-clause-kept : goal.returns-in-Interface-clause-kept
returns-in-Interface-clause-kept c = λ d w may.
    let k = c.args.building.now.known in
    let a : List TypeDef = c.args.building.now.types in
    let old : List Interface = c.args.building.now.interfaces in
    let t : InterfaceText = listed_text w (scope_view.listed c.in-Listed.listed) (scope_view.members c.as_slice.result.now) in
    let are = interface_texts w c.args.member.now c.in-Listed.listed c.in-Interface.members c.as_slice.result.now c.in-Listed.is c.in-Interface.is c.as_slice.ensures.value in
    let may_one = subst (λ (ts : List InterfaceText). MayAddTexts d k a (length old) ts) are may in
    subst (λ (ts : List InterfaceText). OnOk c.add_labelled_interface.result (IsKept (TextsBreak d ts))) (sym are)
    (on_ok c.add_labelled_interface.result (one_kept d t) (c.add_labelled_interface.ensures.kept d t.place (may_bring_one d k a old t may_one)))

pub returns-in-Interface-clause-cause : goal.returns-in-Interface-clause-cause
returns-in-Interface-clause-cause c = λ d w may.
    let k = c.args.building.now.known in
    let a : List TypeDef = c.args.building.now.types in
    let old : List Interface = c.args.building.now.interfaces in
    let t : InterfaceText = listed_text w (scope_view.listed c.in-Listed.listed) (scope_view.members c.as_slice.result.now) in
    let are = interface_texts w c.args.member.now c.in-Listed.listed c.in-Interface.members c.as_slice.result.now c.in-Listed.is c.in-Interface.is c.as_slice.ensures.value in
    let may_one = subst (λ (ts : List InterfaceText). MayAddTexts d k a (length old) ts) are may in
    subst (λ (ts : List InterfaceText). IfErr c.add_labelled_interface.result (IsFaultOf (TextsBreak d ts))) (sym are)
    (if_err c.add_labelled_interface.result (IsFaultOf (MembersBreak d t.place t.members)) (IsFaultOf (TextsBreak d (t ∷ []))) (one_text_breaks d t) (c.add_labelled_interface.ensures.cause d t.place (may_bring_one d k a old t may_one)))

pub returns-in_default-kind : goal.returns-in_default-kind
returns-in_default-kind c =
    let are : (w : Name) → member_texts w (scope_view.world_member c.args.member.now) ≡ [] =
    λ w. ap (λ m. member_texts w (scope_view.world_member m)) c.in-Listed.is ∙ other_texts w (scope_view.listed c.in-Listed.listed) c.in-Listed.listed.kind c.in_default-kind.not-Interface in
    record {
      known = refl;
      grown = extends_self c.args.building.now.types;
      so_many = λ w. no_text_more c.args.ids.now.items (member_texts w (scope_view.world_member c.args.member.now)) (are w);
      natures = c.requires.natures;
      adds = λ d w may. adds_no_more d c.args.building.now.known c.args.building.now.types c.args.building.now.interfaces c.args.ids.now.items (member_texts w (scope_view.world_member c.args.member.now)) (are w) may;
      kept = λ d w may. none_kept d (member_texts w (scope_view.world_member c.args.member.now)) (are w);
      cause = λ d w may. tt;
    }

pub returns-in_default : goal.returns-in_default
returns-in_default c =
    let are : (w : Name) → member_texts w (scope_view.world_member c.args.member.now) ≡ [] = λ w. unlisted_texts w c.args.member.now c.in_default.not-Listed in
    record {
      known = refl;
      grown = extends_self c.args.building.now.types;
      so_many = λ w. no_text_more c.args.ids.now.items (member_texts w (scope_view.world_member c.args.member.now)) (are w);
      natures = c.requires.natures;
      adds = λ d w may. adds_no_more d c.args.building.now.known c.args.building.now.types c.args.building.now.interfaces c.args.ids.now.items (member_texts w (scope_view.world_member c.args.member.now)) (are w) may;
      kept = λ d w may. none_kept d (member_texts w (scope_view.world_member c.args.member.now)) (are w);
      cause = λ d w may. tt;
    }
