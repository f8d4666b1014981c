use Rattle.std.proofs.Common.{ℕ, List, sym, subst}
use Rattle.wit_syntax.specs.AstView as view
use Rattle.wit_types.specs.declared.function.Function.{Function}
use Rattle.wit_types.specs.WorldKey.{spelled, placed}
use Rattle.wit_scopes.specs.declared.worlds.ExternKind.{ExternKind as Kind}
use Rattle.wit_scopes.specs.Scopes as scope
use Rattle.wit_scopes.specs.View as scope_view
use Rattle.wit_worlds.specs.Listing.{MakesFunctionEntry, MakesInterfaceEntry, MakesListed, makes_function, makes_interface, makes_item}
use Rattle.wit_worlds.specs.PathView as seen
use Rattle.wit_worlds.proofs.Outcomes.{if_to}
use Rattle.wit_worlds.proofs.lists.listed_entry.Goals as goal

pub returns-in-Function : goal.returns-in-Function
returns-in-Function c =
    let ps = seen.paths c.args.paths.now in
    let l = scope_view.listed c.args.listed.now in
    let rest : List Function = c.take_first.new.left.items in
    let ids : List ℕ = c.args.left.now.labelled.items in
    if_to c.function_entry.result (MakesFunctionEntry c.take_first.result) (λ e. MakesListed ps l (scope_view.extern_kind c.args.listed.now.kind) c.args.left.now.functions.items ids e rest ids)
    (λ e made.
    subst (λ (k : Kind). MakesListed ps l (scope_view.extern_kind k) c.args.left.now.functions.items ids e rest ids) (sym c.in-Function.is)
    (subst (λ (fs : List Function). MakesListed ps l (scope.ExternKind.function (view.func c.in-Function.field-0.value)) fs ids e rest ids) (sym c.take_first.ensures) (makes_function (view.func c.in-Function.field-0.value) c.take_first.result rest ids e made)))
    c.function_entry.ensures

pub returns-in-Interface : goal.returns-in-Interface
returns-in-Interface c =
    let ps = seen.paths c.args.paths.now in
    let l = scope_view.listed c.args.listed.now in
    let fs : List Function = c.args.left.now.functions.items in
    let rest : List ℕ = c.take_first-in-Interface.new.left.items in
    if_to c.labelled_entry.result (MakesInterfaceEntry l (spelled c.args.listed.now.name.name.now) c.take_first-in-Interface.result)
    (λ e. MakesListed ps l (scope_view.extern_kind c.args.listed.now.kind) fs c.args.left.now.labelled.items e fs rest)
    (λ e made.
    subst (λ (k : Kind). MakesListed ps l (scope_view.extern_kind k) fs c.args.left.now.labelled.items e fs rest) (sym c.in-Interface.is)
    (subst (λ (ids : List ℕ). MakesListed ps l (scope.ExternKind.interface (scope_view.members c.in-Interface.field-0.items)) fs ids e fs rest) (sym c.take_first-in-Interface.ensures)
    (makes_interface (scope_view.members c.in-Interface.field-0.items) fs c.take_first-in-Interface.result rest e made)))
    c.labelled_entry.ensures

pub returns-in-Item : goal.returns-in-Item
returns-in-Item c =
    let ps = seen.paths c.args.paths.now in
    let l = scope_view.listed c.args.listed.now in
    let fs : List Function = c.args.left.now.functions.items in
    let ids : List ℕ = c.args.left.now.labelled.items in
    if_to c.interface_entry.result (MakesInterfaceEntry l (placed c.interface-id.result) c.interface-id.result) (λ e. MakesListed ps l (scope_view.extern_kind c.args.listed.now.kind) fs ids e fs ids)
    (λ e made. subst (λ (k : Kind). MakesListed ps l (scope_view.extern_kind k) fs ids e fs ids) (sym c.in-Item.is) (makes_item (scope_view.target c.in-Item.path) fs c.interface-id.result ids e c.interface-id.ensures made)) c.interface_entry.ensures
