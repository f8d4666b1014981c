use Rattle.std.proofs.Common.{◌≡◌, [], sym, subst}
use Rattle.wit_scopes.specs.View as scope_view
use Rattle.wit_arena.specs.Tree.{in_interface}
use Rattle.wit_types.specs.declared.interface.TypeOwner.TheVariants as belongs
use Rattle.wit_resolved_scopes.specs.Passed.wit_orders-Needs.{types_of}
use Rattle.wit_arena.specs.Table.{Entries}
use Rattle.wit_resolved_scopes.specs.Scope.{ResolvesScope}
use Rattle.wit_interfaces.specs.declared.interface.Made.{Made}
use Rattle.wit_interfaces.specs.Interfaces.{IsInterfaceOf}
use Rattle.wit_interfaces.specs.Adding.{MakesInterface}
use Rattle.wit_interfaces.specs.View as seen
use Rattle.wit_interfaces.proofs.Bringing.{functions_named_apart, on_any, if_both}
use Rattle.wit_resolved_scopes.proofs.Readying.{table_apart}
use Rattle.wit_interfaces.proofs.interface.make_interface.Goals as goal

pub bring_members-requires-clause-ready : goal.bring_members-requires-clause-ready
bring_members-requires-clause-ready c = (c.requires.ready (in_interface [])).members

pub made_of-requires-clause-gates : goal.made_of-requires-clause-gates
made_of-requires-clause-gates c = (c.requires.ready (in_interface [])).gates

pub made_of-requires-clause-types : goal.made_of-requires-clause-types
made_of-requires-clause-types c =
    let ms = scope_view.members c.args.text.now.members.now in
    table_apart c.args.known.now (types_of ms) ms (c.requires.ready (in_interface [])).members (belongs.Interface c.args.id) c.args.types.now c.in-Ok.ensures.resolves.between c.in-Ok.scope.table c.in-Ok.ensures.resolves.types_are

pub made_of-requires-clause-functions : goal.made_of-requires-clause-functions
made_of-requires-clause-functions c =
    let ms = scope_view.members c.args.text.now.members.now in
    functions_named_apart c.args.known.now (belongs.Interface c.args.id) c.args.types.now c.bring_members.new.types ms c.in-Ok.scope.table c.in-Ok.scope.functions.items c.in-Ok.ensures.resolves (c.requires.ready (in_interface [])).functions_apart

pub returns-in-Ok-clause-makes : goal.returns-in-Ok-clause-makes
returns-in-Ok-clause-makes c = λ o.
    let ms = scope_view.members c.args.text.now.members.now in
    let scope = c.in-Ok.scope in
    let P : Made → Type 0 = λ m. IsInterfaceOf (seen.text o c.args.text.now) scope.table scope.functions.items m.interface in
    let Q : Made → Type 0 = λ m. m.table ≡ scope.table in
    let R : Made → Type 0 = λ m. MakesInterface c.args.known.now c.args.types.now (seen.text o c.args.text.now) c.args.id c.bring_members.new.types m.table m.interface in
    if_both c.made_of.result P Q R
    (λ m is table_is. record {
      functions = scope.functions.items;
      resolves = subst (λ (t : Entries). ResolvesScope c.args.known.now (belongs.Interface c.args.id) c.args.types.now (types_of ms) ms c.bring_members.new.types t scope.functions.items) (sym table_is) c.in-Ok.ensures.resolves;
      is = subst (λ (t : Entries). IsInterfaceOf (seen.text o c.args.text.now) t scope.functions.items m.interface) (sym table_is) is;
    })
    (c.made_of.ensures.made o) c.made_of.ensures.table

pub returns-in-Ok-clause-kept : goal.returns-in-Ok-clause-kept
returns-in-Ok-clause-kept c = λ d o may. on_any c.made_of.result (c.in-Ok.ensures.kept d o may)
