use Rattle.std.proofs.Common.{sym, subst}
use Rattle.wit_types.specs.declared.kind.«Type».TheVariants.{Id}
use Rattle.wit_types.specs.declared.kind.TypeDefKind.TheVariants as kind
use Rattle.wit_rules.specs.Passed.wit_syntax-AstView as view
use Rattle.wit_rules.specs.Passed.wit_scopes-declared-members-MemberKind.{MemberKind}
use Rattle.wit_rules.specs.Passed.wit_scopes-View as scope_view
use Rattle.wit_package_types.specs.Fill.{names_of, IsFound, GivesKind, gives_defined, gives_used}
use Rattle.wit_package_types.proofs.Finding.{named_entry}
use Rattle.wit_package_types.proofs.fill.kind_in.Goals as goal

pub lower_kind-requires : goal.lower_kind-requires
lower_kind-requires c =
    let found = subst (λ (k : MemberKind). IsFound c.args.known.now (names_of c.args.table.now) (scope_view.member_kind k)) c.in-Defined.is c.requires in
    rw c.deref.ensures (λ x has. named_entry c.args.table.now x.text (found x has))

pub returns-in_ok-lower_kind-in-Defined : goal.returns-in_ok-lower_kind-in-Defined
returns-in_ok-lower_kind-in-Defined c =
    subst (λ (k : MemberKind). GivesKind c.args.known.now c.args.table.now c.args.types.now (scope_view.member_kind k) c.lower_kind.new.types c.in_ok-lower_kind-in-Defined.field-0) (sym c.in-Defined.is)
    (gives_defined (view.type_def_kind c.in-Defined.kind.value) c.lower_kind.new.types c.in_ok-lower_kind-in-Defined.field-0 (rw c.deref.ensures at c.in_ok-lower_kind-in-Defined.ensures))

pub returns-in-Some : goal.returns-in-Some
returns-in-Some c =
    subst (λ (k : MemberKind). GivesKind c.args.known.now c.args.table.now c.args.types.now (scope_view.member_kind k) c.args.types.now (kind.Alias (Id c.in-Some.id))) (sym c.in-Used.is)
    (gives_used (scope_view.target c.in-Used.from) (view.id c.in-Used.name) c.in-Some.id c.in-Some.ensures.some)
