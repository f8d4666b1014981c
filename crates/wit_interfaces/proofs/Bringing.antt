-- Scopes that may be brought in.
use Rattle.std.proofs.Common.{List, Result, Ok, Err, sym, ◌∙◌}
use Rattle.std.specs.Prelude.{OnOk, IfOk, string_bytes}
use Rattle.wit_types.specs.declared.function.Function.{Function}
use Rattle.wit_rules.specs.Labels.{full_name}
use Rattle.wit_arena.specs.Table.{Entries}
use Rattle.wit_resolved_scopes.specs.Each.{AreApartBy}
use Rattle.wit_resolved_scopes.specs.Scope.{functions_among, ResolvesScope}
use Rattle.wit_resolved_scopes.proofs.Eaches.{each_right}
use Rattle.wit_resolved_scopes.proofs.Following.{functions_extend}
use Rattle.wit_resolved_scopes.proofs.Placing.{functions_put}
use Rattle.wit_arena.proofs.Extending.{Extends, extends_through}
use Rattle.wit_resolved_scopes.proofs.Passed.wit_package_types-Filling.{filled_extends}
use Rattle.wit_types.specs.declared.interface.TypeDef.{TypeDef}
use Rattle.wit_types.specs.declared.interface.TypeOwner.{TypeOwner}
use Rattle.wit_scopes.specs.Members.{MemberTree}
use Rattle.wit_resolved_scopes.specs.Passed.wit_orders-Needs.{types_of}
use Rattle.wit_arena.specs.Tree.{Place, resource_leaf}
use Rattle.wit_resolved_scopes.specs.Passed.wit_package_types-Known.{KnownTypes}
use Rattle.wit_resolved_scopes.specs.Faults.{MayBeFilled}
use Rattle.wit_resolved_scopes.specs.InArena.{Context, IsFunctionOf}
use Rattle.wit_interfaces.specs.Adding.{MayBring}

pub may_fill : (c : Context) (o : Place) (whose : TypeOwner) (k : KnownTypes) (a : List TypeDef) (ms : List MemberTree) → MayBring c o whose k a ms → MayBeFilled c.me c.scopes c.owners o whose k (types_of ms) a
may_fill c o whose k a ms may = record { functional = may.built.functional; of_scope = may.of_scope; whole = may.built.whole resource_leaf; known = may.built.known resource_leaf }

-- a scope that is brought in goes behind what stood there
pub scope_extends : (k : KnownTypes) (whose : TypeOwner) (a b : List TypeDef) (types ms : List MemberTree) (table : Entries) (fs : List Function) → ResolvesScope k whose a types ms b table fs → Extends a b
scope_extends k whose a b types ms table fs r = extends_through a r.between b (filled_extends k whose a r.types_are.sorted r.between table r.types_are.fills) (functions_extend table r.between b ms fs r.functions)

-- functions whose full names are apart have names that are
pub functions_named_apart : (k : KnownTypes) (whose : TypeOwner) (a b : List TypeDef) (ms : List MemberTree) (table : Entries) (fs : List Function) → ResolvesScope k whose a (types_of ms) ms b table fs → AreApartBy (λ m. full_name m.kind m.name) (functions_among ms)
    → AreApartBy (λ f. string_bytes f.name) fs
functions_named_apart k whose a b ms table fs r apart i j f g at_i at_j same =
    let each = functions_put table r.between ms b fs r.functions in
    let m = each_right (IsFunctionOf table) (functions_among ms) fs each i f at_i in
    let n = each_right (IsFunctionOf table) (functions_among ms) fs each j g at_j in
    apart i j m.0 n.0 m.1 n.1 (sym m.2.name ∙ same ∙ n.2.name)

-- ---- outcomes

pub on_both : {T E P Q R : Type 0} (r : Result T E) → (P → Q → R) → OnOk r P → OnOk r Q → OnOk r R
on_both (Ok x) f p q = f p q
on_both (Err e) f p q = tt

pub on_any : {T E R : Type 0} (r : Result T E) → R → OnOk r R
on_any (Ok x) h = h
on_any (Err e) h = tt

pub if_both : {T E : Type 0} (r : Result T E) (P Q R : T → Type 0) → ((x : T) → P x → Q x → R x) → IfOk r P → IfOk r Q → IfOk r R
if_both (Ok x) P Q R f p q = f x p q
if_both (Err e) P Q R f p q = tt
