-- Names of the members of a scope: those of types, and those of functions.
use Rattle.std.proofs.Common.{◌≡◌, List, [], ◌∷◌, ◌++◌, inl, inr, refl, sym, subst, ap, ◌∙◌}
use Rattle.std.proofs.lemmas.List.{map-append}
use Rattle.wit_words.specs.Slice.{Slice}
use Rattle.wit_foreign.specs.Passed.wit_scopes-Members.{MemberKind, MemberTree, used, defined, function, method, static, constructor}
use Rattle.wit_foreign.specs.Passed.wit_scopes-Scopes as scope
use Rattle.wit_foreign.specs.Passed.wit_scopes-Scopes.{WorldMemberTree}
use Rattle.wit_foreign.specs.Passed.wit_rules-Labels.{full_name}
use Rattle.wit_foreign.specs.Passed.wit_lookups-Names.{type_name, type_names, world_type_names}
use Rattle.wit_resolved_scopes.specs.Passed.wit_orders-Needs.{type_of, member_type, types_of, world_types}
use Rattle.wit_foreign.specs.Passed.wit_arena-Tree.{Name}
use Rattle.wit_foreign.specs.Passed.wit_arena-Meaning.{Has}
use Rattle.wit_foreign.specs.Passed.wit_arena-Standing.{IsOfType}
use Rattle.wit_foreign.proofs.Passed.wit_arena-Lists.{has_none, has_here, has_map}
use Rattle.wit_foreign.specs.Passed.wit_package_types-Fill.{member_names}
use Rattle.wit_resolved_scopes.specs.Passed.wit_functions-Signature.{IsFunction}
use Rattle.wit_resolved_scopes.specs.Scope.{function_of}
use Rattle.wit_readiness.proofs.Flat.{AtMostOne, has_one, flat_has}
use Rattle.wit_readiness.proofs.Resources.{HasType}

-- ---- types

-- a type is known by its name alone
pub type_label : (k : MemberKind) (name : Slice) → IsOfType k → full_name k name ≡ name.text
type_label (used t n) name of = refl
type_label (defined d) name of = refl
type_label (function f) name of = absurd of
type_label (method r f) name of = absurd of
type_label (static r f) name of = absurd of
type_label (constructor r ps t) name of = absurd of

pub type_one : (k : MemberKind) (m : MemberTree) → AtMostOne (type_of k m)
type_one (used t n) m = inr (m, refl)
type_one (defined d) m = inr (m, refl)
type_one (function f) m = inl refl
type_one (method r f) m = inl refl
type_one (static r f) m = inl refl
type_one (constructor r ps t) m = inl refl

pub type_given : (k : MemberKind) (m n : MemberTree) → Has (type_of k m) n → IsOfType k × (n ≡ m)
type_given (used t y) m n h = (tt, has_one m n h)
type_given (defined d) m n h = (tt, has_one m n h)
type_given (function f) m n h = absurd (has_none n h)
type_given (method r f) m n h = absurd (has_none n h)
type_given (static r f) m n h = absurd (has_none n h)
type_given (constructor r ps t) m n h = absurd (has_none n h)

pub type_alone : (k : MemberKind) (m : MemberTree) → IsOfType k → Has (type_of k m) m
type_alone (used t n) m of = has_here m []
type_alone (defined d) m of = has_here m []
type_alone (function f) m of = absurd of
type_alone (method r f) m of = absurd of
type_alone (static r f) m of = absurd of
type_alone (constructor r ps t) m of = absurd of

type_named : (k : MemberKind) (m : MemberTree) → type_name k m.name.text ≡ member_names (type_of k m)
type_named (used t n) m = refl
type_named (defined d) m = refl
type_named (function f) m = refl
type_named (method r f) m = refl
type_named (static r f) m = refl
type_named (constructor r ps t) m = refl

-- one member more
names_more : (k : MemberKind) (m : MemberTree) (ns : List Name) (types : List MemberTree) → ns ≡ member_names types → type_name k m.name.text ++ ns ≡ member_names (type_of k m ++ types)
names_more k m ns types e =
    ap (λ (xs : List Name). xs ++ ns) (type_named k m) ∙ ap (λ (xs : List Name). member_names (type_of k m) ++ xs) e ∙ sym (map-append (λ (n : MemberTree). n.name.text) (type_of k m) types)

-- two ways to name the types among members
pub type_names_are : (ms : List MemberTree) → type_names ms ≡ member_names (types_of ms)
type_names_are [] = refl
type_names_are (m ∷ ms) = names_more m.kind m (type_names ms) (types_of ms) (type_names_are ms)

pub world_names_are : (ms : List WorldMemberTree) → world_type_names ms ≡ member_names (world_types ms)
world_names_are [] = refl
world_names_are (scope.member m ∷ ms) = names_more m.kind m (world_type_names ms) (world_types ms) (world_names_are ms)
world_names_are (scope.listed l ∷ ms) = world_names_are ms
world_names_are (scope.included i ∷ ms) = world_names_are ms

-- a type that stands among members is one of their types
pub has_type_name : (ms : List MemberTree) (r : Slice) → HasType ms r → Has (member_names (types_of ms)) r.text
has_type_name ms r t =
    subst (Has (member_names (types_of ms))) t.named (has_map (λ (n : MemberTree). n.name.text) (types_of ms) t.type_is (flat_has member_type ms t.type_is t.type_is t.among (type_alone t.type_is.kind t.type_is t.of_type)))

-- ---- functions

pub function_one : (k : MemberKind) (m : MemberTree) → AtMostOne (function_of k m)
function_one (used t n) m = inl refl
function_one (defined d) m = inl refl
function_one (function f) m = inr (m, refl)
function_one (method r f) m = inr (m, refl)
function_one (static r f) m = inr (m, refl)
function_one (constructor r ps t) m = inr (m, refl)

pub function_given : (k : MemberKind) (m n : MemberTree) → Has (function_of k m) n → IsFunction k × (n ≡ m)
function_given (used t y) m n h = absurd (has_none n h)
function_given (defined d) m n h = absurd (has_none n h)
function_given (function f) m n h = (tt, has_one m n h)
function_given (method r f) m n h = (tt, has_one m n h)
function_given (static r f) m n h = (tt, has_one m n h)
function_given (constructor r ps t) m n h = (tt, has_one m n h)
