use Rattle.std.proofs.Common.{◌≡◌, ℕ, ◌+◌, ◌<◌, ◌≤◌, zero, suc, List, [], ◌∷◌, ◌++◌, length, length-append, Some, refl, sym, subst, ap, ◌∙◌, arith, below_more}
use Rattle.std.specs.Prelude.{slice_get, option_map}
use Rattle.std.proofs.lemmas.List.{length-map}
use Rattle.std.proofs.lemmas.Option.{slice_get-map, same_Some}
use Rattle.wit_rules.proofs.Places.{read_at}
use Rattle.wit_type_names.specs.Passed.wit_scopes-Members.{MemberKind, MemberTree, used, defined, function, method, static, constructor}
use Rattle.wit_type_names.specs.Passed.wit_scopes-declared-members-Member.{Member}
use Rattle.wit_type_names.specs.Passed.wit_scopes-View as scope_view
use Rattle.wit_orders.specs.Needs.{type_of, member_type, types_of}
use Rattle.wit_orders.proofs.types.are_types.Goals as goal

member_at : (ms : List Member) (k : ℕ) (m : Member) → slice_get ms k ≡ Some m → slice_get (scope_view.members ms) k ≡ Some (scope_view.member m)
member_at ms k m at = slice_get-map scope_view.member ms k ∙ ap (option_map scope_view.member) at

-- a member gives one type at most
one_type : (k : MemberKind) (m : MemberTree) → length (type_of k m) ≤ 1
one_type (used t n) m = omega arith
one_type (defined t) m = omega arith
one_type (function f) m = omega arith
one_type (method r f) m = omega arith
one_type (static r f) m = omega arith
one_type (constructor r ps t) m = omega arith

no_more : (ms : List MemberTree) → length (types_of ms) ≤ length ms
no_more [] = omega arith
no_more (m ∷ ms) =
    let one = one_type m.kind m in
    let rest = no_more ms in
    let whole : length (types_of (m ∷ ms)) ≡ length (member_type m) + length (types_of ms) = length-append (member_type m) (types_of ms) in
    omega (arith, one, rest, whole)

-- where one is none, there are fewer
fewer : (ms : List MemberTree) (k : ℕ) (m : MemberTree) → slice_get ms k ≡ Some m → member_type m ≡ [] → length (types_of ms) < length ms
fewer [] k m at none = absurd cc
fewer (x ∷ ms) zero m at none =
    let here : length (member_type x) ≡ 0 = ap (λ (y : MemberTree). length (member_type y)) (same_Some x m at) ∙ ap length none in
    let rest = no_more ms in
    let whole : length (types_of (x ∷ ms)) ≡ length (member_type x) + length (types_of ms) = length-append (member_type x) (types_of ms) in
    omega (arith, here, rest, whole)
fewer (x ∷ ms) (suc k) m at none =
    let one = one_type x.kind x in
    let rest = fewer ms k m at none in
    let whole : length (types_of (x ∷ ms)) ≡ length (member_type x) + length (types_of ms) = length-append (member_type x) (types_of ms) in
    omega (arith, one, rest, whole)

-- where each is one, they are all
all_types : (ms : List MemberTree) → ((i : ℕ) (m : MemberTree) → i < length ms → slice_get ms i ≡ Some m → member_type m ≡ m ∷ []) → types_of ms ≡ ms
all_types [] each = refl
all_types (m ∷ ms) each =
    ap (λ (ts : List MemberTree). ts ++ types_of ms) (each 0 m (omega arith) refl) ∙ ap (λ (ts : List MemberTree). m ∷ ts) (all_types ms (λ i n less at. each (suc i) n (omega (arith, less)) at))

pub returns-then-not-is_type-clause-no : goal.returns-then-not-is_type-clause-no
returns-then-not-is_type-clause-no c e all =
    let ms : List MemberTree = scope_view.members c.args.members.now in
    let k : ℕ = c.loop-member.member-index in
    let there = member_at c.args.members.now k c.member-item.result (read_at c.args.members.now k c.member-item.result c.loop-member-test.true c.member-item.is) in
    let less = fewer ms k (scope_view.member c.member-item.result) there (c.is_type.ensures.no c.if-not-is_type.true (scope_view.member c.member-item.result)) in
    let same : length (types_of ms) ≡ length ms = ap length all in
    omega (arith, less, same)

pub loop-member-preserved : goal.loop-member-preserved
loop-member-preserved c i one l there =
    below_more (λ (j : ℕ). (m : MemberTree) → slice_get (scope_view.members c.args.members.now) j ≡ Some m → member_type m ≡ m ∷ []) c.loop-member.member-index (λ j less m at. c.loop-member.invariant j m less at)
    (λ m at.
    let k : ℕ = c.loop-member.member-index in
    let here = member_at c.args.members.now k c.member-item.result (read_at c.args.members.now k c.member-item.result c.loop-member-test.true c.member-item.is) in
    let same : scope_view.member c.member-item.result ≡ m = same_Some (scope_view.member c.member-item.result) m (sym here ∙ at) in
    subst (λ (n : MemberTree). member_type n ≡ n ∷ []) same (c.is_type.ensures.yes c.if-not-is_type.false (scope_view.member c.member-item.result))) i l one there

pub returns-clause-yes : goal.returns-clause-yes
returns-clause-yes c e =
    let ms : List MemberTree = scope_view.members c.args.members.now in
    all_types ms (λ i m less at. let sized = length-map c.args.members.now scope_view.member in c.loop-member.invariant i m (omega (arith, less, sized, c.loop-member-test.false)) at)
