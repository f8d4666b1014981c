-- What keeps the rules of a scope makes it ready to be brought into an arena.
use Rattle.std.proofs.Common.{◌≡◌, zero, suc, Bool, true, false, ◌||◌, List, [], ◌∷◌, ◌++◌, ◌⊎◌, inl, inr, Some, refl, sym, subst, ap}
use Rattle.std.proofs.lemmas.Option.{same_Some}
use Rattle.std.proofs.lemmas.Bool.{cases_Bool}
use Rattle.std.proofs.lemmas.Slice.Eq.{bytes_eq-Decides}
use Rattle.std.specs.Prelude.{bytes_eq}
use Rattle.wit_words.specs.Slice.{Slice}
use Rattle.wit_lookups.specs.Passed.wit_scopes-Members.{MemberKind, MemberTree, used, defined, function, method, static, constructor}
use Rattle.wit_lookups.specs.Passed.wit_rules-declared-fault-PackageRule-TheVariants.{NameNotFound, WrongKind}
use Rattle.wit_lookups.specs.Passed.wit_rules-Breaks.{IsKept}
use Rattle.wit_lookups.specs.Passed.wit_rules-Facts as fact
use Rattle.wit_lookups.specs.Passed.wit_rules-Facts.{MembersBreak}
use Rattle.wit_lookups.specs.Lookups.{NameBreaks, found_type, TypesBreak}
use Rattle.wit_lookups.specs.Names.{has, type_name, type_names}
use Rattle.wit_orders.specs.Needs.{type_of, member_type, types_of}
use Rattle.wit_resources.specs.Passed.wit_arena-Tree.{Name}
use Rattle.wit_resources.specs.Passed.wit_arena-Meaning.{Has}
use Rattle.wit_resources.specs.Passed.wit_arena-Standing.{IsOfType}
use Rattle.wit_resources.proofs.Passed.wit_arena-Lists.{has_none, has_here, has_later}
use Rattle.wit_functions.specs.Passed.wit_package_types-Fill.{member_names}
use Rattle.wit_functions.specs.Passed.wit_package_types-Stability.{AreGates}
use Rattle.wit_functions.proofs.Passed.wit_package_types-Gated.{gates_ready}
use Rattle.wit_resolved_scopes.proofs.Readying.{either}

-- ---- the types among members

-- a member that is a type, or none
type_is : (k : MemberKind) (m n : MemberTree) → Has (type_of k m) n → IsOfType k × (n ≡ m)
type_is (used t y) m n (zero, e) = (tt, sym (same_Some m n e))
type_is (used t y) m n (suc i, e) = absurd cc
type_is (defined d) m n (zero, e) = (tt, sym (same_Some m n e))
type_is (defined d) m n (suc i, e) = absurd cc
type_is (function f) m n h = absurd (has_none n h)
type_is (method r f) m n h = absurd (has_none n h)
type_is (static r f) m n h = absurd (has_none n h)
type_is (constructor r ps t) m n h = absurd (has_none n h)

pub type_among : (ms : List MemberTree) (n : MemberTree) → Has (types_of ms) n → IsOfType n.kind × Has ms n
type_among [] n h = absurd (has_none n h)
type_among (m ∷ ms) n h =
    elim (either (member_type m) (types_of ms) n h) as (λ _. IsOfType n.kind × Has (m ∷ ms) n) [
      | inl here ↦ let t = type_is m.kind m n here in (subst (λ (z : MemberTree). IsOfType z.kind) (sym t.1) t.0, subst (Has (m ∷ ms)) (sym t.1) (has_here m ms))
      | inr later ↦ let t = type_among ms n later in (t.0, has_later m ms n t.1)
    ]

-- ---- names that are found

or_cases : (b c : Bool) → (b || c) ≡ true → (b ≡ true) ⊎ (c ≡ true)
or_cases true c h = inl refl
or_cases false c h = inr h

any_has : (ns : List Name) (x : Name) → has ns x ≡ true → Has ns x
any_has [] x h = absurd cc
any_has (n ∷ ns) x h =
    elim (or_cases (bytes_eq x n) (has ns x) h) as (λ _. Has (n ∷ ns) x) [
      | inl t ↦ (0, ap (λ (y : Name). Some y) (sym ((bytes_eq-Decides x n).0 t)))
      | inr later ↦ has_later n ns x (any_has ns x later)
    ]

-- where a name breaks no rule, it is one of the types
pub found_there : (types others : List Name) (x : Slice) → IsKept (NameBreaks (found_type types others x.text) x) → Has types x.text
found_there types others x kept =
    elim (cases_Bool (has types x.text)) as (λ _. Has types x.text) [
      | inl t ↦ any_has types x.text t
      | inr f ↦ absurd (missing f)
    ]
  where
    missing : has types x.text ≡ false → ⊥
    missing f = elim (cases_Bool (has others x.text)) as (λ _. ⊥) [
      | inl t ↦ kept WrongKind x.span (rw (f, t) (refl, refl))
      | inr g ↦ kept NameNotFound x.span (rw (f, g) (refl, refl))
    ]

-- the names of the types of members are those of what are types
type_names_are : (ms : List MemberTree) → type_names ms ≡ member_names (types_of ms)
type_names_are [] = refl
type_names_are (m ∷ ms) = by (type_names_are ms) m.kind refl
  where
    by : type_names ms ≡ member_names (types_of ms) → (k : MemberKind) → m.kind ≡ k → type_name m.kind m.name.text ++ type_names ms ≡ member_names (type_of m.kind m ++ types_of ms)
    by ih (used t y) e = rw e (ap (λ (ns : List Name). m.name.text ∷ ns) ih)
    by ih (defined d) e = rw e (ap (λ (ns : List Name). m.name.text ∷ ns) ih)
    by ih (function f) e = rw e ih
    by ih (method r f) e = rw e ih
    by ih (static r f) e = rw e ih
    by ih (constructor r ps t) e = rw e ih

-- types that are named among which each is found are types of the members
pub named_types : (ms : List MemberTree) (others : List Name) (names : List Slice) → IsKept (TypesBreak (type_names ms) others names) → (x : Slice) → Has names x → Has (member_names (types_of ms)) x.text
named_types ms others names kept x (k, at) =
    subst (λ (ns : List Name). Has ns x.text) (type_names_are ms)
    (found_there (type_names ms) others x (λ rule where_ b. kept rule where_ (record { place = k; one = x; there = at; breaks = b })))

-- ---- gates

pub member_gates : (ms : List MemberTree) → IsKept (MembersBreak ms) → (m : MemberTree) → Has ms m → AreGates m.attributes
member_gates ms kept m (k, at) = gates_ready m.attributes (λ rule where_ b. kept rule where_ (fact.MembersBreak.by_member (record { place = k; one = m; there = at; breaks = fact.MemberBreaks.by_gates b })))
