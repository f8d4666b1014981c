-- Members that keep their rules and whose names are found are fit.
use Rattle.std.proofs.Common.{◌≡◌, ℕ, List, [], inl, inr, Some, map, refl, sym, subst, ap, ◌∙◌}
use Rattle.std.proofs.lemmas.Option.{slice_get-map}
use Rattle.std.specs.Prelude.{slice_get, flat_map, option_map}
use Rattle.wit_words.specs.Slice.{Slice}
use Rattle.wit_items.specs.ItemTree.{AttributeTree}
use Rattle.wit_foreign.specs.Passed.wit_scopes-Paths.{own, foreign}
use Rattle.wit_foreign.specs.Passed.wit_scopes-Members.{MemberKind, MemberTree, used, defined, function, method, static, constructor}
use Rattle.wit_foreign.specs.Passed.wit_scopes-Scopes as scope
use Rattle.wit_foreign.specs.Passed.wit_scopes-Scopes.{InterfaceScope, ItemScope}
use Rattle.wit_foreign.specs.Passed.wit_rules-Labels.{full_name, member_label}
use Rattle.wit_foreign.specs.Passed.wit_rules-Breaks.{IsKept}
use Rattle.wit_foreign.specs.Passed.wit_rules-Facts as fact
use Rattle.wit_foreign.specs.Passed.wit_rules-Facts.{MembersBreak}
use Rattle.wit_foreign.proofs.Passed.wit_rules-Apart.{apart}
use Rattle.wit_foreign.specs.Passed.wit_lookups-declared-asks-Asked-TheVariants.{Interface}
use Rattle.wit_foreign.specs.Passed.wit_lookups-Lookups as look
use Rattle.wit_foreign.specs.Passed.wit_lookups-Lookups.{MemberKindBreaks, OwnMembersBreak, known_besides}
use Rattle.wit_foreign.specs.Passed.wit_lookups-Names.{Name, type_names, other_names}
use Rattle.wit_resolved_scopes.specs.Passed.wit_orders-Needs.{member_type, types_of, used_item, member_item}
use Rattle.wit_foreign.specs.Passed.wit_arena-Meaning.{Has}
use Rattle.wit_foreign.proofs.Passed.wit_arena-Lists.{has_here}
use Rattle.wit_foreign.specs.Passed.wit_package_types-Fill.{member_names}
use Rattle.wit_foreign.specs.Needs.{NeedTree, kind_needs, member_needs, needs_in}
use Rattle.wit_resolved_scopes.specs.Each.{AreApartBy}
use Rattle.wit_resolved_scopes.specs.Scope.{member_function, functions_among, all_names}
use Rattle.wit_resolved_scopes.specs.Fit.{Foreign, IsUsedAmong, AreFitAmong}
use Rattle.wit_resolved_scopes.proofs.Declaring.{member_gates}
use Rattle.wit_readiness.specs.Readiness.{FindsForeign}
use Rattle.wit_readiness.proofs.Flat.{flat_apart, flat_has}
use Rattle.wit_readiness.proofs.Resources.{name_cases, HaveResources}
use Rattle.wit_readiness.proofs.Named.{type_label, type_one, type_given, type_names_are, has_type_name, function_one, function_given}
use Rattle.wit_readiness.proofs.Found.{IsItem, interface_there, kind_found, used_there}

-- ---- names that are apart

-- members of one label stand at one place
labels_apart : (ms : List MemberTree) → IsKept (MembersBreak ms) → (i j : ℕ) (x z : MemberTree) → slice_get ms i ≡ Some x → slice_get ms j ≡ Some z → full_name x.kind x.name ≡ full_name z.kind z.name → i ≡ j
labels_apart ms kept i j x z at_i at_j same =
    apart (map member_label ms) (λ rule at b. kept rule at (fact.MembersBreak.by_names b)) i j (member_label x) (member_label z)
    (slice_get-map member_label ms i ∙ ap (option_map member_label) at_i) (slice_get-map member_label ms j ∙ ap (option_map member_label) at_j) same

pub same_type_label : (x z y w : MemberTree) → Has (member_type x) y → Has (member_type z) w → y.name.text ≡ w.name.text → full_name x.kind x.name ≡ full_name z.kind z.name
same_type_label x z y w has_y has_w same =
    let a = type_given x.kind x y has_y in
    let b = type_given z.kind z w has_w in
    type_label x.kind x.name a.0 ∙ ap (λ (m : MemberTree). m.name.text) (sym a.1) ∙ same ∙ ap (λ (m : MemberTree). m.name.text) b.1 ∙ sym (type_label z.kind z.name b.0)

pub types_are_apart : (ms : List MemberTree) → IsKept (MembersBreak ms) → AreApartBy (λ (m : MemberTree). m.name.text) (types_of ms)
types_are_apart ms kept =
    flat_apart member_type (λ m. type_one m.kind m) (λ (m : MemberTree). m.name.text) ms
    (λ i j x z y w at_i at_j has_y has_w same. labels_apart ms kept i j x z at_i at_j (same_type_label x z y w has_y has_w same))

pub functions_are_apart : (ms : List MemberTree) → IsKept (MembersBreak ms) → AreApartBy (λ (m : MemberTree). full_name m.kind m.name) (functions_among ms)
functions_are_apart ms kept =
    flat_apart member_function (λ m. function_one m.kind m) (λ (m : MemberTree). full_name m.kind m.name) ms
    (λ i j x z y w at_i at_j has_y has_w same. labels_apart ms kept i j x z at_i at_j
    (ap (λ (m : MemberTree). full_name m.kind m.name) (sym (function_given x.kind x y has_y).1) ∙ same ∙ ap (λ (m : MemberTree). full_name m.kind m.name) (function_given z.kind z w has_w).1))

-- ---- names that are found

-- the members' own names are
pub own_members_keep : (scopes : List ItemScope) (known : List Name) (ms : List MemberTree) → IsKept (OwnMembersBreak scopes known ms) → (m : MemberTree) → Has ms m
    → IsKept (MemberKindBreaks scopes (type_names ms) (known_besides scopes known (other_names ms)) m.kind)
own_members_keep scopes known ms kept m (k, at) rule place b = kept rule place (record { place = k; one = m; there = at; breaks = b })

names_found : (scopes : List ItemScope) (known : List Name) (ms : List MemberTree) → HaveResources ms → IsKept (OwnMembersBreak scopes known ms) → (m : MemberTree) → Has ms m → (x : Slice) → Has (all_names m.kind) x → Has (member_names (types_of ms)) x.text
names_found scopes known ms have kept m has x named =
    elim (name_cases m.kind x named) as (λ _. Has (member_names (types_of ms)) x.text) [
      | inl resource ↦ has_type_name ms x (have m has x resource)
      | inr in_types ↦
          subst (λ (ns : List Name). Has ns x.text) (type_names_are ms)
          (kind_found scopes (type_names ms) (known_besides scopes known (other_names ms)) m.kind (own_members_keep scopes known ms kept m has) x in_types)
    ]

-- ---- what is used

module _ (scopes : List ItemScope) (others : Foreign) (finds : FindsForeign scopes others) (is : List InterfaceScope) where
  -- what a member uses is found, and if that is an interface of the package, among these
  pub use_leads : (types known : List Name) (attributes : List AttributeTree) (k : MemberKind) → IsKept (MemberKindBreaks scopes types known k) → ((n : NeedTree) → Has (kind_needs attributes k) n → Has (needs_in scopes) n)
      → ((x : Slice) (i : InterfaceScope) → Has (used_item k) x → IsItem scopes x.text (scope.ItemScope.interface i) → Has is i) → IsUsedAmong is others k
  use_leads types known attributes (used (own x) y) kept asks leads =
      let f = interface_there scopes x (λ rule at b. kept rule at (look.UseBreaks.by_path b)) in
      (f.interface_is, leads x f.interface_is (has_here x []) f.item, f.item.named, used_there _ f.interface_is y f.found (λ rule at b. kept rule at (look.by_name b)))
  use_leads types known attributes (used (foreign p x) y) kept asks leads =
      let n : NeedTree = record { «package» = p; item = x; asked = Interface; name = Some y; attributes = attributes } in
      finds.types n y (asks n (has_here n [])) refl
  use_leads types known attributes (defined d) kept asks leads = tt
  use_leads types known attributes (function f) kept asks leads = tt
  use_leads types known attributes (method r f) kept asks leads = tt
  use_leads types known attributes (static r f) kept asks leads = tt
  use_leads types known attributes (constructor r ps t) kept asks leads = tt

  pub members_fit : (known : List Name) (ms : List MemberTree) → IsKept (MembersBreak ms) → HaveResources ms → IsKept (OwnMembersBreak scopes known ms)
      → ((n : NeedTree) → Has (flat_map member_needs ms) n → Has (needs_in scopes) n)
      → ((x : Slice) (i : InterfaceScope) → Has (flat_map member_item ms) x → IsItem scopes x.text (scope.ItemScope.interface i) → Has is i) → AreFitAmong is others ms
  members_fit known ms kept have found asks leads = record {
    fit = record { types_apart = types_are_apart ms kept; named = names_found scopes known ms have found; gates = member_gates ms kept };
    uses = λ m has.
        use_leads (type_names ms) (known_besides scopes known (other_names ms)) m.attributes m.kind (own_members_keep scopes known ms found m has)
        (λ n needed. asks n (flat_has member_needs ms m n has needed)) (λ x i named item. leads x i (flat_has member_item ms m x has named) item);
  }
