-- Names of types and functions within an interface.
use Rattle.std.proofs.Common.{◌≡◌, ℕ, ◌+◌, ◌<◌, List, inl, inr, length, Some, None, String, map, refl, sym, subst, ap, ◌∙◌, arith}
use Rattle.std.proofs.lemmas.Bool.{cases_lt}
use Rattle.std.proofs.lemmas.Option.{same_Some, slice_get-map, slice_get_within}
use Rattle.std.specs.Prelude.{slice_get, flat_map, option_map, string_bytes}
use Rattle.std.specs.declared.alloc.Global.{Global}
use Rattle.wit_order.specs.Order as order
use Rattle.wit_types.specs.declared.function.Function.{Function}
use Rattle.wit_types.specs.declared.interface.Interface.{Interface}
use Rattle.wit_types.specs.declared.interface.TypeDef.{TypeDef}
use Rattle.wit_types.specs.declared.interface.TypeOwner.TheVariants as belongs
use Rattle.wit_types.specs.declared.«package».UnresolvedPackage.{UnresolvedPackage}
use Rattle.wit_package.specs.Passed.wit_syntax-Ast.{FileTree}
use Rattle.wit_package.specs.Passed.wit_scopes-Members.{MemberKind, MemberTree, used, defined, function, method, static, constructor}
use Rattle.wit_package.specs.Passed.wit_scopes-Scopes.{ItemScope, package_scopes}
use Rattle.wit_package.specs.Passed.wit_rules-Breaks.{IsKept}
use Rattle.wit_package.specs.Passed.wit_rules-Facts as fact
use Rattle.wit_package.specs.Passed.wit_rules-Facts.{MembersBreak, ScopesBreak, IsDeclared}
use Rattle.wit_package.specs.Passed.wit_rules-Labels.{full_name, member_label}
use Rattle.wit_package.proofs.Passed.wit_rules-Apart.{apart}
use Rattle.wit_package.specs.Passed.wit_orders-Needs.{member_type, types_of}
use Rattle.wit_package.specs.Passed.wit_arena-Table.{Entries}
use Rattle.wit_package.specs.Passed.wit_arena-Meaning.{Has}
use Rattle.wit_package.specs.Passed.wit_arena-Standing.{IsOfType}
use Rattle.wit_package.specs.Passed.wit_arena-Tree.{Name}
use Rattle.wit_package.proofs.Passed.wit_arena-Lists.{map_has}
use Rattle.wit_package.specs.Passed.wit_functions-Signature.{IsFunction}
use Rattle.wit_package.specs.Passed.wit_foreign-Items.{interfaces_in}
use Rattle.wit_package.specs.Passed.wit_interfaces-Interfaces.{IsInterfaceIn}
use Rattle.wit_package.proofs.Passed.wit_interfaces-Behind.{get_either}
use Rattle.wit_package.specs.Passed.wit_resolved_scopes-InArena.{Context, IsTypeIn, IsFunctionIn}
use Rattle.wit_package.specs.Passed.wit_resolved_scopes-Scope.{member_function, functions_among}
use Rattle.wit_package.specs.Passed.wit_resolved_scopes-Texts.{InterfaceText, interface_text, labelled_texts, interfaces_of, worlds_of, interface_texts, AreItemsSorted}
use Rattle.wit_package.proofs.Passed.wit_resolved_scopes-Eaches.{each_right}
use Rattle.wit_package.proofs.Passed.wit_resolved_scopes-Orders.{placed, sorted_has, sorted_distinct}
use Rattle.wit_package.proofs.Passed.wit_readiness-Flat.{in_flat}
use Rattle.wit_package.proofs.Passed.wit_readiness-Labelled.{labelled_given}
use Rattle.wit_package.proofs.Passed.wit_readiness-Members.{types_are_apart, functions_are_apart}
use Rattle.wit_package.proofs.Passed.wit_readiness-Named.{type_label, type_given, function_given}
use Rattle.wit_package.proofs.Passed.wit_readiness-Parts.{declared_kept, members_keep, listed_members_keep, world_keeps}
use Rattle.wit_labels.specs.Passed.wit_placed-Naming.{HasNamesApart}
use Rattle.wit_package.specs.Faults.{by_files}
use Rattle.wit_package.specs.TopUses.{files_need}
use Rattle.wit_package.specs.Resolved.{IsResolved, context_of}
use Rattle.wit_package.specs.Steps.{Resolves}
use Rattle.wit_package.proofs.Scoping.{interface_there, world_there}
use Rattle.wit_reach.proofs.Holding.{got}
use Rattle.wit_well_formed.specs.Naming.{NamesAreApart}
use Rattle.wit_well_formed.proofs.Counted.{interface_item}

-- ---- members of one scope

no_both : (k : MemberKind) → IsOfType k → IsFunction k → ⊥
no_both (used t n) a b = b
no_both (defined d) a b = b
no_both (function f) a b = a
no_both (method r f) a b = a
no_both (static r f) a b = a
no_both (constructor r ps t) a b = a

-- a type hasn't the name of a function
type_or_function : (ms : List MemberTree) → IsKept (MembersBreak ms) → (m n : MemberTree) → Has (types_of ms) m → Has (functions_among ms) n → m.name.text ≡ full_name n.kind n.name → ⊥
type_or_function ms kept m n has_m has_n same =
    let a = in_flat member_type ms m has_m in
    let b = in_flat member_function ms n has_n in
    let type_is = type_given a.0.kind a.0 m a.2 in
    let function_is = function_given b.0.kind b.0 n b.2 in
    let labels : full_name a.0.kind a.0.name ≡ full_name b.0.kind b.0.name =
    type_label a.0.kind a.0.name type_is.0 ∙ ap (λ (z : MemberTree). z.name.text) (sym type_is.1) ∙ same ∙ ap (λ (z : MemberTree). full_name z.kind z.name) function_is.1 in
    let place : a.1.0 ≡ b.1.0 =
    apart (map member_label ms) (λ rule at b. kept rule at (fact.MembersBreak.by_names b)) a.1.0 b.1.0 (member_label a.0) (member_label b.0)
    (slice_get-map member_label ms a.1.0 ∙ ap (option_map member_label) a.1.1) (slice_get-map member_label ms b.1.0 ∙ ap (option_map member_label) b.1.1) labels in
    let one : a.0 ≡ b.0 = same_Some a.0 b.0 (sym a.1.1 ∙ ap (slice_get ms) place ∙ b.1.1) in
    no_both b.0.kind (subst (λ (z : MemberTree). IsOfType z.kind) one type_is.0) function_is.0

-- ---- an interface

module _ (c : Context) (a : List TypeDef) (t : InterfaceText) (id : ℕ) (d : Interface) (is : IsInterfaceIn c a t id d) (kept : IsKept (MembersBreak t.members)) where
  abbrev IsType : MemberTree → Name × ℕ → Type 0
  IsType = IsTypeIn c t.place (belongs.Interface id) a

  -- the member that a type is
  type_member : (i : ℕ) (e : String Global × ℕ) → slice_get d.types.entries i ≡ Some e → (m : MemberTree) × (slice_get is.scope.sorted i ≡ Some m) × (string_bytes e.0 ≡ m.name.text)
  type_member i e at =
      let in_table : slice_get is.table i ≡ Some (string_bytes e.0, e.1) =
      subst (λ (es : Entries). slice_get es i ≡ Some (string_bytes e.0, e.1)) is.is.types
      (slice_get-map (λ (z : String Global × ℕ). (string_bytes z.0, z.1)) d.types.entries i ∙ ap (option_map (λ (z : String Global × ℕ). (string_bytes z.0, z.1))) at) in
      let r = each_right IsType is.scope.sorted is.table is.scope.types_are i (string_bytes e.0, e.1) in_table in
      (r.0, r.1, r.2.name)

  -- it stands under its name
  own_name : (i : ℕ) (e : String Global × Function) → slice_get d.functions.entries i ≡ Some e → string_bytes e.1.name ≡ string_bytes e.0
  own_name i e at =
      let keys : slice_get (map (λ (z : String Global × Function). string_bytes z.0) d.functions.entries) i ≡ Some (string_bytes e.0) =
      slice_get-map (λ (z : String Global × Function). string_bytes z.0) d.functions.entries i ∙ ap (option_map (λ (z : String Global × Function). string_bytes z.0)) at in
      let names : slice_get (map (λ (z : String Global × Function). string_bytes z.1.name) d.functions.entries) i ≡ Some (string_bytes e.1.name) =
      slice_get-map (λ (z : String Global × Function). string_bytes z.1.name) d.functions.entries i ∙ ap (option_map (λ (z : String Global × Function). string_bytes z.1.name)) at in
      same_Some (string_bytes e.1.name) (string_bytes e.0) (sym names ∙ ap (λ (ns : List (List ℕ)). slice_get ns i) (sym is.is.named) ∙ keys)

  -- the member that a function is
  function_member : (i : ℕ) (e : String Global × Function) → slice_get d.functions.entries i ≡ Some e → (m : MemberTree) × (slice_get (functions_among t.members) i ≡ Some m) × (string_bytes e.0 ≡ full_name m.kind m.name)
  function_member i e at =
      let there : slice_get is.functions i ≡ Some e.1 =
      subst (λ (fs : List Function). slice_get fs i ≡ Some e.1) is.is.functions (slice_get-map (λ (z : String Global × Function). z.1) d.functions.entries i ∙ ap (option_map (λ (z : String Global × Function). z.1)) at) in
      let r = each_right (IsFunctionIn c t.place a is.table) (functions_among t.members) is.functions is.scope.functions_are i e.1 there in
      (r.0, r.1, sym (own_name i e at) ∙ r.2.is.name)

  names_of : HasNamesApart d
  names_of = record {
    types = λ i j e f at_i at_j same.
        (let m = type_member i e at_i in
        let n = type_member j f at_j in
        let names : m.0.name.text ≡ n.0.name.text = sym m.2 ∙ same ∙ n.2 in
        let distinct = sorted_distinct (types_of t.members) is.scope.sorted is.scope.are_sorted (types_are_apart t.members kept) in
        elim (cases_lt i j) as (λ _. i ≡ j) [
          | inl less ↦ absurd (distinct i j m.0 n.0 m.1 n.1 names less)
          | inr past ↦ elim (cases_lt j i) as (λ _. i ≡ j) [ inl more ↦ absurd (distinct j i n.0 m.0 n.1 m.1 (sym names) more) | inr not_more ↦ omega (arith, past, not_more) ]
        ]);
    functions = λ i j e f at_i at_j same.
        (let m = function_member i e at_i in
        let n = function_member j f at_j in
        functions_are_apart t.members kept i j m.0 n.0 m.1 n.1 (sym m.2 ∙ same ∙ n.2));
    named = λ e has. (let at = placed d.functions.entries e has in own_name at.0 e at.1);
    between = λ e f has_e has_f same.
        (let i = placed d.types.entries e has_e in
        let j = placed d.functions.entries f has_f in
        let m = type_member i.0 e i.1 in
        let n = function_member j.0 f j.1 in
        type_or_function t.members kept m.0 n.0 (sorted_has (types_of t.members) is.scope.sorted is.scope.are_sorted m.0 (i.0, m.1)) (j.0, n.1) (sym m.2 ∙ same ∙ n.2));
  }

-- ---- all of a package

-- members of each interface of a package that keeps its rules keep theirs
pub text_keeps : (scopes sorted : List ItemScope) → IsKept (ScopesBreak scopes) → AreItemsSorted scopes sorted → (t : InterfaceText) → Has (interface_texts sorted) t → IsKept (MembersBreak t.members)
text_keeps scopes sorted kept are t (k, at) = elim (get_either (map interface_text (interfaces_of sorted)) (flat_map labelled_texts (worlds_of sorted)) k t at) as (λ _. IsKept (MembersBreak t.members)) [
  | inl named ↦
      let i = map_has interface_text (interfaces_of sorted) t (k, named) in
      subst (λ (u : InterfaceText). IsKept (MembersBreak u.members)) (sym i.2) (members_keep scopes kept i.0 (interface_there scopes sorted are i.0 i.1))
  | inr standing ↦
      let w = in_flat labelled_texts (worlds_of sorted) t (standing.0, standing.2) in
      let l = labelled_given w.0 t w.2 in
      subst (λ (u : InterfaceText). IsKept (MembersBreak u.members)) (sym l.is)
      (listed_members_keep w.0.members (world_keeps scopes kept w.0 (world_there scopes sorted are w.0 w.1)) l.listed l.members l.there l.kind)
]

module _ (files : List FileTree) (p : UnresolvedPackage) (r : Resolves files p) where
  abbrev s : IsResolved files p
  s = r.resolved

  pub scopes_keep : IsKept (ScopesBreak (package_scopes s.me files))
  scopes_keep = declared_kept files s.me (package_scopes s.me files) (record { named = s.named; scopes_are = refl; kept = λ rule at b. r.kept rule at (by_files b) })

  each_apart : (k : ℕ) (d : Interface) → slice_get p.interfaces k ≡ Some d → HasNamesApart d
  each_apart k d at = elim (get_either s.foreign_interfaces s.own_interfaces k d (subst (λ (ds : List Interface). slice_get ds k ≡ Some d) s.interfaces_are at)) as (λ _. HasNamesApart d) [
    | inl other ↦
        let within : k < length s.foreign_interfaces = slice_get_within s.foreign_interfaces k d other in
        let so_many : length s.foreign_interfaces ≡ interfaces_in s.items = s.foreign_are.so_many_interfaces in
        let item = interface_item (files_need s.me files) s.items s.items_are k (omega (arith, within, so_many)) in
        let known = s.foreign_are.interfaces item.0 k d item.1 other in
        record {
          types = λ i j e f at_i. absurd (let none : None ≡ Some e = sym (ap (λ (es : List (String Global × ℕ)). slice_get es i) known.types) ∙ at_i in cc);
          functions = λ i j e f at_i. absurd (let none : None ≡ Some e = sym (ap (λ (es : List (String Global × Function)). slice_get es i) known.functions) ∙ at_i in cc);
          named = λ e has. absurd (subst (λ (es : List (String Global × Function)). order.Has es e) known.functions has);
          between = λ e f has. absurd (subst (λ (es : List (String Global × ℕ)). order.Has es e) known.types has);
        }
    | inr o ↦
        let within : o.0 < length s.own_interfaces = slice_get_within s.own_interfaces o.0 d o.2 in
        let size = s.own_interfaces_are.so_many in
        let t = got (interface_texts s.sorted) o.0 (omega (arith, within, size)) in
        names_of (context_of s.me files s.items s.sorted) p.types t.0 (length s.foreign_interfaces + o.0) d (s.own_interfaces_are.each o.0 t.0 d t.1 o.2)
        (text_keeps (package_scopes s.me files) s.sorted scopes_keep s.are_sorted t.0 (o.0, t.1))
  ]

pub names_apart : NamesAreApart
names_apart files p r d has = (let at = placed p.interfaces d has in each_apart files p r at.0 d at.1)
