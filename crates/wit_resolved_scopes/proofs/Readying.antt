-- A scope that is ready may be filled, and what its members name is there.
use Rattle.std.proofs.Common.{◌≡◌, ℕ, zero, suc, List, [], ◌∷◌, ◌++◌, ◌⊎◌, inl, inr, Option, Some, None, take, refl, sym, subst, ap, ◌∙◌, arith}
use Rattle.std.proofs.lemmas.Bool.{cases_lt}
use Rattle.std.proofs.lemmas.Option.{same_Some, slice_get-map}
use Rattle.std.specs.Prelude.{slice_get, flat_map, option_map}
use Rattle.wit_words.specs.Slice.{Slice}
use Rattle.wit_types.specs.declared.interface.TypeDef.{TypeDef}
use Rattle.wit_types.specs.declared.interface.TypeOwner.{TypeOwner}
use Rattle.wit_lookups.specs.Passed.wit_productions-TypeTree as written
use Rattle.wit_lookups.specs.Passed.wit_productions-TypeTree.{TypeTree, TypeShape, TypeOption, TypeRow, standing}
use Rattle.wit_lookups.specs.Passed.wit_scopes-Members.{MemberKind, MemberTree, used, defined, function, method, static, constructor}
use Rattle.wit_lookups.specs.Passed.wit_type_names-TypeNames.{names_in, names_in_shape, names_in_part, names_in_row, handles_in, handles_in_shape, handles_in_part, handles_in_row, member_parts, names_in_member, handles_in_member}
use Rattle.wit_orders.specs.Needs.{AreSorted}
use Rattle.wit_resources.specs.Passed.wit_arena-Tree.{Name}
use Rattle.wit_resources.specs.Passed.wit_arena-Table.{Entries}
use Rattle.wit_resources.specs.Passed.wit_arena-Meaning.{Has}
use Rattle.wit_resources.specs.Passed.wit_arena-Lower.{AreThere}
use Rattle.wit_resources.specs.Passed.wit_arena-Standing.{IsOfType}
use Rattle.wit_resources.proofs.Passed.wit_arena-Lists.{has_none, has_left, has_right, has_later, has_map, map_has}
use Rattle.wit_functions.specs.Passed.wit_package_types-Known.{KnownTypes}
use Rattle.wit_functions.specs.Passed.wit_package_types-Fill.{names_of, member_names, IsFound, AreFillable}
use Rattle.wit_functions.proofs.Passed.wit_package_types-Filling.{names_filled}
use Rattle.wit_functions.proofs.Passed.wit_package_types-Finding.{named_entry}
use Rattle.wit_resources.specs.Failing.{AreDistinct}
use Rattle.wit_resolved_scopes.specs.Scope.{FillsSorted, all_names, IsUsedKnown, AreReady}
use Rattle.wit_resolved_scopes.proofs.Orders.{at_taken, sorted_has, has_sorted, named_before, sorted_distinct}

-- ---- what handles name is named

pub either : {X : Type 0} (xs ys : List X) (x : X) → Has (xs ++ ys) x → Has xs x ⊎ Has ys x
either [] ys x h = inr h
either (z ∷ xs) ys x (zero, e) = inl (zero, e)
either (z ∷ xs) ys x (suc k, e) = elim (either xs ys x (k, e)) as (λ _. Has (z ∷ xs) x ⊎ Has ys x) [ inl l ↦ inl (has_later z xs x l) | inr r ↦ inr r ]

both : {X : Type 0} (xs ys zs ws : List X) (x : X) → (Has xs x → Has zs x) → (Has ys x → Has ws x) → Has (xs ++ ys) x → Has (zs ++ ws) x
both xs ys zs ws x f g h = elim (either xs ys x h) as (λ _. Has (zs ++ ws) x) [ inl l ↦ has_left zs ws x (f l) | inr r ↦ has_right zs ws x (g r) ]

mutual
  handle_named : (x : Slice) (t : TypeTree) → Has (handles_in t) x → Has (names_in t) x
  handle_named x (standing s sh) h = handle_named_shape x sh h

  handle_named_shape : (x : Slice) (sh : TypeShape) → Has (handles_in_shape sh) x → Has (names_in_shape sh) x
  handle_named_shape x (written.list t) h = handle_named x t h
  handle_named_shape x (written.fixed_length_list t n) h = handle_named x t h
  handle_named_shape x (written.option t) h = handle_named x t h
  handle_named_shape x (written.tuple ts) h = handle_named_row x ts h
  handle_named_shape x (written.result ok err) h = both (handles_in_part ok) (handles_in_part err) (names_in_part ok) (names_in_part err) x (handle_named_part x ok) (handle_named_part x err) h
  handle_named_shape x (written.own y) h = h
  handle_named_shape x (written.borrow y) h = h
  handle_named_shape x (written.future t) h = handle_named_part x t h
  handle_named_shape x (written.stream t) h = handle_named_part x t h
  handle_named_shape x written.bool h = h
  handle_named_shape x written.u8 h = h
  handle_named_shape x written.u16 h = h
  handle_named_shape x written.u32 h = h
  handle_named_shape x written.u64 h = h
  handle_named_shape x written.s8 h = h
  handle_named_shape x written.s16 h = h
  handle_named_shape x written.s32 h = h
  handle_named_shape x written.s64 h = h
  handle_named_shape x written.f32 h = h
  handle_named_shape x written.f64 h = h
  handle_named_shape x written.char h = h
  handle_named_shape x written.string h = h
  handle_named_shape x written.error_context h = h
  handle_named_shape x (written.named y) h = absurd (has_none x h)

  handle_named_part : (x : Slice) (p : TypeOption) → Has (handles_in_part p) x → Has (names_in_part p) x
  handle_named_part x written.no_type h = h
  handle_named_part x (written.a_type t) h = handle_named x t h

  handle_named_row : (x : Slice) (r : TypeRow) → Has (handles_in_row r) x → Has (names_in_row r) x
  handle_named_row x written.no_types h = h
  handle_named_row x (written.types t ts) h = both (handles_in t) (handles_in_row ts) (names_in t) (names_in_row ts) x (handle_named x t) (handle_named_row x ts) h

parts_named : (x : Slice) (ps : List TypeOption) → Has (flat_map handles_in_part ps) x → Has (flat_map names_in_part ps) x
parts_named x [] h = h
parts_named x (p ∷ ps) h = both (handles_in_part p) (flat_map handles_in_part ps) (names_in_part p) (flat_map names_in_part ps) x (handle_named_part x p) (parts_named x ps) h

pub handles_named : (k : MemberKind) (x : Slice) → Has (handles_in_member k) x → Has (all_names k) x
handles_named (used t n) x h = h
handles_named (defined d) x h = parts_named x (member_parts (defined d)) h
handles_named (function f) x h = parts_named x (member_parts (function f)) h
handles_named (method r f) x h = has_later r (names_in_member (method r f)) x (parts_named x (member_parts (method r f)) h)
handles_named (static r f) x h = has_later r (names_in_member (static r f)) x (parts_named x (member_parts (static r f)) h)
handles_named (constructor r ps t) x h = has_later r (names_in_member (constructor r ps t)) x (parts_named x (member_parts (constructor r ps t)) h)

-- ---- a scope that is ready

module _ (k : KnownTypes) (types ms : List MemberTree) (ready : AreReady k types ms) (sorted : List MemberTree) (are : AreSorted types sorted) where
  among : (m : MemberTree) → Has sorted m → Has ms m
  among m has = ready.among m (sorted_has types sorted are m has)

  found_as : (n : ℕ) (m : MemberTree) → slice_get sorted n ≡ Some m → (kd : MemberKind) → m.kind ≡ kd → IsFound k (member_names (take n sorted)) kd
  found_as n m at (used from y) e = subst (IsUsedKnown k) e (ready.known m (among m (n, at)))
  found_as n m at (defined d) e = λ x has.
      let here : Has (names_in_member m.kind) x = subst (λ (kd : MemberKind). Has (names_in_member kd) x) (sym e) has in
      named_before types sorted are n m x at here (ready.named m (among m (n, at)) x (subst (λ (kd : MemberKind). Has (all_names kd) x) (sym e) has))
  found_as n m at (function f) e = subst IsOfType e (ready.types_are m (sorted_has types sorted are m (n, at)))
  found_as n m at (method r f) e = subst IsOfType e (ready.types_are m (sorted_has types sorted are m (n, at)))
  found_as n m at (static r f) e = subst IsOfType e (ready.types_are m (sorted_has types sorted are m (n, at)))
  found_as n m at (constructor r ps t) e = subst IsOfType e (ready.types_are m (sorted_has types sorted are m (n, at)))

  pub fillable : AreFillable k sorted
  fillable = record {
    found = λ n m at. found_as n m at m.kind refl;
    new = λ n m at has.
        let e = map_has (λ (z : MemberTree). z.name.text) (take n sorted) m.name.text has in
        let before = at_taken sorted e.1.0 n e.0 e.1.1 in
        sorted_distinct types sorted are ready.distinct e.1.0 n e.0 m before.1 at (sym e.2) before.0;
    gates = λ n m at. ready.gates m (among m (n, at));
  }

module _ (k : KnownTypes) (types ms : List MemberTree) (ready : AreReady k types ms) (whose : TypeOwner) (a b : List TypeDef) (table : Entries) (fills : FillsSorted k whose a types b table) where
  names : names_of table ≡ member_names fills.sorted
  names = names_filled k whose a fills.sorted b table fills.fills

  -- each name of a type is there
  pub type_there : (x : Name) → Has (member_names types) x → (i : ℕ) × Has table (x, i)
  type_there x has =
      let e = map_has (λ (z : MemberTree). z.name.text) types x has in
      let sorted : Has (member_names fills.sorted) x = subst (Has (member_names fills.sorted)) (sym e.2) (has_map (λ (z : MemberTree). z.name.text) fills.sorted e.0 (has_sorted types fills.sorted fills.are_sorted e.0 e.1)) in
      named_entry table x (subst (λ (ns : List Name). Has ns x) (sym names) sorted)

  pub names_there : (m : MemberTree) → Has ms m → AreThere table (all_names m.kind)
  names_there m has x named = type_there x.text (ready.named m has x named)

  pub handles_there : (m : MemberTree) → Has ms m → AreThere table (handles_in_member m.kind)
  handles_there m has x named = names_there m has x (handles_named m.kind x named)

  named_at : (p : ℕ) (e : Name × ℕ) → slice_get table p ≡ Some e → (m : MemberTree) × (slice_get fills.sorted p ≡ Some m) × (m.name.text ≡ e.0)
  named_at p e at = by (slice_get fills.sorted p) refl
    where
      whole : option_map (λ (z : MemberTree). z.name.text) (slice_get fills.sorted p) ≡ Some e.0
      whole = sym (slice_get-map (λ (z : MemberTree). z.name.text) fills.sorted p) ∙ sym (ap (λ (ns : List Name). slice_get ns p) names) ∙ slice_get-map (λ (z : Name × ℕ). z.0) table p ∙ ap (option_map (λ (z : Name × ℕ). z.0)) at

      by : (o : Option MemberTree) → slice_get fills.sorted p ≡ o → (m : MemberTree) × (o ≡ Some m) × (m.name.text ≡ e.0)
      by (Some m) h = (m, refl, same_Some m.name.text e.0 (sym (ap (option_map (λ (z : MemberTree). z.name.text)) h) ∙ whole))
      by None h = absurd (let f : None ≡ Some e.0 = sym (ap (option_map (λ (z : MemberTree). z.name.text)) h) ∙ whole in cc)

  -- names of one text stand at one place
  pub table_apart : (p q : ℕ) (e f : Name × ℕ) → slice_get table p ≡ Some e → slice_get table q ≡ Some f → e.0 ≡ f.0 → p ≡ q
  table_apart p q e f at_p at_q names_are =
      let m = named_at p e at_p in
      let n = named_at q f at_q in
      let same : m.0.name.text ≡ n.0.name.text = m.2 ∙ names_are ∙ sym n.2 in
      elim (cases_lt p q) as (λ _. p ≡ q) [
        | inl less ↦ absurd (sorted_distinct types fills.sorted fills.are_sorted ready.distinct p q m.0 n.0 m.1 n.1 same less)
        | inr past ↦ elim (cases_lt q p) as (λ _. p ≡ q) [
          | inl more ↦ absurd (sorted_distinct types fills.sorted fills.are_sorted ready.distinct q p n.0 m.0 n.1 m.1 (sym same) more)
          | inr not_more ↦ omega (arith, past, not_more)
        ]
      ]

  -- no name has two types
  pub table_distinct : AreDistinct table
  table_distinct x i j (p, at_p) (q, at_q) =
      let place : p ≡ q = table_apart p q (x, i) (x, j) at_p at_q refl in
      let entry : (x, i) ≡ (x, j) = same_Some (x, i) (x, j) (sym at_p ∙ ap (slice_get table) place ∙ at_q) in
      ap (λ (e : Name × ℕ). e.1) entry
