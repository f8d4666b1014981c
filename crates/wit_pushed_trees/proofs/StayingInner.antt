-- What stays of an interface that stands in a world stands in the graph under its label.
use Rattle.std.proofs.Common.{◌≡◌, ◌<◌, ◌≤◌, ℕ, ◌+◌, zero, suc, Bool, true, false, List, [], ◌∷◌, ◌++◌, map, length, length-append, drop, Option, Some, None, inl, inr, refl, sym, subst, ap, ◌∙◌, arith}
use Rattle.std.proofs.lemmas.Option.{same_Some, slice_get_within}
use Rattle.std.specs.Prelude.{option_map, unwrap_or, flat_map, string_bytes, slice_get}
use Rattle.wit_types.specs.declared.interface.Interface.{Interface}
use Rattle.wit_types.specs.declared.interface.TypeOwner.TheVariants as belongs
use Rattle.wit_types.specs.declared.stability.Stability.{Stability}
use Rattle.wit_types.specs.declared.world.World.{World}
use Rattle.wit_types.specs.declared.world.WorldItem.{WorldItem}
use Rattle.wit_types.specs.declared.world.WorldItem.TheVariants as item
use Rattle.wit_types.specs.WorldKey.{spelled}
use Rattle.wit_types.specs.declared.«package».AstItem.TheVariants as ids
use Rattle.wit_types.specs.declared.«package».UnresolvedPackage.{UnresolvedPackage}
use Rattle.wit_syntax.specs.Ast.{FileTree}
use Rattle.wit_features.specs.Features.{FeatureSet, stays}
use Rattle.wit_offsets.specs.Offsets.{interface_by, item_by, world_by, package_at, span_at}
use Rattle.wit_scopes.specs.declared.worlds.Side.{Side}
use Rattle.wit_scopes.specs.declared.worlds.Side.TheVariants.{Import, Export}
use Rattle.wit_scopes.specs.Members.{MemberTree}
use Rattle.wit_scopes.specs.Scopes as scope
use Rattle.wit_scopes.specs.Scopes.{ExternKind, ListedTree, WorldMemberTree, WorldScope}
use Rattle.wit_arena.specs.Tree.{in_listed, Owner}
use Rattle.wit_arena.specs.Meaning.{Has, package_text}
use Rattle.wit_arena.proofs.Lists.{has_here, has_right, has_map}
use Rattle.wit_package_types.specs.Stability.{IsStabilityOf}
use Rattle.wit_well_formed.specs.Passed.wit_foreign-Items.{interfaces_in}
use Rattle.wit_well_formed.proofs.Passed.wit_interfaces-Behind.{get_either, get_right}
use Rattle.wit_reach.proofs.Holding.{got}
use Rattle.wit_well_formed.proofs.Passed.wit_readiness-Flat.{flat_has}
use Rattle.wit_well_formed.specs.Passed.wit_resolved_scopes-Each.{Each}
use Rattle.wit_well_formed.specs.Passed.wit_resolved_scopes-InArena.{Context, own_owner}
use Rattle.wit_well_formed.specs.Passed.wit_resolved_scopes-Texts.{InterfaceText, interface_text, interface_texts, interfaces_of, worlds_of, labelled_texts, listed_text, member_texts, extern_texts, side_members}
use Rattle.wit_well_formed.proofs.Passed.wit_resolved_scopes-Eaches.{each_left}
use Rattle.wit_well_formed.specs.Passed.wit_worlds-Worlds.{IsInterfaceEntry, IsExternEntry, IsEntryOf, IsWorldIn}
use Rattle.wit_well_formed.specs.Passed.wit_package-Resolved.{IsResolved, foreign_owners, owner_in, context_of}
use Rattle.wit_well_formed.specs.Passed.wit_package-Steps.{Resolves}
use Rattle.wit_well_formed.proofs.Passed.wit_package-Owning.{are_owners}
use Rattle.wit_well_formed.proofs.Belonging.{no_more}
use Rattle.wit_well_formed.proofs.Lists.{got_mapped}
use Rattle.wit_well_formed.proofs.Apart.{texts_apart}
use Rattle.wit_well_formed.proofs.Whole.{ready, world_kept}
use Rattle.wit_moves.specs.Interfaces.{IsMovedInterface}
use Rattle.wit_moves.specs.Moved.{Places, place_of, to}
use Rattle.wit_moves.specs.Plan.{Plan, with_place}
use Rattle.wit_finding.specs.Own.{with_own}
use Rattle.wit_moved_trees.proofs.Moving.{place_kept}
use Rattle.wit_graph.proofs.Passed.wit_placed-Sources.{put_last}
use Rattle.wit_plans.specs.Checks.{Standing}
use Rattle.wit_plans.specs.Moves.{AreMovedInterfaces, no_interfaces, interface_goes, interface_stays}
use Rattle.wit_graph.specs.Passed.wit_graph_parts-Own.{asked, own_parts}
use Rattle.wit_pushed_trees.specs.Staying.{HasMembers, own_interface}
use Rattle.wit_pushed_trees.specs.StayingWorlds.{Entry}
use Rattle.wit_pushed_trees.specs.StayingInner.{HasInners, HasItsInners}
use Rattle.wit_pushed_trees.proofs.Owning.{dropped, rest}
use Rattle.wit_pushed_trees.proofs.Resolved.{asked_interfaces}
use Rattle.wit_pushed_trees.proofs.Staying.{mapped_at, moved_members, own_grows, resolved_members}
use Rattle.wit_pushed_trees.proofs.Texts.{listed_on}

-- ---- a package to which files are resolved

-- what stands behind the others of a row is one of a package's own, if no more are counted
pub own_one : {X : Type 0} (others own all : List X) (k asked bound : ℕ) (x : X) → all ≡ others ++ own → length others ≡ bound → asked ≤ bound → slice_get own k ≡ Some x → (m : ℕ) × (length others + k ≡ asked + m) × (slice_get (drop asked all) m ≡ Some x)
own_one others own all k asked bound x are so_many least at =
    let behind = subst (λ (xs : List _). slice_get xs (length others + k) ≡ Some x) (sym are) (get_right others own k x at) in
    let m = rest asked (length others + k) (omega (arith, so_many, least)) in
    (m.0, m.1, dropped asked all m.0 ∙ ap (slice_get all) (sym m.1) ∙ behind)

module _ (files : List FileTree) (p : UnresolvedPackage) (r : Resolves files p) where
  abbrev s : IsResolved files p
  s = r.resolved

  abbrev c : Context
  c = context_of s.me files s.items s.sorted

  -- the interface of a text, with all members
  pub record IsOfText (u : InterfaceText) (k : ℕ) : Type 0 where
    pub number : ℕ
    pub stands : length s.foreign_interfaces + k ≡ (asked p).interfaces + number
    pub made : Interface
    pub there : slice_get (own_parts p).interfaces number ≡ Some made
    pub name : option_map string_bytes made.name ≡ u.name
    pub gates : IsStabilityOf u.attributes made.stability
    pub members : HasMembers p (own_interface p number) u.members made

  pub of_text : (k : ℕ) (u : InterfaceText) → slice_get (interface_texts s.sorted) k ≡ Some u → IsOfText u k
  of_text k u at =
      let within : k < length (interface_texts s.sorted) = slice_get_within (interface_texts s.sorted) k u at in
      let size = s.own_interfaces_are.so_many in
      let d = got s.own_interfaces k (omega (arith, within, size)) in
      let is = s.own_interfaces_are.each k u d.0 at d.1 in
      let so_many : length s.foreign_interfaces ≡ interfaces_in s.items = s.foreign_are.so_many_interfaces in
      let one = own_one s.foreign_interfaces s.own_interfaces p.interfaces k (asked p).interfaces (interfaces_in s.items) d.0 s.interfaces_are so_many (no_more files p r) d.1 in
      let members = resolved_members files p r c u.place (length s.foreign_interfaces + k) u.members d.0 is.table is.functions (omega (arith, so_many)) is.is.types is.is.functions is.is.named is.scope in
      record {
        number = one.0;
        stands = one.1;
        made = d.0;
        there = one.2;
        name = is.is.name;
        gates = is.is.stability;
        members = subst (λ (n : ℕ). HasMembers p (belongs.Interface n) u.members d.0) one.1 members;
      }

  abbrev text_owner : InterfaceText → Owner
  text_owner u = owner_in (package_text s.me) u.place

  module _ (t : WorldScope) (t_has : Has (worlds_of s.sorted) t) where
    -- what a world's text has under a label is one of the texts of interfaces
    text_there : (l : ListedTree) (ns : List MemberTree) → Has t.members (scope.listed l) → l.kind ≡ scope.ExternKind.interface ns → Has (interface_texts s.sorted) (listed_text t.name.text l ns)
    text_there l ns has kind =
        let u : InterfaceText = listed_text t.name.text l ns in
        let here : Has (extern_texts t.name.text l l.kind) u = subst (λ (k : ExternKind). Has (extern_texts t.name.text l k) u) (sym kind) (has_here u []) in
        has_right (map interface_text (interfaces_of s.sorted)) (flat_map labelled_texts (worlds_of s.sorted)) u
        (flat_has labelled_texts (worlds_of s.sorted) t u t_has (flat_has (member_texts t.name.text) t.members (scope.listed l) u has here))

    -- what belongs to its owner is the interface of that text
    record IsTextOf (l : ListedTree) (ns : List MemberTree) (id : ℕ) : Type 0 where
      place : ℕ
      of : IsOfText (listed_text t.name.text l ns) place
      number_is : id ≡ (asked p).interfaces + of.number

    text_of_owner : (l : ListedTree) (ns : List MemberTree) → Has t.members (scope.listed l) → l.kind ≡ scope.ExternKind.interface ns → (id : ℕ) → slice_get c.owners.interfaces id ≡ Some (own_owner c (in_listed t.name.text l.side l.name.text)) → IsTextOf l ns id
    text_of_owner l ns has kind id owner =
        let w : Owner = own_owner c (in_listed t.name.text l.side l.name.text) in
        let u : InterfaceText = listed_text t.name.text l ns in
        let text = text_there l ns has kind in
        elim (get_either (foreign_owners s.items).interfaces (map text_owner (interface_texts s.sorted)) id w owner) as (λ _. IsTextOf l ns id) [
          | inl other ↦ (let h = (are_owners s.items).interfaces w (id, other) in absurd (s.items_are.numbered h.1.0 w (ids.Interface h.0) h.1.1))
          | inr o ↦
              let v = got_mapped text_owner (interface_texts s.sorted) o.0 w o.2 in
              let one : o.0 ≡ text.0 = texts_apart s.sorted (world_kept files p r) (ready files p r).interfaces.apart (ready files p r).worlds.apart o.0 text.0 v.0 u v.1 text.1 (ap (λ (x : Owner). x.place) v.2) in
              let is = of_text text.0 u text.1 in
              let number : id ≡ length (foreign_owners s.items).interfaces + o.0 = o.1 in
              let foreign = asked_interfaces files p r in
              let stands = is.stands in
              record { place = text.0; of = is; number_is = omega (arith, number, one, foreign, stands) }
        ]

    module _ (k : ℕ) (w : World) (is : IsWorldIn c p.types t k w) where
      entry_of : (l : ListedTree) (ns : List MemberTree) (e : Entry) → l.kind ≡ scope.ExternKind.interface ns → IsExternEntry c t.name.text p.types is.table l l.kind e → IsInterfaceEntry c (own_owner c (in_listed t.name.text l.side l.name.text)) l (λ id. spelled l.name.text) e
      entry_of l ns e kind i = subst (λ (ek : ExternKind). IsExternEntry c t.name.text p.types is.table l ek e) kind i

      has_inners : (side : Side) (es all : List Entry) → Each (IsEntryOf c t.name.text p.types is.table) (side_members side t.members) es → ((e : Entry) → Has es e → Has all e) → HasInners p (side_members side t.members) all
      has_inners side es all each into l ns (j, at) kind =
          let e = each_left (IsEntryOf c t.name.text p.types is.table) (side_members side t.members) es each j (scope.listed l) at in
          let i = entry_of l ns e.0 kind e.2 in
          let o = text_of_owner l ns (listed_on t.members side l (j, at)).0 kind i.id i.owner in
          let here : Has es (e.0.0, item.Interface i.id i.stability l.name.span) = (j, e.1 ∙ ap (λ (y : WorldItem). Some (e.0.0, y)) i.item) in
          record {
            key = e.0.0;
            number = o.of.number;
            gates = i.stability;
            at = l.name.span;
            listed = subst (λ (n : ℕ). Has all (e.0.0, item.Interface n i.stability l.name.span)) o.number_is (into (e.0.0, item.Interface i.id i.stability l.name.span) here);
            label = i.key;
            same = i.gates;
            made = o.of.made;
            there = o.of.there;
            own_gates = o.of.gates;
            members = o.of.members;
          }

      pub resolved_inners : HasItsInners p t.members w
      resolved_inners = record {
        imports_are = has_inners Import is.other_imports w.imports.entries is.lists_are.imports_are (λ e has. subst (λ (es : List Entry). Has es e) (sym is.imports_are) (has_right is.type_entries is.other_imports e has));
        exports_are = has_inners Export w.exports.entries w.exports.entries is.lists_are.exports_are (λ e has. has);
      }

-- ---- places that move

module _ (n : ℕ) (p : UnresolvedPackage) where
  moved_inner : (ms : List WorldMemberTree) (es : List Entry) → HasInners p ms es → HasInners (package_at n p) ms (map (λ (e : Entry). (e.0, item_by (span_at n) e.1)) es)
  moved_inner ms es h l ns has kind = (
      let o = h l ns has kind in record {
        key = o.key;
        number = o.number;
        gates = o.gates;
        at = span_at n o.at;
        listed = has_map (λ (e : Entry). (e.0, item_by (span_at n) e.1)) es (o.key, item.Interface ((asked p).interfaces + o.number) o.gates o.at) o.listed;
        label = o.label;
        same = o.same;
        made = interface_by (span_at n) o.made;
        there = mapped_at (interface_by (span_at n)) (asked p).interfaces p.interfaces o.number o.made o.there;
        own_gates = o.own_gates;
        members = moved_members p n (own_interface p o.number) ns o.made o.members;
      })

  pub moved_inners : (ms : List WorldMemberTree) (w : World) → HasItsInners p ms w → HasItsInners (package_at n p) ms (world_by (span_at n) w)
  moved_inners ms w h = record {
    imports_are = moved_inner (side_members Import ms) w.imports.entries h.imports_are;
    exports_are = moved_inner (side_members Export ms) w.exports.entries h.exports_are;
  }

-- ---- what stays

module _ (features : FeatureSet) (s : Standing) (owner : ℕ) where
  abbrev gates_of : List Interface → List Stability
  gates_of ds = map (λ (d : Interface). d.stability) ds

  -- an interface that stays, where it stands
  pub record StandsMoved (p : Plan) (ds es : List Interface) (k : ℕ) (d : Interface) : Type 0 where
    pub number : ℕ
    pub made : Interface
    pub there : slice_get es number ≡ Some made
    pub is : IsMovedInterface features s.types owner d made
    pub stands : place_of (with_own features p (gates_of ds)).places (length p.places + k) ≡ Some (p.next + number)

  pub stands_moved : (p : Plan) (ds es : List Interface) → AreMovedInterfaces features s owner ds es → (k : ℕ) (d : Interface) → slice_get ds k ≡ Some d → stays features d.stability ≡ true → StandsMoved p ds es k d
  stands_moved p ds es no_interfaces k d at stay = absurd cc
  stands_moved p ds es (interface_goes f fs gs goes more) zero d at stay = absurd (let bad : true ≡ false = sym stay ∙ (ap (λ (z : Interface). stays features z.stability) (sym (same_Some f d at)) ∙ goes) in cc)
  stands_moved p ds es (interface_goes f fs gs goes more) (suc k) d at stay =
      let r = stands_moved (with_place false p) fs gs more k d at stay in
      let size = length-append p.places (None ∷ []) in
      let number : length p.places + suc k ≡ length (with_place false p).places + k = omega (arith, size) in
      record {
        number = r.number;
        made = r.made;
        there = r.there;
        is = r.is;
        stands = ap (λ (b : Bool). place_of (with_own features (with_place b p) (gates_of fs)).places (length p.places + suc k)) goes ∙ ap (place_of (with_own features (with_place false p) (gates_of fs)).places) number ∙ r.stands;
      }
  stands_moved p ds es (interface_stays f g fs gs stays_there is more) zero d at stay =
      let grown = own_grows features (with_place true p) (gates_of fs) in
      record {
        number = zero;
        made = g;
        there = refl;
        is = subst (λ (x : Interface). IsMovedInterface features s.types owner x g) (same_Some f d at) is;
        stands =
            ap (λ (b : Bool). place_of (with_own features (with_place b p) (gates_of fs)).places (length p.places + 0)) stays_there
            ∙ ap (place_of (with_own features (with_place true p) (gates_of fs)).places) (let e : length p.places + 0 ≡ length p.places = omega arith in e)
            ∙ ap (λ (ps : Places). place_of ps (length p.places)) grown.1 ∙ place_kept (with_place true p).places grown.0 (length p.places) p.next (put_last p) ∙ ap (λ (m : ℕ). Some m) (let e : p.next ≡ p.next + 0 = omega arith in e);
      }
  stands_moved p ds es (interface_stays f g fs gs stays_there is more) (suc k) d at stay =
      let r = stands_moved (with_place true p) fs gs more k d at stay in
      let size = length-append p.places (Some p.next ∷ []) in
      let number : length p.places + suc k ≡ length (with_place true p).places + k = omega (arith, size) in
      record {
        number = suc r.number;
        made = r.made;
        there = r.there;
        is = r.is;
        stands =
            ap (λ (b : Bool). place_of (with_own features (with_place b p) (gates_of fs)).places (length p.places + suc k)) stays_there ∙ ap (place_of (with_own features (with_place true p) (gates_of fs)).places) number ∙ r.stands
            ∙ ap (λ (m : ℕ). Some m) (let e : p.next + 1 + r.number ≡ p.next + suc r.number = omega arith in e);
      }

-- what has a place goes there
pub goes_there : (places : Places) (i j : ℕ) → place_of places i ≡ Some j → to places i ≡ j
goes_there places i j at = ap (λ (o : Option ℕ). unwrap_or o i) at
