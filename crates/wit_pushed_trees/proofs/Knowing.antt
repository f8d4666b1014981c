-- Types are known in a package to which files are resolved, and in a graph to which it came.
use Rattle.std.proofs.Common.{◌≡◌, ◌⊎◌, ◌<◌, ℕ, ◌+◌, zero, suc, Bool, true, false, List, [], ◌∷◌, ◌++◌, map, drop, length, Option, Some, None, String, inl, inr, refl, sym, subst, ap, ◌∙◌, arith}
use Rattle.std.proofs.lemmas.List.{length-map}
use Rattle.std.proofs.lemmas.Option.{same_Some, slice_get_within}
use Rattle.std.specs.Prelude.{option_map, slice_get, string_bytes}
use Rattle.std.specs.declared.alloc.Global.{Global}
use Rattle.wit_order.specs.Places.{Rows}
use Rattle.wit_syntax.specs.Ast.{FileTree}
use Rattle.wit_types.specs.declared.interface.Interface.{Interface}
use Rattle.wit_types.specs.declared.interface.TypeDef.{TypeDef}
use Rattle.wit_types.specs.declared.interface.TypeOwner.{TypeOwner}
use Rattle.wit_types.specs.declared.interface.TypeOwner.TheVariants as belongs
use Rattle.wit_types.specs.declared.kind.TypeDefKind.{TypeDefKind}
use Rattle.wit_types.specs.declared.kind.TypeDefKind.TheVariants as kind
use Rattle.wit_types.specs.declared.«package».PackageName.{PackageName}
use Rattle.wit_types.specs.declared.«package».UnresolvedPackage.{UnresolvedPackage}
use Rattle.wit_types.specs.declared.world.IncludeName.{IncludeName}
use Rattle.wit_types.specs.declared.world.World.{World}
use Rattle.wit_types.specs.declared.world.WorldInclude.{WorldInclude}
use Rattle.wit_types.specs.declared.world.WorldItem.TheVariants as item
use Rattle.wit_offsets.specs.Offsets.{kind_by, type_def_by, package_at, span_at}
use Rattle.wit_words.specs.declared.source_map.Span.{Span}
use Rattle.wit_scopes.specs.Members.{MemberTree}
use Rattle.wit_scopes.specs.Scopes.{ItemScope}
use Rattle.wit_arena.specs.Tree.{Name, Place, in_world, PackageText, Owner, Tree, primitive}
use Rattle.wit_arena.specs.Tree as tree
use Rattle.wit_arena.specs.Shape.{kind_shape}
use Rattle.wit_arena.specs.Unfold.{Owners, IsWhole, and_then, owner_of, named_kind_tree, def_tree_of}
use Rattle.wit_arena.specs.Meaning.{Has, MeansName, means_alias_of_name, means_alias, means_record, means_flags, means_enum, means_variant, means_resource, means_used, means_foreign}
use Rattle.wit_arena.proofs.Lists.{has_none, has_map, get_kept, get_last, get_more}
use Rattle.wit_arena.proofs.Unfolding.{def_at, option_map_some}
use Rattle.wit_copies.specs.Copies as copies
use Rattle.wit_copies.specs.Copies.{Copies, AreCopied}
use Rattle.wit_copies.specs.Same as same
use Rattle.wit_copies.specs.Same.{IsSameKind}
use Rattle.wit_includes.specs.Included as brings
use Rattle.wit_includes.specs.Included.{IsRenamedName, AreRenamedDefs, is_of_world}
use Rattle.wit_well_formed.proofs.Passed.wit_interfaces-Behind.{get_either}
use Rattle.wit_well_formed.specs.Passed.wit_interfaces-Listed.{IsListedAt}
use Rattle.wit_graph.specs.Passed.wit_joined-Joined as joined
use Rattle.wit_graph.specs.Passed.wit_joined-Joined.{Includes, includes_none, includes_one, own_state}
use Rattle.wit_moves.specs.Moved as moved
use Rattle.wit_moves.specs.Moved.{Places, IsMovedKind}
use Rattle.wit_moves.specs.Plan as plan
use Rattle.wit_moves.specs.Plan.{OwnerPlaces, AreMovedDefs}
use Rattle.wit_plans.specs.declared.moves.MovedWorld.{MovedWorld}
use Rattle.wit_well_formed.proofs.Passed.wit_resolved_scopes-Eaches.{each_right}
use Rattle.wit_well_formed.specs.Passed.wit_resolved_scopes-InArena.{Context, IsTypeIn}
use Rattle.wit_well_formed.specs.Passed.wit_package-Resolved.{IsResolved, context_of, own_texts}
use Rattle.wit_well_formed.specs.Passed.wit_package-Steps.{Resolves}
use Rattle.wit_well_formed.specs.Passed.wit_foreign-Items.{interfaces_in, worlds_in}
use Rattle.wit_well_formed.specs.Passed.wit_interfaces-Interfaces.{IsInterfaceIn}
use Rattle.wit_well_formed.specs.Passed.wit_package-TopUses.{files_need}
use Rattle.wit_reach.proofs.Holding.{got}
use Rattle.wit_well_formed.specs.Passed.wit_resolved_scopes-Texts.{InterfaceText, interface_texts, worlds_of}
use Rattle.wit_scopes.specs.Scopes.{WorldScope}
use Rattle.wit_well_formed.proofs.Counted.{interface_item, world_item}
use Rattle.wit_well_formed.specs.Passed.wit_worlds-Worlds.{IsWorldIn}
use Rattle.wit_well_formed.proofs.Lists.{get_drop, got_behind}
use Rattle.wit_well_formed.proofs.Offsets.{items_are}
use Rattle.wit_well_formed.proofs.NamesWithin.{world_type}
use Rattle.wit_graph.specs.Passed.wit_graph_worlds-Added.{AreAdded, none_added, one_added}
use Rattle.wit_graph.specs.Passed.wit_graph_worlds-Worlds.{State}
use Rattle.wit_features.specs.Features.{FeatureSet}
use Rattle.wit_graph.specs.Passed.wit_graph_parts-Own.{asked_types, own_parts}
use Rattle.wit_graph.specs.Graph.{Graph}
use Rattle.wit_graph.specs.Push.{IsPushed}
use Rattle.wit_pushed_trees.specs.Known.{AreTypesKnown, AreOwnTypesKnown, ResolvedTypesAreKnown, MovedTypesAreKnown, EmptyTypesAreKnown, PushedTypesAreKnown}

-- ---- names of a scope

-- what a name means is a resource, or a name of something
no_primitive : (me : PackageText) (scopes : List ItemScope) (given : Owner → Name → Tree) (o : Place) (x : Name) (t : Tree) → MeansName me scopes given o x t → t ≡ primitive tree.bool → ⊥
no_primitive me scopes given _ _ _ (means_alias_of_name o x s y t declared means) e = cc
no_primitive me scopes given _ _ _ (means_alias o x w t declared bare means) e = cc
no_primitive me scopes given _ _ _ (means_record o x fs ts declared means) e = cc
no_primitive me scopes given _ _ _ (means_flags o x ls declared) e = cc
no_primitive me scopes given _ _ _ (means_enum o x ls declared) e = cc
no_primitive me scopes given _ _ _ (means_variant o x cs ts declared means) e = cc
no_primitive me scopes given _ _ _ (means_resource o x fs declared) e = cc
no_primitive me scopes given _ _ _ (means_used o x i y t declared means) e = cc
no_primitive me scopes given _ _ _ (means_foreign o x p i y declared) e = cc

-- what is given for a name of which nothing else is known
given_tree : (given : Owner → Name → Tree) (b : Tree) → ((w : Owner) (x : Name) → given w x ≡ b) → (owners : Owners) (done : List (Option Tree)) (n : Option (String Global)) (x : String Global) (o : TypeOwner) (k : TypeDefKind) (t : Tree) (w : Option Owner)
    → n ≡ Some x → k ≡ kind.Unknown → owner_of owners o ≡ w → def_tree_of owners given done n o k ≡ Some t → t ≡ b
given_tree given b all owners done n x o k t None named unknown whose h =
    absurd (let none : and_then (λ v. named_kind_tree given done v (string_bytes x) k) None ≡ Some t = ap (and_then (λ v. named_kind_tree given done v (string_bytes x) k)) (sym whose) ∙ ap (λ (m : Option (String Global)). def_tree_of owners given done m o k) (sym named) ∙ h in cc)
given_tree given b all owners done n x o k t (Some w) named unknown whose h =
    let one : named_kind_tree given done w (string_bytes x) k ≡ Some t = ap (and_then (λ v. named_kind_tree given done v (string_bytes x) k)) (sym whose) ∙ ap (λ (m : Option (String Global)). def_tree_of owners given done m o k) (sym named) ∙ h in
    sym (same_Some (given w (string_bytes x)) t (ap (named_kind_tree given done w (string_bytes x)) (sym unknown) ∙ one)) ∙ all w (string_bytes x)

type_known : (c : Context) (o : Place) (whose : TypeOwner) (a : List TypeDef) (m : MemberTree) (e : Name × ℕ) → IsTypeIn c o whose a m e → ((given : Owner → Name → Tree) → IsWhole c.owners given a) → (d : TypeDef) → slice_get a e.1 ≡ Some d → d.kind ≡ kind.Unknown → ⊥
type_known c o whose a m e is whole d at unknown =
    let given : Owner → Name → Tree = λ w x. primitive tree.bool in
    let s = is.means given in
    let stands = def_at c.owners given a e.1 d (whole given) at in
    let def : is.def ≡ d = same_Some is.def d (sym is.there ∙ at) in
    let name = option_map_some (λ (x : String Global). string_bytes x) d.name m.name.text (subst (λ (y : TypeDef). option_map string_bytes y.name ≡ Some m.name.text) def is.is.name) in
    let tree : stands.0 ≡ primitive tree.bool = given_tree given (primitive tree.bool) (λ w x. refl) c.owners _ d.name name.0 d.owner d.kind stands.0 (owner_of c.owners d.owner) name.1 unknown refl stands.2 in
    let one : s.0 ≡ stands.0 = same_Some s.0 stands.0 (sym s.1 ∙ stands.1) in
    no_primitive c.me c.scopes given o m.name.text s.0 s.2 (one ∙ tree)

-- ---- a package

module _ (files : List FileTree) (p : UnresolvedPackage) (r : Resolves files p) where
  abbrev s : IsResolved files p
  s = r.resolved

  abbrev c : Context
  c = context_of s.me files s.items s.sorted

  -- an interface of another package has no types, and an own one those of its scope
  record IsOwnInterface (d : Interface) : Type 0 where
    place : ℕ
    text : InterfaceText
    is : IsInterfaceIn c p.types text (length s.foreign_interfaces + place) d

  interface_at : (j : ℕ) (d : Interface) → slice_get p.interfaces j ≡ Some d → (d.types.entries ≡ []) ⊎ IsOwnInterface d
  interface_at j d at = elim (get_either s.foreign_interfaces s.own_interfaces j d (subst (λ (ds : List Interface). slice_get ds j ≡ Some d) s.interfaces_are at)) as (λ _. (d.types.entries ≡ []) ⊎ IsOwnInterface d) [
    | inl other ↦
        let within : j < length s.foreign_interfaces = slice_get_within s.foreign_interfaces j d other in
        let so_many : length s.foreign_interfaces ≡ interfaces_in s.items = s.foreign_are.so_many_interfaces in
        let one = interface_item (files_need s.me files) s.items s.items_are j (omega (arith, within, so_many)) in
        inl (s.foreign_are.interfaces one.0 j d one.1 other).types
    | inr o ↦
        let within : o.0 < length s.own_interfaces = slice_get_within s.own_interfaces o.0 d o.2 in
        let size = s.own_interfaces_are.so_many in
        let t = got (interface_texts s.sorted) o.0 (omega (arith, within, size)) in
        inr (record { place = o.0; text = t.0; is = s.own_interfaces_are.each o.0 t.0 d t.1 o.2 })
  ]

  record IsOwnWorld (d : World) : Type 0 where
    place : ℕ
    text : WorldScope
    is : IsWorldIn c p.types text (length s.foreign_worlds + place) d

  world_at : (v : ℕ) (d : World) → slice_get p.worlds v ≡ Some d → (d.imports.entries ≡ []) ⊎ IsOwnWorld d
  world_at v d at = elim (get_either s.foreign_worlds s.own_worlds v d (subst (λ (ds : List World). slice_get ds v ≡ Some d) s.worlds_are at)) as (λ _. (d.imports.entries ≡ []) ⊎ IsOwnWorld d) [
    | inl other ↦
        let within : v < length s.foreign_worlds = slice_get_within s.foreign_worlds v d other in
        let so_many : length s.foreign_worlds ≡ worlds_in s.items = s.foreign_are.so_many_worlds in
        let one = world_item (files_need s.me files) s.items s.items_are v (omega (arith, within, so_many)) in
        inl (s.foreign_are.worlds one.0 v d one.1 other).imports
    | inr o ↦
        let within : o.0 < length s.own_worlds = slice_get_within s.own_worlds o.0 d o.2 in
        let size = s.own_worlds_are.so_many in
        let t = got (worlds_of s.sorted) o.0 (omega (arith, within, size)) in
        inr (record { place = o.0; text = t.0; is = s.own_worlds_are.each o.0 t.0 d t.1 o.2 })
  ]

  listed_known : (i : ℕ) (d : TypeDef) (o : TypeOwner) → slice_get p.types i ≡ Some d → IsListedAt c (own_texts s.sorted) p.types p.interfaces p.worlds i d o → d.kind ≡ kind.Unknown → ⊥
  listed_known i d belongs.None at (o, ms, scope, is) unknown = (let no : None ≡ Some is.shape = sym (ap kind_shape unknown) ∙ is.unnamed.kind in cc)
  listed_known i d (belongs.Interface j) at (f, there, has) unknown = elim (interface_at j f there) as (λ _. ⊥) [
    | inl none ↦ has_none (has.0, i) (subst (λ (es : List (String Global × ℕ)). Has es (has.0, i)) none has.1)
    | inr o ↦
        let whose : TypeOwner = belongs.Interface (length s.foreign_interfaces + o.place) in
        let listed : Has o.is.table (string_bytes has.0, i) = subst (λ es. Has es (string_bytes has.0, i)) o.is.is.types (has_map (λ (e : String Global × ℕ). (string_bytes e.0, e.1)) f.types.entries (has.0, i) has.1) in
        let m = each_right (IsTypeIn c o.text.place whose p.types) o.is.scope.sorted o.is.table o.is.scope.types_are listed.0 (string_bytes has.0, i) listed.1 in
        type_known c o.text.place whose p.types m.0 (string_bytes has.0, i) m.2 s.whole d at unknown
  ]
  listed_known i d (belongs.World v) at (f, there, has) unknown = elim (world_at v f there) as (λ _. ⊥) [
    | inl none ↦ has_none (has.0, item.TypeItem i has.1) (subst (λ es. Has es (has.0, item.TypeItem i has.1)) none has.2)
    | inr o ↦
        let whose : TypeOwner = belongs.World (length s.foreign_worlds + o.place) in
        let x = world_type c p.types o.text (length s.foreign_worlds + o.place) f o.is i has in
        let m = each_right (IsTypeIn c (in_world o.text.name.text) whose p.types) o.is.sorted o.is.table o.is.types_are x.1.0 (x.0, i) x.1.1 in
        type_known c (in_world o.text.name.text) whose p.types m.0 (x.0, i) m.2 s.whole d at unknown
  ]

  own_known : AreOwnTypesKnown p
  own_known k d at unknown =
      let i : ℕ = asked_types p + k in
      let there : slice_get p.types i ≡ Some d = get_drop (asked_types p) p.types k d at in
      elim (s.listed i d there) as (λ _. ⊥) [
        | inl other ↦
            let within : i < length s.unknown = slice_get_within s.unknown i d other in
            let spans : length p.unknown_type_spans.items ≡ length s.names = s.unknown_are.so_many_spans in
            let types : length s.unknown ≡ length s.names = s.unknown_are.so_many_types in
            absurd (omega (arith, within, spans, types))
        | inr is ↦ listed_known i d d.owner there is unknown
      ]

pub resolved_known : ResolvedTypesAreKnown
resolved_known = own_known

unknown_by : (f : Span → Span) (k : TypeDefKind) → kind_by f k ≡ kind.Unknown → k ≡ kind.Unknown
unknown_by f (kind.Record r) e = absurd cc
unknown_by f kind.Resource e = absurd cc
unknown_by f (kind.Handle h) e = absurd cc
unknown_by f (kind.Flags x) e = absurd cc
unknown_by f (kind.Tuple t) e = absurd cc
unknown_by f (kind.Variant v) e = absurd cc
unknown_by f (kind.Enum x) e = absurd cc
unknown_by f (kind.Option r) e = absurd cc
unknown_by f (kind.Result r) e = absurd cc
unknown_by f (kind.List r) e = absurd cc
unknown_by f (kind.FixedLengthList r n) e = absurd cc
unknown_by f (kind.Future r) e = absurd cc
unknown_by f (kind.Stream r) e = absurd cc
unknown_by f (kind.Alias r) e = absurd cc
unknown_by f kind.Unknown e = refl

pub same_count : (n : ℕ) (p : UnresolvedPackage) → asked_types (package_at n p) ≡ asked_types p
same_count n p = ap length (items_are (span_at n) p.unknown_type_spans) ∙ length-map p.unknown_type_spans.items (span_at n)

pub moved_known : MovedTypesAreKnown
moved_known p n known k d at unknown =
    let here : slice_get (drop (asked_types p) (map (type_def_by (span_at n)) p.types)) k ≡ Some d = ap (λ (m : ℕ). slice_get (drop m (map (type_def_by (span_at n)) p.types)) k) (sym (same_count n p)) ∙ at in
    let o = got_behind (type_def_by (span_at n)) (asked_types p) p.types k d here in
    known k o.0 o.1 (unknown_by (span_at n) o.0.kind (ap (λ (y : TypeDef). y.kind) o.2 ∙ unknown))

-- ---- a graph

pub empty_known : EmptyTypesAreKnown
empty_known i d at unknown = cc

unknown_moved : (f : ℕ → ℕ) (k l : TypeDefKind) → IsMovedKind f k l → l ≡ kind.Unknown → k ≡ kind.Unknown
unknown_moved f _ _ (moved.moved_record r s e) is = absurd cc
unknown_moved f _ _ moved.moved_resource is = absurd cc
unknown_moved f _ _ (moved.moved_handle_kind h) is = absurd cc
unknown_moved f _ _ (moved.moved_flags x) is = absurd cc
unknown_moved f _ _ (moved.moved_tuple t u e) is = absurd cc
unknown_moved f _ _ (moved.moved_variant v w e) is = absurd cc
unknown_moved f _ _ (moved.moved_enum x) is = absurd cc
unknown_moved f _ _ (moved.moved_option r) is = absurd cc
unknown_moved f _ _ (moved.moved_result r) is = absurd cc
unknown_moved f _ _ (moved.moved_list r) is = absurd cc
unknown_moved f _ _ (moved.moved_fixed_length_list r n) is = absurd cc
unknown_moved f _ _ (moved.moved_future r) is = absurd cc
unknown_moved f _ _ (moved.moved_stream r) is = absurd cc
unknown_moved f _ _ (moved.moved_alias r) is = absurd cc
unknown_moved f _ _ moved.moved_unknown is = refl

unknown_same : (k l : TypeDefKind) → IsSameKind k l → l ≡ kind.Unknown → k ≡ kind.Unknown
unknown_same _ _ (same.same_record r s e) is = absurd cc
unknown_same _ _ same.same_resource is = absurd cc
unknown_same _ _ (same.same_handle h) is = absurd cc
unknown_same _ _ (same.same_flags x y e) is = absurd cc
unknown_same _ _ (same.same_tuple t u e) is = absurd cc
unknown_same _ _ (same.same_variant v w e) is = absurd cc
unknown_same _ _ (same.same_enum x y e) is = absurd cc
unknown_same _ _ (same.same_option r) is = absurd cc
unknown_same _ _ (same.same_result r) is = absurd cc
unknown_same _ _ (same.same_list r) is = absurd cc
unknown_same _ _ (same.same_fixed_length_list r n) is = absurd cc
unknown_same _ _ (same.same_future r) is = absurd cc
unknown_same _ _ (same.same_stream r) is = absurd cc
unknown_same _ _ (same.same_alias r) is = absurd cc
unknown_same _ _ same.same_unknown_kind is = refl

known_append : (a b : List TypeDef) → AreTypesKnown a → AreTypesKnown b → AreTypesKnown (a ++ b)
known_append a b one other i d at unknown = elim (get_either a b i d at) as (λ _. ⊥) [ inl here ↦ one i d here unknown | inr behind ↦ other behind.0 d behind.2 unknown ]

defs_known : (owners : OwnerPlaces) (places : Places) (first : ℕ) (ds es : List TypeDef) → AreMovedDefs owners places first ds es → AreTypesKnown ds → AreTypesKnown es
defs_known owners places first _ _ plan.no_defs known i e at unknown = cc
defs_known owners places first _ _ (plan.left_out ds es d more isnt) known i e at unknown = defs_known owners places first ds es more (λ j x there. known j x (get_kept ds (d ∷ []) j x there)) i e at unknown
defs_known owners places first _ _ (plan.moved ds es d g more is def) known i e at unknown = elim (get_more es g e i at) as (λ _. ⊥) [
  | inl was ↦ defs_known owners places first ds es more (λ j x there. known j x (get_kept ds (d ∷ []) j x there)) i e was unknown
  | inr last ↦ known (length ds) d (get_last ds d) (unknown_moved _ d.kind g.kind def.kind (ap (λ (y : TypeDef). y.kind) (sym last.1) ∙ unknown))
]

copied_known : (c : Copies) (from into : ℕ) (types : List TypeDef) (is : List ℕ) (es : List TypeDef) → AreCopied c from into types is es → AreTypesKnown types → AreTypesKnown es
copied_known c from into types _ _ copies.no_types known i e at unknown = cc
copied_known c from into types _ _ (copies.one_more j d g is es there copy more) known zero e at unknown =
    known j d there (unknown_same d.kind copy.0.kind copy.1.kind (unknown_moved _ copy.0.kind g.kind copy.2.kind (ap (λ (y : TypeDef). y.kind) (same_Some g e at) ∙ unknown)))
copied_known c from into types _ _ (copies.one_more j d g is es there copy more) known (suc i) e at unknown = copied_known c from into types is es more known i e at unknown

renamed_kind : (names : List IncludeName) (b : Bool) (old : TypeDef) (n : Option (String Global)) (new : TypeDef) → IsRenamedName names b old n new → new.kind ≡ old.kind
renamed_kind names true old (Some x) new is = ap (λ (y : TypeDef). y.kind) is.2
renamed_kind names true old None new is = ap (λ (y : TypeDef). y.kind) is
renamed_kind names false old n new is = ap (λ (y : TypeDef). y.kind) is

renamed_known : (names : List IncludeName) (w : ℕ) (ds es : List TypeDef) → AreRenamedDefs names w ds es → AreTypesKnown ds → AreTypesKnown es
renamed_known names w _ _ brings.no_types known i e at unknown = cc
renamed_known names w _ _ (brings.one_more d g ds es is more) known zero e at unknown =
    known zero d refl (sym (renamed_kind names (is_of_world w d.owner) d d.name g is) ∙ ap (λ (y : TypeDef). y.kind) (same_Some g e at) ∙ unknown)
renamed_known names w _ _ (brings.one_more d g ds es is more) known (suc i) e at unknown = renamed_known names w ds es more (λ j x there. known (suc j) x there) i e at unknown

pub included_known : (worlds : List World) (id : ℕ) (ns : List WorldInclude) (s t : joined.State) → Includes worlds id ns s t → AreTypesKnown s.types → AreTypesKnown t.types
included_known worlds id _ s _ (includes_none _) known = known
included_known worlds id _ s u (includes_one ns n _ t _ before at) known =
    let so_far = included_known worlds id ns s t before known in
    let types = at.3.brings.types_are in
    let new = renamed_known n.names.items id types.0 at.1.types.items types.2 (copied_known _ n.id id t.types at.3.own types.0 types.1 so_far) in
    subst AreTypesKnown (sym (ap (λ (x : joined.State). x.types) at.4)) (known_append t.types at.1.types.items so_far new)

pub added_known : (interfaces : List Interface) (uses : Rows) (owner : ℕ) (ms : List MovedWorld) (s t : State) → AreAdded interfaces uses owner ms s t → AreTypesKnown s.types → AreTypesKnown t.types
added_known interfaces uses owner _ s _ (none_added _) known = known
added_known interfaces uses owner _ s u (one_added ms m _ t _ before a) known =
    let sides = a.is_joined.sides in
    subst AreTypesKnown (sym sides.types_are) (included_known t.worlds.listed (length t.worlds.listed) m.includes.items (own_state t.types m) sides.joined sides.includes (added_known interfaces uses owner ms s t before known))

-- before its worlds come
pub there_known : (eq : PackageName → PackageName → Bool) (features : FeatureSet) (old : Graph) (p : UnresolvedPackage) (new : Graph) (id : ℕ) → (h : IsPushed eq features old p new id)
    → AreTypesKnown old.tables.types → AreOwnTypesKnown p → AreTypesKnown (old.tables.types ++ h.put.added.parts.own_types.defs)
there_known eq features old p new id h known own =
    let a = h.put.added.parts in
    known_append old.tables.types a.own_types.defs known (defs_known h.owners h.places _ (own_parts p).types a.own_types.defs a.own_types.are_moved own)

pub pushed_known : PushedTypesAreKnown
pushed_known eq features old p new id h known own =
    let a = h.put.added.parts in
    added_known _ _ _ _ _ _ a.own_worlds.added (subst AreTypesKnown (sym a.own_types.types_are) (there_known eq features old p new id h known own))
