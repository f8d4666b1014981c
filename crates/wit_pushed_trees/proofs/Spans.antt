-- Packages mean the same wherever their texts stand among others.
use Rattle.std.proofs.Common.{◌≡◌, ℕ, ◌<◌, List, [], ◌∷◌, ◌++◌, map, length, Option, Some, None, String, refl, sym, subst, ap, ◌∙◌}
use Rattle.std.proofs.lemmas.List.{length-map}
use Rattle.std.proofs.lemmas.Option.{slice_get-map}
use Rattle.std.specs.Prelude.{string_bytes, option_map}
use Rattle.std.specs.declared.alloc.Global.{Global}
use Rattle.wit_words.specs.declared.source_map.Span.{Span}
use Rattle.wit_types.specs.declared.kind.«Type».{«Type» as Ref}
use Rattle.wit_types.specs.declared.kind.Field.{Field}
use Rattle.wit_types.specs.declared.kind.Case.{Case}
use Rattle.wit_types.specs.declared.kind.Flag.{Flag}
use Rattle.wit_types.specs.declared.kind.EnumCase.{EnumCase}
use Rattle.wit_types.specs.declared.kind.TypeDefKind.{TypeDefKind}
use Rattle.wit_types.specs.declared.kind.TypeDefKind.TheVariants as kind
use Rattle.wit_types.specs.declared.function.Param.{Param}
use Rattle.wit_types.specs.declared.function.Function.{Function}
use Rattle.wit_types.specs.declared.interface.Interface.{Interface}
use Rattle.wit_types.specs.declared.interface.TypeDef.{TypeDef}
use Rattle.wit_types.specs.declared.interface.TypeOwner.{TypeOwner}
use Rattle.wit_types.specs.declared.interface.TypeOwner.TheVariants as belongs
use Rattle.wit_types.specs.declared.stability.Stability.{Stability}
use Rattle.wit_types.specs.declared.world.World.{World}
use Rattle.wit_types.specs.declared.world.WorldInclude.{WorldInclude}
use Rattle.wit_types.specs.declared.world.WorldItem.{WorldItem}
use Rattle.wit_types.specs.declared.world.WorldItem.TheVariants as item
use Rattle.wit_types.specs.declared.world_key.WorldKey.{WorldKey}
use Rattle.wit_types.specs.WorldKey.{known}
use Rattle.wit_offsets.specs.Offsets.{include_by, param_by, function_by, field_by, case_by, flag_by, enum_case_by, kind_by, type_def_by, interface_by, item_by, world_by, span_at}
use Rattle.wit_scopes.specs.declared.worlds.Side.{Side}
use Rattle.wit_scopes.specs.declared.worlds.Side.TheVariants.{Import, Export}
use Rattle.wit_scopes.specs.Members.{MemberTree}
use Rattle.wit_scopes.specs.Scopes.{WorldScope}
use Rattle.wit_arena.specs.Tree.{Name, Place, in_world, Owner, Tree, named_tree, record_tree, flags_tree, enum_tree, variant_tree}
use Rattle.wit_arena.specs.Unfold.{Owners, and_then, part_trees, kind_tree, named_kind_tree, nameless_tree, owner_of, def_tree_of, def_tree, trees_from, trees, ref_tree}
use Rattle.wit_types.specs.declared.kind.«Type».TheVariants as ref
use Rattle.wit_arena.specs.Standing.{Stands}
use Rattle.wit_arena.specs.Meaning.{Has}
use Rattle.wit_arena.proofs.Lists.{map_has}
use Rattle.wit_well_formed.specs.Passed.wit_resolved_scopes-InArena.{Context}
use Rattle.wit_well_formed.specs.Passed.wit_resolved_scopes-Meaning.{function_refs}
use Rattle.wit_well_formed.specs.Passed.wit_resolved_scopes-Texts.{InterfaceText, own_members}
use Rattle.wit_well_formed.proofs.Lists.{got_behind}
use Rattle.wit_well_formed.proofs.Offsets.{items_are}
use Rattle.wit_graph.specs.Passed.wit_graph_parts-Own.{asked}
use Rattle.wit_pushed_trees.specs.Meaning.{IsFunctionMeant, IsInterfaceMeant}
use Rattle.wit_pushed_trees.specs.Worlds.{all_kept, IsTypeWritten, IsTypeMeant, IsOwnFunctionMeant, IsInterfaceListed, IsIncludeMeant, IsWorldMeant}
use Rattle.wit_pushed_trees.specs.Packages.{MovedPackagesMeanTheirTexts}
use Rattle.wit_pushed_trees.proofs.Texts.{member_kind_same}

-- what is one of a kind
function_is : (f g : Function) → item.Function f ≡ item.Function g → f ≡ g
function_is f g e = cc

type_is : (i j : ℕ) (s t : Span) → item.TypeItem i s ≡ item.TypeItem j t → i ≡ j
type_is i j s t e = cc

-- what is seen of each, where each is changed in what isn't seen
same_seen : {X Y : Type 0} (see : X → Y) (change : X → X) → ((x : X) → see (change x) ≡ see x) → (xs : List X) → map see (map change xs) ≡ map see xs
same_seen see change same [] = refl
same_seen see change same (x ∷ xs) = (let p = same x in let q = same_seen see change same xs in λ i. (p i) ∷ (q i))

module _ (f : Span → Span) where
  -- ---- trees

  kind_same : (done : List (Option Tree)) (k : TypeDefKind) → kind_tree done (kind_by f k) ≡ kind_tree done k
  kind_same done (kind.Record r) =
      let are = items_are (field_by f) r.fields in
      let names : map (λ (x : Field). string_bytes x.name) (map (field_by f) r.fields.items) ≡ map (λ (x : Field). string_bytes x.name) r.fields.items = same_seen (λ (x : Field). string_bytes x.name) (field_by f) (λ x. refl) r.fields.items in
      let types : map (λ (x : Field). Some x.ty) (map (field_by f) r.fields.items) ≡ map (λ (x : Field). Some x.ty) r.fields.items = same_seen (λ (x : Field). Some x.ty) (field_by f) (λ x. refl) r.fields.items in
      ap (λ (xs : List Field). option_map (record_tree (map (λ (x : Field). string_bytes x.name) xs)) (part_trees done (map (λ (x : Field). Some x.ty) xs))) are
      ∙ ap (λ (ns : List Name). option_map (record_tree ns) (part_trees done (map (λ (x : Field). Some x.ty) (map (field_by f) r.fields.items)))) names
      ∙ ap (λ (ts : List (Option Ref)). option_map (record_tree (map (λ (x : Field). string_bytes x.name) r.fields.items)) (part_trees done ts)) types
  kind_same done kind.Resource = refl
  kind_same done (kind.Handle h) = refl
  kind_same done (kind.Flags x) = ap (λ (ns : List Name). Some (flags_tree ns)) (ap (map (λ (l : Flag). string_bytes l.name)) (items_are (flag_by f) x.flags) ∙ same_seen (λ (l : Flag). string_bytes l.name) (flag_by f) (λ l. refl) x.flags.items)
  kind_same done (kind.Tuple t) = refl
  kind_same done (kind.Variant v) =
      let are = items_are (case_by f) v.cases in
      let names : map (λ (x : Case). string_bytes x.name) (map (case_by f) v.cases.items) ≡ map (λ (x : Case). string_bytes x.name) v.cases.items = same_seen (λ (x : Case). string_bytes x.name) (case_by f) (λ x. refl) v.cases.items in
      let types : map (λ (x : Case). x.ty) (map (case_by f) v.cases.items) ≡ map (λ (x : Case). x.ty) v.cases.items = same_seen (λ (x : Case). x.ty) (case_by f) (λ x. refl) v.cases.items in
      ap (λ (xs : List Case). option_map (variant_tree (map (λ (x : Case). string_bytes x.name) xs)) (part_trees done (map (λ (x : Case). x.ty) xs))) are
      ∙ ap (λ (ns : List Name). option_map (variant_tree ns) (part_trees done (map (λ (x : Case). x.ty) (map (case_by f) v.cases.items)))) names
      ∙ ap (λ (ts : List (Option Ref)). option_map (variant_tree (map (λ (x : Case). string_bytes x.name) v.cases.items)) (part_trees done ts)) types
  kind_same done (kind.Enum e) = ap (λ (ns : List Name). Some (enum_tree ns)) (ap (map (λ (l : EnumCase). string_bytes l.name)) (items_are (enum_case_by f) e.cases) ∙ same_seen (λ (l : EnumCase). string_bytes l.name) (enum_case_by f) (λ l. refl) e.cases.items)
  kind_same done (kind.Option r) = refl
  kind_same done (kind.Result r) = refl
  kind_same done (kind.List r) = refl
  kind_same done (kind.FixedLengthList r n) = refl
  kind_same done (kind.Future p) = refl
  kind_same done (kind.Stream p) = refl
  kind_same done (kind.Alias r) = refl
  kind_same done kind.Unknown = refl

  module _ (owners : Owners) (given : Owner → Name → Tree) where
    named_same : (done : List (Option Tree)) (o : Owner) (x : Name) (k : TypeDefKind) → named_kind_tree given done o x (kind_by f k) ≡ named_kind_tree given done o x k
    named_same done o x kind.Resource = refl
    named_same done o x kind.Unknown = refl
    named_same done o x (kind.Record r) = ap (option_map (named_tree o x)) (kind_same done (kind.Record r))
    named_same done o x (kind.Handle h) = refl
    named_same done o x (kind.Flags y) = ap (option_map (named_tree o x)) (kind_same done (kind.Flags y))
    named_same done o x (kind.Tuple t) = refl
    named_same done o x (kind.Variant v) = ap (option_map (named_tree o x)) (kind_same done (kind.Variant v))
    named_same done o x (kind.Enum e) = ap (option_map (named_tree o x)) (kind_same done (kind.Enum e))
    named_same done o x (kind.Option r) = refl
    named_same done o x (kind.Result r) = refl
    named_same done o x (kind.List r) = refl
    named_same done o x (kind.FixedLengthList r n) = refl
    named_same done o x (kind.Future p) = refl
    named_same done o x (kind.Stream p) = refl
    named_same done o x (kind.Alias r) = refl

    def_same : (done : List (Option Tree)) (d : TypeDef) → def_tree owners given done (type_def_by f d) ≡ def_tree owners given done d
    def_same done d = of d.name d.owner (owner_of owners d.owner)
      where
        free : (o : TypeOwner) → nameless_tree done o (kind_by f d.kind) ≡ nameless_tree done o d.kind
        free belongs.None = kind_same done d.kind
        free (belongs.World w) = refl
        free (belongs.Interface i) = refl

        whose : (x : String Global) (w : Option Owner) → and_then (λ w. named_kind_tree given done w (string_bytes x) (kind_by f d.kind)) w ≡ and_then (λ w. named_kind_tree given done w (string_bytes x) d.kind) w
        whose x None = refl
        whose x (Some w) = named_same done w (string_bytes x) d.kind

        of : (n : Option (String Global)) (o : TypeOwner) (w : Option Owner) → def_tree_of owners given done n o (kind_by f d.kind) ≡ def_tree_of owners given done n o d.kind
        of None o w = free o
        of (Some x) o w = whose x (owner_of owners o)

    trees_same_from : (done : List (Option Tree)) (ds : List TypeDef) → trees_from owners given done (map (type_def_by f) ds) ≡ trees_from owners given done ds
    trees_same_from done [] = refl
    trees_same_from done (d ∷ ds) = ap (λ (t : Option Tree). trees_from owners given (done ++ t ∷ []) (map (type_def_by f) ds)) (def_same done d) ∙ trees_same_from (done ++ def_tree owners given done d ∷ []) ds

    trees_same : (ds : List TypeDef) → trees owners given (map (type_def_by f) ds) ≡ trees owners given ds
    trees_same ds = trees_same_from [] ds

    -- ---- names and functions

    stands_same : (c : Context) (ds : List TypeDef) (o : Place) (x : Name) (i : ℕ) → Stands c.me c.scopes given owners ds o x i → Stands c.me c.scopes given owners (map (type_def_by f) ds) o x i
    stands_same c ds o x i means = (means.0, subst (λ done. ref_tree done (ref.Id i) ≡ Some means.0) (sym (trees_same ds)) means.1, means.2)

    refs_same : (g : Function) → function_refs (function_by f g) ≡ function_refs g
    refs_same g =
        ap (λ (ps : List Param). map (λ (q : Param). Some q.ty) ps ++ g.result ∷ []) (items_are (param_by f) g.params)
        ∙ ap (λ (ts : List (Option Ref)). ts ++ g.result ∷ []) (same_seen (λ (q : Param). Some q.ty) (param_by f) (λ q. refl) g.params.items)

    abbrev function_same : (c : Context) (ds : List TypeDef) (o : Place) (ms : _) (g : Function) → IsFunctionMeant given c owners ds o ms g → IsFunctionMeant given c owners (map (type_def_by f) ds) o ms (function_by f g)
    function_same c ds o ms g is = record {
      member = is.member;
      written = is.written;
      named = is.named;
      params_named = ap (map (λ (q : Param). string_bytes q.name)) (items_are (param_by f) g.params) ∙ same_seen (λ (q : Param). string_bytes q.name) (param_by f) (λ q. refl) g.params.items ∙ is.params_named;
      kind = member_kind_same (λ (x : Name) (i : ℕ). Stands c.me c.scopes given owners ds o x i) (λ (x : Name) (i : ℕ). Stands c.me c.scopes given owners (map (type_def_by f) ds) o x i) (λ x i means. stands_same c ds o x i means) is.member.kind g.kind is.kind;
      means = record {
        parts = is.means.parts;
        unfolds = ap (λ (rs : List (Option Ref)). part_trees (trees owners given (map (type_def_by f) ds)) rs) (refs_same g) ∙ ap (λ done. part_trees done (function_refs g)) (trees_same ds) ∙ is.means.unfolds;
        mean = is.means.mean;
      };
    }

    -- a type of a world's text is
    written_same : (ds : List TypeDef) (ms : List MemberTree) (x : Name) (i : ℕ) → IsTypeWritten all_kept ds ms x i → IsTypeWritten all_kept (map (type_def_by f) ds) ms x i
    written_same ds ms x i w = record {
      member = w.member;
      written = w.written;
      spelled_as = w.spelled_as;
      def = type_def_by f w.def;
      there = slice_get-map (type_def_by f) ds i ∙ ap (option_map (type_def_by f)) w.there;
      named = w.named;
      world = w.world;
      owner = w.owner;
      gates = w.gates;
    }

    -- ---- interfaces and worlds

    interface_same : (c : Context) (ds : List TypeDef) (t : InterfaceText) (d : Interface) → IsInterfaceMeant given c owners ds t d → IsInterfaceMeant given c owners (map (type_def_by f) ds) t (interface_by f d)
    interface_same c ds t d is = record {
      placed = is.placed;
      names = λ x i has. stands_same c ds t.place (string_bytes x) i (is.names x i has);
      functions = λ x g has.
          let e = map_has (λ (e : String Global × Function). (e.0, function_by f e.1)) d.functions.entries (x, g) has in
          let same : g ≡ function_by f e.0.1 = ap (λ (y : String Global × Function). y.1) e.2 in
          subst (IsFunctionMeant given c owners (map (type_def_by f) ds) t.place t.members) (sym same) (function_same c ds t.place t.members e.0.1 (is.functions e.0.0 e.0.1 e.1));
    }

    -- an item of a world is of its kind
    item_function : (x : WorldItem) (g : Function) → item.Function g ≡ item_by f x → (h : Function) × (x ≡ item.Function h) × (g ≡ function_by f h)
    item_function (item.Function h) g e = (h, refl, function_is g (function_by f h) e)
    item_function (item.Interface i stability span) g e = absurd cc
    item_function (item.TypeItem i span) g e = absurd cc

    item_type : (x : WorldItem) (i : ℕ) (span : Span) → item.TypeItem i span ≡ item_by f x → (at : Span) × (x ≡ item.TypeItem i at)
    item_type (item.TypeItem j at) i span e = (at, ap (λ (n : ℕ). item.TypeItem n at) (sym (type_is i j span (f at) e)))
    item_type (item.Interface j stability at) i span e = absurd cc
    item_type (item.Function g) i span e = absurd cc

    abbrev side_by : List (WorldKey × WorldItem) → List (WorldKey × WorldItem)
    side_by es = map (λ (e : WorldKey × WorldItem). (e.0, item_by f e.1)) es

    item_interface : (x : WorldItem) (i : ℕ) (gate : Stability) (span : Span) → item.Interface i gate span ≡ item_by f x → (at : Span) × (x ≡ item.Interface i gate at)
    item_interface (item.Interface j g at) i gate span e = (at, (let q : item.Interface i gate span ≡ item.Interface j g (f at) = e in cc))
    item_interface (item.TypeItem j at) i gate span e = absurd cc
    item_interface (item.Function g) i gate span e = absurd cc

    interface_side : (P : WorldKey → ℕ → Stability → Type 0) (es : List (WorldKey × WorldItem)) → ((k : WorldKey) (i : ℕ) (gate : Stability) (span : Span) → Has es (k, item.Interface i gate span) → P k i gate) → (k : WorldKey) (i : ℕ) (gate : Stability) (span : Span)
        → Has (side_by es) (k, item.Interface i gate span) → P k i gate
    interface_side P es listed k i gate span has =
        let e = map_has (λ (e : WorldKey × WorldItem). (e.0, item_by f e.1)) es (k, item.Interface i gate span) has in
        let of = item_interface e.0.1 i gate span (ap (λ (y : WorldKey × WorldItem). y.1) e.2) in
        subst (λ (q : WorldKey). P q i gate) (sym (ap (λ (y : WorldKey × WorldItem). y.0) e.2)) (listed e.0.0 i gate of.0 (subst (λ (x : WorldItem). Has es (e.0.0, x)) of.1 e.1))

    world_same : (c : Context) (ds : List TypeDef) (ws : List WorldScope) (name : String Global) (stability : Stability) (imports exports : List (WorldKey × WorldItem)) (includes : List WorldInclude) → IsWorldMeant all_kept given c owners ds ws name stability imports exports includes
        → IsWorldMeant all_kept given c owners (map (type_def_by f) ds) ws name stability (side_by imports) (side_by exports) (map (include_by f) includes)
    world_same c ds ws name stability imports exports includes is = record {
      text = is.text;
      is_text = is.is_text;
      own_types = λ k i span has.
          let e = map_has (λ (e : WorldKey × WorldItem). (e.0, item_by f e.1)) imports (k, item.TypeItem i span) has in
          let of = item_type e.0.1 i span (ap (λ (y : WorldKey × WorldItem). y.1) e.2) in
          let key_is : k ≡ e.0.0 = ap (λ (y : WorldKey × WorldItem). y.0) e.2 in
          let t : IsTypeMeant all_kept given c owners ds ws name stability e.0.0 i = is.own_types e.0.0 i of.0 (subst (λ (x : WorldItem). Has imports (e.0.0, x)) of.1 e.1) in
          record { text = t.text; is_text = t.is_text; spelling = t.spelling; known_by = ap known key_is ∙ t.known_by; means = stands_same c ds (in_world t.text.name.text) t.spelling i t.means; written = written_same ds (own_members t.text.members) t.spelling i t.written };
      imported_functions = side_function Import imports is.imported_functions;
      exported_functions = side_function Export exports is.exported_functions;
      imported = interface_side (IsInterfaceListed all_kept c owners ws name stability Import) imports is.imported;
      exported = interface_side (IsInterfaceListed all_kept c owners ws name stability Export) exports is.exported;
      no_exported_types = λ k i span has.
          let e = map_has (λ (e : WorldKey × WorldItem). (e.0, item_by f e.1)) exports (k, item.TypeItem i span) has in
          let of = item_type e.0.1 i span (ap (λ (y : WorldKey × WorldItem). y.1) e.2) in
          is.no_exported_types e.0.0 i of.0 (subst (λ (x : WorldItem). Has exports (e.0.0, x)) of.1 e.1);
      included = λ n has.
          let e = map_has (include_by f) includes n has in
          let i : IsIncludeMeant all_kept c owners ws name stability e.0 = is.included e.0 e.1 in
          subst (IsIncludeMeant all_kept c owners ws name stability) (sym e.2) (record { text = i.text; is_text = i.is_text; written = i.written; there = i.there; owner = i.owner; names = i.names; gates = i.gates });
    }
      where
        side_function : (side : Side) (es : List (WorldKey × WorldItem)) → ((k : WorldKey) (g : Function) → Has es (k, item.Function g) → IsOwnFunctionMeant all_kept given c owners ds ws name stability side g) → (k : WorldKey) (g : Function) → Has (side_by es) (k, item.Function g)
            → IsOwnFunctionMeant all_kept given c owners (map (type_def_by f) ds) ws name stability side g
        side_function side es meant k g has =
            let e = map_has (λ (e : WorldKey × WorldItem). (e.0, item_by f e.1)) es (k, item.Function g) has in
            let of = item_function e.0.1 g (ap (λ (y : WorldKey × WorldItem). y.1) e.2) in
            let m : IsOwnFunctionMeant all_kept given c owners ds ws name stability side of.0 = meant e.0.0 of.0 (subst (λ (x : WorldItem). Has es (e.0.0, x)) of.1 e.1) in
            subst (IsOwnFunctionMeant all_kept given c owners (map (type_def_by f) ds) ws name stability side) (sym of.2)
            (record {
              text = m.text;
              is_text = m.is_text;
              is = function_same c ds (in_world m.text.name.text) _ of.0 m.is;
              giver = m.giver;
              on_side = m.on_side;
              gives = m.gives;
              gates = m.gates;
              resource = member_kind_same (λ (x : Name) (i : ℕ). IsTypeWritten all_kept ds (own_members m.text.members) x i) (λ (x : Name) (i : ℕ). IsTypeWritten all_kept (map (type_def_by f) ds) (own_members m.text.members) x i)
                  (written_same ds (own_members m.text.members)) m.is.member.kind of.0.kind m.resource;
            })

-- ---- a package

pub moved_meant : MovedPackagesMeanTheirTexts
moved_meant c interfaces worlds p n is =
    let f : Span → Span = span_at n in
    record {
      whole = λ given i less.
          let many : length (map (type_def_by f) p.types) ≡ length p.types = length-map p.types (type_def_by f) in
          let tree = is.whole given i (subst (λ (k : ℕ). i < k) many less) in
          (tree.0, ap (λ done. ref_tree done (ref.Id i)) (trees_same f c.owners given p.types) ∙ tree.1);
      each_interface = λ given k d at.
          let o = got_behind (interface_by f) (asked p).interfaces p.interfaces k d at in
          let text = is.each_interface given k o.0 o.1 in
          (text.0, text.1, text.2, subst (IsInterfaceMeant given c c.owners (map (type_def_by f) p.types) text.0) o.2 (interface_same f c.owners given c p.types text.0 o.0 text.3));
      each_world = λ given k w at.
          let o = got_behind (world_by f) (asked p).worlds p.worlds k w at in
          let same = world_same f c.owners given c p.types worlds o.0.name o.0.stability o.0.imports.entries o.0.exports.entries o.0.includes.items (is.each_world given k o.0 o.1) in
          subst (λ (v : World). IsWorldMeant all_kept given c c.owners (map (type_def_by f) p.types) worlds v.name v.stability v.imports.entries v.exports.entries v.includes.items) o.2
          (subst (IsWorldMeant all_kept given c c.owners (map (type_def_by f) p.types) worlds o.0.name o.0.stability (side_by f c.owners given o.0.imports.entries) (side_by f c.owners given o.0.exports.entries)) (sym (items_are (include_by f) o.0.includes)) same);
    }
