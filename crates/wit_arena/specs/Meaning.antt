-- What names and types mean in the scopes of a package (WIT, Items, Use, Types).
use Rattle.std.specs.Prelude.{◌≡◌, ℕ, List, [], ◌∷◌, map, Option, Some, None, option_map, slice_get}
use Rattle.wit_types.specs.Passed.wit_words-declared-source_map-Span.{Span}
use Rattle.wit_types.specs.Passed.wit_words-Slice.{Slice}
use Rattle.wit_type_names.specs.Passed.wit_productions-TypeTree as written
use Rattle.wit_type_names.specs.Passed.wit_productions-TypeTree.{TypeTree, TypeShape, TypeRow, TypeOption, standing}
use Rattle.wit_type_names.specs.Passed.wit_items-ItemTree as item
use Rattle.wit_type_names.specs.Passed.wit_items-ItemTree.{FieldTree, LabelTree, CaseTree, TypeDefKindTree, GatedTree, ResourceFuncTree}
use Rattle.wit_type_names.specs.Passed.wit_syntax-Ast.{PackageNameTree}
use Rattle.wit_type_names.specs.Passed.wit_scopes-Paths.{own, foreign}
use Rattle.wit_type_names.specs.TypeNames.{field_parts, case_parts}
use Rattle.wit_type_names.specs.Passed.wit_scopes-Members.{MemberKind, MemberTree, used, defined}
use Rattle.wit_type_names.specs.Passed.wit_scopes-Scopes as scope
use Rattle.wit_type_names.specs.Passed.wit_scopes-Scopes.{ItemScope, InterfaceScope, WorldScope, ListedTree, WorldMemberTree}
use Rattle.wit_arena.specs.Tree as tree
use Rattle.wit_arena.specs.Tree.{Name, PackageText, Place, in_interface, in_world, in_listed, Owner, Primitive, Tree, TreeOption, Trees, no_tree, a_tree, no_trees, trees_and, primitive, list_tree, fixed_length_list_tree, option_tree, tuple_tree, result_tree, future_tree, stream_tree, own_tree, borrow_tree, record_tree, flags_tree, enum_tree, variant_tree, resource_leaf, named_tree, value_of}

-- it stands in the list
abbrev pub Has : {X : Type 0} → List X → X → Type 0
Has xs x = (k : ℕ) × (slice_get xs k ≡ Some x)

abbrev pub package_text : PackageNameTree → PackageText
package_text p = record { namespace = p.namespace.text; name = p.name.text; version = option_map (λ v. v.text) p.version }

-- what a scope of the package declares under a name: a definition, or a name that is used
pub data Declares (scopes : List ItemScope) : Place → Name → MemberKind → Type 0 where
  interface_declares : (i : InterfaceScope) (m : MemberTree) → Has scopes (scope.ItemScope.interface i) → Has i.members m → Declares scopes (in_interface i.name.text) m.name.text m.kind
  world_declares : (w : WorldScope) (m : MemberTree) → Has scopes (scope.world w) → Has w.members (scope.member m) → Declares scopes (in_world w.name.text) m.name.text m.kind
  listed_declares : (w : WorldScope) (l : ListedTree) (ms : List MemberTree) (m : MemberTree) → Has scopes (scope.world w) → Has w.members (scope.listed l) → l.kind ≡ scope.ExternKind.interface ms → Has ms m
      → Declares scopes (in_listed w.name.text l.side l.name.text) m.name.text m.kind

-- ---- types as they are written

abbrev pub primitive_of : TypeShape → Option Primitive
primitive_of written.bool = Some tree.bool
primitive_of written.u8 = Some tree.u8
primitive_of written.u16 = Some tree.u16
primitive_of written.u32 = Some tree.u32
primitive_of written.u64 = Some tree.u64
primitive_of written.s8 = Some tree.s8
primitive_of written.s16 = Some tree.s16
primitive_of written.s32 = Some tree.s32
primitive_of written.s64 = Some tree.s64
primitive_of written.f32 = Some tree.f32
primitive_of written.f64 = Some tree.f64
primitive_of written.char = Some tree.char
primitive_of written.string = Some tree.string
primitive_of written.error_context = Some tree.error_context
primitive_of (written.named x) = None
primitive_of (written.list t) = None
primitive_of (written.fixed_length_list t n) = None
primitive_of (written.option t) = None
primitive_of (written.tuple ts) = None
primitive_of (written.result ok err) = None
primitive_of (written.own x) = None
primitive_of (written.borrow x) = None
primitive_of (written.future t) = None
primitive_of (written.stream t) = None

-- parts in order
abbrev pub parts : TypeRow → List TypeOption
parts written.no_types = []
parts (written.types t ts) = written.a_type t ∷ parts ts

-- a type that is a name alone
abbrev pub bare_name : TypeTree → Option Slice
bare_name (standing s (written.named x)) = Some x
bare_name (standing s written.bool) = None
bare_name (standing s written.u8) = None
bare_name (standing s written.u16) = None
bare_name (standing s written.u32) = None
bare_name (standing s written.u64) = None
bare_name (standing s written.s8) = None
bare_name (standing s written.s16) = None
bare_name (standing s written.s32) = None
bare_name (standing s written.s64) = None
bare_name (standing s written.f32) = None
bare_name (standing s written.f64) = None
bare_name (standing s written.char) = None
bare_name (standing s written.string) = None
bare_name (standing s written.error_context) = None
bare_name (standing s (written.list t)) = None
bare_name (standing s (written.fixed_length_list t n)) = None
bare_name (standing s (written.option t)) = None
bare_name (standing s (written.tuple ts)) = None
bare_name (standing s (written.result ok err)) = None
bare_name (standing s (written.own x)) = None
bare_name (standing s (written.borrow x)) = None
bare_name (standing s (written.future t)) = None
bare_name (standing s (written.stream t)) = None

-- ---- meaning

-- In a package of that name with these scopes, where each foreign name has some tree: the tree of a type, of parts and of a name at a
-- place, one rule for each form. What leads back to itself has none, since a derivation ends.
mutual
  pub data Means (me : PackageText) (scopes : List ItemScope) (given : Owner → Name → Tree) : Place → TypeTree → Tree → Type 0 where
    means_primitive : (o : Place) (s : Span) (sh : TypeShape) (p : Primitive) → primitive_of sh ≡ Some p → Means me scopes given o (standing s sh) (primitive p)
    means_name : (o : Place) (s : Span) (x : Slice) (t : Tree) → MeansName me scopes given o x.text t → Means me scopes given o (standing s (written.named x)) (value_of t)
    means_list : (o : Place) (s : Span) (e : TypeTree) (t : Tree) → Means me scopes given o e t → Means me scopes given o (standing s (written.list e)) (list_tree t)
    means_fixed_length_list : (o : Place) (s : Span) (e : TypeTree) (n : ℕ) (t : Tree) → Means me scopes given o e t → Means me scopes given o (standing s (written.fixed_length_list e n)) (fixed_length_list_tree t n)
    means_option : (o : Place) (s : Span) (e : TypeTree) (t : Tree) → Means me scopes given o e t → Means me scopes given o (standing s (written.option e)) (option_tree t)
    means_tuple : (o : Place) (s : Span) (r : TypeRow) (ts : Trees) → MeansParts me scopes given o (parts r) ts → Means me scopes given o (standing s (written.tuple r)) (tuple_tree ts)
    means_result : (o : Place) (s : Span) (ok err : TypeOption) (t u : TreeOption) → MeansPart me scopes given o ok t → MeansPart me scopes given o err u → Means me scopes given o (standing s (written.result ok err)) (result_tree t u)
    means_own : (o : Place) (s : Span) (x : Slice) (t : Tree) → MeansName me scopes given o x.text t → Means me scopes given o (standing s (written.own x)) (own_tree t)
    means_borrow : (o : Place) (s : Span) (x : Slice) (t : Tree) → MeansName me scopes given o x.text t → Means me scopes given o (standing s (written.borrow x)) (borrow_tree t)
    means_future : (o : Place) (s : Span) (e : TypeOption) (t : TreeOption) → MeansPart me scopes given o e t → Means me scopes given o (standing s (written.future e)) (future_tree t)
    means_stream : (o : Place) (s : Span) (e : TypeOption) (t : TreeOption) → MeansPart me scopes given o e t → Means me scopes given o (standing s (written.stream e)) (stream_tree t)

  pub data MeansPart (me : PackageText) (scopes : List ItemScope) (given : Owner → Name → Tree) : Place → TypeOption → TreeOption → Type 0 where
    means_nothing : (o : Place) → MeansPart me scopes given o written.no_type no_tree
    means_a_type : (o : Place) (e : TypeTree) (t : Tree) → Means me scopes given o e t → MeansPart me scopes given o (written.a_type e) (a_tree t)

  pub data MeansParts (me : PackageText) (scopes : List ItemScope) (given : Owner → Name → Tree) : Place → List TypeOption → Trees → Type 0 where
    means_none : (o : Place) → MeansParts me scopes given o [] no_trees
    means_more : (o : Place) (e : TypeOption) (es : List TypeOption) (t : TreeOption) (ts : Trees) → MeansPart me scopes given o e t → MeansParts me scopes given o es ts → MeansParts me scopes given o (e ∷ es) (trees_and t ts)

  pub data MeansName (me : PackageText) (scopes : List ItemScope) (given : Owner → Name → Tree) : Place → Name → Tree → Type 0 where
    -- another name of a type: of a resource it is one too
    means_alias_of_name : (o : Place) (x : Name) (s : Span) (y : Slice) (t : Tree) → Declares scopes o x (defined (item.alias (standing s (written.named y)))) → MeansName me scopes given o y.text t
        → MeansName me scopes given o x (named_tree (record { package_text = me; place = o }) x t)
    means_alias : (o : Place) (x : Name) (e : TypeTree) (t : Tree) → Declares scopes o x (defined (item.alias e)) → bare_name e ≡ None → Means me scopes given o e t
        → MeansName me scopes given o x (named_tree (record { package_text = me; place = o }) x t)
    means_record : (o : Place) (x : Name) (fs : List FieldTree) (ts : Trees) → Declares scopes o x (defined (item.fields fs)) → MeansParts me scopes given o (field_parts fs) ts
        → MeansName me scopes given o x (named_tree (record { package_text = me; place = o }) x (record_tree (map (λ f. f.name.text) fs) ts))
    means_flags : (o : Place) (x : Name) (ls : List LabelTree) → Declares scopes o x (defined (item.flags ls))
        → MeansName me scopes given o x (named_tree (record { package_text = me; place = o }) x (flags_tree (map (λ l. l.name.text) ls)))
    means_enum : (o : Place) (x : Name) (ls : List LabelTree) → Declares scopes o x (defined (item.labels ls))
        → MeansName me scopes given o x (named_tree (record { package_text = me; place = o }) x (enum_tree (map (λ l. l.name.text) ls)))
    means_variant : (o : Place) (x : Name) (cs : List CaseTree) (ts : Trees) → Declares scopes o x (defined (item.cases cs)) → MeansParts me scopes given o (case_parts cs) ts
        → MeansName me scopes given o x (named_tree (record { package_text = me; place = o }) x (variant_tree (map (λ c. c.name.text) cs) ts))
    means_resource : (o : Place) (x : Name) (fs : List (GatedTree ResourceFuncTree)) → Declares scopes o x (defined (item.resource fs))
        → MeansName me scopes given o x (resource_leaf (record { package_text = me; place = o }) x)
    -- a name of an interface of the package, and of an interface of another
    means_used : (o : Place) (x : Name) (i y : Slice) (t : Tree) → Declares scopes o x (used (own i) y) → MeansName me scopes given (in_interface i.text) y.text t
        → MeansName me scopes given o x (named_tree (record { package_text = me; place = o }) x t)
    means_foreign : (o : Place) (x : Name) (p : PackageNameTree) (i y : Slice) → Declares scopes o x (used (foreign p i) y)
        → MeansName me scopes given o x (named_tree (record { package_text = me; place = o }) x (given (record { package_text = package_text p; place = in_interface i.text }) y.text))
