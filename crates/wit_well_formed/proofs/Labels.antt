-- Labels of a type that stands for what its name means differ, as those that are written do.
use Rattle.std.proofs.Common.{◌≡◌, ℕ, true, List, [], ◌∷◌, Option, Some, None, String, map, refl, sym, subst, ap, ◌∙◌}
use Rattle.std.proofs.lemmas.Option.{same_Some}
use Rattle.std.specs.Prelude.{slice_get, option_map, string_bytes}
use Rattle.std.specs.declared.alloc.Global.{Global}
use Rattle.distinct_names.specs.Names.{all_new}
use Rattle.wit_words.specs.Slice.{Slice}
use Rattle.wit_types.specs.declared.kind.TypeDefKind.{TypeDefKind}
use Rattle.wit_types.specs.declared.kind.TypeDefKind.TheVariants as kinds
use Rattle.wit_types.specs.declared.interface.TypeDef.{TypeDef}
use Rattle.wit_types.specs.declared.interface.TypeOwner.{TypeOwner}
use Rattle.wit_productions.specs.TypeTree.{TypeTree}
use Rattle.wit_items.specs.ItemTree.{FieldTree, LabelTree, CaseTree, TypeDefKindTree}
use Rattle.wit_package.specs.Passed.wit_scopes-Members.{MemberKind, MemberTree, defined}
use Rattle.wit_package.specs.Passed.wit_scopes-Scopes as scope
use Rattle.wit_package.specs.Passed.wit_scopes-Scopes.{ItemScope}
use Rattle.wit_package.specs.Passed.wit_rules-Breaks.{IsKept, NamesBreak}
use Rattle.wit_package.specs.Passed.wit_rules-Facts as fact
use Rattle.wit_package.specs.Passed.wit_rules-Facts.{MembersBreak, MemberBreaks, ScopesBreak}
use Rattle.wit_package.specs.Passed.wit_rules-Labels.{kind_names, names_within}
use Rattle.wit_package.specs.Passed.wit_arena-Tree.{Name, PackageText, Place, Owner, Tree, TreeOption, Trees, primitive, list_tree, fixed_length_list_tree, option_tree, tuple_tree, result_tree, future_tree, stream_tree, own_tree, borrow_tree, record_tree, flags_tree, enum_tree, variant_tree, resource_leaf, named_tree}
use Rattle.wit_package.specs.Passed.wit_arena-Meaning as meaning
use Rattle.wit_package.specs.Passed.wit_arena-Meaning.{Has, Declares, bare_name, Means, MeansName}
use Rattle.wit_package.specs.Passed.wit_arena-Shape.{ShapeTree, kind_shape}
use Rattle.wit_package.specs.Passed.wit_arena-Unfold.{Owners, and_then, part_trees, named_kind_tree, owner_of, def_tree_of, trees, IsWhole}
use Rattle.wit_package.specs.Passed.wit_arena-Standing.{Stands}
use Rattle.wit_package.proofs.Passed.wit_arena-Unfolding.{def_at}
use Rattle.wit_package.proofs.Passed.wit_readiness-Parts.{members_keep, listed_members_keep, world_keeps, world_member_keeps}
use Rattle.wit_labels.specs.Labels.{labels_of, HasLabelsApart}
use Rattle.wit_well_formed.proofs.Nameless.{by_name}
use Rattle.wit_well_formed.proofs.New.{names_new, read_through}

-- ---- as they are written

pub member_keeps : (ms : List MemberTree) → IsKept (MembersBreak ms) → (m : MemberTree) → Has ms m → IsKept (MemberBreaks m)
member_keeps ms kept m (k, at) rule place b = kept rule place (fact.MembersBreak.by_member (record { place = k; one = m; there = at; breaks = b }))

module _ (scopes : List ItemScope) (kept : IsKept (ScopesBreak scopes)) where
  names_kept : (o : Place) (x : Name) (k : MemberKind) → Declares scopes o x k → (n : Slice) × IsKept (NamesBreak (names_within k n))
  names_kept o x k (meaning.interface_declares i m has_i has_m) = (m.name, λ rule at b. member_keeps i.members (members_keep scopes kept i has_i) m has_m rule at (fact.MemberBreaks.by_names b))
  names_kept o x k (meaning.world_declares w m has_w has_m) = (m.name, λ rule at b. world_member_keeps w.members (world_keeps scopes kept w has_w) (scope.member m) has_m rule at (fact.MemberBreaks.by_names b))
  names_kept o x k (meaning.listed_declares w l ms m has_w has_l is has_m) =
      (m.name, λ rule at b. member_keeps ms (listed_members_keep w.members (world_keeps scopes kept w has_w) l ms has_l is) m has_m rule at (fact.MemberBreaks.by_names b))

  written_apart : (o : Place) (x : Name) (k : TypeDefKindTree) → Declares scopes o x (defined k) → all_new [] (map (λ (n : Slice). n.text) (kind_names k)) ≡ true
  written_apart o x k d = (let r = names_kept o x (defined k) d in names_new (kind_names k) r.1)

-- ---- as they are meant

abbrev tree_labels : Tree → List Name
tree_labels (primitive p) = []
tree_labels (list_tree t) = []
tree_labels (fixed_length_list_tree t n) = []
tree_labels (option_tree t) = []
tree_labels (tuple_tree ts) = []
tree_labels (result_tree ok err) = []
tree_labels (future_tree t) = []
tree_labels (stream_tree t) = []
tree_labels (own_tree t) = []
tree_labels (borrow_tree t) = []
tree_labels (record_tree ns ts) = ns
tree_labels (flags_tree ns) = ns
tree_labels (enum_tree ns) = ns
tree_labels (variant_tree ns ts) = ns
tree_labels (resource_leaf o x) = []
tree_labels (named_tree o x t) = []

abbrev named_labels : Tree → List Name
named_labels (named_tree o x t) = tree_labels t
named_labels _ = []

module _ (me : PackageText) (scopes : List ItemScope) where
  -- another name of a type has none
  name_bare : (o : Place) (x : Name) (t : Tree) → MeansName me scopes by_name o x t → tree_labels t ≡ []
  name_bare o x t (meaning.means_alias_of_name _ _ s y u d m) = refl
  name_bare o x t (meaning.means_alias _ _ e u d none m) = refl
  name_bare o x t (meaning.means_record _ _ fs ts d m) = refl
  name_bare o x t (meaning.means_flags _ _ ls d) = refl
  name_bare o x t (meaning.means_enum _ _ ls d) = refl
  name_bare o x t (meaning.means_variant _ _ cs ts d m) = refl
  name_bare o x t (meaning.means_resource _ _ fs d) = refl
  name_bare o x t (meaning.means_used _ _ i y u d m) = refl
  name_bare o x t (meaning.means_foreign _ _ p i y d) = refl

  -- nor has what is composed
  type_bare : (o : Place) (e : TypeTree) (t : Tree) → bare_name e ≡ None → Means me scopes by_name o e t → tree_labels t ≡ []
  type_bare o e t none (meaning.means_primitive _ s sh p is) = refl
  type_bare o e t none (meaning.means_name _ s x u m) = absurd cc
  type_bare o e t none (meaning.means_list _ s f u m) = refl
  type_bare o e t none (meaning.means_fixed_length_list _ s f n u m) = refl
  type_bare o e t none (meaning.means_option _ s f u m) = refl
  type_bare o e t none (meaning.means_tuple _ s r us m) = refl
  type_bare o e t none (meaning.means_result _ s ok err u v m n) = refl
  type_bare o e t none (meaning.means_own _ s x u m) = refl
  type_bare o e t none (meaning.means_borrow _ s x u m) = refl
  type_bare o e t none (meaning.means_future _ s f u m) = refl
  type_bare o e t none (meaning.means_stream _ s f u m) = refl

  module _ (kept : IsKept (ScopesBreak scopes)) where
    meant_apart : (o : Place) (x : Name) (t : Tree) → MeansName me scopes by_name o x t → all_new [] (named_labels t) ≡ true
    meant_apart o x t (meaning.means_alias_of_name _ _ s y u d m) = ap (all_new []) (name_bare o y.text u m)
    meant_apart o x t (meaning.means_alias _ _ e u d none m) = ap (all_new []) (type_bare o e u none m)
    meant_apart o x t (meaning.means_record _ _ fs ts d m) = ap (all_new []) (sym (read_through (λ (f : FieldTree). f.name) (λ (n : Slice). n.text) fs)) ∙ written_apart scopes kept o x _ d
    meant_apart o x t (meaning.means_flags _ _ ls d) = ap (all_new []) (sym (read_through (λ (l : LabelTree). l.name) (λ (n : Slice). n.text) ls)) ∙ written_apart scopes kept o x _ d
    meant_apart o x t (meaning.means_enum _ _ ls d) = ap (all_new []) (sym (read_through (λ (l : LabelTree). l.name) (λ (n : Slice). n.text) ls)) ∙ written_apart scopes kept o x _ d
    meant_apart o x t (meaning.means_variant _ _ cs ts d m) = ap (all_new []) (sym (read_through (λ (c : CaseTree). c.name) (λ (n : Slice). n.text) cs)) ∙ written_apart scopes kept o x _ d
    meant_apart o x t (meaning.means_resource _ _ fs d) = refl
    meant_apart o x t (meaning.means_used _ _ i y u d m) = ap (all_new []) (name_bare _ y.text u m)
    meant_apart o x t (meaning.means_foreign _ _ p i y d) = refl

-- ---- as they stand

both_there : {X Y Z : Type 0} (f : Y → Z) (g : X → Y) (p : Option X) (z : Z) → option_map f (option_map g p) ≡ Some z → (x : X) × (f (g x) ≡ z)
both_there f g None z h = absurd cc
both_there f g (Some x) z h = (x, same_Some (f (g x)) z h)

kind_apart : (done : List (Option Tree)) (w : Owner) (x : Name) (k : TypeDefKind) (t : Tree) → named_kind_tree by_name done w x k ≡ Some t → all_new [] (named_labels t) ≡ true → HasLabelsApart k
kind_apart done w x (kinds.Record r) t h a = (let u = both_there (named_tree w x) (record_tree (labels_of (kinds.Record r))) _ t h in ap (λ (z : Tree). all_new [] (named_labels z)) u.1 ∙ a)
kind_apart done w x (kinds.Variant v) t h a = (let u = both_there (named_tree w x) (variant_tree (labels_of (kinds.Variant v))) _ t h in ap (λ (z : Tree). all_new [] (named_labels z)) u.1 ∙ a)
kind_apart done w x (kinds.Flags f) t h a = ap (λ (z : Tree). all_new [] (named_labels z)) (same_Some (named_tree w x (flags_tree (labels_of (kinds.Flags f)))) t h) ∙ a
kind_apart done w x (kinds.Enum e) t h a = ap (λ (z : Tree). all_new [] (named_labels z)) (same_Some (named_tree w x (enum_tree (labels_of (kinds.Enum e)))) t h) ∙ a
kind_apart done w x _ t h a = refl

owned_apart : (done : List (Option Tree)) (x : Name) (k : TypeDefKind) (o : Option Owner) (t : Tree) → and_then (λ (w : Owner). named_kind_tree by_name done w x k) o ≡ Some t → all_new [] (named_labels t) ≡ true → HasLabelsApart k
owned_apart done x k None t h a = absurd cc
owned_apart done x k (Some w) t h a = kind_apart done w x k t h a

def_apart : (owners : Owners) (done : List (Option Tree)) (name : Option (String Global)) (x : Name) (o : TypeOwner) (k : TypeDefKind) (t : Tree) → option_map string_bytes name ≡ Some x → def_tree_of owners by_name done name o k ≡ Some t
    → all_new [] (named_labels t) ≡ true → HasLabelsApart k
def_apart owners done None x o k t named h a = absurd cc
def_apart owners done (Some y) x o k t named h a = owned_apart done (string_bytes y) k (owner_of owners o) t h a

-- a type that stands for what its name means
pub standing_apart : (me : PackageText) (scopes : List ItemScope) (owners : Owners) (a : List TypeDef) (o : Place) (x : Name) (i : ℕ) (d : TypeDef) → IsKept (ScopesBreak scopes) → IsWhole owners by_name a → slice_get a i ≡ Some d
    → option_map string_bytes d.name ≡ Some x → Stands me scopes by_name owners a o x i → HasLabelsApart d.kind
standing_apart me scopes owners a o x i d kept whole at named (t, tree, means) =
    let w = def_at owners by_name a i d whole at in
    let same : w.0 ≡ t = same_Some w.0 t (sym w.1 ∙ tree) in
    def_apart owners (trees owners by_name a) d.name x d.owner d.kind t named (w.2 ∙ ap (λ (z : Tree). Some z) same) (meant_apart me scopes kept o x t means)

-- a form has none
pub form_apart : (k : TypeDefKind) (s : ShapeTree) → kind_shape k ≡ Some s → HasLabelsApart k
form_apart (kinds.Record r) s h = absurd cc
form_apart (kinds.Variant v) s h = absurd cc
form_apart (kinds.Flags f) s h = absurd cc
form_apart (kinds.Enum e) s h = absurd cc
form_apart _ s h = refl
