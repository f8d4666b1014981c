-- What stands outermost in trees: what is written in a scope is made of names of the scope, under which all else stands.
use Rattle.std.proofs.Common.{◌≡◌, ℕ, suc, Bool, true, false, List, [], ◌∷◌, ◌⊎◌, inl, inr, Option, Some, None, length, map, refl, sym, subst, ap, arith}
use Rattle.std.proofs.lemmas.List.Folds.{flat_map-map}
use Rattle.std.proofs.lemmas.Option.{same_Some}
use Rattle.std.specs.Prelude.{slice_get, option_map, flat_map, string_bytes, if◌then◌else◌}
use Rattle.wit_types.specs.declared.kind.«Type».{«Type» as Ref}
use Rattle.wit_types.specs.declared.kind.«Type».TheVariants as ref
use Rattle.wit_types.specs.declared.kind.Handle.TheVariants as handle
use Rattle.wit_types.specs.declared.kind.Field.{Field}
use Rattle.wit_types.specs.declared.kind.Case.{Case}
use Rattle.wit_types.specs.declared.kind.TypeDefKind.{TypeDefKind}
use Rattle.wit_types.specs.declared.kind.TypeDefKind.TheVariants as kind
use Rattle.wit_productions.specs.TypeTree.{TypeTree, TypeOption}
use Rattle.wit_scopes.specs.Scopes.{ItemScope}
use Rattle.wit_type_names.specs.TypeNames.{field_parts, case_parts}
use Rattle.wit_order.specs.Order.{Has}
use Rattle.wit_reach.specs.Ids.{ref_ids, part_ids, kind_ids}
use Rattle.wit_reach.proofs.Lists.{has_parts}
use Rattle.wit_arena.specs.Shape.{ShapeTree, kind_shape}
use Rattle.wit_arena.specs.Tree.{Name, PackageText, Place, in_interface, Owner, Tree, TreeOption, Trees, no_tree, a_tree, no_trees, trees_and, primitive, list_tree, fixed_length_list_tree, option_tree, tuple_tree, result_tree, future_tree, stream_tree, own_tree, borrow_tree, record_tree, flags_tree, enum_tree, variant_tree, resource_leaf, named_tree, is_resource, value_of}
use Rattle.wit_arena.specs.Meaning as means
use Rattle.wit_arena.specs.Meaning.{parts, Means, MeansPart, MeansParts, MeansName}
use Rattle.wit_arena.specs.Unfold.{flat, ref_tree, value_tree, part_tree, part_trees, kind_tree, named_kind_tree}
use Rattle.wit_arena.proofs.Unfolding.{option_map_some}
use Rattle.wit_named_graphs.proofs.Passed.wit_copied_trees-Owners.{then_some}

abbrev mutual
  -- names that stand in it, but for those under other names, are of that owner, and nothing is defined but by name
  pub IsOutside : Owner → Tree → Type 0
  IsOutside w (primitive p) = Unit {0}
  IsOutside w (list_tree t) = IsOutside w t
  IsOutside w (fixed_length_list_tree t n) = IsOutside w t
  IsOutside w (option_tree t) = IsOutside w t
  IsOutside w (tuple_tree ts) = AreOutside w ts
  IsOutside w (result_tree ok err) = IsPartOutside w ok × IsPartOutside w err
  IsOutside w (future_tree t) = IsPartOutside w t
  IsOutside w (stream_tree t) = IsPartOutside w t
  IsOutside w (own_tree t) = IsOutside w t
  IsOutside w (borrow_tree t) = IsOutside w t
  IsOutside w (record_tree names ts) = ⊥
  IsOutside w (flags_tree names) = ⊥
  IsOutside w (enum_tree names) = ⊥
  IsOutside w (variant_tree names ts) = ⊥
  IsOutside w (resource_leaf o x) = o ≡ w
  IsOutside w (named_tree o x t) = o ≡ w

  pub IsPartOutside : Owner → TreeOption → Type 0
  IsPartOutside w no_tree = Unit {0}
  IsPartOutside w (a_tree t) = IsOutside w t

  pub AreOutside : Owner → Trees → Type 0
  AreOutside w no_trees = Unit {0}
  AreOutside w (trees_and t ts) = IsPartOutside w t × AreOutside w ts

-- so are those of a definition
abbrev pub IsInside : Owner → Tree → Type 0
IsInside w (primitive p) = Unit {0}
IsInside w (list_tree t) = IsOutside w t
IsInside w (fixed_length_list_tree t n) = IsOutside w t
IsInside w (option_tree t) = IsOutside w t
IsInside w (tuple_tree ts) = AreOutside w ts
IsInside w (result_tree ok err) = IsPartOutside w ok × IsPartOutside w err
IsInside w (future_tree t) = IsPartOutside w t
IsInside w (stream_tree t) = IsPartOutside w t
IsInside w (own_tree t) = IsOutside w t
IsInside w (borrow_tree t) = IsOutside w t
IsInside w (record_tree names ts) = AreOutside w ts
IsInside w (flags_tree names) = Unit {0}
IsInside w (enum_tree names) = Unit {0}
IsInside w (variant_tree names ts) = AreOutside w ts
IsInside w (resource_leaf o x) = o ≡ w
IsInside w (named_tree o x t) = o ≡ w

-- it is a name of that owner
abbrev pub IsNameOf : Owner → Tree → Type 0
IsNameOf w (resource_leaf o x) = o ≡ w
IsNameOf w (named_tree o x t) = o ≡ w
IsNameOf w t = ⊥

-- a form that is made of other types
abbrev pub IsForm : Tree → Type 0
IsForm (primitive p) = ⊥
IsForm (record_tree names ts) = ⊥
IsForm (flags_tree names) = ⊥
IsForm (enum_tree names) = ⊥
IsForm (variant_tree names ts) = ⊥
IsForm (resource_leaf o x) = ⊥
IsForm (named_tree o x t) = ⊥
IsForm t = Unit {0}

-- ---- one from the other

pub name_outside : (w : Owner) (t : Tree) → IsNameOf w t → IsOutside w t
name_outside w (resource_leaf o x) h = h
name_outside w (named_tree o x t) h = h
name_outside w _ h = absurd h

pub outside_inside : (w : Owner) (t : Tree) → IsOutside w t → IsInside w t
outside_inside w (record_tree names ts) h = absurd h
outside_inside w (flags_tree names) h = absurd h
outside_inside w (enum_tree names) h = absurd h
outside_inside w (variant_tree names ts) h = absurd h
outside_inside w (primitive p) h = h
outside_inside w (list_tree t) h = h
outside_inside w (fixed_length_list_tree t n) h = h
outside_inside w (option_tree t) h = h
outside_inside w (tuple_tree ts) h = h
outside_inside w (result_tree ok err) h = h
outside_inside w (future_tree t) h = h
outside_inside w (stream_tree t) h = h
outside_inside w (own_tree t) h = h
outside_inside w (borrow_tree t) h = h
outside_inside w (resource_leaf o x) h = h
outside_inside w (named_tree o x t) h = h

pub form_outside : (w : Owner) (t : Tree) → IsForm t → IsInside w t → IsOutside w t
form_outside w (primitive p) f h = h
form_outside w (record_tree names ts) f h = absurd f
form_outside w (flags_tree names) f h = absurd f
form_outside w (enum_tree names) f h = absurd f
form_outside w (variant_tree names ts) f h = absurd f
form_outside w (resource_leaf o x) f h = h
form_outside w (named_tree o x t) f h = h
form_outside w (list_tree t) f h = h
form_outside w (fixed_length_list_tree t n) f h = h
form_outside w (option_tree t) f h = h
form_outside w (tuple_tree ts) f h = h
form_outside w (result_tree ok err) f h = h
form_outside w (future_tree t) f h = h
form_outside w (stream_tree t) f h = h
form_outside w (own_tree t) f h = h
form_outside w (borrow_tree t) f h = h

-- a form is no name
pub form_no_name : (w : Owner) (t : Tree) → IsForm t → IsNameOf w t → ⊥
form_no_name w (resource_leaf o x) f h = f
form_no_name w (named_tree o x t) f h = f
form_no_name w _ f h = h

-- where a value is asked the same stands outside
pub value_outside : (w : Owner) (t : Tree) → IsOutside w t → IsOutside w (value_of t)
value_outside w t h = by (is_resource t)
  where
    by : (b : Bool) → IsOutside w (if b then own_tree t else t)
    by true = h
    by false = h

pub outside_value : (w : Owner) (t : Tree) → IsOutside w (value_of t) → IsOutside w t
outside_value w t h = by (is_resource t) h
  where
    by : (b : Bool) → IsOutside w (if b then own_tree t else t) → IsOutside w t
    by true k = k
    by false k = k

-- ---- what is meant at a place

module _ (me : PackageText) where
  -- of no package of that name
  abbrev pub far : Owner
  far = record { package_text = record { namespace = 0 ∷ me.namespace; name = []; version = None }; place = in_interface [] }

  pub far_apart : far.package_text ≡ me → ⊥
  far_apart e =
      let names : 0 ∷ me.namespace ≡ me.namespace = ap (λ (t : PackageText). t.namespace) e in
      let sizes : suc (length me.namespace) ≡ length me.namespace = ap length names in
      omega (arith, sizes)

  -- which is given for names of other packages
  abbrev pub given : Owner → Name → Tree
  given w y = resource_leaf far y

  abbrev pub owner_at : Place → Owner
  owner_at o = record { package_text = me; place = o }

  -- a name of an interface, or what is given
  abbrev pub IsUsed : Tree → Type 0
  IsUsed t = ((i : Name) × IsNameOf (owner_at (in_interface i)) t) ⊎ IsNameOf far t

  -- a resource of that owner, or a name of it: of a definition, or of what is used
  abbrev pub IsOfScope : Owner → Tree → Type 0
  IsOfScope w (resource_leaf o x) = o ≡ w
  IsOfScope w (named_tree o x t) = (o ≡ w) × (IsInside w t ⊎ IsUsed t)
  IsOfScope w t = ⊥

  pub scope_outside : (w : Owner) (t : Tree) → IsOfScope w t → IsOutside w t
  scope_outside w (resource_leaf o x) h = h
  scope_outside w (named_tree o x t) h = h.0
  scope_outside w _ h = absurd h

  module _ (scopes : List ItemScope) where
    name_is : (o : Place) (x : Name) (t : Tree) → MeansName me scopes given o x t → IsNameOf (owner_at o) t
    name_is _ _ _ (means.means_alias_of_name o x s y u d n) = refl
    name_is _ _ _ (means.means_alias o x e u d b n) = refl
    name_is _ _ _ (means.means_record o x fs us d n) = refl
    name_is _ _ _ (means.means_flags o x ls d) = refl
    name_is _ _ _ (means.means_enum o x ls d) = refl
    name_is _ _ _ (means.means_variant o x cs us d n) = refl
    name_is _ _ _ (means.means_resource o x fs d) = refl
    name_is _ _ _ (means.means_used o x i y u d n) = refl
    name_is _ _ _ (means.means_foreign o x p i y d) = refl

    outside_name : (o : Place) (x : Name) (t : Tree) → MeansName me scopes given o x t → IsOutside (owner_at o) t
    outside_name o x t n = name_outside (owner_at o) t (name_is o x t n)

    mutual
      outside_type : (o : Place) (e : TypeTree) (t : Tree) → Means me scopes given o e t → IsOutside (owner_at o) t
      outside_type _ _ _ (means.means_primitive o s sh p is) = tt
      outside_type _ _ _ (means.means_name o s x u n) = value_outside (owner_at o) u (outside_name o x.text u n)
      outside_type _ _ _ (means.means_list o s e u d) = outside_type o e u d
      outside_type _ _ _ (means.means_fixed_length_list o s e n u d) = outside_type o e u d
      outside_type _ _ _ (means.means_option o s e u d) = outside_type o e u d
      outside_type _ _ _ (means.means_tuple o s r us d) = outside_parts o (parts r) us d
      outside_type _ _ _ (means.means_result o s ok err u v d f) = (outside_part o ok u d, outside_part o err v f)
      outside_type _ _ _ (means.means_own o s x u n) = outside_name o x.text u n
      outside_type _ _ _ (means.means_borrow o s x u n) = outside_name o x.text u n
      outside_type _ _ _ (means.means_future o s e u d) = outside_part o e u d
      outside_type _ _ _ (means.means_stream o s e u d) = outside_part o e u d

      outside_part : (o : Place) (e : TypeOption) (t : TreeOption) → MeansPart me scopes given o e t → IsPartOutside (owner_at o) t
      outside_part _ _ _ (means.means_nothing o) = tt
      outside_part _ _ _ (means.means_a_type o e u d) = outside_type o e u d

      pub outside_parts : (o : Place) (es : List TypeOption) (ts : Trees) → MeansParts me scopes given o es ts → AreOutside (owner_at o) ts
      outside_parts _ _ _ (means.means_none o) = tt
      outside_parts _ _ _ (means.means_more o e es u us d more) = (outside_part o e u d, outside_parts o es us more)

    -- a name of the scope
    pub name_of_scope : (o : Place) (x : Name) (t : Tree) → MeansName me scopes given o x t → IsOfScope (owner_at o) t
    name_of_scope _ _ _ (means.means_alias_of_name o x s y u d n) = (refl, inl (outside_inside (owner_at o) u (outside_name o y.text u n)))
    name_of_scope _ _ _ (means.means_alias o x e u d b n) = (refl, inl (outside_inside (owner_at o) u (outside_type o e u n)))
    name_of_scope _ _ _ (means.means_record o x fs us d n) = (refl, inl (outside_parts o (field_parts fs) us n))
    name_of_scope _ _ _ (means.means_flags o x ls d) = (refl, inl tt)
    name_of_scope _ _ _ (means.means_enum o x ls d) = (refl, inl tt)
    name_of_scope _ _ _ (means.means_variant o x cs us d n) = (refl, inl (outside_parts o (case_parts cs) us n))
    name_of_scope _ _ _ (means.means_resource o x fs d) = refl
    name_of_scope _ _ _ (means.means_used o x i y u d n) = (refl, inr (inl (i.text, name_is (in_interface i.text) y.text u n)))
    name_of_scope _ _ _ (means.means_foreign o x p i y d) = (refl, inr (inr refl))

  -- ---- definitions by their trees

  -- of what a name is in an arena
  pub named_owner : (done : List (Option Tree)) (v w : Owner) (x : Name) (k : TypeDefKind) (t : Tree) → named_kind_tree given done v x k ≡ Some t → IsOutside w t → ((k ≡ kind.Unknown) × (far ≡ w)) ⊎ ((k ≡ kind.Unknown → ⊥) × (v ≡ w))
  named_owner done v w x kind.Resource t h all = inr ((λ e. cc), subst (IsOutside w) (sym (same_Some (resource_leaf v x) t h)) all)
  named_owner done v w x kind.Unknown t h all = inl (refl, subst (IsOutside w) (sym (same_Some (resource_leaf far x) t h)) all)
  named_owner done v w x k t h all = inr ((λ e. cc), (let m = option_map_some (named_tree v x) (kind_tree done k) t h in subst (IsOutside w) (sym m.2) all))

  -- what stands under the name of a type that is made of others
  pub named_parts : (done : List (Option Tree)) (v w : Owner) (x : Name) (k : TypeDefKind) (t : Tree) → named_kind_tree given done v x k ≡ Some t → IsOfScope w t → (j : ℕ) → Has (kind_ids k) j
      → (u : Tree) × (kind_tree done k ≡ Some u) × (IsInside w u ⊎ IsUsed u)
  named_parts done v w x kind.Resource t h is j has = absurd has
  named_parts done v w x kind.Unknown t h is j has = absurd has
  named_parts done v w x k t h is j has = (let m = option_map_some (named_tree v x) (kind_tree done k) t h in (m.0, m.1, (subst (IsOfScope w) (sym m.2) is).1))

  -- names in an arena are names, and resources are
  pub named_outside : (done : List (Option Tree)) (v w : Owner) (x : Name) (k : TypeDefKind) (t : Tree) → named_kind_tree given done v x k ≡ Some t → IsInside w t → IsOutside w t
  named_outside done v w x kind.Resource t h = subst (λ (u : Tree). IsInside w u → IsOutside w u) (same_Some (resource_leaf v x) t h) (λ all. all)
  named_outside done v w x kind.Unknown t h = subst (λ (u : Tree). IsInside w u → IsOutside w u) (same_Some (resource_leaf far x) t h) (λ all. all)
  named_outside done v w x k t h = (let m = option_map_some (named_tree v x) (kind_tree done k) t h in subst (λ (u : Tree). IsInside w u → IsOutside w u) m.2 (λ all. all))

module _ (done : List (Option Tree)) where
  -- a type without a name is a form
  pub form_tree : (k : TypeDefKind) (s : ShapeTree) (t : Tree) → kind_shape k ≡ Some s → kind_tree done k ≡ Some t → IsForm t
  form_tree (kind.Record r) s t e h = absurd cc
  form_tree kind.Resource s t e h = absurd cc
  form_tree (kind.Handle (handle.Own i)) s t e h = (let m = option_map_some own_tree (flat (slice_get done i)) t h in subst IsForm m.2 tt)
  form_tree (kind.Handle (handle.Borrow i)) s t e h = (let m = option_map_some borrow_tree (flat (slice_get done i)) t h in subst IsForm m.2 tt)
  form_tree (kind.Flags x) s t e h = absurd cc
  form_tree (kind.Tuple u) s t e h = (let m = option_map_some tuple_tree (part_trees done (map (λ (r : Ref). Some r) u.types.items)) t h in subst IsForm m.2 tt)
  form_tree (kind.Variant v) s t e h = absurd cc
  form_tree (kind.Enum x) s t e h = absurd cc
  form_tree (kind.Option r) s t e h = (let m = option_map_some option_tree (value_tree done r) t h in subst IsForm m.2 tt)
  form_tree (kind.Result r) s t e h =
      let a = then_some (λ (u : TreeOption). option_map (result_tree u) (part_tree done r.err)) (part_tree done r.ok) t h in
      let b = option_map_some (result_tree a.0) (part_tree done r.err) t a.2 in
      subst IsForm b.2 tt
  form_tree (kind.List r) s t e h = (let m = option_map_some list_tree (value_tree done r) t h in subst IsForm m.2 tt)
  form_tree (kind.FixedLengthList r n) s t e h = (let m = option_map_some (λ (u : Tree). fixed_length_list_tree u n) (value_tree done r) t h in subst IsForm m.2 tt)
  form_tree (kind.Future p) s t e h = (let m = option_map_some future_tree (part_tree done p) t h in subst IsForm m.2 tt)
  form_tree (kind.Stream p) s t e h = (let m = option_map_some stream_tree (part_tree done p) t h in subst IsForm m.2 tt)
  form_tree (kind.Alias r) s t e h = absurd cc
  form_tree kind.Unknown s t e h = absurd cc

  -- what is a name and is made of another type is another name of it
  module _ (w : Owner) where
    pub name_alias : (k : TypeDefKind) (t : Tree) → kind_tree done k ≡ Some t → IsNameOf w t → (j : ℕ) → Has (kind_ids k) j → (k ≡ kind.Alias (ref.Id j)) × (flat (slice_get done j) ≡ Some t)
    name_alias (kind.Record r) t h is j has =
        let m = option_map_some (record_tree (map (λ (f : Field). string_bytes f.name) r.fields.items)) (part_trees done (map (λ (f : Field). Some f.ty) r.fields.items)) t h in
        absurd (subst (IsNameOf w) (sym m.2) is)
    name_alias kind.Resource t h is j has = absurd has
    name_alias (kind.Handle (handle.Own i)) t h is j has = (let m = option_map_some own_tree (flat (slice_get done i)) t h in absurd (subst (IsNameOf w) (sym m.2) is))
    name_alias (kind.Handle (handle.Borrow i)) t h is j has = (let m = option_map_some borrow_tree (flat (slice_get done i)) t h in absurd (subst (IsNameOf w) (sym m.2) is))
    name_alias (kind.Flags x) t h is j has = absurd has
    name_alias (kind.Tuple u) t h is j has = (let m = option_map_some tuple_tree (part_trees done (map (λ (r : Ref). Some r) u.types.items)) t h in absurd (subst (IsNameOf w) (sym m.2) is))
    name_alias (kind.Variant v) t h is j has =
        let m = option_map_some (variant_tree (map (λ (c : Case). string_bytes c.name) v.cases.items)) (part_trees done (map (λ (c : Case). c.ty) v.cases.items)) t h in
        absurd (subst (IsNameOf w) (sym m.2) is)
    name_alias (kind.Enum x) t h is j has = absurd has
    name_alias (kind.Option r) t h is j has = (let m = option_map_some option_tree (value_tree done r) t h in absurd (subst (IsNameOf w) (sym m.2) is))
    name_alias (kind.Result r) t h is j has =
        let a = then_some (λ (u : TreeOption). option_map (result_tree u) (part_tree done r.err)) (part_tree done r.ok) t h in
        let b = option_map_some (result_tree a.0) (part_tree done r.err) t a.2 in
        absurd (subst (IsNameOf w) (sym b.2) is)
    name_alias (kind.List r) t h is j has = (let m = option_map_some list_tree (value_tree done r) t h in absurd (subst (IsNameOf w) (sym m.2) is))
    name_alias (kind.FixedLengthList r n) t h is j has = (let m = option_map_some (λ (u : Tree). fixed_length_list_tree u n) (value_tree done r) t h in absurd (subst (IsNameOf w) (sym m.2) is))
    name_alias (kind.Future p) t h is j has = (let m = option_map_some future_tree (part_tree done p) t h in absurd (subst (IsNameOf w) (sym m.2) is))
    name_alias (kind.Stream p) t h is j has = (let m = option_map_some stream_tree (part_tree done p) t h in absurd (subst (IsNameOf w) (sym m.2) is))
    name_alias (kind.Alias (ref.Id i)) t h is j has = elim has as (λ _. (kind.Alias (ref.Id i) ≡ kind.Alias (ref.Id j)) × (flat (slice_get done j) ≡ Some t)) [
      | inl same ↦ (ap (λ (n : ℕ). kind.Alias (ref.Id n)) (sym same), subst (λ (n : ℕ). flat (slice_get done n) ≡ Some t) (sym same) h)
      | inr none ↦ absurd none
    ]
    name_alias (kind.Alias _) t h is j has = absurd has
    name_alias kind.Unknown t h is j has = absurd has

  -- ---- parts of what has only names of an owner outside have so, too

  module _ (w : Owner) where
    abbrev pub HasOutside : ℕ → Type 0
    HasOutside j = (u : Tree) × (flat (slice_get done j) ≡ Some u) × IsOutside w u

    one_outside : (i : ℕ) (t : Tree) → flat (slice_get done i) ≡ Some t → IsOutside w t → (j : ℕ) → Has (i ∷ []) j → HasOutside j
    one_outside i t h all j has = elim has as (λ _. HasOutside j) [ inl same ↦ subst HasOutside (sym same) (t, h, all) | inr none ↦ absurd none ]

    ref_outside : (r : Ref) (t : Tree) → ref_tree done r ≡ Some t → IsOutside w t → (j : ℕ) → Has (ref_ids r) j → HasOutside j
    ref_outside (ref.Id i) t h all j has = one_outside i t h all j has
    ref_outside _ t h all j has = absurd has

    value_of_outside : (r : Ref) (t : Tree) → value_tree done r ≡ Some t → IsOutside w t → (j : ℕ) → Has (ref_ids r) j → HasOutside j
    value_of_outside r t h all j has = (let m = option_map_some value_of (ref_tree done r) t h in ref_outside r m.0 m.1 (outside_value w m.0 (subst (IsOutside w) (sym m.2) all)) j has)

    part_outside : (p : Option Ref) (t : TreeOption) → part_tree done p ≡ Some t → IsPartOutside w t → (j : ℕ) → Has (part_ids p) j → HasOutside j
    part_outside None t h all j has = absurd has
    part_outside (Some r) t h all j has = (let m = option_map_some a_tree (value_tree done r) t h in value_of_outside r m.0 m.1 (subst (IsPartOutside w) (sym m.2) all) j has)

    pub parts_outside : (ps : List (Option Ref)) (ts : Trees) → part_trees done ps ≡ Some ts → AreOutside w ts → (j : ℕ) → Has (flat_map part_ids ps) j → HasOutside j
    parts_outside [] ts h all j has = absurd has
    parts_outside (p ∷ ps) ts h all j has =
        let a = then_some (λ (t : TreeOption). option_map (trees_and t) (part_trees done ps)) (part_tree done p) ts h in
        let b = option_map_some (trees_and a.0) (part_trees done ps) ts a.2 in
        let both : AreOutside w (trees_and a.0 b.0) = subst (AreOutside w) (sym b.2) all in
        elim (has_parts (part_ids p) (flat_map part_ids ps) j has) as (λ _. HasOutside j) [
          | inl first ↦ part_outside p a.0 a.1 both.0 j first
          | inr later ↦ parts_outside ps b.0 b.1 both.1 j later
        ]

    -- a row of parts, by what each is of
    row_outside : {X : Type 0} (f : X → Option Ref) (xs : List X) (ts : Trees) → part_trees done (map f xs) ≡ Some ts → AreOutside w ts → (j : ℕ) → Has (flat_map (λ (x : X). part_ids (f x)) xs) j → HasOutside j
    row_outside {X} f xs ts h all j has = parts_outside (map f xs) ts h all j (subst (λ (is : List ℕ). Has is j) (sym (flat_map-map part_ids f xs)) has)

    -- a definition, where what it is another name of is no definition itself
    pub kind_outside : (k : TypeDefKind) (t : Tree) → kind_tree done k ≡ Some t → IsInside w t → (j : ℕ) → Has (kind_ids k) j → ((u : Tree) → flat (slice_get done j) ≡ Some u → IsInside w u → IsOutside w u) → HasOutside j
    kind_outside (kind.Record r) t h all j has out =
        let m = option_map_some (record_tree (map (λ (f : Field). string_bytes f.name) r.fields.items)) (part_trees done (map (λ (f : Field). Some f.ty) r.fields.items)) t h in
        row_outside (λ (f : Field). Some f.ty) r.fields.items m.0 m.1 (subst (IsInside w) (sym m.2) all) j has
    kind_outside kind.Resource t h all j has out = absurd has
    kind_outside (kind.Handle (handle.Own i)) t h all j has out = (let m = option_map_some own_tree (flat (slice_get done i)) t h in one_outside i m.0 m.1 (subst (IsInside w) (sym m.2) all) j has)
    kind_outside (kind.Handle (handle.Borrow i)) t h all j has out = (let m = option_map_some borrow_tree (flat (slice_get done i)) t h in one_outside i m.0 m.1 (subst (IsInside w) (sym m.2) all) j has)
    kind_outside (kind.Flags x) t h all j has out = absurd has
    kind_outside (kind.Tuple u) t h all j has out =
        let m = option_map_some tuple_tree (part_trees done (map (λ (r : Ref). Some r) u.types.items)) t h in
        row_outside (λ (r : Ref). Some r) u.types.items m.0 m.1 (subst (IsInside w) (sym m.2) all) j has
    kind_outside (kind.Variant v) t h all j has out =
        let m = option_map_some (variant_tree (map (λ (c : Case). string_bytes c.name) v.cases.items)) (part_trees done (map (λ (c : Case). c.ty) v.cases.items)) t h in
        row_outside (λ (c : Case). c.ty) v.cases.items m.0 m.1 (subst (IsInside w) (sym m.2) all) j has
    kind_outside (kind.Enum x) t h all j has out = absurd has
    kind_outside (kind.Option r) t h all j has out = (let m = option_map_some option_tree (value_tree done r) t h in value_of_outside r m.0 m.1 (subst (IsInside w) (sym m.2) all) j has)
    kind_outside (kind.Result r) t h all j has out =
        let a = then_some (λ (u : TreeOption). option_map (result_tree u) (part_tree done r.err)) (part_tree done r.ok) t h in
        let b = option_map_some (result_tree a.0) (part_tree done r.err) t a.2 in
        let both : IsPartOutside w a.0 × IsPartOutside w b.0 = subst (IsInside w) (sym b.2) all in
        elim (has_parts (part_ids r.ok) (part_ids r.err) j has) as (λ _. HasOutside j) [ inl ok ↦ part_outside r.ok a.0 a.1 both.0 j ok | inr err ↦ part_outside r.err b.0 b.1 both.1 j err ]
    kind_outside (kind.List r) t h all j has out = (let m = option_map_some list_tree (value_tree done r) t h in value_of_outside r m.0 m.1 (subst (IsInside w) (sym m.2) all) j has)
    kind_outside (kind.FixedLengthList r n) t h all j has out =
        let m = option_map_some (λ (u : Tree). fixed_length_list_tree u n) (value_tree done r) t h in
        value_of_outside r m.0 m.1 (subst (IsInside w) (sym m.2) all) j has
    kind_outside (kind.Future p) t h all j has out = (let m = option_map_some future_tree (part_tree done p) t h in part_outside p m.0 m.1 (subst (IsInside w) (sym m.2) all) j has)
    kind_outside (kind.Stream p) t h all j has out = (let m = option_map_some stream_tree (part_tree done p) t h in part_outside p m.0 m.1 (subst (IsInside w) (sym m.2) all) j has)
    kind_outside (kind.Alias (ref.Id i)) t h all j has out = elim has as (λ _. HasOutside j) [
      | inl same ↦ (let here : flat (slice_get done j) ≡ Some t = subst (λ (n : ℕ). flat (slice_get done n) ≡ Some t) (sym same) h in (t, here, out t here all))
      | inr none ↦ absurd none
    ]
    kind_outside (kind.Alias _) t h all j has out = absurd has
    kind_outside kind.Unknown t h all j has out = absurd has
