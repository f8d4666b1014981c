-- What is written for a type is of the type that the texts say.
use Rattle.std.proofs.Common.{◌≡◌, ℕ, ◌+◌, ◌⊎◌, inl, inr, false, List, [], ◌∷◌, ◌++◌, length, map, Option, Some, None, refl, sym, ap, subst, ◌∙◌, arith, append_assoc, length-append}
use Rattle.std.specs.Prelude.{slice_get, option_map, String, string_bytes}
use Rattle.std.specs.declared.alloc.Global.{Global}
use Rattle.std.proofs.lemmas.Option.{same_Some}
use Rattle.std.proofs.lemmas.List.{append-nil}
use Rattle.wit_types.specs.declared.kind.«Type».{«Type» as Ref}
use Rattle.wit_types.specs.declared.kind.«Type».TheVariants as ref
use Rattle.wit_types.specs.declared.kind.TypeDefKind.{TypeDefKind}
use Rattle.wit_types.specs.declared.kind.TypeDefKind.TheVariants as kind
use Rattle.wit_types.specs.declared.interface.TypeDef.{TypeDef}
use Rattle.wit_types.specs.declared.interface.TypeOwner.{TypeOwner}
use Rattle.wit_types.specs.declared.interface.TypeOwner.TheVariants as belongs
use Rattle.type_meaning.specs.Passed.wit_arena-Tree as wit
use Rattle.type_meaning.specs.Passed.wit_arena-Tree.{Name, Owner, is_resource, value_of}
use Rattle.type_meaning.specs.Passed.wit_arena-Unfold.{Owners, and_then, ref_tree, value_tree, part_tree, part_trees, kind_tree, named_kind_tree, owner_of, def_tree_of, def_tree, trees_from, trees}
use Rattle.type_meaning.proofs.Passed.wit_arena-Lists.{get_more}
use Rattle.type_meaning.proofs.Passed.wit_arena-Unfolding.{flat_some, option_map_some}
use Rattle.type_meaning.specs.Tree.{Kind, Form, Tree, Parts, named, resource, of, none, gap, part}
use Rattle.type_meaning.specs.Tree as forms
use Rattle.type_meaning.specs.Words.{Label, Resource, NamedTree, over, seen, seen_parts}
use Rattle.type_meaning.specs.Syntax.{plain, labelled}
use Rattle.type_meaning.specs.Wit.{primitive_kind, label_of, in_bytes, part_in_bytes, parts_in_bytes}
use Rattle.type_writing.specs.Unfolding.{OwnName, WitTree, FormOf, form_of, primitive_of, under_name, Unfolds, unfolds_primitive, unfolds_type, KindUnfolds, unfolds_form, unfolds_alias, PartsUnfold, no_parts, gap_unfolds, part_unfolds}
use Rattle.type_writing.specs.Writing.{written, written_parts}
use Rattle.type_writing.specs.Texts.{AreLabels, IsOverOther, HasNoRepeat, HaveNoRepeat, WrittenTypesAreTheTexts}

chained : {X Y : Type 0} (f : X → Option Y) (o : Option X) (y : Y) → and_then f o ≡ Some y → (x : X) × (o ≡ Some x) × (f x ≡ Some y)
chained {X} {Y} f None y h = absurd cc
chained f (Some x) y h = (x, refl, h)

get_at : {X : Type 0} (front : List X) (x : X) (back : List X) (i : ℕ) → length front ≡ i → slice_get (front ++ x ∷ back) i ≡ Some x
get_at [] x back i e = rw (← e) refl
get_at (y ∷ front) x back i e = rw (← e) (get_at front x back (length front) refl)

-- ---- the tree of a type is made of those of the types before it

module _ (owners : Owners) (given : Owner → Name → wit.Tree) where
  pub record TreeAt (ds : List TypeDef) (done : List (Option wit.Tree)) (i : ℕ) (w : wit.Tree) : Type 0 where
    pub front : List TypeDef
    pub def : TypeDef
    pub back : List TypeDef
    pub parts : ds ≡ front ++ def ∷ back
    pub at : length done + length front ≡ i
    pub is : def_tree owners given (trees_from owners given done front) def ≡ Some w

  at_from : (ds : List TypeDef) (done : List (Option wit.Tree)) (i : ℕ) (w : wit.Tree) → slice_get (trees_from owners given done ds) i ≡ Some (Some w) → (slice_get done i ≡ Some (Some w)) ⊎ TreeAt ds done i w
  at_from [] done i w h = inl h
  at_from (d ∷ ds) done i w h =
      let o = def_tree owners given done d in
      elim (at_from ds (done ++ o ∷ []) i w h) as (λ _. (slice_get done i ≡ Some (Some w)) ⊎ TreeAt (d ∷ ds) done i w) [
        | inl there ↦ elim (get_more done o (Some w) i there) as (λ _. (slice_get done i ≡ Some (Some w)) ⊎ TreeAt (d ∷ ds) done i w) [
          | inl before ↦ inl before
          | inr last ↦ inr (record { front = []; def = d; back = ds; parts = refl; at = omega (arith, last.0); is = sym last.1 })
        ]
        | inr later ↦ inr (record {
          front = d ∷ later.front;
          def = later.def;
          back = later.back;
          parts = ap (λ (l : List TypeDef). d ∷ l) later.parts;
          at = omega (arith, later.at, length-append done (o ∷ []));
          is = later.is;
        })
      ]

  pub tree_at : (ds : List TypeDef) (i : ℕ) (w : wit.Tree) → ref_tree (trees owners given ds) (ref.Id i) ≡ Some w → TreeAt ds [] i w
  tree_at ds i w h = elim (at_from ds [] i w (flat_some (slice_get (trees owners given ds) i) w h)) [
    | inl before ↦ absurd (let bad : None ≡ Some (Some w) = before in cc)
    | inr there ↦ there
  ]

-- ---- as the outside sees it

module _ (leaf : Resource → Label) (label : OwnName → Label) (owners : Owners) (given : Owner → Name → wit.Tree) (types : List TypeDef) (labels : AreLabels label owners) where
  -- what a tree begins with
  abbrev Begins : WitTree → NamedTree → Type 0
  Begins (named o t) n = (u : NamedTree) × (n ≡ named (label o) u)
  Begins (resource o) n = ⊥
  Begins (of form ps) n = (qs : Parts Label Label) × (n ≡ of form qs)

  -- a tree is that of the texts, which is no resource
  record IsText (t : WitTree) (w : wit.Tree) : Type 0 where
    same : seen leaf (written label t) ≡ in_bytes w
    value : is_resource w ≡ false
    begins : Begins t (in_bytes w)

  value_is : (w v : wit.Tree) → value_of w ≡ v → is_resource w ≡ false → w ≡ v
  value_is w v e f = let k : value_of w ≡ w = rw f refl in sym k ∙ e

  -- over another name a name stays
  stays_over : (o : OwnName) (t : WitTree) (n : NamedTree) → IsOverOther label o t → Begins t n → over (label o) n ≡ named (label o) n
  stays_over o (named p t) n other (u, e) = rw e (rw other refl)
  stays_over o (resource p) n other b = absurd b
  stays_over o (of form ps) n other (qs, e) = rw e refl

  a_primitive : (k0 k : Kind) (p : wit.Primitive) (w : wit.Tree) → k0 ≡ k → wit.primitive p ≡ w → primitive_kind p ≡ k0 → IsText (of (plain k) none) w
  a_primitive k0 k p w e f g =
      let same : of (plain k) none ≡ in_bytes w = ap (λ (x : Kind). of (plain x) none) (sym (g ∙ e)) ∙ ap in_bytes f in
      record { same = same; value = ap is_resource (sym f); begins = (none, sym same) }

  primitive_same : (r : Ref) (k : Kind) (w : wit.Tree) (done : List (Option wit.Tree)) → primitive_of r ≡ Some k → ref_tree done r ≡ Some w → IsText (of (plain k) none) w
  primitive_same ref.Bool k w done p h = a_primitive forms.bool k wit.bool w (same_Some forms.bool k p) (same_Some (wit.primitive wit.bool) w h) refl
  primitive_same ref.U8 k w done p h = a_primitive forms.u8 k wit.u8 w (same_Some forms.u8 k p) (same_Some (wit.primitive wit.u8) w h) refl
  primitive_same ref.U16 k w done p h = a_primitive forms.u16 k wit.u16 w (same_Some forms.u16 k p) (same_Some (wit.primitive wit.u16) w h) refl
  primitive_same ref.U32 k w done p h = a_primitive forms.u32 k wit.u32 w (same_Some forms.u32 k p) (same_Some (wit.primitive wit.u32) w h) refl
  primitive_same ref.U64 k w done p h = a_primitive forms.u64 k wit.u64 w (same_Some forms.u64 k p) (same_Some (wit.primitive wit.u64) w h) refl
  primitive_same ref.S8 k w done p h = a_primitive forms.s8 k wit.s8 w (same_Some forms.s8 k p) (same_Some (wit.primitive wit.s8) w h) refl
  primitive_same ref.S16 k w done p h = a_primitive forms.s16 k wit.s16 w (same_Some forms.s16 k p) (same_Some (wit.primitive wit.s16) w h) refl
  primitive_same ref.S32 k w done p h = a_primitive forms.s32 k wit.s32 w (same_Some forms.s32 k p) (same_Some (wit.primitive wit.s32) w h) refl
  primitive_same ref.S64 k w done p h = a_primitive forms.s64 k wit.s64 w (same_Some forms.s64 k p) (same_Some (wit.primitive wit.s64) w h) refl
  primitive_same ref.F32 k w done p h = a_primitive forms.f32 k wit.f32 w (same_Some forms.f32 k p) (same_Some (wit.primitive wit.f32) w h) refl
  primitive_same ref.F64 k w done p h = a_primitive forms.f64 k wit.f64 w (same_Some forms.f64 k p) (same_Some (wit.primitive wit.f64) w h) refl
  primitive_same ref.Char k w done p h = a_primitive forms.char k wit.char w (same_Some forms.char k p) (same_Some (wit.primitive wit.char) w h) refl
  primitive_same ref.String k w done p h = a_primitive forms.string k wit.string w (same_Some forms.string k p) (same_Some (wit.primitive wit.string) w h) refl
  primitive_same ref.ErrorContext k w done p h = absurd cc
  primitive_same (ref.Id i) k w done p h = absurd cc

  -- ---- forms, by their parts

  module _ (done : List (Option wit.Tree)) (ts : Parts OwnName OwnName) where
    -- the parts are those of the texts
    abbrev AreText : List (Option Ref) → Type 0
    AreText rs = (ws : wit.Trees) → part_trees done rs ≡ Some ws → seen_parts leaf (written_parts label ts) ≡ parts_in_bytes ws

    -- so is a form over them
    over_parts : (f : Form) (rs : List (Option Ref)) (ws : wit.Trees) (w : wit.Tree) → AreText rs → part_trees done rs ≡ Some ws → of f (parts_in_bytes ws) ≡ in_bytes w → is_resource w ≡ false → IsText (of f ts) w
    over_parts f rs ws w each is e value = record { same = ap (of f) (each ws is) ∙ e; value = value; begins = (parts_in_bytes ws, sym e) }

    -- a form is one form
    abbrev Claim : wit.Tree → FormOf → Type 0
    Claim w g = AreText g.parts → IsText (of g.form ts) w

    one_value : (r : Ref) (v : wit.Tree) → value_tree done r ≡ Some v → part_trees done (Some r ∷ []) ≡ Some (wit.trees_and (wit.a_tree v) wit.no_trees)
    one_value r v h = ap (λ (o : Option wit.Tree). and_then (λ t. option_map (wit.trees_and t) (Some wit.no_trees)) (option_map wit.a_tree o)) h

    two_parts : (a b : Option Ref) (u v : wit.TreeOption) → part_tree done a ≡ Some u → part_tree done b ≡ Some v → part_trees done (a ∷ b ∷ []) ≡ Some (wit.trees_and u (wit.trees_and v wit.no_trees))
    two_parts a b u v h k = rw (h, k) refl

    form_same : (k : TypeDefKind) (f : FormOf) (w : wit.Tree) → form_of k ≡ Some f → AreText f.parts → kind_tree done k ≡ Some w → IsText (of f.form ts) w
    form_same (kind.Record r) f w is each h =
        let names = map (λ x. string_bytes x.name) r.fields.items in
        let m = option_map_some (wit.record_tree names) (part_trees done (map (λ x. Some x.ty) r.fields.items)) w h in
        subst (Claim w) (same_Some _ f is) (λ given. over_parts (labelled forms.record_kind names) (map (λ x. Some x.ty) r.fields.items) m.0 w given m.1 (ap in_bytes m.2) (ap is_resource (sym m.2))) each
    form_same (kind.Tuple t) f w is each h =
        let m = option_map_some wit.tuple_tree (part_trees done (map (λ r. Some r) t.types.items)) w h in
        subst (Claim w) (same_Some _ f is) (λ given. over_parts (plain forms.tuple_kind) (map (λ (x : Ref). Some x) t.types.items) m.0 w given m.1 (ap in_bytes m.2) (ap is_resource (sym m.2))) each
    form_same (kind.Variant v) f w is each h =
        let names = map (λ x. string_bytes x.name) v.cases.items in
        let m = option_map_some (wit.variant_tree names) (part_trees done (map (λ x. x.ty) v.cases.items)) w h in
        subst (Claim w) (same_Some _ f is) (λ given. over_parts (labelled forms.variant_kind names) (map (λ x. x.ty) v.cases.items) m.0 w given m.1 (ap in_bytes m.2) (ap is_resource (sym m.2))) each
    form_same (kind.Flags l) f w is each h =
        let names = map (λ x. string_bytes x.name) l.flags.items in
        let e : wit.flags_tree names ≡ w = same_Some (wit.flags_tree names) w h in
        subst (Claim w) (same_Some _ f is) (λ given. over_parts (labelled forms.flags_kind names) [] wit.no_trees w given refl (ap in_bytes e) (ap is_resource (sym e))) each
    form_same (kind.Enum l) f w is each h =
        let names = map (λ x. string_bytes x.name) l.cases.items in
        let e : wit.enum_tree names ≡ w = same_Some (wit.enum_tree names) w h in
        subst (Claim w) (same_Some _ f is) (λ given. over_parts (labelled forms.enum_kind names) [] wit.no_trees w given refl (ap in_bytes e) (ap is_resource (sym e))) each
    form_same (kind.Option r) f w is each h =
        let m = option_map_some wit.option_tree (value_tree done r) w h in
        subst (Claim w) (same_Some _ f is) (λ given. over_parts (plain forms.option_kind) (Some r ∷ []) (wit.trees_and (wit.a_tree m.0) wit.no_trees) w given (one_value r m.0 m.1) (ap in_bytes m.2) (ap is_resource (sym m.2))) each
    form_same (kind.List r) f w is each h =
        let m = option_map_some wit.list_tree (value_tree done r) w h in
        subst (Claim w) (same_Some _ f is) (λ given. over_parts (plain forms.list_kind) (Some r ∷ []) (wit.trees_and (wit.a_tree m.0) wit.no_trees) w given (one_value r m.0 m.1) (ap in_bytes m.2) (ap is_resource (sym m.2))) each
    form_same (kind.FixedLengthList r n) f w is each h =
        let m = option_map_some (λ t. wit.fixed_length_list_tree t n) (value_tree done r) w h in
        subst (Claim w) (same_Some _ f is) (λ given. over_parts (record { kind = forms.fixed_length_list_kind; labels = []; number = n }) (Some r ∷ []) (wit.trees_and (wit.a_tree m.0) wit.no_trees) w given (one_value r m.0 m.1) (ap in_bytes m.2) (ap is_resource (sym m.2))) each
    form_same (kind.Result r) f w is each h =
        let c = chained (λ t. option_map (wit.result_tree t) (part_tree done r.err)) (part_tree done r.ok) w h in
        let m = option_map_some (wit.result_tree c.0) (part_tree done r.err) w c.2 in
        subst (Claim w) (same_Some _ f is) (λ given. over_parts (plain forms.result_kind) (r.ok ∷ r.err ∷ []) (wit.trees_and c.0 (wit.trees_and m.0 wit.no_trees)) w given (two_parts r.ok r.err c.0 m.0 c.1 m.1) (ap in_bytes m.2) (ap is_resource (sym m.2))) each
    form_same kind.Resource f w is each h = absurd cc
    form_same (kind.Handle x) f w is each h = absurd cc
    form_same (kind.Future r) f w is each h = absurd cc
    form_same (kind.Stream r) f w is each h = absurd cc
    form_same (kind.Alias r) f w is each h = absurd cc
    form_same kind.Unknown f w is each h = absurd cc

  -- ---- names

  -- what unfolds is neither a resource nor of another package
  named_kind : (done : List (Option wit.Tree)) (v : Owner) (x : Name) (k : TypeDefKind) (u : WitTree) → KindUnfolds types k u → named_kind_tree given done v x k ≡ option_map (wit.named_tree v x) (kind_tree done k)
  named_kind done v x kind.Resource u (unfolds_form k f ts is ps) = absurd cc
  named_kind done v x kind.Unknown u (unfolds_form k f ts is ps) = absurd cc
  named_kind done v x (kind.Record r) u kinds = refl
  named_kind done v x (kind.Handle h) u kinds = refl
  named_kind done v x (kind.Flags f) u kinds = refl
  named_kind done v x (kind.Tuple t) u kinds = refl
  named_kind done v x (kind.Variant c) u kinds = refl
  named_kind done v x (kind.Enum c) u kinds = refl
  named_kind done v x (kind.Option r) u kinds = refl
  named_kind done v x (kind.Result r) u kinds = refl
  named_kind done v x (kind.List r) u kinds = refl
  named_kind done v x (kind.FixedLengthList r n) u kinds = refl
  named_kind done v x (kind.Future r) u kinds = refl
  named_kind done v x (kind.Stream r) u kinds = refl
  named_kind done v x (kind.Alias r) u kinds = refl

  -- a type under its own name, if it has one, by what it is
  def_same : (done : List (Option wit.Tree)) (o : TypeOwner) (n : Option (String Global)) (k : TypeDefKind) (u : WitTree) (w : wit.Tree) → KindUnfolds types k u
      → (HasNoRepeat label u → (v : wit.Tree) → kind_tree done k ≡ Some v → IsText u v) → HasNoRepeat label (under_name o n u) → def_tree_of owners given done n o k ≡ Some w → IsText (under_name o n u) w
  def_same done belongs.None None k u w kinds each h s = each h w s
  def_same done (belongs.World i) None k u w kinds each h s = absurd cc
  def_same done (belongs.Interface i) None k u w kinds each h s = absurd cc
  def_same done o (Some x) k u w kinds each h s =
      let own : OwnName = record { owner = o; name = string_bytes x } in
      let c = chained (λ v. named_kind_tree given done v (string_bytes x) k) (owner_of owners o) w s in
      let m = option_map_some (wit.named_tree c.0 (string_bytes x)) (kind_tree done k) w (sym (named_kind done c.0 (string_bytes x) k u kinds) ∙ c.2) in
      let inner = each h.1 m.0 m.1 in
      let l : label own ≡ label_of c.0 (string_bytes x) = labels o (string_bytes x) c.0 c.1 in
      let e : named (label own) (in_bytes m.0) ≡ in_bytes w = ap (λ (y : Label). named y (in_bytes m.0)) l ∙ ap in_bytes m.2 in
      record {
        same = ap (over (label own)) inner.same ∙ stays_over own u (in_bytes m.0) h.0 inner.begins ∙ e;
        value = ap is_resource (sym m.2) ∙ inner.value;
        begins = (in_bytes m.0, sym e);
      }

  -- ---- all types

  mutual
    ref_same : (xs ys : List TypeDef) → types ≡ xs ++ ys → (r : Ref) (t : WitTree) (w : wit.Tree) → Unfolds types r t → HasNoRepeat label t → ref_tree (trees owners given xs) r ≡ Some w → IsText t w
    ref_same xs ys e r t w (unfolds_primitive r2 k p) h s = primitive_same r2 k w (trees owners given xs) p s
    ref_same xs ys e r t w (unfolds_type id d u there k) h s =
        let at = tree_at owners given xs id w s in
        let parts : types ≡ at.front ++ at.def ∷ (at.back ++ ys) = e ∙ ap (λ (l : List TypeDef). l ++ ys) at.parts ∙ append_assoc at.front (at.def ∷ at.back) ys in
        let def : at.def ≡ d = same_Some at.def d (sym (ap (λ (l : List TypeDef). slice_get l id) parts ∙ get_at at.front at.def (at.back ++ ys) id (let z : length at.front ≡ id = omega (arith, at.at) in z)) ∙ there) in
        let is : def_tree owners given (trees owners given at.front) d ≡ Some w = ap (def_tree owners given (trees owners given at.front)) (sym def) ∙ at.is in
        def_same (trees owners given at.front) d.owner d.name d.kind u w k (λ none v q. kind_same at.front (at.def ∷ (at.back ++ ys)) parts d.kind u v k none q) h is

    kind_same : (xs ys : List TypeDef) → types ≡ xs ++ ys → (k : TypeDefKind) (u : WitTree) (w : wit.Tree) → KindUnfolds types k u → HasNoRepeat label u → kind_tree (trees owners given xs) k ≡ Some w → IsText u w
    kind_same xs ys e k u w (unfolds_form k2 f ts is ps) h s = form_same (trees owners given xs) ts k2 f w is (λ ws p. parts_same xs ys e f.parts ts ws ps h p) s
    kind_same xs ys e k u w (unfolds_alias r t unfolds) h s = ref_same xs ys e r t w unfolds h s

    parts_same : (xs ys : List TypeDef) → types ≡ xs ++ ys → (rs : List (Option Ref)) (ts : Parts OwnName OwnName) (ws : wit.Trees) → PartsUnfold types rs ts → HaveNoRepeat label ts → part_trees (trees owners given xs) rs ≡ Some ws
        → seen_parts leaf (written_parts label ts) ≡ parts_in_bytes ws
    parts_same xs ys e rs ts ws no_parts h s = ap parts_in_bytes (same_Some wit.no_trees ws s)
    parts_same xs ys e rs ts ws (gap_unfolds rs2 ts2 more) h s =
        let m = option_map_some (wit.trees_and wit.no_tree) (part_trees (trees owners given xs) rs2) ws s in
        ap (λ (p : Parts Label Label). gap p) (parts_same xs ys e rs2 ts2 m.0 more h m.1) ∙ ap parts_in_bytes m.2
    parts_same xs ys e rs ts ws (part_unfolds r t rs2 ts2 unfolds more) h s =
        let done = trees owners given xs in
        let c = chained (λ t. option_map (wit.trees_and t) (part_trees done rs2)) (part_tree done (Some r)) ws s in
        let m = option_map_some (wit.trees_and c.0) (part_trees done rs2) ws c.2 in
        let n = option_map_some wit.a_tree (value_tree done r) c.0 c.1 in
        let q = option_map_some value_of (ref_tree done r) n.0 n.1 in
        let first = ref_same xs ys e r t q.0 unfolds h.0 q.1 in
        let one : seen leaf (written label t) ≡ in_bytes n.0 = first.same ∙ ap in_bytes (value_is q.0 n.0 q.2 first.value) in
        let rest = parts_same xs ys e rs2 ts2 m.0 more h.1 m.1 in
        let both : part (seen leaf (written label t)) (seen_parts leaf (written_parts label ts2)) ≡ part (in_bytes n.0) (parts_in_bytes m.0) = λ i. part (one i) (rest i) in
        both ∙ ap (λ (o : wit.TreeOption). part_in_bytes o (parts_in_bytes m.0)) n.2 ∙ ap parts_in_bytes m.2

  pub is_text : (r : Ref) (t : WitTree) (w : wit.Tree) → Unfolds types r t → HasNoRepeat label t → ref_tree (trees owners given types) r ≡ Some w → seen leaf (written label t) ≡ in_bytes w
  is_text r t w unfolds h s = (ref_same types [] (sym (append-nil types)) r t w unfolds h s).same

pub written_types_are_the_texts : WrittenTypesAreTheTexts
written_types_are_the_texts leaf label owners given types r t w labels unfolds h s = is_text leaf label owners given types labels r t w unfolds h s
