-- What is known of types is what their trees say.
use Rattle.std.proofs.Common.{◌≡◌, ℕ, ◌+◌, ◌<◌, Bool, true, false, ◌||◌, ◌&&◌, List, [], ◌∷◌, ◌++◌, inl, inr, length, Option, Some, None, map, get_or, refl, sym, subst, ap, ◌∙◌}
use Rattle.std.proofs.lemmas.Option.{same_Some, slice_get_within}
use Rattle.std.proofs.lemmas.Bool.{cases_Bool}
use Rattle.std.proofs.lemmas.List.{get_or_append_left, get_or_push, length_push}
use Rattle.std.specs.Prelude.{slice_get, option_map, string_bytes, String}
use Rattle.std.specs.declared.alloc.Global.{Global}
use Rattle.wit_types.specs.declared.kind.«Type».{«Type» as Ref}
use Rattle.wit_types.specs.declared.kind.«Type».TheVariants as ref
use Rattle.wit_types.specs.declared.kind.Handle.TheVariants as handle
use Rattle.wit_types.specs.declared.kind.TypeDefKind.{TypeDefKind}
use Rattle.wit_types.specs.declared.kind.TypeDefKind.TheVariants as kind
use Rattle.wit_types.specs.declared.interface.TypeDef.{TypeDef}
use Rattle.wit_types.specs.declared.interface.TypeOwner.{TypeOwner}
use Rattle.wit_types.specs.declared.interface.TypeOwner.TheVariants as belongs
use Rattle.wit_arena.specs.Tree as tree
use Rattle.wit_arena.specs.Tree.{Name, Owner, Tree, TreeOption, Trees, no_tree, a_tree, no_trees, trees_and, primitive, list_tree, fixed_length_list_tree, option_tree, tuple_tree, result_tree, future_tree, stream_tree, own_tree, borrow_tree, record_tree, flags_tree, enum_tree, variant_tree, resource_leaf, named_tree, is_resource, value_of}
use Rattle.wit_arena.specs.Unfold.{Owners, flat, and_then, ref_tree, value_tree, part_tree, part_trees, kind_tree, named_kind_tree, owner_of, nameless_tree, def_tree_of, def_tree, trees_from, trees}
use Rattle.wit_arena.proofs.Lists.{get_more}
use Rattle.wit_arena.proofs.Unfolding.{flat_some, option_map_some}
use Rattle.wit_resources.specs.Holding.{holds_borrow, part_holds_borrow, parts_hold_borrow, all_bits_valid, part_all_bits_valid, parts_all_bits_valid}
use Rattle.wit_resources.specs.Natures.{nature_of, plain, made_of, holding, ref_nature, part_holds, one_holds, part_is_valid, all_valid, kind_nature, natures_from, natures}
use Rattle.wit_resources.specs.declared.natures.Nature.{Nature}

-- ---- options

chained : {X Y : Type 0} (f : X → Option Y) (o : Option X) (y : Y) → and_then f o ≡ Some y → (x : X) × (o ≡ Some x) × (f x ≡ Some y)
chained {X} {Y} f None y h = absurd cc
chained f (Some x) y h = (x, refl, h)

-- ---- trees

-- nothing is lent in a resource
resource_holds : (t : Tree) → is_resource t ≡ true → holds_borrow t ≡ false
resource_holds (resource_leaf o x) h = refl
resource_holds (named_tree o x t) h = resource_holds t h
resource_holds _ h = absurd cc

-- where a value is asked the same is lent
value_holds : (t : Tree) → holds_borrow (value_of t) ≡ holds_borrow t
value_holds t = elim (cases_Bool (is_resource t)) [
  | inl r ↦ rw r (sym (resource_holds t r))
  | inr r ↦ rw r refl
]

-- a name changes nothing of what is known
named_nature : (o : Owner) (x : Name) (t : Tree) → nature_of t ≡ nature_of (named_tree o x t)
named_nature o x t = elim (cases_Bool (is_resource t)) [
  | inl r ↦ rw r refl
  | inr r ↦ rw r refl
]

made_alike : {b c v w : Bool} → b ≡ c → v ≡ w → made_of b v ≡ made_of c w
made_alike {b} {c} {v} {w} h k = ap (λ (x : Bool). made_of x v) h ∙ ap (λ (x : Bool). made_of c x) k

-- ---- one by one

-- what is known agrees with the trees, where there are any
pub record Agree (done : List (Option Tree)) (ns : List Nature) : Type 0 where
  pub same : length done ≡ length ns
  pub each : (i : ℕ) (t : Tree) → slice_get done i ≡ Some (Some t) → get_or ns i plain ≡ nature_of t

module _ (done : List (Option Tree)) (ns : List Nature) (agree : Agree done ns) where
  pub ref_agrees : (r : Ref) (t : Tree) → ref_tree done r ≡ Some t → ref_nature ns r ≡ nature_of t
  ref_agrees (ref.Id i) t h = agree.each i t (flat_some (slice_get done i) t h)
  ref_agrees ref.Bool t h = ap nature_of (same_Some (primitive tree.bool) t h)
  ref_agrees ref.U8 t h = ap nature_of (same_Some (primitive tree.u8) t h)
  ref_agrees ref.U16 t h = ap nature_of (same_Some (primitive tree.u16) t h)
  ref_agrees ref.U32 t h = ap nature_of (same_Some (primitive tree.u32) t h)
  ref_agrees ref.U64 t h = ap nature_of (same_Some (primitive tree.u64) t h)
  ref_agrees ref.S8 t h = ap nature_of (same_Some (primitive tree.s8) t h)
  ref_agrees ref.S16 t h = ap nature_of (same_Some (primitive tree.s16) t h)
  ref_agrees ref.S32 t h = ap nature_of (same_Some (primitive tree.s32) t h)
  ref_agrees ref.S64 t h = ap nature_of (same_Some (primitive tree.s64) t h)
  ref_agrees ref.F32 t h = ap nature_of (same_Some (primitive tree.f32) t h)
  ref_agrees ref.F64 t h = ap nature_of (same_Some (primitive tree.f64) t h)
  ref_agrees ref.Char t h = ap nature_of (same_Some (primitive tree.char) t h)
  ref_agrees ref.String t h = ap nature_of (same_Some (primitive tree.string) t h)
  ref_agrees ref.ErrorContext t h = ap nature_of (same_Some (primitive tree.error_context) t h)

  pub value_agrees : (r : Ref) (v : Tree) → value_tree done r ≡ Some v → (ref_nature ns r).holds_borrow ≡ holds_borrow v
  value_agrees r v h =
      let m = option_map_some value_of (ref_tree done r) v h in
      ap (λ (n : Nature). n.holds_borrow) (ref_agrees r m.0 m.1) ∙ sym (value_holds m.0) ∙ ap holds_borrow m.2

  pub part_agrees : (p : Option Ref) (u : TreeOption) → part_tree done p ≡ Some u → part_holds ns p ≡ part_holds_borrow u
  part_agrees None u h = ap part_holds_borrow (same_Some no_tree u h)
  part_agrees (Some r) u h = let m = option_map_some a_tree (value_tree done r) u h in value_agrees r m.0 m.1 ∙ ap part_holds_borrow m.2

  parts_agree : {X : Type 0} (part : X → Option Ref) (xs : List X) (us : Trees) → part_trees done (map part xs) ≡ Some us → one_holds ns part xs ≡ parts_hold_borrow us
  parts_agree part [] us h = ap parts_hold_borrow (same_Some no_trees us h)
  parts_agree part (x ∷ xs) us h =
      let c = chained (λ t. option_map (trees_and t) (part_trees done (map part xs))) (part_tree done (part x)) us h in
      let m = option_map_some (trees_and c.0) (part_trees done (map part xs)) us c.2 in
      ap (λ b. b || one_holds ns part xs) (part_agrees (part x) c.0 c.1) ∙ ap (λ b. part_holds_borrow c.0 || b) (parts_agree part xs m.0 m.1) ∙ ap parts_hold_borrow m.2

  pub value_is_valid : (r : Ref) (v : Tree) → value_tree done r ≡ Some v → (ref_nature ns r).all_bits_valid ≡ all_bits_valid v
  value_is_valid r v h =
      let m = option_map_some value_of (ref_tree done r) v h in
      ap (λ (n : Nature). n.all_bits_valid) (ref_agrees r m.0 m.1) ∙ ap all_bits_valid m.2

  part_agrees_valid : (p : Option Ref) (u : TreeOption) → part_tree done p ≡ Some u → part_is_valid ns p ≡ part_all_bits_valid u
  part_agrees_valid None u h = ap part_all_bits_valid (same_Some no_tree u h)
  part_agrees_valid (Some r) u h = let m = option_map_some a_tree (value_tree done r) u h in value_is_valid r m.0 m.1 ∙ ap part_all_bits_valid m.2

  parts_agree_valid : {X : Type 0} (part : X → Option Ref) (xs : List X) (us : Trees) → part_trees done (map part xs) ≡ Some us → all_valid ns part xs ≡ parts_all_bits_valid us
  parts_agree_valid part [] us h = ap parts_all_bits_valid (same_Some no_trees us h)
  parts_agree_valid part (x ∷ xs) us h =
      let c = chained (λ t. option_map (trees_and t) (part_trees done (map part xs))) (part_tree done (part x)) us h in
      let m = option_map_some (trees_and c.0) (part_trees done (map part xs)) us c.2 in
      ap (λ b. b && all_valid ns part xs) (part_agrees_valid (part x) c.0 c.1) ∙ ap (λ b. part_all_bits_valid c.0 && b) (parts_agree_valid part xs m.0 m.1) ∙ ap parts_all_bits_valid m.2

  kind_agrees : (k : TypeDefKind) (u : Tree) → kind_tree done k ≡ Some u → kind_nature ns k ≡ nature_of u
  kind_agrees (kind.Record r) u h =
      let m = option_map_some (record_tree (map (λ f. string_bytes f.name) r.fields.items)) (part_trees done (map (λ f. Some f.ty) r.fields.items)) u h in
      made_alike (parts_agree (λ f. Some f.ty) r.fields.items m.0 m.1) (parts_agree_valid (λ f. Some f.ty) r.fields.items m.0 m.1) ∙ ap nature_of m.2
  kind_agrees kind.Resource u h = absurd cc
  kind_agrees (kind.Handle (handle.Own i)) u h = let m = option_map_some own_tree (flat (slice_get done i)) u h in ap nature_of m.2
  kind_agrees (kind.Handle (handle.Borrow i)) u h = let m = option_map_some borrow_tree (flat (slice_get done i)) u h in ap nature_of m.2
  kind_agrees (kind.Flags f) u h = ap nature_of (same_Some (flags_tree (map (λ l. string_bytes l.name) f.flags.items)) u h)
  kind_agrees (kind.Tuple t) u h =
      let m = option_map_some tuple_tree (part_trees done (map (λ r. Some r) t.types.items)) u h in
      made_alike (parts_agree (λ r. Some r) t.types.items m.0 m.1) (parts_agree_valid (λ r. Some r) t.types.items m.0 m.1) ∙ ap nature_of m.2
  kind_agrees (kind.Variant v) u h =
      let m = option_map_some (variant_tree (map (λ c. string_bytes c.name) v.cases.items)) (part_trees done (map (λ c. c.ty) v.cases.items)) u h in
      ap holding (parts_agree (λ c. c.ty) v.cases.items m.0 m.1) ∙ ap nature_of m.2
  kind_agrees (kind.Enum e) u h = ap nature_of (same_Some (enum_tree (map (λ c. string_bytes c.name) e.cases.items)) u h)
  kind_agrees (kind.Option r) u h = let m = option_map_some option_tree (value_tree done r) u h in ap holding (value_agrees r m.0 m.1) ∙ ap nature_of m.2
  kind_agrees (kind.Result r) u h =
      let c = chained (λ t. option_map (result_tree t) (part_tree done r.err)) (part_tree done r.ok) u h in
      let m = option_map_some (result_tree c.0) (part_tree done r.err) u c.2 in
      ap (λ b. holding (b || part_holds ns r.err)) (part_agrees r.ok c.0 c.1) ∙ ap (λ b. holding (part_holds_borrow c.0 || b)) (part_agrees r.err m.0 m.1) ∙ ap nature_of m.2
  kind_agrees (kind.List r) u h = let m = option_map_some list_tree (value_tree done r) u h in ap holding (value_agrees r m.0 m.1) ∙ ap nature_of m.2
  kind_agrees (kind.FixedLengthList r n) u h = let m = option_map_some (λ t. fixed_length_list_tree t n) (value_tree done r) u h in made_alike (value_agrees r m.0 m.1) (value_is_valid r m.0 m.1) ∙ ap nature_of m.2
  kind_agrees (kind.Future r) u h = let m = option_map_some future_tree (part_tree done r) u h in ap holding (part_agrees r m.0 m.1) ∙ ap nature_of m.2
  kind_agrees (kind.Stream r) u h = let m = option_map_some stream_tree (part_tree done r) u h in ap holding (part_agrees r m.0 m.1) ∙ ap nature_of m.2
  kind_agrees (kind.Alias r) u h = ref_agrees r u h
  kind_agrees kind.Unknown u h = absurd cc

  other_agrees : (o : Owner) (x : Name) (k : TypeDefKind) (u : Tree) → option_map (named_tree o x) (kind_tree done k) ≡ Some u → kind_nature ns k ≡ nature_of u
  other_agrees o x k u h = let m = option_map_some (named_tree o x) (kind_tree done k) u h in kind_agrees k m.0 m.1 ∙ named_nature o x m.0 ∙ ap nature_of m.2

  named_agrees : (o : Owner) (x : Name) (k : TypeDefKind) (u : Tree) → named_kind_tree resource_leaf done o x k ≡ Some u → kind_nature ns k ≡ nature_of u
  named_agrees o x kind.Resource u h = ap nature_of (same_Some (resource_leaf o x) u h)
  named_agrees o x kind.Unknown u h = ap nature_of (same_Some (resource_leaf o x) u h)
  named_agrees o x (kind.Record r) u h = other_agrees o x (kind.Record r) u h
  named_agrees o x (kind.Handle k) u h = other_agrees o x (kind.Handle k) u h
  named_agrees o x (kind.Flags f) u h = other_agrees o x (kind.Flags f) u h
  named_agrees o x (kind.Tuple t) u h = other_agrees o x (kind.Tuple t) u h
  named_agrees o x (kind.Variant v) u h = other_agrees o x (kind.Variant v) u h
  named_agrees o x (kind.Enum e) u h = other_agrees o x (kind.Enum e) u h
  named_agrees o x (kind.Option r) u h = other_agrees o x (kind.Option r) u h
  named_agrees o x (kind.Result r) u h = other_agrees o x (kind.Result r) u h
  named_agrees o x (kind.List r) u h = other_agrees o x (kind.List r) u h
  named_agrees o x (kind.FixedLengthList r n) u h = other_agrees o x (kind.FixedLengthList r n) u h
  named_agrees o x (kind.Future r) u h = other_agrees o x (kind.Future r) u h
  named_agrees o x (kind.Stream r) u h = other_agrees o x (kind.Stream r) u h
  named_agrees o x (kind.Alias r) u h = other_agrees o x (kind.Alias r) u h

  nameless_agrees : (o : TypeOwner) (k : TypeDefKind) (u : Tree) → nameless_tree done o k ≡ Some u → kind_nature ns k ≡ nature_of u
  nameless_agrees belongs.None k u h = kind_agrees k u h
  nameless_agrees (belongs.World w) k u h = absurd cc
  nameless_agrees (belongs.Interface i) k u h = absurd cc

  def_agrees : (owners : Owners) (name : Option (String Global)) (o : TypeOwner) (k : TypeDefKind) (u : Tree) → def_tree_of owners resource_leaf done name o k ≡ Some u → kind_nature ns k ≡ nature_of u
  def_agrees owners None o k u h = nameless_agrees o k u h
  def_agrees owners (Some x) o k u h =
      let c = chained (λ w. named_kind_tree resource_leaf done w (string_bytes x) k) (owner_of owners o) u h in
      named_agrees c.0 (string_bytes x) k u c.2

-- ---- all

agree_more : (done : List (Option Tree)) (ns : List Nature) (o : Option Tree) (n : Nature) → Agree done ns → ((t : Tree) → o ≡ Some t → n ≡ nature_of t) → Agree (done ++ o ∷ []) (ns ++ n ∷ [])
agree_more done ns o n agree here = record {
  same = length_push done o ∙ ap (λ (k : ℕ). k + 1) agree.same ∙ sym (length_push ns n);
  each = λ i t h. elim (get_more done o (Some t) i h) as (λ _. get_or (ns ++ n ∷ []) i plain ≡ nature_of t) [
    | inl was ↦ get_or_append_left ns (n ∷ []) plain i (subst (λ (l : ℕ). i < l) agree.same (slice_get_within done i (Some t) was)) ∙ agree.each i t was
    | inr last ↦ get_or_push ns n plain i (sym agree.same ∙ sym last.0) ∙ here t (sym last.1)
  ];
}

agree_from : (owners : Owners) (done : List (Option Tree)) (ns : List Nature) (ds : List TypeDef) → Agree done ns → Agree (trees_from owners resource_leaf done ds) (natures_from ns ds)
agree_from owners done ns [] agree = agree
agree_from owners done ns (d ∷ ds) agree =
    agree_from owners (done ++ def_tree owners resource_leaf done d ∷ []) (ns ++ kind_nature ns d.kind ∷ []) ds
    (agree_more done ns (def_tree owners resource_leaf done d) (kind_nature ns d.kind) agree (λ t h. def_agrees done ns agree owners d.name d.owner d.kind t h))

pub all_agree : (owners : Owners) (a : List TypeDef) → Agree (trees owners resource_leaf a) (natures a)
all_agree owners a = agree_from owners [] [] a (record { same = refl; each = λ i t h. absurd (let f : None ≡ Some (Some t) = h in cc) })
