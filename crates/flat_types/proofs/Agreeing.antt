-- What is known of the core types of types is what their trees have.
use Rattle.std.proofs.Common.{◌≡◌, ℕ, ◌+◌, Bool, true, false, ◌||◌, List, [], ◌∷◌, ◌++◌, inl, inr, length, Option, Some, None, map, take, min, refl, sym, subst, ap, ◌∙◌, le_refl}
use Rattle.std.proofs.lemmas.Option.{same_Some, get_or_from_slice_get}
use Rattle.std.proofs.lemmas.Bool.{cases_Bool}
use Rattle.std.proofs.lemmas.List.{length_push}
use Rattle.std.specs.Prelude.{slice_get, option_map, string_bytes, String}
use Rattle.std.specs.declared.alloc.Global.{Global}
use Rattle.wasm_types.specs.declared.types.ValType.{ValType}
use Rattle.wasm_types.specs.declared.types.ValType.TheVariants.{I32}
use Rattle.wit_types.specs.declared.kind.«Type».{«Type» as Ref}
use Rattle.wit_types.specs.declared.kind.«Type».TheVariants as ref
use Rattle.wit_types.specs.declared.kind.Handle.TheVariants as handle
use Rattle.wit_types.specs.declared.kind.TypeDefKind.{TypeDefKind}
use Rattle.wit_types.specs.declared.kind.TypeDefKind.TheVariants as kind
use Rattle.wit_types.specs.declared.interface.TypeDef.{TypeDef}
use Rattle.wit_types.specs.declared.interface.TypeOwner.{TypeOwner}
use Rattle.wit_types.specs.declared.interface.TypeOwner.TheVariants as belongs
use Rattle.wit_arena.specs.Tree as tree
use Rattle.wit_arena.specs.Tree.{Name, Owner, Tree, TreeOption, Trees, no_tree, a_tree, no_trees, trees_and, primitive, list_tree, fixed_length_list_tree, option_tree, tuple_tree, result_tree, future_tree, stream_tree, own_tree, borrow_tree, record_tree, flags_tree, enum_tree, variant_tree, resource_leaf, named_tree, is_resource, value_of}
use Rattle.wit_arena.specs.Unfold as arena
use Rattle.wit_arena.specs.Unfold.{Owners, and_then, ref_tree, value_tree, part_tree, part_trees, kind_tree, named_kind_tree, owner_of, nameless_tree, def_tree_of, def_tree, trees_from, trees}
use Rattle.wit_arena.proofs.Lists.{get_kept, get_last, get_more}
use Rattle.wit_arena.proofs.Unfolding.{flat_some, option_map_some}
use Rattle.flat_types.specs.Flat.{flat, flat_option, flat_parts, flat_cases, join_places, repeated}
use Rattle.flat_types.specs.Contents.{holds_string, part_holds_string, parts_hold_string, holds_list, part_holds_list, parts_hold_list}
use Rattle.flat_types.specs.Flats.{cap, FlatValue, flat_value_of, nothing, ref_flat, part_flat, in_order, in_place, one_holds_string, one_holds_list, of_fields, of_cases, kind_flat, flats_from, flats, TypesAreFlat}
use Rattle.flat_types.proofs.Capped.{Agree, cut_agrees, cons_agrees, appended_agree, joined_agree, join_nothing, repeated_to_cap}

-- ---- options

chained : {X Y : Type 0} (f : X → Option Y) (o : Option X) (y : Y) → and_then f o ≡ Some y → (x : X) × (o ≡ Some x) × (f x ≡ Some y)
chained {X} {Y} f None y h = absurd cc
chained f (Some x) y h = (x, refl, h)

pub or_false : (b : Bool) → (b || false) ≡ b
or_false true = refl
or_false false = refl

-- ---- trees

-- a resource holds neither
resource_holds_string : (t : Tree) → is_resource t ≡ true → holds_string t ≡ false
resource_holds_string (resource_leaf o x) h = refl
resource_holds_string (named_tree o x t) h = resource_holds_string t h
resource_holds_string _ h = absurd cc

resource_holds_list : (t : Tree) → is_resource t ≡ true → holds_list t ≡ false
resource_holds_list (resource_leaf o x) h = refl
resource_holds_list (named_tree o x t) h = resource_holds_list t h
resource_holds_list _ h = absurd cc

-- where a value is asked the same is held
value_holds_string : (t : Tree) → holds_string t ≡ holds_string (value_of t)
value_holds_string t = elim (cases_Bool (is_resource t)) [
  | inl r ↦ rw r (resource_holds_string t r)
  | inr r ↦ rw r refl
]

value_holds_list : (t : Tree) → holds_list t ≡ holds_list (value_of t)
value_holds_list t = elim (cases_Bool (is_resource t)) [
  | inl r ↦ rw r (resource_holds_list t r)
  | inr r ↦ rw r refl
]

-- of a value with this tree, of a part that may be missing, of parts one by one
abbrev pub value_flat : Tree → FlatValue
value_flat t = record { values = take cap (flat t); holds_string = holds_string t; holds_list = holds_list t }

abbrev pub option_flat : TreeOption → FlatValue
option_flat u = record { values = take cap (flat_option u); holds_string = part_holds_string u; holds_list = part_holds_list u }

abbrev pub each_flat : Trees → List FlatValue
each_flat no_trees = []
each_flat (trees_and t ts) = option_flat t ∷ each_flat ts

pub alike : (xs ys : List ValType) (a b c d : Bool) → xs ≡ ys → a ≡ b → c ≡ d
    → ◌≡◌ {A = FlatValue} (record { values = xs; holds_string = a; holds_list = c }) (record { values = ys; holds_string = b; holds_list = d })
alike xs ys a b c d e f g = λ i. record { values = e i; holds_string = f i; holds_list = g i }

value_is_flat : (t : Tree) → flat_value_of t ≡ value_flat (value_of t)
value_is_flat t = alike (take cap (flat (value_of t))) (take cap (flat (value_of t))) (holds_string t) (holds_string (value_of t)) (holds_list t) (holds_list (value_of t)) refl (value_holds_string t) (value_holds_list t)

-- a name changes nothing of what is known
named_is_flat : (o : Owner) (x : Name) (t : Tree) → flat_value_of t ≡ flat_value_of (named_tree o x t)
named_is_flat o x t = elim (cases_Bool (is_resource t)) [
  | inl r ↦ rw r refl
  | inr r ↦ rw r refl
]

-- ---- parts together

pub in_order_agrees : (us : Trees) → Agree cap (in_order (each_flat us)) (flat_parts us)
in_order_agrees no_trees = λ d h. refl
in_order_agrees (trees_and t ts) = appended_agree cap (take cap (flat_option t)) (flat_option t) (in_order (each_flat ts)) (flat_parts ts) (cut_agrees cap (flat_option t)) (in_order_agrees ts)

in_place_agrees : (us : Trees) → Agree cap (in_place (each_flat us)) (flat_cases us)
in_place_agrees no_trees = λ d h. refl
in_place_agrees (trees_and t ts) = joined_agree cap (take cap (flat_option t)) (flat_option t) (in_place (each_flat ts)) (flat_cases ts) (cut_agrees cap (flat_option t)) (in_place_agrees ts)

pub each_holds_string : (us : Trees) → one_holds_string (each_flat us) ≡ parts_hold_string us
each_holds_string no_trees = refl
each_holds_string (trees_and t ts) = ap (λ (b : Bool). part_holds_string t || b) (each_holds_string ts)

pub each_holds_list : (us : Trees) → one_holds_list (each_flat us) ≡ parts_hold_list us
each_holds_list no_trees = refl
each_holds_list (trees_and t ts) = ap (λ (b : Bool). part_holds_list t || b) (each_holds_list ts)

fields_are_flat : (us : Trees) → of_fields (each_flat us) ≡ flat_value_of (tuple_tree us)
fields_are_flat us =
    alike (take cap (in_order (each_flat us))) (take cap (flat_parts us)) (one_holds_string (each_flat us)) (parts_hold_string us) (one_holds_list (each_flat us)) (parts_hold_list us)
    (in_order_agrees us cap (le_refl cap)) (each_holds_string us) (each_holds_list us)

cases_are_flat : (ns : List Name) (us : Trees) → of_cases (each_flat us) ≡ flat_value_of (variant_tree ns us)
cases_are_flat ns us =
    alike (take cap (I32 ∷ in_place (each_flat us))) (take cap (I32 ∷ flat_cases us)) (one_holds_string (each_flat us)) (parts_hold_string us) (one_holds_list (each_flat us)) (parts_hold_list us)
    (cons_agrees cap I32 (in_place (each_flat us)) (flat_cases us) (in_place_agrees us) cap (le_refl cap)) (each_holds_string us) (each_holds_list us)

-- an option is as a variant with one case that holds something, and a result as one with two
option_is_flat : (t : Tree) → of_cases (value_flat t ∷ []) ≡ flat_value_of (option_tree t)
option_is_flat t =
    cases_are_flat [] (trees_and (a_tree t) no_trees)
    ∙ alike (take cap (I32 ∷ join_places (flat t) [])) (take cap (I32 ∷ flat t)) (holds_string t || false) (holds_string t) (holds_list t || false) (holds_list t)
    (ap (λ (xs : List ValType). take cap (I32 ∷ xs)) (join_nothing (flat t))) (or_false (holds_string t)) (or_false (holds_list t))

result_is_flat : (t u : TreeOption) → of_cases (option_flat t ∷ option_flat u ∷ []) ≡ flat_value_of (result_tree t u)
result_is_flat t u =
    cases_are_flat [] (trees_and t (trees_and u no_trees))
    ∙ alike (take cap (I32 ∷ join_places (flat_option t) (join_places (flat_option u) []))) (take cap (I32 ∷ join_places (flat_option t) (flat_option u)))
    (part_holds_string t || (part_holds_string u || false)) (part_holds_string t || part_holds_string u) (part_holds_list t || (part_holds_list u || false)) (part_holds_list t || part_holds_list u)
    (ap (λ (xs : List ValType). take cap (I32 ∷ join_places (flat_option t) xs)) (join_nothing (flat_option u)))
    (ap (λ (b : Bool). part_holds_string t || b) (or_false (part_holds_string u))) (ap (λ (b : Bool). part_holds_list t || b) (or_false (part_holds_list u)))

abbrev times : ℕ → FlatValue → FlatValue
times n v = record v { values = take cap (repeated (min cap n) v.values) }

repeated_is_flat : (t : Tree) (n : ℕ) → times n (value_flat t) ≡ flat_value_of (fixed_length_list_tree t n)
repeated_is_flat t n =
    alike (take cap (repeated (min cap n) (take cap (flat t)))) (take cap (repeated n (flat t))) (holds_string t) (holds_string t) (holds_list t) (holds_list t)
    (repeated_to_cap cap n (take cap (flat t)) (flat t) (cut_agrees cap (flat t))) refl refl

abbrev of_list : FlatValue → FlatValue
of_list v = record { values = I32 ∷ I32 ∷ []; holds_string = v.holds_string; holds_list = true }

-- ---- one by one

-- what is known agrees with the trees, where there are any
pub record Known (done : List (Option Tree)) (vs : List FlatValue) : Type 0 where
  pub same : length done ≡ length vs
  pub each : (i : ℕ) (t : Tree) → slice_get done i ≡ Some (Some t) → slice_get vs i ≡ Some (flat_value_of t)

module _ (done : List (Option Tree)) (vs : List FlatValue) (known : Known done vs) where
  ref_is_flat : (r : Ref) (t : Tree) → ref_tree done r ≡ Some t → ref_flat vs r ≡ flat_value_of t
  ref_is_flat (ref.Id i) t h = get_or_from_slice_get vs i (flat_value_of t) nothing (known.each i t (flat_some (slice_get done i) t h))
  ref_is_flat ref.Bool t h = ap flat_value_of (same_Some (primitive tree.bool) t h)
  ref_is_flat ref.U8 t h = ap flat_value_of (same_Some (primitive tree.u8) t h)
  ref_is_flat ref.U16 t h = ap flat_value_of (same_Some (primitive tree.u16) t h)
  ref_is_flat ref.U32 t h = ap flat_value_of (same_Some (primitive tree.u32) t h)
  ref_is_flat ref.U64 t h = ap flat_value_of (same_Some (primitive tree.u64) t h)
  ref_is_flat ref.S8 t h = ap flat_value_of (same_Some (primitive tree.s8) t h)
  ref_is_flat ref.S16 t h = ap flat_value_of (same_Some (primitive tree.s16) t h)
  ref_is_flat ref.S32 t h = ap flat_value_of (same_Some (primitive tree.s32) t h)
  ref_is_flat ref.S64 t h = ap flat_value_of (same_Some (primitive tree.s64) t h)
  ref_is_flat ref.F32 t h = ap flat_value_of (same_Some (primitive tree.f32) t h)
  ref_is_flat ref.F64 t h = ap flat_value_of (same_Some (primitive tree.f64) t h)
  ref_is_flat ref.Char t h = ap flat_value_of (same_Some (primitive tree.char) t h)
  ref_is_flat ref.String t h = ap flat_value_of (same_Some (primitive tree.string) t h)
  ref_is_flat ref.ErrorContext t h = ap flat_value_of (same_Some (primitive tree.error_context) t h)

  used_is_flat : (r : Ref) (v : Tree) → value_tree done r ≡ Some v → ref_flat vs r ≡ value_flat v
  used_is_flat r v h =
      let m = option_map_some value_of (ref_tree done r) v h in
      ref_is_flat r m.0 m.1 ∙ value_is_flat m.0 ∙ ap value_flat m.2

  pub part_is_flat : (p : Option Ref) (u : TreeOption) → part_tree done p ≡ Some u → part_flat vs p ≡ option_flat u
  part_is_flat None u h = ap option_flat (same_Some no_tree u h)
  part_is_flat (Some r) u h = let m = option_map_some a_tree (value_tree done r) u h in used_is_flat r m.0 m.1 ∙ ap option_flat m.2

  pub parts_are_flat : {X : Type 0} (part : X → Option Ref) (xs : List X) (us : Trees) → part_trees done (map part xs) ≡ Some us → map (λ x. part_flat vs (part x)) xs ≡ each_flat us
  parts_are_flat part [] us h = ap each_flat (same_Some no_trees us h)
  parts_are_flat part (x ∷ xs) us h =
      let c = chained (λ t. option_map (trees_and t) (part_trees done (map part xs))) (part_tree done (part x)) us h in
      let m = option_map_some (trees_and c.0) (part_trees done (map part xs)) us c.2 in
      let e = part_is_flat (part x) c.0 c.1 in
      let f = parts_are_flat part xs m.0 m.1 in
      (λ i. e i ∷ f i) ∙ ap each_flat m.2

  kind_is_flat : (k : TypeDefKind) (u : Tree) → kind_tree done k ≡ Some u → kind_flat vs k ≡ flat_value_of u
  kind_is_flat (kind.Record r) u h =
      let m = option_map_some (record_tree (map (λ f. string_bytes f.name) r.fields.items)) (part_trees done (map (λ f. Some f.ty) r.fields.items)) u h in
      ap of_fields (parts_are_flat (λ f. Some f.ty) r.fields.items m.0 m.1) ∙ fields_are_flat m.0 ∙ ap flat_value_of m.2
  kind_is_flat kind.Resource u h = absurd cc
  kind_is_flat (kind.Handle (handle.Own i)) u h = let m = option_map_some own_tree (arena.flat (slice_get done i)) u h in ap flat_value_of m.2
  kind_is_flat (kind.Handle (handle.Borrow i)) u h = let m = option_map_some borrow_tree (arena.flat (slice_get done i)) u h in ap flat_value_of m.2
  kind_is_flat (kind.Flags f) u h = ap flat_value_of (same_Some (flags_tree (map (λ l. string_bytes l.name) f.flags.items)) u h)
  kind_is_flat (kind.Tuple t) u h =
      let m = option_map_some tuple_tree (part_trees done (map (λ r. Some r) t.types.items)) u h in
      ap of_fields (parts_are_flat (λ r. Some r) t.types.items m.0 m.1) ∙ fields_are_flat m.0 ∙ ap flat_value_of m.2
  kind_is_flat (kind.Variant v) u h =
      let ns : List Name = map (λ c. string_bytes c.name) v.cases.items in
      let m = option_map_some (variant_tree ns) (part_trees done (map (λ c. c.ty) v.cases.items)) u h in
      ap of_cases (parts_are_flat (λ c. c.ty) v.cases.items m.0 m.1) ∙ cases_are_flat ns m.0 ∙ ap flat_value_of m.2
  kind_is_flat (kind.Enum e) u h = ap flat_value_of (same_Some (enum_tree (map (λ c. string_bytes c.name) e.cases.items)) u h)
  kind_is_flat (kind.Option r) u h =
      let m = option_map_some option_tree (value_tree done r) u h in
      ap (λ (v : FlatValue). of_cases (v ∷ [])) (used_is_flat r m.0 m.1) ∙ option_is_flat m.0 ∙ ap flat_value_of m.2
  kind_is_flat (kind.Result r) u h =
      let c = chained (λ t. option_map (result_tree t) (part_tree done r.err)) (part_tree done r.ok) u h in
      let m = option_map_some (result_tree c.0) (part_tree done r.err) u c.2 in
      let e = part_is_flat r.ok c.0 c.1 in
      let f = part_is_flat r.err m.0 m.1 in
      (λ i. of_cases (e i ∷ f i ∷ [])) ∙ result_is_flat c.0 m.0 ∙ ap flat_value_of m.2
  kind_is_flat (kind.List r) u h = let m = option_map_some list_tree (value_tree done r) u h in ap of_list (used_is_flat r m.0 m.1) ∙ ap flat_value_of m.2
  kind_is_flat (kind.FixedLengthList r n) u h =
      let m = option_map_some (λ t. fixed_length_list_tree t n) (value_tree done r) u h in
      ap (times n) (used_is_flat r m.0 m.1) ∙ repeated_is_flat m.0 n ∙ ap flat_value_of m.2
  kind_is_flat (kind.Future r) u h = let m = option_map_some future_tree (part_tree done r) u h in ap flat_value_of m.2
  kind_is_flat (kind.Stream r) u h = let m = option_map_some stream_tree (part_tree done r) u h in ap flat_value_of m.2
  kind_is_flat (kind.Alias r) u h = ref_is_flat r u h
  kind_is_flat kind.Unknown u h = absurd cc

  other_is_flat : (o : Owner) (x : Name) (k : TypeDefKind) (u : Tree) → option_map (named_tree o x) (kind_tree done k) ≡ Some u → kind_flat vs k ≡ flat_value_of u
  other_is_flat o x k u h = let m = option_map_some (named_tree o x) (kind_tree done k) u h in kind_is_flat k m.0 m.1 ∙ named_is_flat o x m.0 ∙ ap flat_value_of m.2

  named_kind_is_flat : (o : Owner) (x : Name) (k : TypeDefKind) (u : Tree) → named_kind_tree resource_leaf done o x k ≡ Some u → kind_flat vs k ≡ flat_value_of u
  named_kind_is_flat o x kind.Resource u h = ap flat_value_of (same_Some (resource_leaf o x) u h)
  named_kind_is_flat o x kind.Unknown u h = ap flat_value_of (same_Some (resource_leaf o x) u h)
  named_kind_is_flat o x (kind.Record r) u h = other_is_flat o x (kind.Record r) u h
  named_kind_is_flat o x (kind.Handle k) u h = other_is_flat o x (kind.Handle k) u h
  named_kind_is_flat o x (kind.Flags f) u h = other_is_flat o x (kind.Flags f) u h
  named_kind_is_flat o x (kind.Tuple t) u h = other_is_flat o x (kind.Tuple t) u h
  named_kind_is_flat o x (kind.Variant v) u h = other_is_flat o x (kind.Variant v) u h
  named_kind_is_flat o x (kind.Enum e) u h = other_is_flat o x (kind.Enum e) u h
  named_kind_is_flat o x (kind.Option r) u h = other_is_flat o x (kind.Option r) u h
  named_kind_is_flat o x (kind.Result r) u h = other_is_flat o x (kind.Result r) u h
  named_kind_is_flat o x (kind.List r) u h = other_is_flat o x (kind.List r) u h
  named_kind_is_flat o x (kind.FixedLengthList r n) u h = other_is_flat o x (kind.FixedLengthList r n) u h
  named_kind_is_flat o x (kind.Future r) u h = other_is_flat o x (kind.Future r) u h
  named_kind_is_flat o x (kind.Stream r) u h = other_is_flat o x (kind.Stream r) u h
  named_kind_is_flat o x (kind.Alias r) u h = other_is_flat o x (kind.Alias r) u h

  nameless_is_flat : (o : TypeOwner) (k : TypeDefKind) (u : Tree) → nameless_tree done o k ≡ Some u → kind_flat vs k ≡ flat_value_of u
  nameless_is_flat belongs.None k u h = kind_is_flat k u h
  nameless_is_flat (belongs.World w) k u h = absurd cc
  nameless_is_flat (belongs.Interface i) k u h = absurd cc

  def_is_flat : (owners : Owners) (n : Option (String Global)) (o : TypeOwner) (k : TypeDefKind) (u : Tree) → def_tree_of owners resource_leaf done n o k ≡ Some u → kind_flat vs k ≡ flat_value_of u
  def_is_flat owners None o k u h = nameless_is_flat o k u h
  def_is_flat owners (Some x) o k u h =
      let c = chained (λ w. named_kind_tree resource_leaf done w (string_bytes x) k) (owner_of owners o) u h in
      named_kind_is_flat c.0 (string_bytes x) k u c.2

-- ---- all

known_more : (done : List (Option Tree)) (vs : List FlatValue) (o : Option Tree) (v : FlatValue) → Known done vs → ((t : Tree) → o ≡ Some t → v ≡ flat_value_of t) → Known (done ++ o ∷ []) (vs ++ v ∷ [])
known_more done vs o v known here = record {
  same = length_push done o ∙ ap (λ (k : ℕ). k + 1) known.same ∙ sym (length_push vs v);
  each = λ i t h. elim (get_more done o (Some t) i h) as (λ _. slice_get (vs ++ v ∷ []) i ≡ Some (flat_value_of t)) [
    | inl was ↦ get_kept vs (v ∷ []) i (flat_value_of t) (known.each i t was)
    | inr last ↦ subst (λ (k : ℕ). slice_get (vs ++ v ∷ []) k ≡ Some (flat_value_of t)) (sym known.same ∙ sym last.0) (get_last vs v ∙ ap (λ (w : FlatValue). Some w) (here t (sym last.1)))
  ];
}

known_from : (owners : Owners) (done : List (Option Tree)) (vs : List FlatValue) (ds : List TypeDef) → Known done vs → Known (trees_from owners resource_leaf done ds) (flats_from vs ds)
known_from owners done vs [] known = known
known_from owners done vs (d ∷ ds) known =
    known_from owners (done ++ def_tree owners resource_leaf done d ∷ []) (vs ++ kind_flat vs d.kind ∷ []) ds
    (known_more done vs (def_tree owners resource_leaf done d) (kind_flat vs d.kind) known (λ t h. def_is_flat done vs known owners d.name d.owner d.kind t h))

pub all_known : (owners : Owners) (a : List TypeDef) → Known (trees owners resource_leaf a) (flats a)
all_known owners a = known_from owners [] [] a (record { same = refl; each = λ i t h. absurd (let f : None ≡ Some (Some t) = h in cc) })

pub types_are_flat : (owners : Owners) (a : List TypeDef) → TypesAreFlat owners a
types_are_flat owners a i t h = (all_known owners a).each i t (flat_some (slice_get (trees owners resource_leaf a) i) t h)
