-- The trees of an arena: each type sees those before it alone, so what refers to itself or forward has none (WIT, Types).
use Rattle.std.specs.Prelude.{◌≡◌, ℕ, ◌<◌, List, [], ◌∷◌, ◌++◌, Option, Some, None, String, length, slice_get, map, option_map, string_bytes}
use Rattle.std.specs.declared.alloc.Global.{Global}
use Rattle.wit_types.specs.declared.kind.«Type».{«Type» as Ref}
use Rattle.wit_types.specs.declared.kind.«Type».TheVariants as ref
use Rattle.wit_types.specs.declared.kind.Handle.{Handle}
use Rattle.wit_types.specs.declared.kind.Handle.TheVariants as handle
use Rattle.wit_types.specs.declared.kind.TypeDefKind.{TypeDefKind}
use Rattle.wit_types.specs.declared.kind.TypeDefKind.TheVariants as kind
use Rattle.wit_types.specs.declared.interface.TypeDef.{TypeDef}
use Rattle.wit_types.specs.declared.interface.TypeOwner.{TypeOwner}
use Rattle.wit_types.specs.declared.interface.TypeOwner.TheVariants as belongs
use Rattle.wit_arena.specs.Tree as tree
use Rattle.wit_arena.specs.Tree.{Name, Owner, Tree, TreeOption, Trees, no_tree, a_tree, no_trees, trees_and, primitive, list_tree, fixed_length_list_tree, option_tree, tuple_tree, result_tree, future_tree, stream_tree, own_tree, borrow_tree, record_tree, flags_tree, enum_tree, variant_tree, resource_leaf, named_tree, value_of}

-- whose the types of an interface and of a world are, by their ids
pub record Owners : Type 0 where
  pub interfaces : List Owner
  pub worlds : List Owner

abbrev pub flat : {X : Type 0} → Option (Option X) → Option X
flat None = None
flat (Some o) = o

abbrev pub and_then : {X Y : Type 0} → (X → Option Y) → Option X → Option Y
and_then f None = None
and_then f (Some x) = f x

-- the tree of a type where it is used
abbrev pub ref_tree : List (Option Tree) → Ref → Option Tree
ref_tree done ref.Bool = Some (primitive tree.bool)
ref_tree done ref.U8 = Some (primitive tree.u8)
ref_tree done ref.U16 = Some (primitive tree.u16)
ref_tree done ref.U32 = Some (primitive tree.u32)
ref_tree done ref.U64 = Some (primitive tree.u64)
ref_tree done ref.S8 = Some (primitive tree.s8)
ref_tree done ref.S16 = Some (primitive tree.s16)
ref_tree done ref.S32 = Some (primitive tree.s32)
ref_tree done ref.S64 = Some (primitive tree.s64)
ref_tree done ref.F32 = Some (primitive tree.f32)
ref_tree done ref.F64 = Some (primitive tree.f64)
ref_tree done ref.Char = Some (primitive tree.char)
ref_tree done ref.String = Some (primitive tree.string)
ref_tree done ref.ErrorContext = Some (primitive tree.error_context)
ref_tree done (ref.Id i) = flat (slice_get done i)

-- where a value is asked
abbrev pub value_tree : List (Option Tree) → Ref → Option Tree
value_tree done r = option_map value_of (ref_tree done r)

abbrev pub part_tree : List (Option Tree) → Option Ref → Option TreeOption
part_tree done None = Some no_tree
part_tree done (Some r) = option_map a_tree (value_tree done r)

abbrev pub part_trees : List (Option Tree) → List (Option Ref) → Option Trees
part_trees done [] = Some no_trees
part_trees done (r ∷ rs) = and_then (λ t. option_map (trees_and t) (part_trees done rs)) (part_tree done r)

abbrev pub handle_tree : List (Option Tree) → Handle → Option Tree
handle_tree done (handle.Own i) = option_map own_tree (flat (slice_get done i))
handle_tree done (handle.Borrow i) = option_map borrow_tree (flat (slice_get done i))

-- of what is neither a resource nor of another package
abbrev pub kind_tree : List (Option Tree) → TypeDefKind → Option Tree
kind_tree done (kind.Record r) = option_map (record_tree (map (λ f. string_bytes f.name) r.fields.items)) (part_trees done (map (λ f. Some f.ty) r.fields.items))
kind_tree done kind.Resource = None
kind_tree done (kind.Handle h) = handle_tree done h
kind_tree done (kind.Flags f) = Some (flags_tree (map (λ l. string_bytes l.name) f.flags.items))
kind_tree done (kind.Tuple t) = option_map tuple_tree (part_trees done (map (λ r. Some r) t.types.items))
kind_tree done (kind.Variant v) = option_map (variant_tree (map (λ c. string_bytes c.name) v.cases.items)) (part_trees done (map (λ c. c.ty) v.cases.items))
kind_tree done (kind.Enum e) = Some (enum_tree (map (λ c. string_bytes c.name) e.cases.items))
kind_tree done (kind.Option r) = option_map option_tree (value_tree done r)
kind_tree done (kind.Result r) = and_then (λ t. option_map (result_tree t) (part_tree done r.err)) (part_tree done r.ok)
kind_tree done (kind.List r) = option_map list_tree (value_tree done r)
kind_tree done (kind.FixedLengthList r n) = option_map (λ t. fixed_length_list_tree t n) (value_tree done r)
kind_tree done (kind.Future r) = option_map future_tree (part_tree done r)
kind_tree done (kind.Stream r) = option_map stream_tree (part_tree done r)
kind_tree done (kind.Alias r) = ref_tree done r
kind_tree done kind.Unknown = None

-- of a type that has a name: what another package gives is what is given
abbrev pub named_kind_tree : (Owner → Name → Tree) → List (Option Tree) → Owner → Name → TypeDefKind → Option Tree
named_kind_tree given done o x kind.Resource = Some (resource_leaf o x)
named_kind_tree given done o x kind.Unknown = Some (given o x)
named_kind_tree given done o x k = option_map (named_tree o x) (kind_tree done k)

abbrev pub owner_of : Owners → TypeOwner → Option Owner
owner_of owners (belongs.World w) = slice_get owners.worlds w
owner_of owners (belongs.Interface i) = slice_get owners.interfaces i
owner_of owners belongs.None = None

-- of a type without a name, which belongs nowhere
abbrev pub nameless_tree : List (Option Tree) → TypeOwner → TypeDefKind → Option Tree
nameless_tree done belongs.None k = kind_tree done k
nameless_tree done (belongs.World w) k = None
nameless_tree done (belongs.Interface i) k = None

abbrev pub def_tree_of : Owners → (Owner → Name → Tree) → List (Option Tree) → Option (String Global) → TypeOwner → TypeDefKind → Option Tree
def_tree_of owners given done None o k = nameless_tree done o k
def_tree_of owners given done (Some x) o k = and_then (λ w. named_kind_tree given done w (string_bytes x) k) (owner_of owners o)

abbrev pub def_tree : Owners → (Owner → Name → Tree) → List (Option Tree) → TypeDef → Option Tree
def_tree owners given done d = def_tree_of owners given done d.name d.owner d.kind

abbrev pub trees_from : Owners → (Owner → Name → Tree) → List (Option Tree) → List TypeDef → List (Option Tree)
trees_from owners given done [] = done
trees_from owners given done (d ∷ ds) = trees_from owners given (done ++ def_tree owners given done d ∷ []) ds

abbrev pub trees : Owners → (Owner → Name → Tree) → List TypeDef → List (Option Tree)
trees owners given ds = trees_from owners given [] ds

-- each id has a tree: types refer only backwards
abbrev pub IsWhole : Owners → (Owner → Name → Tree) → List TypeDef → Type 0
IsWhole owners given a = (i : ℕ) → i < length a → (t : Tree) × (ref_tree (trees owners given a) (ref.Id i) ≡ Some t)
