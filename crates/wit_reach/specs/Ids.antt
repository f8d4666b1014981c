-- The types that something is made of, in their order (WIT, Types, Items).
use Rattle.std.specs.Prelude.{ℕ, List, [], ◌∷◌, ◌++◌, Option, Some, None, map, flat_map}
use Rattle.wit_types.specs.declared.kind.«Type».{«Type» as Ref}
use Rattle.wit_types.specs.declared.kind.«Type».TheVariants as ref
use Rattle.wit_types.specs.declared.kind.Handle.{Handle}
use Rattle.wit_types.specs.declared.kind.Handle.TheVariants as handle
use Rattle.wit_types.specs.declared.kind.Field.{Field}
use Rattle.wit_types.specs.declared.kind.Case.{Case}
use Rattle.wit_types.specs.declared.kind.TypeDefKind.{TypeDefKind}
use Rattle.wit_types.specs.declared.kind.TypeDefKind.TheVariants as kind
use Rattle.wit_types.specs.declared.function.Param.{Param}
use Rattle.wit_types.specs.declared.function.Function.{Function}
use Rattle.wit_types.specs.declared.function.FunctionKind.{FunctionKind}
use Rattle.wit_types.specs.declared.function.FunctionKind.TheVariants as of
use Rattle.wit_types.specs.declared.world.WorldItem.{WorldItem}
use Rattle.wit_types.specs.declared.world.WorldItem.TheVariants as item
use Rattle.wit_types.specs.declared.world_key.WorldKey.{WorldKey}

abbrev pub ref_ids : Ref → List ℕ
ref_ids (ref.Id i) = i ∷ []
ref_ids ref.Bool = []
ref_ids ref.U8 = []
ref_ids ref.U16 = []
ref_ids ref.U32 = []
ref_ids ref.U64 = []
ref_ids ref.S8 = []
ref_ids ref.S16 = []
ref_ids ref.S32 = []
ref_ids ref.S64 = []
ref_ids ref.F32 = []
ref_ids ref.F64 = []
ref_ids ref.Char = []
ref_ids ref.String = []
ref_ids ref.ErrorContext = []

abbrev pub part_ids : Option Ref → List ℕ
part_ids None = []
part_ids (Some r) = ref_ids r

abbrev pub handle_ids : Handle → List ℕ
handle_ids (handle.Own i) = i ∷ []
handle_ids (handle.Borrow i) = i ∷ []

-- of a definition
abbrev pub kind_ids : TypeDefKind → List ℕ
kind_ids (kind.Record r) = flat_map (λ (x : Field). ref_ids x.ty) r.fields.items
kind_ids kind.Resource = []
kind_ids (kind.Handle h) = handle_ids h
kind_ids (kind.Flags x) = []
kind_ids (kind.Tuple t) = flat_map ref_ids t.types.items
kind_ids (kind.Variant v) = flat_map (λ (c : Case). part_ids c.ty) v.cases.items
kind_ids (kind.Enum e) = []
kind_ids (kind.Option r) = ref_ids r
kind_ids (kind.Result r) = part_ids r.ok ++ part_ids r.err
kind_ids (kind.List r) = ref_ids r
kind_ids (kind.FixedLengthList r n) = ref_ids r
kind_ids (kind.Future p) = part_ids p
kind_ids (kind.Stream p) = part_ids p
kind_ids (kind.Alias r) = ref_ids r
kind_ids kind.Unknown = []

-- the resource that a function is of
abbrev pub resource_ids : FunctionKind → List ℕ
resource_ids of.Freestanding = []
resource_ids of.AsyncFreestanding = []
resource_ids (of.Method r) = r ∷ []
resource_ids (of.AsyncMethod r) = r ∷ []
resource_ids (of.Static r) = r ∷ []
resource_ids (of.AsyncStatic r) = r ∷ []
resource_ids (of.Constructor r) = r ∷ []

-- of a function: its parameters and its result
abbrev pub signature_ids : Function → List ℕ
signature_ids f = flat_map (λ (p : Param). ref_ids p.ty) f.params.items ++ part_ids f.result

-- and before them its resource
abbrev pub function_ids : Function → List ℕ
function_ids f = resource_ids f.kind ++ signature_ids f

-- of an item of a world
abbrev pub item_ids : WorldItem → List ℕ
item_ids (item.Interface id stability span) = []
item_ids (item.Function f) = function_ids f
item_ids (item.TypeItem id span) = id ∷ []

abbrev pub side_ids : List (WorldKey × WorldItem) → List ℕ
side_ids es = flat_map item_ids (map (λ (e : WorldKey × WorldItem). e.1) es)
