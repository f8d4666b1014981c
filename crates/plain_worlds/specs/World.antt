-- The plain functions of worlds: those over bool and integers (WIT, Worlds).
use Rattle.std.specs.Prelude.{ℕ, nat_le, Bool, ◌&&◌, if◌then◌else◌, List, [], ◌∷◌, map, length, Option, Some, None, option_map, string_bytes}
use Rattle.std.specs.List.{list_all, filter_map}
use Rattle.std.specs.Char.{to_ascii_lowercase}
use Rattle.indexmap.specs.IndexMap.{values}
use Rattle.distinct_names.specs.Names.{all_new}
use Rattle.wit_types.specs.declared.kind.«Type».{«Type» as Ref}
use Rattle.wit_types.specs.declared.kind.«Type».TheVariants as ref
use Rattle.wit_types.specs.declared.function.FunctionKind.{FunctionKind}
use Rattle.wit_types.specs.declared.function.FunctionKind.TheVariants as kind
use Rattle.wit_types.specs.declared.world.WorldItem.{WorldItem}
use Rattle.wit_types.specs.declared.world.WorldItem.TheVariants as item
use Rattle.wit_types.specs.declared.function.Param.{Param as WitParam}
use Rattle.wit_types.specs.declared.function.Function.{Function as WitFunction}
use Rattle.wit_types.specs.declared.world.World.{World as WitWorld}
use Rattle.plain_worlds.specs.declared.world.PrimitiveType.{PrimitiveType}
use Rattle.plain_worlds.specs.declared.world.PrimitiveType.TheVariants as primitives
use Rattle.plain_worlds.specs.declared.world.Param.{Param}
use Rattle.plain_worlds.specs.declared.world.Function.{Function}
use Rattle.plain_worlds.specs.declared.world.World.{World}

pub record ParameterValue : Type 0 where
  pub name : List ℕ
  pub ty : PrimitiveType

pub record FunctionTypeValue : Type 0 where
  pub params : List ParameterValue
  pub result : Option PrimitiveType

-- a function of a world: its name and its type
pub record FunctionItem : Type 0 where
  pub name : List ℕ
  pub ty : FunctionTypeValue

-- what a world imports and exports
pub record WorldMeaning : Type 0 where
  pub name : List ℕ
  pub imports : List FunctionItem
  pub exports : List FunctionItem

-- ---- what the Rust values stand for

abbrev pub param_item : Param → ParameterValue
param_item p = record { name = string_bytes p.name; ty = p.ty }

abbrev pub function_item : Function → FunctionItem
function_item f = record { name = string_bytes f.name; ty = record { params = map param_item f.params.items; result = f.result } }

abbrev pub world_meaning : World → WorldMeaning
world_meaning w = record { name = string_bytes w.name; imports = map function_item w.imports.items; exports = map function_item w.exports.items }

-- ---- of a world

-- the type, if it is bool or an integer, under no other name
abbrev pub type_of : Ref → Option PrimitiveType
type_of ref.Bool = Some primitives.Bool
type_of ref.U8 = Some primitives.U8
type_of ref.U16 = Some primitives.U16
type_of ref.U32 = Some primitives.U32
type_of ref.U64 = Some primitives.U64
type_of ref.S8 = Some primitives.S8
type_of ref.S16 = Some primitives.S16
type_of ref.S32 = Some primitives.S32
type_of ref.S64 = Some primitives.S64
type_of _ = None

abbrev pub put : {A : Type 0} → Option A → Option (List A) → Option (List A)
put (Some x) (Some xs) = Some (x ∷ xs)
put (Some x) None = None
put None xs = None

-- what each stands for, if each does for something
abbrev pub each_of : {A B : Type 0} → (A → Option B) → List A → Option (List B)
each_of f [] = Some []
each_of f (x ∷ xs) = put (f x) (each_of f xs)

abbrev pub parameter_of : WitParam → Option ParameterValue
parameter_of p = option_map (λ t. record { name = string_bytes p.name; ty = t }) (type_of p.ty)

abbrev pub result_of : Option Ref → Option (Option PrimitiveType)
result_of None = Some None
result_of (Some t) = option_map (λ r. Some r) (type_of t)

abbrev pub typed : List ℕ → Option (List ParameterValue) → Option (Option PrimitiveType) → Option FunctionItem
typed name (Some ps) (Some r) = Some (record { name = name; ty = record { params = ps; result = r } })
typed name (Some ps) None = None
typed name None r = None

-- a function that is neither async nor of a resource
abbrev pub if_freestanding : FunctionKind → Option FunctionItem → Option FunctionItem
if_freestanding kind.Freestanding f = f
if_freestanding _ f = None

abbrev pub typed_function : WitFunction → Option FunctionItem
typed_function f = if_freestanding f.kind (typed (string_bytes f.name) (each_of parameter_of f.params.items) (result_of f.result))

-- ---- what fits

-- names with equal letters, of whatever case, are one name in a scope
abbrev pub name_key : List ℕ → List ℕ
name_key name = map to_ascii_lowercase name

-- each name's key, of functions
abbrev pub function_keys : List FunctionItem → List (List ℕ)
function_keys fs = map (λ f. name_key f.name) fs

-- and of parameters
abbrev pub parameter_keys : List ParameterValue → List (List ℕ)
parameter_keys ps = map (λ p. name_key p.name) ps

-- at most 16 parameters, no two alike
abbrev pub function_fits : FunctionItem → Bool
function_fits f = nat_le (length f.ty.params) 16 && all_new [] (parameter_keys f.ty.params)

abbrev pub functions_fit : List FunctionItem → Bool
functions_fit fs = list_all function_fits fs && all_new [] (function_keys fs)

-- at most 16 parameters a function, and no two names of a scope alike: imports, exports, parameters
abbrev pub world_fits : WorldMeaning → Bool
world_fits w = functions_fit w.imports && functions_fit w.exports

-- ---- plain functions

-- if that is so of it
abbrev pub if_so : {A : Type 0} → (A → Bool) → Option A → Option A
if_so p None = None
if_so p (Some x) = if p x then Some x else None

-- over bool and integers alone, and with parameters that fit
abbrev pub function_of : WitFunction → Option FunctionItem
function_of f = if_so function_fits (typed_function f)

abbrev pub item_of : WorldItem → Option FunctionItem
item_of (item.Function f) = function_of f
item_of (item.Interface id stability span) = None
item_of (item.TypeItem id span) = None

-- those among what a side of a world has
abbrev pub functions_of : List WorldItem → List FunctionItem
functions_of is = filter_map item_of is

abbrev pub with_exports : WitWorld → List FunctionItem → WorldMeaning
with_exports w exports = record { name = string_bytes w.name; imports = functions_of (values w.imports); exports = exports }

-- the plain functions that it imports, and its exports, if they are plain functions alone and no two names of a side are alike
abbrev pub plain_world : WitWorld → Option WorldMeaning
plain_world w = if_so world_fits (option_map (with_exports w) (each_of item_of (values w.exports)))
