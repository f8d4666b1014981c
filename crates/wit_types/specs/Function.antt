-- What functions are called and whose they are (WIT, Items: `func` and `resource`).
use Rattle.std.specs.List.{All}
use Rattle.std.specs.Prelude.{◌≡◌, ◌≢◌, ◌⊎◌, ℕ, List, ◌∷◌, ◌++◌, Option, Some, None, map, codes, option_to_list}
use Rattle.wit_types.specs.declared.kind.«Type».{«Type» as WitType}
use Rattle.wit_types.specs.declared.function.Function.{Function}
use Rattle.wit_types.specs.declared.function.FunctionTypes.{FunctionTypes}
use Rattle.wit_types.specs.declared.function.FunctionKind.{FunctionKind}
use Rattle.wit_types.specs.declared.function.FunctionKind.TheVariants.{Freestanding, AsyncFreestanding, Method, AsyncMethod, Static, AsyncStatic, Constructor}

-- such a function returns before its result is there
abbrev pub IsAsync : FunctionKind → Type 0
IsAsync Freestanding = ⊥
IsAsync AsyncFreestanding = Unit {0}
IsAsync (Method r) = ⊥
IsAsync (AsyncMethod r) = Unit {0}
IsAsync (Static r) = ⊥
IsAsync (AsyncStatic r) = Unit {0}
IsAsync (Constructor r) = ⊥

-- the resource that it is of
abbrev pub resource_of : FunctionKind → Option ℕ
resource_of Freestanding = None
resource_of AsyncFreestanding = None
resource_of (Method r) = Some r
resource_of (AsyncMethod r) = Some r
resource_of (Static r) = Some r
resource_of (AsyncStatic r) = Some r
resource_of (Constructor r) = Some r

-- no byte is a dot; 46 is `.`
abbrev pub HasNoDot : List ℕ → Type 0
HasNoDot text = All (λ b. b ≢ 46) text

-- what stands behind the first dot, or all where there is none
abbrev pub IsBehindDot : List ℕ → List ℕ → Type 0
IsBehindDot name item = ((front : List ℕ) × HasNoDot front × (name ≡ front ++ 46 ∷ item)) ⊎ (HasNoDot name × (item ≡ name))

-- what stands behind `[constructor]`, or all where that isn't in front
abbrev pub IsBehindMark : List ℕ → List ℕ → Type 0
IsBehindMark name item = (name ≡ codes "[constructor]" ++ item) ⊎ (((behind : List ℕ) → name ≡ codes "[constructor]" ++ behind → ⊥) × (item ≡ name))

-- the name without what says whose the function is
abbrev pub IsItemName : FunctionKind → List ℕ → List ℕ → Type 0
IsItemName Freestanding name item = item ≡ name
IsItemName AsyncFreestanding name item = item ≡ name
IsItemName (Method r) name item = IsBehindDot name item
IsItemName (AsyncMethod r) name item = IsBehindDot name item
IsItemName (Static r) name item = IsBehindDot name item
IsItemName (AsyncStatic r) name item = IsBehindDot name item
IsItemName (Constructor r) name item = IsBehindMark name item

-- the types of the parameters, and then that of the result
abbrev pub types_of : Function → List WitType
types_of f = map (λ p. p.ty) f.params.items ++ option_to_list f.result

-- those that are still to come
abbrev pub left_of : FunctionTypes → List WitType
left_of i = map (λ p. p.ty) i.params.now ++ option_to_list i.result
