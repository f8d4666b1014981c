-- Where a world has things, by places.
use Rattle.std.specs.Prelude.{◌≡◌, ℕ, zero, suc, List, [], ◌++◌, Option, Some, None, String, map, option_map, slice_get}
use Rattle.std.specs.declared.alloc.Global.{Global}
use Rattle.wit_types.specs.declared.function.Function.{Function}
use Rattle.wit_types.specs.declared.interface.Interface.{Interface}
use Rattle.wit_types.specs.declared.world.WorldItem.{WorldItem}
use Rattle.wit_types.specs.declared.world.WorldItem.TheVariants as item
use Rattle.wit_types.specs.declared.world_key.WorldKey.{WorldKey}
use Rattle.wit_core_names.specs.Texts.{Known}

abbrev pub Entry : Type 0
Entry = WorldKey × WorldItem

-- ---- functions

-- that is an item of the world itself
abbrev pub own_function : WorldItem → Option Function
own_function (item.Interface id stability span) = None
own_function (item.Function f) = Some f
own_function (item.TypeItem id span) = None

-- at a place of an interface
abbrev pub function_of : Option Interface → ℕ → Option Function
function_of None j = None
function_of (Some d) j = option_map (λ (e : String Global × Function). e.1) (slice_get d.functions.entries j)

abbrev pub function_in : Known → WorldItem → ℕ → Option Function
function_in k (item.Interface id stability span) j = function_of (slice_get k.interfaces id) j
function_in k (item.Function f) j = None
function_in k (item.TypeItem id span) j = None

-- ---- lists of places

-- what stands at the places of the list
abbrev pub AreAt : {P X : Type 0} → (P → Option X) → List P → List X → Type 0
AreAt at places xs = map at places ≡ map (λ x. Some x) xs

-- places were put behind others, and that stands there
abbrev pub Adds : {P X : Type 0} → (P → Option X) → List P → List P → List X → Type 0
Adds at old new xs = map at new ≡ map at old ++ map (λ x. Some x) xs

-- those of each number below n, in order
abbrev pub counted : {P : Type 0} → (ℕ → List P) → ℕ → List P
counted f zero = []
counted f (suc n) = counted f n ++ f n
