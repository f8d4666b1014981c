-- Canonical definitions (Component Model Binary, Canonical Definitions).
use Rattle.std.specs.Prelude.{ℕ, List, [], map, filter, length, Bool, nat_le, ◌==◌, ◌&&◌, if◌then◌else◌}
use Rattle.component_value_types.specs.Passed.binary_grammar-declared-fault-Rule-TheVariants as rules
use Rattle.component_value_types.specs.Passed.binary_grammar-Syntax.{◌◂◌, ◌>>=◌, one_byte, gives, refuses, tested, vec, byte_is}
use Rattle.component_value_types.specs.Scope.{Grammar, index}
use Rattle.component_definitions.specs.declared.canonical.CanonicalOption.{CanonicalOption}
use Rattle.component_definitions.specs.declared.canonical.CanonicalOption.TheVariants as options
use Rattle.component_value_types.specs.Passed.wasm_types-declared-types-ExportKind-TheVariants as kinds
use Rattle.component_definitions.specs.declared.sorts.ComponentSort.TheVariants as components
use Rattle.component_definitions.specs.declared.sorts.Sort.{Sort}
use Rattle.component_definitions.specs.declared.sorts.Sort.TheVariants as sorts
use Rattle.component_definitions.specs.declared.canonical.CanonicalDefinition.{CanonicalDefinition}
use Rattle.component_definitions.specs.declared.canonical.CanonicalDefinition.TheVariants as code

-- ---- options

abbrev pub option_byte : CanonicalOption → ℕ
option_byte options.Utf8 = 0
option_byte options.Utf16 = 1
option_byte options.CompactUtf16 = 2
option_byte (options.Memory i) = 3
option_byte (options.Realloc i) = 4
option_byte (options.PostReturn i) = 5

abbrev pub option_index : CanonicalOption → ℕ
option_index (options.Memory i) = i
option_index (options.Realloc i) = i
option_index (options.PostReturn i) = i
option_index _ = 0

pub data OptionForm : Type 0 where
  encoding : CanonicalOption → OptionForm
  memory : OptionForm
  realloc : OptionForm
  post_return : OptionForm
  other : OptionForm

unfoldable pub option_form_of : ℕ → OptionForm
option_form_of b =
    if b == 0 then encoding options.Utf8 else
    if b == 1 then encoding options.Utf16 else
    if b == 2 then encoding options.CompactUtf16 else
    if b == 3 then memory else
    if b == 4 then realloc else
    if b == 5 then post_return else other

abbrev pub option_behind : OptionForm → Grammar CanonicalOption
option_behind (encoding o) = gives o
option_behind memory = do
  i ← option_index ◂ index (λ there. there.core_memories)
  gives (options.Memory i)
option_behind realloc = do
  i ← option_index ◂ index (λ there. there.core_functions)
  gives (options.Realloc i)
option_behind post_return = do
  i ← option_index ◂ index (λ there. there.core_functions)
  gives (options.PostReturn i)
option_behind other = refuses rules.Tag

unfoldable pub option : Grammar CanonicalOption
option = do
  b ← option_byte ◂ one_byte
  option_behind (option_form_of b)

abbrev pub is_encoding : CanonicalOption → Bool
is_encoding o = nat_le (option_byte o) 2

abbrev pub is_of : ℕ → CanonicalOption → Bool
is_of b o = option_byte o == b

-- each at most once, and one encoding at most
abbrev pub at_most_one : (CanonicalOption → Bool) → List CanonicalOption → Bool
at_most_one test os = nat_le (length (filter test os)) 1

abbrev pub are_single : List CanonicalOption → Bool
are_single os = at_most_one is_encoding os && (at_most_one (is_of 3) os && (at_most_one (is_of 4) os && at_most_one (is_of 5) os))

unfoldable pub option_list : Grammar (List CanonicalOption)
option_list = tested rules.Duplicate (λ _ os. are_single os) (vec option)

-- ---- definitions

pub data CanonicalValue : Type 0 where
  lift : ℕ → List CanonicalOption → ℕ → CanonicalValue
  lower : ℕ → List CanonicalOption → CanonicalValue
  resource_new : ℕ → CanonicalValue
  resource_drop : ℕ → CanonicalValue
  resource_rep : ℕ → CanonicalValue

abbrev pub canonical_value : CanonicalDefinition → CanonicalValue
canonical_value (code.Lift f os t) = lift f (map (λ o. o) os.items) t
canonical_value (code.Lower f os) = lower f (map (λ o. o) os.items)
canonical_value (code.ResourceNew t) = resource_new t
canonical_value (code.ResourceDrop t) = resource_drop t
canonical_value (code.ResourceRep t) = resource_rep t

abbrev pub canonical_byte : CanonicalValue → ℕ
canonical_byte (lift f os t) = 0
canonical_byte (lower f os) = 1
canonical_byte (resource_new t) = 2
canonical_byte (resource_drop t) = 3
canonical_byte (resource_rep t) = 4

-- the sort of what it defines
abbrev pub canonical_sort : CanonicalValue → Sort
canonical_sort (lift f os t) = sorts.Component components.Function
canonical_sort (lower f os) = sorts.Core kinds.Func
canonical_sort (resource_new t) = sorts.Core kinds.Func
canonical_sort (resource_drop t) = sorts.Core kinds.Func
canonical_sort (resource_rep t) = sorts.Core kinds.Func

-- its parts, and any value where it has another part
abbrev pub function_in : CanonicalValue → ℕ
function_in (lift f os t) = f
function_in (lower f os) = f
function_in _ = 0

abbrev pub options_in : CanonicalValue → List CanonicalOption
options_in (lift f os t) = os
options_in (lower f os) = os
options_in _ = []

abbrev pub type_in : CanonicalValue → ℕ
type_in (lift f os t) = t
type_in (lower f os) = 0
type_in (resource_new t) = t
type_in (resource_drop t) = t
type_in (resource_rep t) = t

pub data CanonicalForm : Type 0 where
  lifts : CanonicalForm
  lowers : CanonicalForm
  makes : CanonicalForm
  drops : CanonicalForm
  represents : CanonicalForm
  none : CanonicalForm

unfoldable pub canonical_form_of : ℕ → CanonicalForm
canonical_form_of b =
    if b == 0 then lifts else
    if b == 1 then lowers else
    if b == 2 then makes else
    if b == 3 then drops else
    if b == 4 then represents else none

abbrev pub canonical_behind : CanonicalForm → Grammar CanonicalValue
canonical_behind lifts = do
  z ← (λ _. 0) ◂ byte_is rules.Tag 0
  f ← function_in ◂ index (λ there. there.core_functions)
  os ← options_in ◂ option_list
  t ← type_in ◂ index (λ there. there.types)
  gives (lift f os t)
canonical_behind lowers = do
  z ← (λ _. 0) ◂ byte_is rules.Tag 0
  f ← function_in ◂ index (λ there. there.functions)
  os ← options_in ◂ option_list
  gives (lower f os)
canonical_behind makes = do
  t ← type_in ◂ index (λ there. there.types)
  gives (resource_new t)
canonical_behind drops = do
  t ← type_in ◂ index (λ there. there.types)
  gives (resource_drop t)
canonical_behind represents = do
  t ← type_in ◂ index (λ there. there.types)
  gives (resource_rep t)
canonical_behind none = refuses rules.Tag

unfoldable pub canonical : Grammar CanonicalValue
canonical = do
  b ← canonical_byte ◂ one_byte
  canonical_behind (canonical_form_of b)
