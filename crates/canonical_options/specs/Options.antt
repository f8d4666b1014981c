-- Which options a lift or a lowering has (Component Model, Canonical ABI, canon lift and canon lower; Component Model Binary,
-- Canonical Definitions).
use Rattle.std.specs.Prelude.{◌≡◌, ℕ, List, ◌++◌, map, Option, Some, None, IsSome, option_to_list, Bool, true, if◌then◌else◌}
use Rattle.component_definitions.specs.declared.canonical.CanonicalOption.{CanonicalOption}
use Rattle.component_definitions.specs.declared.canonical.CanonicalOption.TheVariants as options
use Rattle.flat_types.specs.Signature.{RequiredValue}
use Rattle.link_lines.specs.declared.encoding.StringEncoding.{StringEncoding}
use Rattle.link_lines.specs.declared.encoding.StringEncoding.TheVariants as encodings
use Rattle.canonical_options.specs.declared.options.OptionFault.{OptionFault}
use Rattle.canonical_options.specs.declared.options.OptionFault.TheVariants as faults

-- the option of an encoding
abbrev pub encoding_option : StringEncoding → CanonicalOption
encoding_option encodings.UTF8 = options.Utf8
encoding_option encodings.UTF16 = options.Utf16
encoding_option encodings.CompactUTF16 = options.CompactUtf16

-- a memory, what makes room in it and an encoding, as options in this order
abbrev pub options_with : Option ℕ → Option ℕ → Option StringEncoding → List CanonicalOption
options_with memory realloc encoding =
    map options.Memory (option_to_list memory) ++ (map options.Realloc (option_to_list realloc) ++ map encoding_option (option_to_list encoding))

-- what is given, where it is asked for
abbrev pub where_asked : {A : Type 0} → Bool → Option A → Option A
where_asked asked given = if asked then given else None

-- the options that are asked for, of those that are given
abbrev pub options_of : RequiredValue → StringEncoding → Option ℕ → Option ℕ → List CanonicalOption
options_of r encoding memory realloc = options_with (where_asked r.memory memory) (where_asked r.realloc realloc) (where_asked r.encoding (Some encoding))

-- it is given, if it is asked for
abbrev pub IsThere : Bool → Option ℕ → Type 0
IsThere asked given = asked ≡ true → IsSome given

-- the options that are asked for, and all of them are there
pub record AreOptions (r : RequiredValue) (encoding : StringEncoding) (memory realloc : Option ℕ) (os : List CanonicalOption) : Type 0 where
  pub in_order : os ≡ options_of r encoding memory realloc
  pub memory_is_there : IsThere r.memory memory
  pub realloc_is_there : IsThere r.realloc realloc

-- why there are none; that a memory is missing comes before all else
abbrev pub IsOptionCause : RequiredValue → Option ℕ → Option ℕ → OptionFault → Type 0
IsOptionCause r memory realloc faults.NoMemory = (r.memory ≡ true) × (memory ≡ None)
IsOptionCause r memory realloc faults.NoRealloc = (r.realloc ≡ true) × (realloc ≡ None) × IsThere r.memory memory
