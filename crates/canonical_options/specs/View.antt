-- What the sets and the iterator are, as values (Component Model, Canonical ABI, canon lift, canon lower, Storing).
use Rattle.std.specs.Prelude.{◌==◌, ℕ, List, Bool}
use Rattle.std.specs.Int.RustNames.{bit_and}
use Rattle.component_definitions.specs.declared.canonical.CanonicalOption.{CanonicalOption}
use Rattle.flat_types.specs.Signature.{RequiredValue}
use Rattle.canonical_options.specs.declared.contents.TypeContents.{TypeContents}
use Rattle.canonical_options.specs.declared.options.Iter.{Iter}
use Rattle.canonical_options.specs.declared.required.RequiredOptions.{RequiredOptions}
use Rattle.canonical_options.specs.Contents.{ContentsValue}
use Rattle.canonical_options.specs.Options.{options_with}

-- the flag is in the set
abbrev pub has_flag : ℕ → ℕ → Bool
has_flag set flag = bit_and set flag == flag

abbrev pub required_value : RequiredOptions → RequiredValue
required_value o = record { memory = has_flag o.0 1; realloc = has_flag o.0 2; encoding = has_flag o.0 4 }

abbrev pub contents_value : TypeContents → ContentsValue
contents_value c = record { string = has_flag c.0 1; needs_memory = has_flag c.0 2 }

-- the options that are still to come
abbrev pub left_of : Iter → List CanonicalOption
left_of i = options_with i.memory i.realloc i.encoding
