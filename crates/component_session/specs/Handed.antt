-- What was handed in, as values.
use Rattle.std.specs.Prelude.{ℕ, List, [], String, string_bytes, map}
use Rattle.std.specs.declared.alloc.Global.{Global}
use Rattle.handed_modules.specs.Library.{ArgumentInput}
use Rattle.handed_modules.specs.Modules.{ModuleInput}
use Rattle.handed_modules.specs.declared.modules.ModuleKind.TheVariants as kinds
use Rattle.link_lines.specs.declared.encoding.StringEncoding.{StringEncoding}

-- the main module, which has no name
abbrev pub main_input : List ℕ → ℕ → StringEncoding → ModuleInput
main_input bytes world encoding = record { name = []; kind = kinds.Main; bytes = bytes; world = world; encoding = encoding; arguments = [] }

abbrev pub adapter_input : List ℕ → List ℕ → ℕ → StringEncoding → ModuleInput
adapter_input name bytes world encoding = record { name = name; kind = kinds.Adapter; bytes = bytes; world = world; encoding = encoding; arguments = [] }

abbrev pub library_input : List ℕ → List ℕ → ℕ → StringEncoding → List ArgumentInput → ModuleInput
library_input name bytes world encoding arguments = record { name = name; kind = kinds.Library; bytes = bytes; world = world; encoding = encoding; arguments = arguments }

-- the entries of a map of texts, as texts
abbrev pub pairs_of : List (String Global × String Global) → List (List ℕ × List ℕ)
pairs_of es = map (λ e. (string_bytes e.0, string_bytes e.1)) es
