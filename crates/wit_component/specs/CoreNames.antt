-- Core names: which item of a world a pair of import texts, or an export text, may stand for
-- (Component Model, Canonical ABI, names of the legacy mangling and of the standard one).
use Rattle.std.specs.Prelude.{ℕ, List, ◌++◌, Bool, not, ◌&&◌, ◌||◌, bytes_eq, codes}

-- the legacy import text of the world's own functions
abbrev pub root : List ℕ
root = codes "$root"

-- the standard import text of the world's own functions
abbrev pub standard : List ℕ
standard = codes "cm32p2"

-- An imported function of the world: (`$root`, name), or (`cm32p2`, name).
-- Where legacy names are rejected the first stands for nothing.
abbrev pub is_legacy_import : List ℕ → List ℕ → List ℕ → Bool
is_legacy_import place name function = bytes_eq place root && bytes_eq name function

abbrev pub is_standard_import : List ℕ → List ℕ → List ℕ → Bool
is_standard_import place name function = bytes_eq place standard && bytes_eq name function

abbrev pub is_import_name : Bool → List ℕ → List ℕ → List ℕ → Bool
is_import_name rejects place name function = is_standard_import place name function || (not rejects && is_legacy_import place name function)

-- An exported function of the world: its name, or its name behind `cm32p2||`.
abbrev pub standard_export : List ℕ → List ℕ
standard_export function = codes "cm32p2||" ++ function

abbrev pub is_export_name : Bool → List ℕ → List ℕ → Bool
is_export_name rejects function name = bytes_eq name (standard_export function) || (not rejects && bytes_eq name function)

-- The memory: `memory`, which a function's legacy text may equal.
abbrev pub is_memory_name : Bool → List ℕ → Bool
is_memory_name rejects name = bytes_eq name (codes "cm32p2_memory") || (not rejects && bytes_eq name (codes "memory"))

-- ---- what is still to come

-- initialize
abbrev pub is_initialize_name : Bool → List ℕ → Bool
is_initialize_name rejects name = bytes_eq name (codes "cm32p2_initialize") || (not rejects && bytes_eq name (codes "_initialize"))

-- the post-return of an exported function
abbrev pub is_post_return_name : Bool → List ℕ → List ℕ → Bool
is_post_return_name rejects function name = bytes_eq name (standard_export function ++ codes "_post") || (not rejects && bytes_eq name (codes "cabi_post_" ++ function))

-- the hook, which is in neither column
abbrev pub is_hook_name : List ℕ → Bool
is_hook_name name = bytes_eq name (codes "__wasm_task_hook")

-- the memory of the surroundings, which is in neither column
abbrev pub is_outer_memory : List ℕ → List ℕ → Bool
is_outer_memory place name = bytes_eq place (codes "env") && bytes_eq name (codes "memory")
