-- Names that an `include` changes (WIT, Item: `include`).
use Rattle.std.specs.Prelude.{◌≡◌, ℕ, List, [], ◌∷◌, ◌++◌, map, codes, String, string_bytes, bytes_eq, if◌then◌else◌}
use Rattle.std.specs.declared.alloc.Global.{Global}
use Rattle.wit_types.specs.declared.world.IncludeName.{IncludeName}
use Rattle.wit_types.specs.declared.world.WorldItem.{WorldItem}
use Rattle.wit_types.specs.declared.world.WorldItem.TheVariants as item
use Rattle.wit_types.specs.declared.world_key.WorldKey.{WorldKey}
use Rattle.wit_types.specs.declared.world_key.WorldKey.TheVariants as key
use Rattle.wit_types.specs.Function.{HasNoDot}

abbrev pub sources : List IncludeName → List (List ℕ)
sources names = map (λ (n : IncludeName). string_bytes n.name) names

-- a plain name, as the first says that names it
abbrev pub through : List IncludeName → List ℕ → List ℕ
through [] name = name
through (n ∷ ns) name = if bytes_eq name (string_bytes n.name) then string_bytes n.as_ else through ns name

-- a function of a resource, by its name behind the mark: it follows its resource; 46 is `.`
pub data IsRenamedFunction (names : List IncludeName) (mark : List ℕ) : List ℕ → List ℕ → Type 0 where
  of_resource : (resource item : List ℕ) → HasNoDot resource → IsRenamedFunction names mark (resource ++ 46 ∷ item) (mark ++ (through names resource ++ 46 ∷ item))
  of_none : (name : List ℕ) → HasNoDot name → IsRenamedFunction names mark name (mark ++ name)

abbrev pub HasNoMark : List ℕ → List ℕ → Type 0
HasNoMark mark name = (behind : List ℕ) → name ≡ mark ++ behind → ⊥

-- an item of a world: a plain name, or a function of a resource
pub data IsRenamed (names : List IncludeName) : List ℕ → List ℕ → Type 0 where
  constructor_of : (resource : List ℕ) → IsRenamed names (codes "[constructor]" ++ resource) (codes "[constructor]" ++ through names resource)
  method_of : (name to : List ℕ) → IsRenamedFunction names (codes "[method]") name to → IsRenamed names (codes "[method]" ++ name) to
  static_of : (name to : List ℕ) → IsRenamedFunction names (codes "[static]") name to → IsRenamed names (codes "[static]" ++ name) to
  plain : (name : List ℕ) → HasNoMark (codes "[constructor]") name → HasNoMark (codes "[method]") name → HasNoMark (codes "[static]") name → IsRenamed names name (through names name)

-- ---- sides

abbrev pub IsRenamedKey : List IncludeName → WorldKey → WorldKey → Type 0
IsRenamedKey names (key.Name name) new = (to : String Global) × (new ≡ key.Name to) × IsRenamed names (string_bytes name) (string_bytes to)
IsRenamedKey names (key.Interface i) new = new ≡ key.Interface i

-- a function has its name of its own, all else its key alone
abbrev pub IsRenamedItem : List IncludeName → WorldItem → WorldItem → Type 0
IsRenamedItem names (item.Function f) new = (to : String Global) × (new ≡ item.Function (record f { name = to })) × IsRenamed names (string_bytes f.name) (string_bytes to)
IsRenamedItem names (item.Interface id stability span) new = new ≡ item.Interface id stability span
IsRenamedItem names (item.TypeItem id span) new = new ≡ item.TypeItem id span

-- each entry in its order
pub data AreRenamed (names : List IncludeName) : List (WorldKey × WorldItem) → List (WorldKey × WorldItem) → Type 0 where
  no_entries : AreRenamed names [] []
  one_more : (k l : WorldKey) (i j : WorldItem) (es fs : List (WorldKey × WorldItem)) → IsRenamedKey names k l → IsRenamedItem names i j → AreRenamed names es fs
      → AreRenamed names ((k, i) ∷ es) ((l, j) ∷ fs)
