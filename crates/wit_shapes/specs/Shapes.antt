-- Types that turn out to be what they may not be where they stand (WIT, Types: `own`, `borrow`).
use Rattle.std.specs.Prelude.{◌≡◌, ℕ, Bool, true, false, not, List, String, map}
use Rattle.std.specs.declared.alloc.Global.{Global}
use Rattle.wit_moves.specs.Breaks.{Breaks, AnyOf}
use Rattle.wit_types.specs.declared.kind.«Type».TheVariants.{Id}
use Rattle.wit_types.specs.declared.kind.Handle.{Handle}
use Rattle.wit_types.specs.declared.kind.Handle.TheVariants as handle
use Rattle.wit_types.specs.declared.kind.TypeDefKind.{TypeDefKind}
use Rattle.wit_types.specs.declared.kind.TypeDefKind.TheVariants as kind
use Rattle.wit_types.specs.declared.function.Function.{Function}
use Rattle.wit_types.specs.declared.interface.TypeDef.{TypeDef}
use Rattle.wit_types.specs.declared.world.WorldItem.{WorldItem}
use Rattle.wit_types.specs.declared.world.WorldItem.TheVariants as item
use Rattle.wit_types.specs.declared.world_key.WorldKey.{WorldKey}
use Rattle.wit_resources.specs.Natures.{ref_nature, part_holds}
use Rattle.wit_resources.specs.declared.natures.Nature.{Nature}

abbrev pub target : Handle → ℕ
target (handle.Own i) = i
target (handle.Borrow i) = i

-- a reference to what is no resource
abbrev pub is_bad_handle : List Nature → TypeDefKind → Bool
is_bad_handle ns (kind.Handle h) = not (ref_nature ns (Id (target h))).is_resource
is_bad_handle ns _ = false

abbrev pub TypeBreaks : List Nature → TypeDef → Breaks
TypeBreaks ns d at = (is_bad_handle ns d.kind ≡ true) × (d.span ≡ at)

-- ---- functions

-- its result holds what is lent
abbrev pub FunctionBreaks : List Nature → Function → Breaks
FunctionBreaks ns f at = (part_holds ns f.result ≡ true) × (f.span ≡ at)

abbrev pub FunctionsBreak : List Nature → List (String Global × Function) → Breaks
FunctionsBreak ns es = AnyOf (FunctionBreaks ns) (map (λ (e : String Global × Function). e.1) es)

abbrev pub ItemBreaks : List Nature → WorldItem → Breaks
ItemBreaks ns (item.Interface id stability span) at = ⊥
ItemBreaks ns (item.Function f) at = FunctionBreaks ns f at
ItemBreaks ns (item.TypeItem id span) at = ⊥

abbrev pub SideBreaks : List Nature → List (WorldKey × WorldItem) → Breaks
SideBreaks ns es = AnyOf (λ (e : WorldKey × WorldItem). ItemBreaks ns e.1) es
