-- When nothing stands in the way of importing interfaces and functions, but sizes and memory (Component Model, Explainer, Import and Export
-- Definitions).
use Rattle.std.specs.Prelude.{◌≡◌, ◌<◌, ◌≤◌, ◌⊎◌, bytes_eq, ℕ, List, [], ◌∷◌, ◌++◌, length, slice_get, None, Some, true, false, String}
use Rattle.std.specs.declared.alloc.Global.{Global}
use Rattle.distinct_names.specs.Names.{is_new}
use Rattle.wit_order.specs.Order.{Has}
use Rattle.wit_types.specs.declared.function.Function.{Function}
use Rattle.wit_types.specs.declared.interface.TypeDef.{TypeDef}
use Rattle.wit_types.specs.declared.interface.TypeOwner.TheVariants as belongs
use Rattle.wit_reach.specs.Ids.{kind_ids, signature_ids}
use Rattle.wit_reach.specs.Paths.{AreRising, Reaches}
use Rattle.wit_reach.specs.Types.{IsMadeOf}
use Rattle.wit_reach.specs.Made.{IsMadeOfWithin}
use Rattle.wit_reach.specs.Needed.{BelongsTo}
use Rattle.type_sinks.specs.Passed.type_writing-Functions.{function_form}
use Rattle.type_sinks.specs.Passed.type_writing-Writing.{Setting, names_of_types, IsRemembered}
use Rattle.type_sinks.specs.Passed.type_writing-Refusals.{AreUnready, IsKindUnready}
use Rattle.type_sinks.specs.declared.root.Root.{Root}
use Rattle.type_sinks.specs.Inside.{is_of}
use Rattle.type_sinks.specs.Views.{root_names, root_setting, interface_names}
use Rattle.component_imports.specs.Functions.{function_names}
use Rattle.type_sinks.specs.Views.{setting_over}
use Rattle.component_imports.specs.Interface.{interface_name, IsUnready}
use Rattle.component_imports.specs.Interfaces.{ids_of, asked, owned_names}
use Rattle.component_imports.specs.World.{AreWorldItemsUnready}

-- no name stands twice
abbrev pub AreDistinct : List (List ℕ) → Type 0
AreDistinct names = (before : List (List ℕ)) (name : List ℕ) (behind : List (List ℕ)) → names ≡ before ++ name ∷ behind → is_new before name ≡ true

-- a type that is written where the setting is: it has no name, or is given its name there
abbrev pub IsWrittenHere : Setting → TypeDef → Type 0
IsWrittenHere s d = (d.name ≡ None) ⊎ (s.is_own d.owner ≡ true)

-- even where all types are ready it has parts that are never written, or no form
abbrev pub IsNeverWritten : TypeDef → Type 0
IsNeverWritten d = IsKindUnready (λ _. Unit {0}) d.kind

abbrev pub HasUnwrittenParts : Function → Type 0
HasUnwrittenParts f = AreUnready (λ _. Unit {0}) (function_form f.params.items f.result).parts

-- each type stands behind those that it is made of, and those of other interfaces are there; functions are over these types; no two items have
-- one name, and none has one of those that are given
pub record AreReady (s : Setting) (given : List (List ℕ)) (types : List TypeDef) (ids : List ℕ) (functions : List Function) : Type 0 where
  pub kinds : (i : ℕ) (d : TypeDef) → Has ids i → slice_get types i ≡ Some d → IsWrittenHere s d → IsNeverWritten d → ⊥
  pub parts : (before : List ℕ) (i : ℕ) (behind : List ℕ) (d : TypeDef) (k : ℕ) → ids ≡ before ++ i ∷ behind → slice_get types i ≡ Some d → IsWrittenHere s d → Has (kind_ids d.kind) k → Has before k
  pub foreign : (i : ℕ) (d : TypeDef) (x : String Global) → Has ids i → slice_get types i ≡ Some d → d.name ≡ Some x → s.is_own d.owner ≡ false → IsRemembered s.homes i
  pub written : (f : Function) → Has functions f → HasUnwrittenParts f → ⊥
  pub over : (f : Function) (k : ℕ) → Has functions f → Has (signature_ids f) k → Has ids k
  pub distinct : AreDistinct (given ++ (names_of_types s types ids ++ function_names functions))

-- so it is of what an interface's instance exports, and the interface has a name under which nothing is imported
pub record IsReady (r : Root) (types : List TypeDef) (own : ℕ) (ids : List ℕ) (functions : List Function) : Type 0 where
  pub items : AreReady (setting_over r own) [] types ids functions
  pub named : own < length (interface_names r)
  pub new : is_new (root_names r) (interface_name r own) ≡ true

-- then the interface is imported, but for sizes and memory
abbrev pub ReadyIsImported : Type 0
ReadyIsImported = (r : Root) (types : List TypeDef) (own : ℕ) (ids : List ℕ) (functions : List Function) → IsReady r types own ids functions → IsUnready r types own ids functions → ⊥

-- and functions of a world are
abbrev pub ReadyFunctionsAreImported : Type 0
ReadyFunctionsAreImported = (r : Root) (types : List TypeDef) (ids : List ℕ) (functions : List Function) → AreReady (root_setting r) (root_names r) types ids functions → AreWorldItemsUnready r types ids functions → ⊥

-- ---- all interfaces that are needed

-- what is asked for is made of it, or it is asked for
abbrev pub IsAsked : List TypeDef → List ℕ → List (List Function) → ℕ → Type 0
IsAsked types others linked i = (s : ℕ) × Has (asked others linked) s × Reaches (IsMadeOf types) s i

-- an interface has or takes it: a type of it is made of it, or a linked function, with types of others as wholes
abbrev pub IsStartOf : List TypeDef → List (List Function) → ℕ → ℕ → Type 0
IsStartOf types linked own s = BelongsTo types s own ⊎ ((fs : List Function) × (slice_get linked own ≡ Some fs) × Has (ids_of fs) s)

abbrev pub IsSeenBy : List TypeDef → List (List Function) → ℕ → ℕ → Type 0
IsSeenBy types linked own i = (s : ℕ) × IsStartOf types linked own s × Reaches (IsMadeOfWithin (belongs.Interface own) types) s i

-- the types with names that an interface sees and that aren't its own are of earlier ones
abbrev pub AreUsedEarlier : List TypeDef → List (List Function) → Type 0
AreUsedEarlier types linked = (own i : ℕ) (d : TypeDef) (x : String Global) → IsSeenBy types linked own i → slice_get types i ≡ Some d → d.name ≡ Some x → is_of own d.owner ≡ false → (j : ℕ) × (d.owner ≡ belongs.Interface j) × (j < own)

-- no two of the types of an interface and its linked functions have one name
abbrev pub HaveDistinctItems : List TypeDef → List (List Function) → Type 0
HaveDistinctItems types linked = (own : ℕ) (ids : List ℕ) (fs : List Function) → ((i : ℕ) → Has ids i → BelongsTo types i own) → AreRising ids → slice_get linked own ≡ Some fs → AreDistinct (owned_names own types ids ++ function_names fs)

-- a type of the interface is asked for, or a function of it is linked
abbrev pub IsInterfaceAsked : List TypeDef → List ℕ → List (List Function) → ℕ → Type 0
IsInterfaceAsked types others linked own = ((i : ℕ) × BelongsTo types i own × IsAsked types others linked i) ⊎ ((fs : List Function) × (f : Function) × (slice_get linked own ≡ Some fs) × Has fs f)

-- What is asked for is all written; types without names belong nowhere; interfaces use types of earlier interfaces; no two types of an
-- interface or functions have one name, no two interfaces of which something is asked for have one, and nothing is imported under these yet
pub record AreWritable (r : Root) (types : List TypeDef) (others : List ℕ) (linked : List (List Function)) : Type 0 where
  pub kinds : (i : ℕ) (d : TypeDef) → IsAsked types others linked i → slice_get types i ≡ Some d → IsNeverWritten d → ⊥
  pub functions : (own : ℕ) (fs : List Function) (f : Function) → slice_get linked own ≡ Some fs → Has fs f → HasUnwrittenParts f → ⊥
  pub bare : (i : ℕ) (d : TypeDef) → IsAsked types others linked i → slice_get types i ≡ Some d → d.name ≡ None → d.owner ≡ belongs.None
  pub earlier : AreUsedEarlier types linked
  pub distinct : HaveDistinctItems types linked
  pub named : length linked ≤ length (interface_names r)
  pub new : (own : ℕ) → IsInterfaceAsked types others linked own → is_new (root_names r) (interface_name r own) ≡ true
  pub apart : (i j : ℕ) → i < j → IsInterfaceAsked types others linked i → IsInterfaceAsked types others linked j → bytes_eq (interface_name r j) (interface_name r i) ≡ false
