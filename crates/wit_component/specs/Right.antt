-- What has to hold of what a component stands for, one condition for each kind of finding (Component Model, Explainer, Component
-- Definitions).
use Rattle.std.specs.Prelude.{◌≡◌, ◌⊎◌, ℕ, List, [], ◌∷◌, map, Option, Some, option_map}
use Rattle.std.specs.List.{AllByRecursion as Each}
use Rattle.plain_worlds.specs.World.{FunctionTypeValue, FunctionItem}
use Rattle.wit_component.specs.declared.finding.FindingKind.{FindingKind}
use Rattle.wit_component.specs.declared.finding.FindingKind.TheVariants as findings
use Rattle.wit_component.specs.Linking.{CoreImport, Linking}
use Rattle.wit_component.specs.Table.{Entry, IsEntry, entries_of_import, IsExportEntry, needed}
use Rattle.wit_component.specs.Meaning.{Spaces, Origin, Source, of_main, of_unknown, of_items, CoreFunction, ComponentFunction, ImportEntry, ExportEntry, of_export, of_lower, of_lift, import_with, item_at, all_given}

-- x is one of these
abbrev pub IsIn : {X : Type 0} → X → List X → Type 0
IsIn x [] = ⊥
IsIn x (y ∷ ys) = (x ≡ y) ⊎ IsIn x ys

-- each is one of the others, and the other way round
pub record SameItems {X : Type 0} (xs ys : List X) : Type 0 where
  pub each : Each (λ x. IsIn x ys) xs
  pub only : Each (λ y. IsIn y xs) ys

-- ---- the outside: the imports and exports that the bytes have, by name and type

abbrev pub listed : FunctionItem → ImportEntry
listed f = record { name = f.name; item = Some f.ty }

abbrev pub type_seen : ExportEntry → ImportEntry
type_seen e = record { name = e.name; item = option_map (λ f. f.ty) e.item }

-- ---- ends: what a core function, and a function, are of

-- the lowering of the import that the entry names, of whatever type: that is asked of imports (F2)
pub record IsLoweringOf (s : Spaces) (e : Entry) (c : CoreFunction) : Type 0 where
  pub name : List ℕ
  pub named : e.line.item ≡ Some name
  pub function : ℕ
  pub lowers : c.origin ≡ of_lower function
  pub ty : FunctionTypeValue
  pub is : item_at s.functions function ≡ Some (import_with name ty)

-- the lift of the core export that the entry names, of the entry's core type
pub record IsLiftOf (s : Spaces) (e : Entry) (o : Origin) : Type 0 where
  pub name : List ℕ
  pub named : e.line.item ≡ Some name
  pub core : ℕ
  pub lifts : o ≡ of_lift core
  pub instance : ℕ
  pub is : item_at s.core_functions core ≡ Some (record { origin = of_export instance name; ty = e.core_type })

-- ---- the conditions

-- F2: at least what links need is imported, and at most what the world lists, each under its name with its type
pub record ImportsRight (l : Linking) (s : Spaces) : Type 0 where
  pub needed : Each (λ f. IsIn (listed f) s.imports) (needed l)
  pub listed : Each (λ e. IsIn e (map listed l.world.imports)) s.imports

-- F3: exactly the world's exports, each under its name with its type
abbrev pub ExportsRight : Linking → Spaces → Type 0
ExportsRight l s = SameItems (map type_seen s.exports) (map listed l.world.exports)

-- there is one instance of the main module, which is given all that it asks
abbrev pub IsOnce : List (List (Option CoreFunction)) → Type 0
IsOnce all = (given : List CoreFunction) × (all ≡ map (λ f. Some f) given ∷ [])

-- F4: each core module is the main module, which is instantiated once
pub record ModulesRight (l : Linking) (s : Spaces) : Type 0 where
  pub modules : Each (λ bytes. bytes ≡ l.main.bytes) s.modules
  pub once : IsOnce (all_given s.instances)

-- what is given for a core import ends as its entry says, and has that entry's core type
pub record IsGiven (l : Linking) (s : Spaces) (i : CoreImport) (given : Option CoreFunction) : Type 0 where
  pub entry : Entry
  pub is_entry : IsEntry (entries_of_import l i) entry
  pub core : CoreFunction
  pub is : given ≡ Some core
  pub ends : IsLoweringOf s entry core
  pub matches : core.ty ≡ entry.core_type

abbrev pub EachGiven : Linking → Spaces → List CoreImport → List (Option CoreFunction) → Type 0
EachGiven l s [] [] = Unit {0}
EachGiven l s [] (g ∷ given) = ⊥
EachGiven l s (i ∷ more) [] = ⊥
EachGiven l s (i ∷ more) (g ∷ given) = IsGiven l s i g × EachGiven l s more given

-- so is each that an instance of the main module asks for
abbrev pub TakesOwn : Linking → Spaces → Source → Type 0
TakesOwn l s (of_main given) = EachGiven l s l.main.imports given
TakesOwn l s of_unknown = Unit {0}
TakesOwn l s of_items = Unit {0}

-- an export ends as the entry of its function says; of whatever type: that is asked of exports (F3)
pub record LiftsOwn (l : Linking) (s : Spaces) (x : ExportEntry) : Type 0 where
  pub function : FunctionItem
  pub listed : IsIn function l.world.exports
  pub name : x.name ≡ function.name
  pub entry : Entry
  pub is_entry : IsExportEntry l function entry
  pub item : ComponentFunction
  pub is : x.item ≡ Some item
  pub ends : IsLiftOf s entry item.origin

-- F5: every core import and every export ends at its entry of the link table
pub record LinksRight (l : Linking) (s : Spaces) : Type 0 where
  pub imports : Each (λ i. TakesOwn l s i.source) s.instances
  pub exports : Each (LiftsOwn l s) s.exports

-- The condition of each kind. F1 holds of bytes that are a component; F6, F7 and F8 hold, since no link of this shape passes a slot,
-- no core module has one, and every type is written out.
abbrev pub Holds : Linking → Spaces → FindingKind → Type 0
Holds l s findings.Format = Unit {0}
Holds l s findings.Import = ImportsRight l s
Holds l s findings.Export = ExportsRight l s
Holds l s findings.Module = ModulesRight l s
Holds l s findings.Link = LinksRight l s
Holds l s findings.Fill = Unit {0}
Holds l s findings.SlotReach = Unit {0}
Holds l s findings.Name = Unit {0}

-- what a component stands for meets all conditions
abbrev pub MeetsAll : Linking → Spaces → Type 0
MeetsAll l s = (kind : FindingKind) → Holds l s kind
