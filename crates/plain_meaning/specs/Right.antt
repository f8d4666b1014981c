-- What is right of the one is right of the other: which modules are there, and what is imported and exported (Component Model, Explainer,
-- Component Definitions).
use Rattle.std.specs.Prelude.{◌≡◌, ◌↔◌, map, Option, Some, None}
use Rattle.wit_order.specs.Order.{Has}
use Rattle.plain_worlds.specs.World.{FunctionTypeValue}
use Rattle.wit_component.specs.Linking.{Linking}
use Rattle.wit_component.specs.Meaning as plain
use Rattle.wit_component.specs.Meaning.{ImportEntry}
use Rattle.wit_component.specs.Right as plain_right
use Rattle.wit_component.specs.Right.{IsIn, type_seen}
use Rattle.type_meaning.specs.Items.{Origin, Item, nothing, a_function, Entry}
use Rattle.component_meaning.specs.Spaces as full
use Rattle.right_components.specs.Right as full_right
use Rattle.plain_meaning.specs.Trees.{function_tree}
use Rattle.plain_meaning.specs.Seen.{import_entry, IsSeenAs}

-- each core module is the one that is linked, and there is one instance of it, which is given all that it asks (Explainer, Core
-- Definitions)
abbrev pub ModulesAreRightInBoth : Type 0
ModulesAreRightInBoth = (l : Linking) (s : plain.Spaces) (t : full.Spaces) → IsSeenAs s t → plain_right.ModulesRight l s ↔ full_right.ModulesRight l.main.bytes t

-- a name is imported with a type, or with none, just where its entry is the import of a function of that type, or of nothing (Explainer,
-- Import and Export Definitions)
abbrev pub ImportsAreTheSame : Type 0
ImportsAreTheSame = (s : plain.Spaces) (t : full.Spaces) → IsSeenAs s t → (e : ImportEntry) → IsIn e s.imports ↔ Has t.scope.imports (import_entry e)

-- a function of that type, whatever it is of, or nothing where there is none (Explainer, Import and Export Definitions)
abbrev pub IsOfType : Option FunctionTypeValue → Item → Type 0
IsOfType None i = i ≡ nothing
IsOfType (Some t) i = (o : Origin) × (i ≡ a_function o (function_tree t))

-- something is exported under that name, with that type (Explainer, Import and Export Definitions)
abbrev pub IsExported : full.Spaces → ImportEntry → Type 0
IsExported t e = (x : Entry) × Has t.scope.exports x × (x.name ≡ e.name) × IsOfType e.item x.item

-- a name is exported with a type, or with none, just where its entry is a function of that type, or nothing (Explainer, Import and Export
-- Definitions)
abbrev pub ExportsAreTheSame : Type 0
ExportsAreTheSame = (s : plain.Spaces) (t : full.Spaces) → IsSeenAs s t → (e : ImportEntry) → IsIn e (map type_seen s.exports) ↔ IsExported t e
