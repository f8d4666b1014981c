-- The order in which interfaces are imported (WIT, Use; Component Model, Explainer, Index Spaces).
use Rattle.std.specs.Prelude.{◌≡◌, ℕ, List, [], ◌∷◌, ◌++◌, map, get_or}
use Rattle.wit_reach.specs.Needed.{BelongsTo}
use Rattle.wit_reach.specs.Paths.{Reaches}
use Rattle.wit_reach.specs.Types.{IsMadeOf}
use Rattle.type_meaning.specs.Items.{Entry}
use Rattle.encodable_worlds.specs.Passed.component_meaning-Spaces.{meaning}
use Rattle.component_sections.specs.Component.{DefinitionValue}
use Rattle.encodable_worlds.specs.Passed.link_table-Linking.{Linking, types_of}
use Rattle.encodable_worlds.specs.Passed.right_components-Main.{main_of}
use Rattle.encodable_worlds.specs.Passed.right_components-Needed.{IsTypeNeeded}
use Rattle.linked_components.specs.Build.{IsOfNamedGraph, IsComponentOf}

-- the names of what definitions import
abbrev pub import_names : Linking → List ℕ → List DefinitionValue → List (List ℕ)
import_names l bytes ds = map (λ (e : Entry). e.name) (meaning (main_of bytes l.main) ds).scope.imports

-- one stands somewhere before the other
pub record StandsBefore (names : List (List ℕ)) (first second : List ℕ) : Type 0 where
  pub front : List (List ℕ)
  pub mid : List (List ℕ)
  pub back : List (List ℕ)
  pub are : names ≡ front ++ first ∷ (mid ++ second ∷ back)

-- where a type of an interface is needed and made of a type of another, the component imports both, and the other before it
abbrev pub UsedStandBefore : Type 0
UsedStandBefore =
    (l : Linking) (world : ℕ) (bytes encoded : List ℕ) (own j i x : ℕ) → IsOfNamedGraph l world → (c : IsComponentOf l bytes encoded) → BelongsTo (types_of l) i own → IsTypeNeeded l i → Reaches (IsMadeOf (types_of l)) i x
    → BelongsTo (types_of l) x j → (j ≡ own → ⊥) → StandsBefore (import_names l bytes c.2.definitions) (get_or c.2.right.names j []) (get_or c.2.right.names own [])
