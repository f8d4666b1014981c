-- The instance of the main module, and what it is given (Component Model, Explainer, Core Definitions).
use Rattle.std.specs.Prelude.{◌≡◌, ◌⊎◌, ℕ, suc, List, [], ◌∷◌, ◌++◌, map, slice_get, Option, Some, true}
use Rattle.wit_order.specs.Order.{Has}
use Rattle.component_definitions.specs.Canonical.{lower}
use Rattle.component_instances.specs.Instances.{core_instantiate, core_inline}
use Rattle.component_sections.specs.Component.{DefinitionValue, a_core_instance, a_canonical}
use Rattle.component_value_types.specs.Combinators.{NamedValue}
use Rattle.type_writing.specs.Passed.type_meaning-Items.{item_at}
use Rattle.linked_imports.specs.Passed.component_meaning-Core.{matches, CoreImport, MainModule, CoreItem, of_main, of_items, CoreInstance}
use Rattle.linked_imports.specs.Passed.component_meaning-Spaces.{Spaces, lowering, all_given, exports_of}
use Rattle.linked_imports.specs.Passed.link_table-Pairwise.{Pairwise}
use Rattle.component_encoding.specs.Given.{Under}

-- ---- what is written

abbrev pub lowering_of : ℕ → DefinitionValue
lowering_of f = a_canonical (lower f [])

abbrev pub instance_of : Under → DefinitionValue
instance_of u = a_core_instance (core_inline u.items)

-- instances are given under their texts, numbered from one on
abbrev pub arguments_from : ℕ → List Under → List (NamedValue ℕ)
arguments_from n [] = []
arguments_from n (u ∷ us) = record { name = u.text; item = n } ∷ arguments_from (suc n) us

abbrev pub instantiation : ℕ → List (NamedValue ℕ) → DefinitionValue
instantiation m args = a_core_instance (core_instantiate m args)

-- ---- what that stands for

-- the lowering of a function, without options
abbrev pub lowered : Spaces → ℕ → Option CoreItem
lowered s f = lowering f [] (item_at s.scope.functions f)

-- these functions can be lowered, one for each import of the module, and are of their core types then
abbrev pub AreLowerable : MainModule → Spaces → List ℕ → Type 0
AreLowerable main s fs = Pairwise (λ (i : CoreImport) (f : ℕ). (c : CoreItem) × (lowered s f ≡ Some c) × (matches i.ty c.ty ≡ true)) main.imports fs

-- the module is there, and an instance of it, which is given the lowerings of these functions
pub record IsInstantiated (main : MainModule) (old new : Spaces) (fs : List ℕ) (i : ℕ) : Type 0 where
  pub scope : new.scope ≡ old.scope
  pub modules : new.modules ≡ old.modules ++ main.bytes ∷ []
  pub given : List CoreItem
  pub each : Pairwise (λ (f : ℕ) (c : CoreItem). lowered old f ≡ Some c) fs given
  pub all : all_given new.core_instances ≡ all_given old.core_instances ++ map (λ (c : CoreItem). Some c) given ∷ []
  pub only : (c : CoreInstance) → Has new.core_instances c → Has old.core_instances c ⊎ ((c.source ≡ of_items) ⊎ (c.source ≡ of_main (map (λ (x : CoreItem). Some x) given)))
  pub there : slice_get new.core_instances i ≡ Some (record { source = of_main (map (λ (x : CoreItem). Some x) given); exports = exports_of main i })
