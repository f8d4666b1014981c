-- What the main module is given: core functions by names, under each module text of its imports (Component Model, Explainer, Core
-- Definitions).
use Rattle.std.specs.Prelude.{◌≡◌, ◌<◌, true, ℕ, ◌+◌, suc, List, [], ◌∷◌, ◌++◌, map, Option, Some, None, option_map, Bool, ◌&&◌, bytes_eq, if◌then◌else◌}
use Rattle.std.specs.List.{AllByRecursion as Each}
use Rattle.distinct_names.specs.Names.{all_new}
use Rattle.wasm_types.specs.declared.types.ExportKind.TheVariants.{Func}
use Rattle.wasm_types.specs.Entries.{ImportValue}
use Rattle.component_value_types.specs.Combinators.{NamedValue}
use Rattle.component_value_types.specs.Names.{named_value}
use Rattle.component_instances.specs.declared.instances.CoreItem.{CoreItem as CoreIndex}
use Rattle.component_encoding.specs.declared.given.Group.{Group}

-- what is under a text
pub record Under : Type 0 where
  pub text : List ℕ
  pub items : List (NamedValue CoreIndex)

abbrev pub under_value : Group → Under
under_value g = record { text = g.text.now; items = map (named_value (λ x. x)) g.items.items }

-- ---- one more

abbrev pub with_item : List Under → List ℕ → NamedValue CoreIndex → List Under
with_item [] text x = record { text = text; items = x ∷ [] } ∷ []
with_item (u ∷ us) text x = if bytes_eq text u.text then record { text = u.text; items = u.items ++ x ∷ [] } ∷ us else u ∷ with_item us text x

abbrev pub core_function : List ℕ → ℕ → NamedValue CoreIndex
core_function name i = record { name = name; item = record { kind = Func; index = i } }

-- ---- looking up

abbrev pub named_in : List (NamedValue CoreIndex) → List ℕ → Option CoreIndex
named_in [] name = None
named_in (x ∷ xs) name = if bytes_eq name x.name then Some x.item else named_in xs name

-- what is under a text by a name
abbrev pub given_as : List Under → List ℕ → List ℕ → Option CoreIndex
given_as [] text name = None
given_as (u ∷ us) text name = if bytes_eq text u.text then named_in u.items name else given_as us text name

-- ---- imports

abbrev pub is_pair : List ℕ → List ℕ → ImportValue → Bool
is_pair text name i = bytes_eq text i.place && bytes_eq name i.name

-- the first import of a pair of texts, counted from a number on
abbrev pub first_from : ℕ → List ImportValue → List ℕ → List ℕ → Option ℕ
first_from n [] text name = None
first_from n (i ∷ is) text name = if is_pair text name i then Some n else first_from (suc n) is text name

-- each pair is given the core function of its first import, which are numbered from one on
abbrev pub AreGivenFor : ℕ → List ImportValue → List Under → Type 0
AreGivenFor base is us = (text name : List ℕ) → given_as us text name ≡ option_map (λ (k : ℕ). record { kind = Func; index = k }) (first_from base is text name)

-- ---- what may be given

-- a core function among so many
pub record IsFunctionBelow (n : ℕ) (x : NamedValue CoreIndex) : Type 0 where
  pub kind : x.item.kind ≡ Func
  pub index : x.item.index < n

abbrev pub item_names : Under → List (List ℕ)
item_names u = map (λ (x : NamedValue CoreIndex). x.name) u.items

-- no text stands twice, no name twice under a text, and what is there is core functions among so many
pub record MayBeGiven (n : ℕ) (us : List Under) : Type 0 where
  pub texts : all_new [] (map (λ (u : Under). u.text) us) ≡ true
  pub names : Each (λ u. all_new [] (item_names u) ≡ true) us
  pub functions : Each (λ u. Each (IsFunctionBelow n) u.items) us
