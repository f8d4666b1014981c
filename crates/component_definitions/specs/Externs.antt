-- Imports and exports (Component Model Binary, Import and Export Definitions).
use Rattle.std.specs.Prelude.{ℕ, List, Option, option_map, nat_le, ◌==◌, if◌then◌else◌}
use Rattle.component_value_types.specs.Passed.binary_grammar-declared-fault-Rule-TheVariants as rules
use Rattle.component_value_types.specs.Passed.binary_grammar-Syntax.{Syntax, unbounded, ◌◂◌, ◌>>=◌, one_byte, some_name, gives, refuses, tested}
use Rattle.component_value_types.specs.Combinators.{optional}
use Rattle.component_value_types.specs.Scope.{Grammar, index}
use Rattle.component_definitions.specs.declared.sorts.Sort.{Sort}
use Rattle.component_definitions.specs.declared.externs.Description.{Description}
use Rattle.component_definitions.specs.declared.externs.Description.TheVariants as descriptions
use Rattle.component_definitions.specs.declared.externs.Import.{Import}
use Rattle.component_definitions.specs.declared.externs.Export.{Export}
use Rattle.component_definitions.specs.Sorts.{sort, count}

-- `00`, or `01`, which is read alike, and a name
abbrev pub extern_name : {C : Type 0} → Syntax unbounded C (List ℕ)
extern_name = do
  k ← (λ _. 0) ◂ tested rules.Tag (λ _ b. nat_le b 1) one_byte
  n ← (λ x. x) ◂ some_name
  gives n

-- ---- what an import or export is

abbrev pub description_byte : Description → ℕ
description_byte (descriptions.Function t) = 1
description_byte (descriptions.Equal t) = 3
description_byte descriptions.Resource = 3
description_byte (descriptions.Instance t) = 5

abbrev pub bound_byte : Description → ℕ
bound_byte (descriptions.Equal t) = 0
bound_byte _ = 1

abbrev pub type_in : Description → ℕ
type_in (descriptions.Function t) = t
type_in (descriptions.Equal t) = t
type_in descriptions.Resource = 0
type_in (descriptions.Instance t) = t

pub data DescriptionForm : Type 0 where
  function : DescriptionForm
  bound : DescriptionForm
  instance : DescriptionForm
  other : DescriptionForm

unfoldable pub description_form_of : ℕ → DescriptionForm
description_form_of b = if b == 1 then function else if b == 3 then bound else if b == 5 then instance else other

pub data BoundForm : Type 0 where
  equal : BoundForm
  resource : BoundForm
  neither : BoundForm

unfoldable pub bound_form_of : ℕ → BoundForm
bound_form_of b = if b == 0 then equal else if b == 1 then resource else neither

-- `00` and the type that it equals, or `01`, a resource type
abbrev pub bound_behind : BoundForm → Grammar Description
bound_behind equal = do
  t ← type_in ◂ index (λ there. there.types)
  gives (descriptions.Equal t)
bound_behind resource = gives descriptions.Resource
bound_behind neither = refuses rules.Tag

abbrev pub description_behind : DescriptionForm → Grammar Description
description_behind function = do
  t ← type_in ◂ index (λ there. there.types)
  gives (descriptions.Function t)
description_behind bound = do
  b ← bound_byte ◂ one_byte
  bound_behind (bound_form_of b)
description_behind instance = do
  t ← type_in ◂ index (λ there. there.types)
  gives (descriptions.Instance t)
description_behind other = refuses rules.Tag

unfoldable pub description : Grammar Description
description = do
  b ← description_byte ◂ one_byte
  description_behind (description_form_of b)

-- ---- imports and exports

pub record ImportValue : Type 0 where
  pub name : List ℕ
  pub description : Description

abbrev pub import_value : Import → ImportValue
import_value i = record { name = i.name.now; description = i.description }

-- what stands behind the name
abbrev pub import_behind : List ℕ → Grammar ImportValue
import_behind n = do
  d ← (λ i. i.description) ◂ description
  gives (record { name = n; description = d })

unfoldable pub import_entry : Grammar ImportValue
import_entry = do
  n ← (λ i. i.name) ◂ extern_name
  import_behind n

pub record ExportValue : Type 0 where
  pub name : List ℕ
  pub sort : Sort
  pub index : ℕ
  pub ascribed : Option Description

abbrev pub export_value : Export → ExportValue
export_value e = record { name = e.name.now; sort = e.sort; index = e.index; ascribed = option_map (λ d. d) e.ascribed }

-- what stands behind the name
abbrev pub export_behind : List ℕ → Grammar ExportValue
export_behind n = do
  s ← (λ e. e.sort) ◂ sort
  i ← (λ e. e.index) ◂ index (λ there. count there s)
  a ← (λ e. e.ascribed) ◂ optional description
  gives (record { name = n; sort = s; index = i; ascribed = a })

unfoldable pub export_entry : Grammar ExportValue
export_entry = do
  n ← (λ e. e.name) ◂ extern_name
  export_behind n
