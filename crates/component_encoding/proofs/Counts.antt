-- As many of each sort are counted as index spaces have.
use Rattle.std.proofs.Common.{◌≡◌, ℕ, ◌+◌, suc, List, [], ◌∷◌, ◌++◌, length, Bool, true, false, Option, refl, sym, ap, ◌∙◌, arith}
use Rattle.std.proofs.lemmas.List.{length-append}
use Rattle.std.specs.Prelude.{fold}
use Rattle.binary_grammar.specs.Several.{grown}
use Rattle.wasm_types.specs.declared.types.ExportKind.TheVariants as kinds
use Rattle.component_value_types.specs.declared.scope.Scope.{Scope as Counted}
use Rattle.component_value_types.specs.Scope.{no_scope}
use Rattle.component_definitions.specs.declared.sorts.ComponentSort.{ComponentSort}
use Rattle.component_definitions.specs.declared.sorts.ComponentSort.TheVariants as components
use Rattle.component_definitions.specs.declared.sorts.Sort.{Sort}
use Rattle.component_definitions.specs.declared.sorts.Sort.TheVariants as sorts
use Rattle.component_definitions.specs.declared.counting.IndexSpace.{IndexSpace}
use Rattle.component_definitions.specs.declared.counting.IndexSpace.TheVariants as spaces
use Rattle.component_definitions.specs.declared.externs.Description.{Description}
use Rattle.component_definitions.specs.declared.externs.Description.TheVariants as descriptions
use Rattle.component_definitions.specs.Aliases.{AliasValue, instance_export, core_instance_export, outer}
use Rattle.component_definitions.specs.Canonical.{lift, lower, resource_new, resource_drop, resource_rep}
use Rattle.component_definitions.specs.Counting.{with_one}
use Rattle.component_instances.specs.Instances.{core_instantiate, core_inline}
use Rattle.component_entries.specs.Entries.{an_alias, a_type, an_import, an_export}
use Rattle.component_sections.specs.Component.{DefinitionValue, a_core_module, a_core_instance, a_component, an_instance, a_canonical, an_entry, space_of}
use Rattle.component_builder.specs.Builder.{with_space, scope_of}
use Rattle.linked_imports.specs.Passed.component_meaning-Core.{MainModule}
use Rattle.linked_imports.specs.Passed.component_meaning-Spaces.{Spaces, no_spaces, joined, adds, after, meaning}

-- so many of each, of those that are asked for
pub record Lengths : Type 0 where
  pub types : ℕ
  pub functions : ℕ
  pub core_functions : ℕ
  pub core_tables : ℕ
  pub core_memories : ℕ
  pub core_globals : ℕ
  pub core_instances : ℕ
  pub modules : ℕ

abbrev pub counted : Counted → Lengths
counted c = record { types = c.types; functions = c.functions; core_functions = c.core_functions; core_tables = c.core_tables; core_memories = c.core_memories; core_globals = c.core_globals; core_instances = c.core_instances; modules = c.core_modules }

abbrev pub lengths : Spaces → Lengths
lengths s = record { types = length s.scope.types; functions = length s.scope.functions; core_functions = length s.core_functions; core_tables = length s.core_tables; core_memories = length s.core_memories; core_globals = length s.core_globals; core_instances = length s.core_instances; modules = length s.modules }

-- ---- which of them has one more

record Units : Type 0 where
  types : Bool
  functions : Bool
  core_functions : Bool
  core_tables : Bool
  core_memories : Bool
  core_globals : Bool
  core_instances : Bool
  modules : Bool

abbrev no_units : Units
no_units = record { types = false; functions = false; core_functions = false; core_tables = false; core_memories = false; core_globals = false; core_instances = false; modules = false }

abbrev unit : IndexSpace → Units
unit (spaces.Of (sorts.Core kinds.Func)) = record no_units { core_functions = true }
unit (spaces.Of (sorts.Core kinds.Table)) = record no_units { core_tables = true }
unit (spaces.Of (sorts.Core kinds.Memory)) = record no_units { core_memories = true }
unit (spaces.Of (sorts.Core kinds.Global)) = record no_units { core_globals = true }
unit (spaces.Of (sorts.Component components.Function)) = record no_units { functions = true }
unit (spaces.Of (sorts.Component components.Type_)) = record no_units { types = true }
unit (spaces.Of (sorts.Component components.Instance)) = no_units
unit spaces.CoreModules = record no_units { modules = true }
unit spaces.CoreInstances = record no_units { core_instances = true }
unit spaces.Components = no_units

abbrev one_if : Bool → ℕ
one_if true = 1
one_if false = 0

abbrev one_more : Bool → ℕ → ℕ
one_more true n = suc n
one_more false n = n

abbrev ones : Units → Lengths
ones u = record { types = one_if u.types; functions = one_if u.functions; core_functions = one_if u.core_functions; core_tables = one_if u.core_tables; core_memories = one_if u.core_memories; core_globals = one_if u.core_globals; core_instances = one_if u.core_instances; modules = one_if u.modules }

abbrev plus : Units → Lengths → Lengths
plus u l = record { types = one_more u.types l.types; functions = one_more u.functions l.functions; core_functions = one_more u.core_functions l.core_functions; core_tables = one_more u.core_tables l.core_tables; core_memories = one_more u.core_memories l.core_memories; core_globals = one_more u.core_globals l.core_globals; core_instances = one_more u.core_instances l.core_instances; modules = one_more u.modules l.modules }

-- ---- counting

counts_one : (c : Counted) (i : IndexSpace) → counted (with_one c i) ≡ plus (unit i) (counted c)
counts_one c (spaces.Of (sorts.Core kinds.Func)) = refl
counts_one c (spaces.Of (sorts.Core kinds.Table)) = refl
counts_one c (spaces.Of (sorts.Core kinds.Memory)) = refl
counts_one c (spaces.Of (sorts.Core kinds.Global)) = refl
counts_one c (spaces.Of (sorts.Component components.Function)) = refl
counts_one c (spaces.Of (sorts.Component components.Type_)) = refl
counts_one c (spaces.Of (sorts.Component components.Instance)) = refl
counts_one c spaces.CoreModules = refl
counts_one c spaces.CoreInstances = refl
counts_one c spaces.Components = refl

-- ---- what a definition adds

module _ (main : MainModule) (s : Spaces) where
  alias_ones : (a : AliasValue) → lengths (adds main s (an_entry (an_alias a))) ≡ ones (unit (space_of (an_entry (an_alias a))))
  alias_ones (instance_export components.Function i name) = refl
  alias_ones (instance_export components.Type_ i name) = refl
  alias_ones (instance_export components.Instance i name) = refl
  alias_ones (core_instance_export kinds.Func i name) = refl
  alias_ones (core_instance_export kinds.Table i name) = refl
  alias_ones (core_instance_export kinds.Memory i name) = refl
  alias_ones (core_instance_export kinds.Global i name) = refl
  alias_ones (outer count i) = refl

  import_ones : (name : List ℕ) (d : Description) → lengths (adds main s (an_entry (an_import (record { name = name; description = d })))) ≡ ones (unit (space_of (an_entry (an_import (record { name = name; description = d })))))
  import_ones name (descriptions.Function i) = refl
  import_ones name (descriptions.Equal i) = refl
  import_ones name descriptions.Resource = refl
  import_ones name (descriptions.Instance i) = refl

  export_ones : (name : List ℕ) (sort : Sort) (i : ℕ) (d : Option Description) → lengths (adds main s (an_entry (an_export (record { name = name; sort = sort; index = i; ascribed = d })))) ≡ ones (unit (space_of (an_entry (an_export (record { name = name; sort = sort; index = i; ascribed = d })))))
  export_ones name (sorts.Core kinds.Func) i d = refl
  export_ones name (sorts.Core kinds.Table) i d = refl
  export_ones name (sorts.Core kinds.Memory) i d = refl
  export_ones name (sorts.Core kinds.Global) i d = refl
  export_ones name (sorts.Component components.Function) i d = refl
  export_ones name (sorts.Component components.Type_) i d = refl
  export_ones name (sorts.Component components.Instance) i d = refl

  adds_ones : (d : DefinitionValue) → lengths (adds main s d) ≡ ones (unit (space_of d))
  adds_ones (a_core_module bytes) = refl
  adds_ones (a_core_instance (core_instantiate m args)) = refl
  adds_ones (a_core_instance (core_inline es)) = refl
  adds_ones (a_component es) = refl
  adds_ones (an_instance i) = refl
  adds_ones (a_canonical (lift c os t)) = refl
  adds_ones (a_canonical (lower f os)) = refl
  adds_ones (a_canonical (resource_new t)) = refl
  adds_ones (a_canonical (resource_drop t)) = refl
  adds_ones (a_canonical (resource_rep t)) = refl
  adds_ones (an_entry (an_alias a)) = alias_ones a
  adds_ones (an_entry (a_type t)) = refl
  adds_ones (an_entry (an_import i)) = import_ones i.name i.description
  adds_ones (an_entry (an_export e)) = export_ones e.name e.sort e.index e.ascribed

-- ---- both

grew : {X : Type 0} (xs ys : List X) (b : Bool) → length ys ≡ one_if b → length (xs ++ ys) ≡ one_more b (length xs)
grew xs ys true e = let l = length-append xs ys in omega (arith, l, e)
grew xs ys false e = let l = length-append xs ys in omega (arith, l, e)

joins : (s t : Spaces) (u : Units) → lengths t ≡ ones u → lengths (joined s t) ≡ plus u (lengths s)
joins s t u e = λ i. record {
  types = grew s.scope.types t.scope.types u.types (ap (λ (l : Lengths). l.types) e) i;
  functions = grew s.scope.functions t.scope.functions u.functions (ap (λ (l : Lengths). l.functions) e) i;
  core_functions = grew s.core_functions t.core_functions u.core_functions (ap (λ (l : Lengths). l.core_functions) e) i;
  core_tables = grew s.core_tables t.core_tables u.core_tables (ap (λ (l : Lengths). l.core_tables) e) i;
  core_memories = grew s.core_memories t.core_memories u.core_memories (ap (λ (l : Lengths). l.core_memories) e) i;
  core_globals = grew s.core_globals t.core_globals u.core_globals (ap (λ (l : Lengths). l.core_globals) e) i;
  core_instances = grew s.core_instances t.core_instances u.core_instances (ap (λ (l : Lengths). l.core_instances) e) i;
  modules = grew s.modules t.modules u.modules (ap (λ (l : Lengths). l.modules) e) i;
}

counts_from : (main : MainModule) (c : Counted) (s : Spaces) (ds : List DefinitionValue) → counted c ≡ lengths s → counted (grown with_space c ds) ≡ lengths (fold (after main) s ds)
counts_from main c s [] e = e
counts_from main c s (d ∷ ds) e =
    counts_from main (with_space c d) (after main s d) ds
    (counts_one c (space_of d) ∙ ap (plus (unit (space_of d))) e ∙ sym (joins s (adds main s d) (unit (space_of d)) (adds_ones main s d)))

-- as many are counted as there are
pub counts : (main : MainModule) (ds : List DefinitionValue) → counted (scope_of ds) ≡ lengths (meaning main ds)
unfolding meaning
counts main ds = counts_from main no_scope no_spaces ds refl
