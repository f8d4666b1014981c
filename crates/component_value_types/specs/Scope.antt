-- What a component has of each sort where a definition stands (Component Model, Explainer, Index Spaces).
use Rattle.std.specs.Prelude.{ℕ, Option, Some, None, nat_lt, ◌==◌, if◌then◌else◌}
use Rattle.binary_grammar.specs.declared.fault.Rule.TheVariants as rules
use Rattle.binary_grammar.specs.Syntax.{Syntax, unbounded, number, tested}
use Rattle.component_value_types.specs.declared.scope.Scope.{Scope}

-- a grammar where so many of each sort are there
abbrev pub Grammar : Type 0 → Type 1
Grammar X = Syntax unbounded Scope X

-- a number below so many
abbrev pub index : (Scope → ℕ) → Grammar ℕ
index limit = tested rules.Index (λ there i. nat_lt i (limit there)) number

-- how many types there are so many components or instance types outwards, if there is one
unfoldable pub types_outwards : Scope → ℕ → Option ℕ
types_outwards there n = if n == 0 then Some there.types else if n == 1 then there.outer else if n == 2 then there.outermost else None

-- where no definition stands yet, and nothing stands around
abbrev pub no_scope : Scope
no_scope = record {
  core_functions = 0;
  core_tables = 0;
  core_memories = 0;
  core_globals = 0;
  core_modules = 0;
  core_instances = 0;
  components = 0;
  instances = 0;
  functions = 0;
  types = 0;
  outer = None;
  outermost = None;
}
