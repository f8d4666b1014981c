-- What index spaces have stays there, whatever follows.
use Rattle.std.proofs.Common.{◌≡◌, ℕ, zero, suc, List, [], ◌∷◌, ◌++◌, Option, Some, sym, ap, subst, ◌∙◌, append_assoc}
use Rattle.std.proofs.lemmas.List.Sums.{fold-append}
use Rattle.std.specs.Prelude.{slice_get, option_and_then}
use Rattle.wasm_types.specs.declared.types.ExportKind.{ExportKind}
use Rattle.wasm_types.specs.declared.types.ExportKind.TheVariants as kinds
use Rattle.component_sections.specs.Component.{DefinitionValue}
use Rattle.linked_imports.specs.Passed.component_meaning-Core.{MainModule, CoreItem}
use Rattle.linked_imports.specs.Passed.component_meaning-Spaces.{Spaces, no_spaces, after, meaning, core_at}
use Rattle.linked_imports.proofs.Passed.component_meaning-Staying.{stays}
use Rattle.type_writing.specs.Writing.{Begins}
use Rattle.component_encoding.specs.Growing.{Grows, AddsCoreItems, IsMainInstance}

-- ---- definitions

-- one more definition
pub next : (main : MainModule) (ds : List DefinitionValue) (d : DefinitionValue) → meaning main (ds ++ d ∷ []) ≡ after main (meaning main ds) d
unfolding meaning
next main ds d = fold-append (after main) no_spaces ds (d ∷ [])

pub grows : (main : MainModule) (ds es : List DefinitionValue) → Begins ds es → Grows (meaning main ds) (meaning main es)
grows main ds es b = let h = stays main ds b.0 in (h.0, ap (meaning main) b.1 ∙ h.1)

pub begins_more : {X : Type 0} (xs ys zs : List X) → Begins xs ys → Begins ys zs → Begins xs zs
begins_more xs ys zs a b = (a.0 ++ b.0, b.1 ∙ ap (λ l. l ++ b.0) a.1 ∙ append_assoc xs a.0 b.0)

-- ---- what stays

there : {X : Type 0} (xs ys : List (Option X)) (i : ℕ) (x : X) → option_and_then (λ y. y) (slice_get xs i) ≡ Some x → option_and_then (λ y. y) (slice_get (xs ++ ys) i) ≡ Some x
there [] ys i x h = absurd cc
there (y ∷ xs) ys zero x h = h
there (y ∷ xs) ys (suc i) x h = there xs ys i x h

pub core_stays : (kind : ExportKind) (s t : Spaces) (i : ℕ) (c : CoreItem) → Grows s t → core_at kind s i ≡ Some c → core_at kind t i ≡ Some c
core_stays kinds.Func s t i c g h = subst (λ u. core_at kinds.Func u i ≡ Some c) (sym g.1) (there s.core_functions g.0.core_functions i c h)
core_stays kinds.Table s t i c g h = subst (λ u. core_at kinds.Table u i ≡ Some c) (sym g.1) (there s.core_tables g.0.core_tables i c h)
core_stays kinds.Memory s t i c g h = subst (λ u. core_at kinds.Memory u i ≡ Some c) (sym g.1) (there s.core_memories g.0.core_memories i c h)
core_stays kinds.Global s t i c g h = subst (λ u. core_at kinds.Global u i ≡ Some c) (sym g.1) (there s.core_globals g.0.core_globals i c h)

-- core items change no instance
pub main_stays : (main : MainModule) (s t : Spaces) (i : ℕ) → t.core_instances ≡ s.core_instances → IsMainInstance main s i → IsMainInstance main t i
main_stays main s t i same m = record { instance = m.instance; there = ap (λ l. slice_get l i) same ∙ m.there; has = m.has }

pub adds_both : (s t u : Spaces) → AddsCoreItems s t → AddsCoreItems t u → AddsCoreItems s u
adds_both s t u a b = record { scope = b.scope ∙ a.scope; modules = b.modules ∙ a.modules; instances = b.instances ∙ a.instances }
