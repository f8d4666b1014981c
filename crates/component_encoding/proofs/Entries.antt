-- What imports, types and aliases stand for, as definitions of a component.
use Rattle.std.proofs.Common.{◌≡◌, List, [], ◌∷◌, ◌++◌, refl, sym, ap, ◌∙◌, append_assoc}
use Rattle.std.proofs.lemmas.List.{map-append}
use Rattle.std.specs.Prelude.{fold, map}
use Rattle.wasm_types.specs.declared.types.ExportKind.TheVariants as kinds
use Rattle.component_definitions.specs.declared.sorts.Sort.{Sort}
use Rattle.component_definitions.specs.declared.sorts.Sort.TheVariants as sorts
use Rattle.component_definitions.specs.Aliases.{AliasValue, instance_export, core_instance_export, outer}
use Rattle.component_entries.specs.declared.entry.Entry.{Entry}
use Rattle.component_entries.specs.Entries.{EntryValue, entry_value, an_alias, a_type, an_import, an_export}
use Rattle.component_sections.specs.Component.{DefinitionValue, an_entry}
use Rattle.type_writing.specs.Passed.type_meaning-Scope.{Scope, no_scope, joined as scopes_joined, adds as scope_adds, after as scope_after, meaning as scope_meaning}
use Rattle.linked_imports.specs.Passed.type_sinks-Placing.{as_definitions}
use Rattle.linked_imports.specs.Passed.component_meaning-Core.{MainModule}
use Rattle.linked_imports.specs.Passed.component_meaning-Spaces.{Spaces, no_spaces, core_entry, core_again, core_alias, adds, after, meaning}
use Rattle.linked_imports.proofs.Passed.component_meaning-Staying.{spaces_end}

-- beside what is in the scope an entry adds core items alone
record AddsNone (s : Spaces) : Type 0 where
  scope : s.scope ≡ no_scope
  modules : s.modules ≡ []
  instances : s.core_instances ≡ []

again : (s : Spaces) (sort : Sort) (i : _) → AddsNone (core_again s sort i)
again s (sorts.Core kinds.Func) i = record { scope = refl; modules = refl; instances = refl }
again s (sorts.Core kinds.Table) i = record { scope = refl; modules = refl; instances = refl }
again s (sorts.Core kinds.Memory) i = record { scope = refl; modules = refl; instances = refl }
again s (sorts.Core kinds.Global) i = record { scope = refl; modules = refl; instances = refl }
again s (sorts.Component sort) i = record { scope = refl; modules = refl; instances = refl }

of_alias : (s : Spaces) (a : AliasValue) → AddsNone (core_alias s a)
of_alias s (instance_export sort i name) = record { scope = refl; modules = refl; instances = refl }
of_alias s (core_instance_export kinds.Func i name) = record { scope = refl; modules = refl; instances = refl }
of_alias s (core_instance_export kinds.Table i name) = record { scope = refl; modules = refl; instances = refl }
of_alias s (core_instance_export kinds.Memory i name) = record { scope = refl; modules = refl; instances = refl }
of_alias s (core_instance_export kinds.Global i name) = record { scope = refl; modules = refl; instances = refl }
of_alias s (outer count i) = record { scope = refl; modules = refl; instances = refl }

of_entry : (s : Spaces) (e : EntryValue) → AddsNone (core_entry s e)
of_entry s (an_alias a) = of_alias s a
of_entry s (a_type t) = record { scope = refl; modules = refl; instances = refl }
of_entry s (an_import i) = record { scope = refl; modules = refl; instances = refl }
of_entry s (an_export e) = again s e.sort e.index

scope_end : (s : Scope) → scopes_joined s no_scope ≡ s
scope_end s = ap (λ (t : Spaces). t.scope) (spaces_end (record no_spaces { scope = s }))

-- the scope, and no module and no instance
pub record AreOfEntries (s : Spaces) (es : List EntryValue) (before : Scope) : Type 0 where
  pub scope : s.scope ≡ fold scope_after before es
  pub modules : s.modules ≡ []
  pub instances : s.core_instances ≡ []

entries_from : (main : MainModule) (s : Spaces) (es : List EntryValue) → s.modules ≡ [] → s.core_instances ≡ [] → AreOfEntries (fold (after main) s (as_definitions es)) es s.scope
entries_from main s [] modules instances = record { scope = refl; modules = modules; instances = instances }
entries_from main s (e ∷ es) modules instances =
    let none = of_entry s e in
    let next = after main s (an_entry e) in
    let scope : next.scope ≡ scope_after s.scope e = ap (λ t. scopes_joined s.scope (scopes_joined (scope_adds s.scope e) t)) none.scope ∙ ap (scopes_joined s.scope) (scope_end (scope_adds s.scope e)) in
    let rest = entries_from main next es ((λ i. modules i ++ none.modules i)) ((λ i. instances i ++ none.instances i)) in
    record { scope = rest.scope ∙ ap (λ t. fold scope_after t es) scope; modules = rest.modules; instances = rest.instances }

pub are_of_entries : (main : MainModule) (es : List EntryValue) → AreOfEntries (meaning main (as_definitions es)) es no_scope
unfolding meaning
are_of_entries main es = entries_from main no_spaces es refl refl

pub entry_scope : (main : MainModule) (es : List EntryValue) → (meaning main (as_definitions es)).scope ≡ scope_meaning es
unfolding scope_meaning
entry_scope main es = (are_of_entries main es).scope

-- one more
pub entry_next : (start old new : List DefinitionValue) (xs : List Entry) (x : Entry) → old ≡ start ++ as_definitions (map entry_value xs) → new ≡ old ++ an_entry (entry_value x) ∷ [] → new ≡ start ++ as_definitions (map entry_value (xs ++ x ∷ []))
entry_next start old new xs x was added =
    added
    ∙ ap (λ l. l ++ an_entry (entry_value x) ∷ []) was
    ∙ append_assoc start (as_definitions (map entry_value xs)) (an_entry (entry_value x) ∷ [])
    ∙ ap (λ l. start ++ l) (sym (map-append (λ e. an_entry e) (map entry_value xs) (entry_value x ∷ [])))
    ∙ ap (λ l. start ++ as_definitions l) (sym (map-append entry_value xs (x ∷ [])))
