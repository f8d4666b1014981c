-- What is known behind entries: as many of each sort as indices stand for something, and the names of imports and exports.
use Rattle.std.proofs.Common.{◌≡◌, ℕ, ◌+◌, List, [], ◌∷◌, ◌++◌, length, Option, true, false, refl, sym, ap, subst, ◌∙◌, arith, length-append}
use Rattle.std.specs.Prelude.{fold, nat_lt}
use Rattle.std.proofs.lemmas.Bool.{ltb-true}
use Rattle.std.proofs.lemmas.List.{append-nil, map-append}
use Rattle.distinct_names.specs.Names.{is_new, with_name}
use Rattle.binary_grammar.specs.Several.{grown}
use Rattle.wasm_types.specs.declared.types.ExportKind.TheVariants as kinds
use Rattle.component_value_types.specs.Scope.{no_scope as no_counts}
use Rattle.component_definitions.specs.declared.sorts.ComponentSort.TheVariants as sorts
use Rattle.component_definitions.specs.declared.sorts.Sort.{Sort}
use Rattle.component_definitions.specs.declared.sorts.Sort.TheVariants.{Component, Core}
use Rattle.component_definitions.specs.declared.externs.Description.{Description}
use Rattle.component_definitions.specs.declared.externs.Description.TheVariants as descriptions
use Rattle.component_definitions.specs.Aliases.{AliasValue, alias, instance_export, core_instance_export, outer}
use Rattle.component_sections.specs.Passed.component_entries-Entries.{EntryValue, DefinedValue, an_alias, a_type, an_import, an_export, nothing}
use Rattle.component_sections.specs.Component.{DefinitionValue, an_entry, with_definition, Follows, Follow}
use Rattle.type_writing.specs.Passed.type_meaning-Items.{Entry}
use Rattle.type_writing.specs.Passed.type_meaning-Scope.{Scope, no_scope, joined, after, meaning}
use Rattle.type_sinks.specs.Imports.{entry_names}
use Rattle.type_sinks.specs.Placing.{as_definitions, ArePlaced, known_of}

-- ---- one entry

-- with so many types, functions and instances, and these names
abbrev with_counts : ℕ → ℕ → ℕ → List (List ℕ) → List (List ℕ) → DefinedValue
with_counts types functions instances imports exports = record { nested = false; scope = record no_counts { types = types; functions = functions; instances = instances }; imports = imports; exports = exports }

grow : (s more : Scope) (t f i : ℕ) (is es : List (List ℕ)) → t ≡ length s.types + length more.types → f ≡ length s.functions + length more.functions → i ≡ length s.instances + length more.instances
    → is ≡ entry_names s.imports ++ entry_names more.imports → es ≡ entry_names s.exports ++ entry_names more.exports → with_counts t f i is es ≡ known_of (joined s more)
grow s more t f i is es a b c d e =
    let types = a ∙ sym (length-append s.types more.types) in
    let functions = b ∙ sym (length-append s.functions more.functions) in
    let instances = c ∙ sym (length-append s.instances more.instances) in
    let imports = d ∙ sym (map-append (λ (x : Entry). x.name) s.imports more.imports) in
    let exports = e ∙ sym (map-append (λ (x : Entry). x.name) s.exports more.exports) in
    λ j. with_counts (types j) (functions j) (instances j) (imports j) (exports j)

-- a name that is new
pub named : (names : List (List ℕ)) (n : List ℕ) → is_new names n ≡ true → with_name names n ≡ names ++ n ∷ []
named names n new = rw new refl

-- there is nothing of that sort
none_there : (i : ℕ) → nat_lt i 0 ≡ true → ⊥
none_there i h = let lt = ltb-true i 0 h in absurd (omega (arith, lt))

-- the entry is known behind the others, as indices stand for it
abbrev IsKnownBehind : Scope → EntryValue → Type 0
IsKnownBehind s e = with_definition (known_of s) (an_entry e) ≡ known_of (after s e)

alias_known : (s : Scope) (a : AliasValue) → Follows (known_of s) (an_entry (an_alias a)) → IsKnownBehind s (an_alias a)
unfolding alias
alias_known s (instance_export sorts.Function i n) h = grow s _ _ _ _ _ _ (omega arith) (omega arith) (omega arith) (sym (append-nil _)) (sym (append-nil _))
alias_known s (instance_export sorts.Type_ i n) h = grow s _ _ _ _ _ _ (omega arith) (omega arith) (omega arith) (sym (append-nil _)) (sym (append-nil _))
alias_known s (instance_export sorts.Instance i n) h = grow s _ _ _ _ _ _ (omega arith) (omega arith) (omega arith) (sym (append-nil _)) (sym (append-nil _))
alias_known s (core_instance_export kind i n) h = absurd (none_there i h.0.0.1.1.0.1)
alias_known s (outer count i) h = grow s _ _ _ _ _ _ (omega arith) (omega arith) (omega arith) (sym (append-nil _)) (sym (append-nil _))

import_known : (s : Scope) (n : List ℕ) (d : Description) → is_new (entry_names s.imports) n ≡ true → IsKnownBehind s (an_import (record { name = n; description = d }))
import_known s n (descriptions.Function t) new = grow s _ _ _ _ _ _ (omega arith) (omega arith) (omega arith) (named (entry_names s.imports) n new) (sym (append-nil _))
import_known s n (descriptions.Equal t) new = grow s _ _ _ _ _ _ (omega arith) (omega arith) (omega arith) (named (entry_names s.imports) n new) (sym (append-nil _))
import_known s n descriptions.Resource new = grow s _ _ _ _ _ _ (omega arith) (omega arith) (omega arith) (named (entry_names s.imports) n new) (sym (append-nil _))
import_known s n (descriptions.Instance t) new = grow s _ _ _ _ _ _ (omega arith) (omega arith) (omega arith) (named (entry_names s.imports) n new) (sym (append-nil _))

export_known : (s : Scope) (n : List ℕ) (sort : Sort) (i : ℕ) (d : Option Description) → Follows (known_of s) (an_entry (an_export (record { name = n; sort = sort; index = i; ascribed = d }))) → IsKnownBehind s (an_export (record { name = n; sort = sort; index = i; ascribed = d }))
export_known s n (Component sorts.Function) i d h = grow s _ _ _ _ _ _ (omega arith) (omega arith) (omega arith) (sym (append-nil _)) (named (entry_names s.exports) n h.0.0.1)
export_known s n (Component sorts.Type_) i d h = grow s _ _ _ _ _ _ (omega arith) (omega arith) (omega arith) (sym (append-nil _)) (named (entry_names s.exports) n h.0.0.1)
export_known s n (Component sorts.Instance) i d h = grow s _ _ _ _ _ _ (omega arith) (omega arith) (omega arith) (sym (append-nil _)) (named (entry_names s.exports) n h.0.0.1)
export_known s n (Core kinds.Func) i d h = absurd (none_there i h.0.1.0.1.0.1)
export_known s n (Core kinds.Table) i d h = absurd (none_there i h.0.1.0.1.0.1)
export_known s n (Core kinds.Memory) i d h = absurd (none_there i h.0.1.0.1.0.1)
export_known s n (Core kinds.Global) i d h = absurd (none_there i h.0.1.0.1.0.1)

one_known : (s : Scope) (e : EntryValue) → Follows (known_of s) (an_entry e) → IsKnownBehind s e
one_known s (an_alias a) h = alias_known s a h
one_known s (a_type t) h = grow s _ _ _ _ _ _ (omega arith) (omega arith) (omega arith) (sym (append-nil _)) (sym (append-nil _))
one_known s (an_import i) h = import_known s i.name i.description h.0.0.1
one_known s (an_export e) h = export_known s e.name e.sort e.index e.ascribed h

-- ---- all of them

known_behind : (k : DefinedValue) (s : Scope) (es : List EntryValue) → Follow k (as_definitions es) → k ≡ known_of s → grown with_definition k (as_definitions es) ≡ known_of (fold after s es)
known_behind k s [] h same = same
known_behind k s (e ∷ es) h same =
    let next = ap (λ (l : DefinedValue). with_definition l (an_entry e)) same ∙ one_known s e (subst (λ (l : DefinedValue). Follows l (an_entry e)) same h.0) in
    known_behind (with_definition k (an_entry e)) (after s e) es h.1 next

pub known : (es : List EntryValue) → ArePlaced es → grown with_definition nothing (as_definitions es) ≡ known_of (meaning es)
unfolding meaning
known es h = known_behind nothing no_scope es h refl

-- ---- one more

pub follow_push : (k : DefinedValue) (ds : List DefinitionValue) (d : DefinitionValue) → Follow k ds → Follows (grown with_definition k ds) d → Follow k (ds ++ d ∷ [])
follow_push k [] d h one = (one, tt)
follow_push k (x ∷ ds) d h one = (h.0, follow_push (with_definition k x) ds d h.1 one)

pub placed_push : (es news : List EntryValue) (e : EntryValue) → news ≡ es ++ e ∷ [] → ArePlaced es → Follows (known_of (meaning es)) (an_entry e) → ArePlaced news
placed_push es news e same h one =
    let last = subst (λ (k : DefinedValue). Follows k (an_entry e)) (sym (known es h)) one in
    subst (Follow nothing) (sym (ap as_definitions same ∙ map-append (λ (x : EntryValue). an_entry x) es (e ∷ []))) (follow_push nothing (as_definitions es) (an_entry e) h last)
