-- Sections that are read name types and functions that are there.
use Rattle.std.proofs.Common.{ℕ, zero, suc, ◌<◌, List, Ok, Err, Result, sym, subst}
use Rattle.std.specs.List.{AllByRecursion as Each}
use Rattle.std.proofs.lemmas.Bool.{ltb-true}
use Rattle.binary_grammar.specs.declared.fault.Rule.{Rule}
use Rattle.binary_grammar.specs.Format as format
use Rattle.binary_grammar.specs.Format.{Format}
use Rattle.binary_grammar.specs.Several.{series}
use Rattle.binary_grammar.specs.Syntax.{Syntax, unbounded, meaning, vec}
use Rattle.wasm_types.specs.declared.spaces.Spaces.{Spaces}
use Rattle.wasm_types.specs.declared.types.EntityType.{EntityType}
use Rattle.wasm_types.specs.declared.types.ExportKind.{ExportKind}
use Rattle.wasm_types.specs.declared.types.ExportKind.TheVariants as kinds
use Rattle.wasm_types.specs.Spaces.{count}
use Rattle.wasm_types.specs.Types.{index, entity_behind, entity_type}
use Rattle.wasm_types.specs.Entries.{ImportValue, ExportValue, import_entry, export_entry, type_index}
use Rattle.wasm_sections.specs.declared.section.SectionId.{SectionId}
use Rattle.wasm_sections.specs.declared.section.SectionId.TheVariants as id
use Rattle.wasm_sections.specs.declared.sections.Progress.{Progress}
use Rattle.wasm_sections.specs.Module.{Holding, imports, functions, exports, SectionValue, section_id_of, whole_section, behind, next}
use Rattle.wasm_format.specs.Module.{function_in}

-- ---- one of a vector

series_each : {S X : Type 0} (f : S → Format X) (P : X → Type 0) (s : S) → ((bytes : List ℕ) (x : X) → (f s).form bytes x → P x)
    → (n : ℕ) (bytes : List ℕ) (xs : List X) → (series f (λ t _. t) n s).form bytes xs → Each P xs
unfolding series
series_each f P s one zero bytes xs h = subst (Each P) (sym h.1) tt
series_each f P s one (suc n) bytes xs h =
    let rest = series_each f P s one n h.second.front h.second.value h.second.first in
    subst (Each P) (sym h.second.second.1) (one h.front h.value h.first, rest)

vec_each : {C X : Type 0} (s : Syntax unbounded C X) (P : X → Type 0) (there : C) → ((bytes : List ℕ) (x : X) → (meaning s there).form bytes x → P x)
    → (bytes : List ℕ) (xs : List X) → (meaning (vec s) there).form bytes xs → Each P xs
vec_each s P there one bytes xs h = series_each (meaning s) P there one h.value h.back xs h.second

-- ---- indices

index_below : (limit : Spaces → ℕ) (there : Spaces) (bytes : List ℕ) (i : ℕ) → (meaning (index limit) there).form bytes i → i < limit there
index_below limit there bytes i h = ltb-true i (limit there) h.1

-- an import of a function names a type
abbrev pub NamesType : ℕ → EntityType → Type 0
NamesType n t = Each (λ i. i < n) (function_in t)

entity_below : (there : Spaces) (kind : ExportKind) (bytes : List ℕ) (t : EntityType) → (meaning (entity_behind kind) there).form bytes t → NamesType there.types t
entity_below there kinds.Func bytes t h = subst (NamesType there.types) (sym h.second.1) (index_below (λ s. s.types) there h.front h.value h.first, tt)
entity_below there kinds.Table bytes t h = subst (NamesType there.types) (sym h.second.1) tt
entity_below there kinds.Memory bytes t h = subst (NamesType there.types) (sym h.second.1) tt
entity_below there kinds.Global bytes t h = subst (NamesType there.types) (sym h.second.1) tt

type_below : (there : Spaces) (bytes : List ℕ) (t : EntityType) → (meaning entity_type there).form bytes t → NamesType there.types t
unfolding entity_type
type_below there bytes t h = entity_below there h.value h.back t h.second

import_below : (there : Spaces) (bytes : List ℕ) (x : ImportValue) → (meaning import_entry there).form bytes x → NamesType there.types x.ty
unfolding import_entry
import_below there bytes x h =
    let named = h.second.second in
    subst (λ (i : ImportValue). NamesType there.types i.ty) (sym named.second.1) (type_below there named.front named.value named.first)

function_below : (there : Spaces) (bytes : List ℕ) (i : ℕ) → (meaning type_index there).form bytes i → i < there.types
unfolding type_index
function_below there bytes i h = index_below (λ s. s.types) there bytes i h

-- an export of a function names one
abbrev pub NamesFunction : ℕ → ExportKind → ℕ → Type 0
NamesFunction n kinds.Func i = i < n
NamesFunction n _ i = Unit {0}

counted : (there : Spaces) (kind : ExportKind) (i : ℕ) → i < count there kind → NamesFunction there.functions kind i
counted there kinds.Func i h = h
counted there kinds.Table i h = tt
counted there kinds.Memory i h = tt
counted there kinds.Global i h = tt

export_below : (there : Spaces) (bytes : List ℕ) (x : ExportValue) → (meaning export_entry there).form bytes x → NamesFunction there.functions x.kind x.index
unfolding export_entry
export_below there bytes x h =
    let kind = h.second in
    let place = kind.second in
    subst (λ (e : ExportValue). NamesFunction there.functions e.kind e.index) (sym place.second.1)
    (counted there kind.value place.value (index_below (λ there. count there kind.value) there place.front place.value place.first))

-- ---- sections

-- what a section holds, where so many types and functions are there
abbrev pub IsWithin : ℕ → ℕ → Holding → Type 0
IsWithin n k (imports is) = Each (λ (i : ImportValue). NamesType n i.ty) is
IsWithin n k (functions fs) = Each (λ i. i < n) fs
IsWithin n k (exports es) = Each (λ (e : ExportValue). NamesFunction k e.kind e.index) es
IsWithin n k _ = Unit {0}

section_within : (i : SectionId) (there : Spaces) (bytes : List ℕ) (x : SectionValue) → (meaning (whole_section i) there).form bytes x → IsWithin there.types there.functions x.holds
section_within id.Import there bytes x h =
    let kept = h.first.second.0 in
    let P = λ (i : ImportValue). NamesType there.types i.ty in
    let each = vec_each import_entry P there (import_below there) h.first.back kept.value kept.formed in
    subst (λ (s : SectionValue). IsWithin there.types there.functions s.holds) (sym h.second.1) (subst (λ (v : List ImportValue × List ℕ). Each P v.0) (sym kept.made) each)
section_within id.Function there bytes x h =
    let kept = h.first.second.0 in
    let P = λ (i : ℕ). i < there.types in
    let each = vec_each type_index P there (function_below there) h.first.back kept.value kept.formed in
    subst (λ (s : SectionValue). IsWithin there.types there.functions s.holds) (sym h.second.1) (subst (λ (v : List ℕ × List ℕ). Each P v.0) (sym kept.made) each)
section_within id.Export there bytes x h =
    let kept = h.first.second.0 in
    let P = λ (e : ExportValue). NamesFunction there.functions e.kind e.index in
    let each = vec_each export_entry P there (export_below there) h.first.back kept.value kept.formed in
    subst (λ (s : SectionValue). IsWithin there.types there.functions s.holds) (sym h.second.1) (subst (λ (v : List ExportValue × List ℕ). Each P v.0) (sym kept.made) each)
section_within i there bytes x h = subst (λ (s : SectionValue). IsWithin there.types there.functions s.holds) (sym h.second.1) tt

behind_within : (r : Result SectionId Rule) (p : Progress) (bytes : List ℕ) (x : SectionValue) → (meaning (behind r) p).form bytes x → IsWithin p.spaces.types p.spaces.functions x.holds
behind_within (Err rule) p bytes x h = absurd h
behind_within (Ok i) p bytes x h = section_within i p.spaces h.back x h.second

pub step_within : (p : Progress) (bytes : List ℕ) (x : SectionValue) → (format.◌>>=◌ format.byte (λ b. meaning (next b) p)).form bytes x → IsWithin p.spaces.types p.spaces.functions x.holds
unfolding next
step_within p bytes x h = behind_within (section_id_of h.value) p h.back x h.second
